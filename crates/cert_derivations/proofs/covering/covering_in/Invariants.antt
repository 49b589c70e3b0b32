-- no clause so far has all its literals among those needed
use Rattle.cert_derivations.specs.Covering.{CoversNoneIn}
use Rattle.cert_derivations.proofs.covering.covering_in.Given as goal

abbrev pub invariant-loop-i : goal.invariant-loop-i
invariant-loop-i l = CoversNoneIn l.checker.clauses l.needed l.start l.i
