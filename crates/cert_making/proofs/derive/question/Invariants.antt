use Rattle.std.proofs.Common.{◌≡◌, ◌++◌, drop}
use Rattle.cert_laws.specs.Derivations.{asked}
use Rattle.cert_making.proofs.derive.question.Given as goal

-- with what is asked of the rest it is all
abbrev pub invariant-loop-lit : goal.invariant-loop-lit
invariant-loop-lit l = l.lits.items ++ asked l.vars (drop l.lit-index l.goal) ≡ asked l.vars l.goal
