use Rattle.std.proofs.Common.{◌≡◌, take}
use Rattle.sat_clauses.specs.Hints.{made_false}
use Rattle.sat_clauses.proofs.hints.assume_false.Given as goal

-- the literals so far are false
abbrev pub invariant-loop-lit : goal.invariant-loop-lit
invariant-loop-lit l = l.trail ≡ made_false l.initial.trail (take l.lit-index l.lits)
