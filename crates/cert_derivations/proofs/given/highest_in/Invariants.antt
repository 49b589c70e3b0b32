-- the highest so far and of what is left is the highest of all
use Rattle.std.proofs.Common.{◌≡◌, ◌≤◌, drop}
use Rattle.std.specs.Prelude.{max}
use Rattle.cert_laws.specs.Acceptance.{highest_in}
use Rattle.cert_derivations.proofs.given.highest_in.Given as goal

abbrev pub invariant-loop-lit : goal.invariant-loop-lit
invariant-loop-lit l = record {
  least : 1 ≤ l.most;
  rest : max l.most (highest_in (drop l.lit-index l.lits)) ≡ highest_in l.lits;
}
