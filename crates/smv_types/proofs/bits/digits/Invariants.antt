use Rattle.std.proofs.Common.{◌≡◌, ◌+◌, ◌-◌, ◌≤◌}
use Rattle.smv_type_laws.specs.Costs.{digits_in}
use Rattle.smv_types.proofs.bits.digits.Given as goal

abbrev pub invariant-loop-place : goal.invariant-loop-place
invariant-loop-place l = (l.count + digits_in (64 - l._place) l.left ≡ digits_in 64 l.n) × (l.count ≤ l._place)
