use Rattle.std.proofs.Common.{◌≡◌, ◌+◌, ◌≤◌, drop}
use Rattle.std.specs.Ordering.{int_eq}
use Rattle.base_values.specs.Domains.{different}
use Rattle.base_values.proofs.domain.different_numbers.Given as goal

abbrev pub invariant-loop-i : goal.invariant-loop-i
invariant-loop-i l = record {
  rest : l.count + different int_eq (drop l.i l.numbers) ≡ different int_eq l.numbers;
  few : l.count ≤ l.i;
}
