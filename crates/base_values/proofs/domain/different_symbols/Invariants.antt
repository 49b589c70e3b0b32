use Rattle.std.proofs.Common.{◌≡◌, ◌+◌, ◌≤◌, drop, nat_eq}
use Rattle.base_values.specs.Domains.{different}
use Rattle.base_values.proofs.domain.different_symbols.Given as goal

abbrev pub invariant-loop-i : goal.invariant-loop-i
invariant-loop-i l = record {
  rest : l.count + different nat_eq (drop l.i l.symbols) ≡ different nat_eq l.symbols;
  few : l.count ≤ l.i;
}
