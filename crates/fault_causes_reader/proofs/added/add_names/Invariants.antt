use Rattle.std.proofs.Common.{◌≡◌, drop}
use Rattle.fault_rules.specs.KeyedLists.{with_texts}
use Rattle.fault_causes_reader.proofs.added.add_names.Given as goal

abbrev pub invariant-loop-i : goal.invariant-loop-i
invariant-loop-i l = with_texts l.taken (drop l.i l.names) ≡ with_texts l.initial.taken l.names
