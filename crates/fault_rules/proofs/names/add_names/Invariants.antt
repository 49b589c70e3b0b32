use Rattle.std.proofs.Common.{◌≡◌, drop}
use Rattle.fault_rules.specs.KeyedLists.{with_texts}
use Rattle.fault_rules.proofs.names.add_names.Given as goal

abbrev pub invariant-loop-name : goal.invariant-loop-name
invariant-loop-name l = with_texts l.names (drop l.name-index l.more) ≡ with_texts l.initial.names l.more
