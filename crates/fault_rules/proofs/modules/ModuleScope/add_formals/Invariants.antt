use Rattle.std.proofs.Common.{◌≡◌, map, drop}
use Rattle.fault_rules.specs.KeyedLists.{with_entries}
use Rattle.fault_rules.specs.Locals.{formal_entry, locals_in}
use Rattle.fault_rules.proofs.modules.ModuleScope.add_formals.Given as goal

abbrev pub invariant-loop-formal : goal.invariant-loop-formal
invariant-loop-formal l = with_entries (locals_in l.self) (map formal_entry (drop l.formal-index l.formals)) ≡ with_entries (locals_in l.initial.self) (map formal_entry l.formals)
