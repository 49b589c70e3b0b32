use Rattle.std.proofs.Common.{◌≡◌, map, drop}
use Rattle.smv_language.specs.ProgramTree.{define_tree}
use Rattle.fault_rules.specs.KeyedLists.{with_entries}
use Rattle.fault_rules.specs.Locals.{define_entry, locals_in}
use Rattle.fault_rules.proofs.modules.ModuleScope.add_defines.Given as goal

abbrev pub invariant-loop-define : goal.invariant-loop-define
invariant-loop-define l = with_entries (locals_in l.self) (map define_entry (map define_tree (drop l.define-index l.defines))) ≡ with_entries (locals_in l.initial.self) (map define_entry (map define_tree l.defines))
