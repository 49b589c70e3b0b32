use Rattle.std.proofs.Common.{◌≡◌, map, drop}
use Rattle.smv_language.specs.ProgramTree.{define_tree}
use Rattle.fault_rules.specs.KeyedLists.{with_texts}
use Rattle.fault_rules.specs.Names.{define_name}
use Rattle.fault_rules.proofs.names.add_defines.Given as goal

abbrev pub invariant-loop-define : goal.invariant-loop-define
invariant-loop-define l = with_texts l.names (map define_name (map define_tree (drop l.define-index l.defines))) ≡ with_texts l.initial.names (map define_name (map define_tree l.defines))
