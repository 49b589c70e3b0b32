use Rattle.std.proofs.Common.{◌≡◌, drop, map}
use Rattle.smv_language.specs.ProgramTree.{define_tree}
use Rattle.fault_weave.specs.Lookups.{type_in_defines}
use Rattle.fault_weave.proofs.lookup.type_of_defines.Given as goal

abbrev pub invariant-loop-define : goal.invariant-loop-define
invariant-loop-define l = type_in_defines (map define_tree (drop l.define-index l.defines)) l.x ≡ type_in_defines (map define_tree l.defines) l.x
