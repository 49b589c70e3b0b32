-- The laws of the weave.
use Rattle.smv_language.specs.ProgramTree.{ProgramTree}
use Rattle.fault_instructions.specs.Instructions.{InstructionTree}
use Rattle.fault_weave.specs.Conservative.{IsExtensionOf, IsOneToOne}
use Rattle.fault_weave.specs.WovenProgram.{woven}
use Rattle.fault_instructions.specs.Weavable.{IsWeavable}

-- the woven program is the extension of the program by the instructions
abbrev pub WovenExtends : Type 0
WovenExtends = (p : ProgramTree) (i : InstructionTree) → IsWeavable p i → IsExtensionOf p i (woven p i)

-- the cut from the woven program's valuations to the moments of the extension is one to one and onto
abbrev pub CutIsOneToOne : Type 0
CutIsOneToOne = (p : ProgramTree) (i : InstructionTree) → IsWeavable p i → IsOneToOne p i (woven p i)
