-- That the numbers of a program and of instructions have negations within 64 bits, as all that are read have.
use Rattle.std.specs.Prelude.{All}
use Rattle.smv_language.specs.declared.program.Module.{Module}
use Rattle.smv_language.specs.Language.{Text, module_tree, kind_in}
use Rattle.fault_instructions.specs.declared.instructions.ModeRule.{ModeRule}
use Rattle.fault_instructions.specs.declared.instructions.Slice.{Slice}
use Rattle.fault_instructions.specs.declared.instructions.Extension.{Extension}
use Rattle.fault_instructions.specs.Instructions.{effect_tree}
use Rattle.fault_instructions.specs.Numbers.{EffectHasNegations, TypeHasNegations}
use Rattle.fault_instructions.specs.KindTypes.{type_of_kind}

-- each number of a mode's effect
abbrev pub ModeHasNegations : ModeRule → Type 0
ModeHasNegations m = EffectHasNegations (effect_tree m.effect)

-- each number of the effects of a slice
abbrev pub SliceHasNegations : Slice → Type 0
SliceHasNegations s = All ModeHasNegations s.modes

-- each number of an effect
abbrev pub ExtensionHasNegations : Extension → Type 0
ExtensionHasNegations x = All SliceHasNegations x.slices

-- each number of the type of a variable
abbrev pub ModuleHasNegations : Module → Type 0
ModuleHasNegations m = (x : Text) → TypeHasNegations (type_of_kind (kind_in (module_tree m) x))
