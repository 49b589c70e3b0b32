-- Which numbers have a negation within 64 bits, as tests.
use Rattle.std.specs.Prelude.{ℤ, negsuc, Bool, true, ◌&&◌}
use Rattle.std.specs.List.{list_all}
use Rattle.smv_language.specs.declared.program.Member.{Member}
use Rattle.smv_language.specs.declared.program.Member.TheVariants as member
use Rattle.smv_language.specs.ProgramTree.{DeclaredTree, boolean, range, members, instance, DeclTree, SectionTree, var, ivar}
use Rattle.smv_language.specs.ProgramTree.{frozen as frozen_section, define, constants, assign, init, invar, trans, ModuleTree}
use Rattle.smv_language.specs.Values.{Value, truth, number, symbol, at_most}
use Rattle.fault_instructions.specs.Instructions.{EffectTree, plain, of_constant, of_expression, of_number, of_numbers, ModeTree, SliceTree}
use Rattle.fault_instructions.specs.Instructions.{ExtensionTree}

-- the number's negation is within 64 bits
abbrev pub has_negation : ℤ → Bool
has_negation n = at_most (negsuc 9223372036854775806) n

-- so of a member, if it is a number
abbrev pub member_negates : Member → Bool
member_negates (member.Number n) = has_negation n
member_negates (member.Symbol x) = true

-- each number of the type
abbrev pub declared_negates : DeclaredTree → Bool
declared_negates boolean = true
declared_negates (range lo hi) = has_negation lo && has_negation hi
declared_negates (members ms) = list_all member_negates ms
declared_negates (instance m actuals) = true

-- each number of the type of a declaration
abbrev pub decl_negates : DeclTree → Bool
decl_negates d = declared_negates d.what

-- each number of a type that the section declares
abbrev pub section_negates : SectionTree → Bool
section_negates (var ds) = list_all decl_negates ds
section_negates (ivar ds) = list_all decl_negates ds
section_negates (frozen_section ds) = list_all decl_negates ds
section_negates (define ds) = true
section_negates (constants xs) = true
section_negates (assign list) = true
section_negates (init e) = true
section_negates (invar e) = true
section_negates (trans e) = true

-- each number of a type that the module declares
abbrev pub module_negates : ModuleTree → Bool
module_negates m = list_all section_negates m.sections

-- so of a constant, if it is a number
abbrev pub value_negates : Value → Bool
value_negates (truth b) = true
value_negates (number n) = has_negation n
value_negates (symbol x) = true

-- each number of the effect
abbrev pub effect_negates : EffectTree → Bool
effect_negates (plain k) = true
effect_negates (of_constant k c) = value_negates c
effect_negates (of_expression k e) = true
effect_negates (of_number k n) = has_negation n
effect_negates (of_numbers k m n) = has_negation m && has_negation n

-- each number of the effect of a mode
abbrev pub mode_negates : ModeTree → Bool
mode_negates m = effect_negates m.effect

-- each number of an effect of the slice
abbrev pub slice_negates : SliceTree → Bool
slice_negates s = list_all mode_negates s.modes

-- each number of an effect of the extension
abbrev pub extension_negates : ExtensionTree → Bool
extension_negates x = list_all slice_negates x.slices
