-- The text of instructions, as bytes.
use Rattle.std.specs.Prelude.{List, [], ◌++◌, Option, Some, None, map, codes}
use Rattle.std.specs.Fmt.{signed_decimal}
use Rattle.smv_language.specs.Language.{Text, Formula, text_of, joined, all_of, value_text}
use Rattle.fault_instructions.specs.declared.instructions.Dynamics.{Dynamics}
use Rattle.fault_instructions.specs.declared.instructions.Dynamics.TheVariants.{Permanent, Transient}
use Rattle.fault_instructions.specs.declared.instructions.Start.{Start}
use Rattle.fault_instructions.specs.declared.instructions.Start.TheVariants.{Nominal, Any}
use Rattle.fault_instructions.specs.Instructions.{EffectTree, plain, of_constant, of_expression, of_number, of_numbers, kind_of}
use Rattle.fault_instructions.specs.Instructions.{ModeTree, SliceTree, ExtensionTree, InstructionTree}
use Rattle.fault_instructions.specs.Effects.{keyword}

-- the arguments of an effect in parentheses, where it has some
abbrev pub arguments_text : EffectTree → Text
arguments_text (plain k) = []
arguments_text (of_constant k c) = codes "(" ++ (value_text c ++ codes ")")
arguments_text (of_expression k e) = codes "(" ++ (text_of e ++ codes ")")
arguments_text (of_number k n) = codes "(" ++ (signed_decimal n ++ codes ")")
arguments_text (of_numbers k m n) = codes "(" ++ (signed_decimal m ++ (codes ", " ++ (signed_decimal n ++ codes ")")))

-- an effect: its word, and its arguments
abbrev pub effect_text : EffectTree → Text
effect_text e = keyword (kind_of e) ++ arguments_text e

-- whether a mode can be left, and a space
abbrev pub dynamics_text : Dynamics → Text
dynamics_text Permanent = codes "Permanent "
dynamics_text Transient = codes "Transient "

-- a mark: its tokens in braces, with a space between
abbrev pub mark_text : Option (List Text) → Text
mark_text None = []
mark_text (Some tokens) = codes " {" ++ (joined (codes " ") tokens ++ codes "}")

-- the guard, behind its word
abbrev pub guard_text : Option Formula → Text
guard_text None = []
guard_text (Some g) = codes " WHEN " ++ text_of g

-- a mode's name and mark
abbrev pub mode_head : ModeTree → Text
mode_head m = codes "    MODE " ++ (m.name ++ (mark_text m.mark ++ codes " : "))

-- a mode, on a line after four spaces
abbrev pub mode_line : ModeTree → Text
mode_line m = mode_head m ++ (dynamics_text m.dynamics ++ (effect_text m.effect ++ (guard_text m.guard ++ codes ";\n")))

-- the states that a slice may start in: nominal alone needs no words
abbrev pub start_text : Start → Text
start_text Nominal = []
start_text Any = codes " INITIALLY ANY"

-- a slice: its first line after two spaces, then its modes
abbrev pub slice_text : SliceTree → Text
slice_text s = codes "  SLICE "
    ++ (s.name ++ (codes " AFFECTS " ++ (s.target ++ (start_text s.start ++ (codes " WITH\n" ++ all_of (map mode_line s.modes))))))

-- the words before the name of a module, and before that of the file
unfoldable pub extension_words : Text
extension_words = codes "EXTENSION OF MODULE "

unfoldable pub file_words : Text
file_words = codes "FAULT EXTENSION "

-- an extension: its first line, then its slices
abbrev pub extension_text : ExtensionTree → Text
extension_text x = extension_words ++ (x.of_module ++ (codes "\n" ++ all_of (map slice_text x.slices)))

-- the line with the file's own name, where it has one
abbrev pub name_line : Text → Text
name_line x = file_words ++ (x ++ codes "\n")

-- the line of a file's own name, where it has one
abbrev pub name_text : Option Text → Text
name_text None = []
name_text (Some x) = name_line x

-- instructions: their extensions in order
abbrev pub instructions_text : InstructionTree → Text
instructions_text i = name_text i.name ++ all_of (map extension_text i.extensions)
