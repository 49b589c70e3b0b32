-- The code's symbols, as those of the grammar of instructions.
use Rattle.std.specs.Prelude.{List, Option, codes}
use Rattle.smv_language.specs.Lexemes.{Lexeme}
use Rattle.fault_instructions.specs.Instructions.{InstructionTree}
use Rattle.fault_instructions.specs.SpellsInstructions.{SpellsInstructions}
use Rattle.smv_expression_reader.specs.Expected.{taking_view}
use Rattle.smv_expression_reader.specs.declared.expected.Taking.{Taking}
use Rattle.fault_reader.specs.InstructionGrammar as read
use Rattle.fault_reader.specs.declared.symbols.Symbol.{Symbol}
use Rattle.fault_reader.specs.declared.symbols.Symbol.TheVariants as s

-- the list spells some instructions
abbrev pub IsInstructions : List Lexeme → Type 0
IsInstructions ts = (i : InstructionTree) × SpellsInstructions ts i

-- each symbol of the code, by its name in the grammar
abbrev pub symbol_view : Symbol → read.Sym
symbol_view (s.Single w) = read.single w
symbol_view s.ExtensionWord = read.keyword (codes "EXTENSION")
symbol_view s.OfWord = read.keyword (codes "OF")
symbol_view s.ModuleWord = read.keyword (codes "MODULE")
symbol_view s.AffectsWord = read.keyword (codes "AFFECTS")
symbol_view s.AnyWord = read.keyword (codes "ANY")
symbol_view s.WithWord = read.keyword (codes "WITH")
symbol_view s.Formula = read.expr
symbol_view s.File = read.file
symbol_view s.Extensions = read.extensions
symbol_view s.Slices = read.slices
symbol_view s.Start = read.slice_start
symbol_view s.Mode = read.mode
symbol_view s.Modes = read.modes
symbol_view s.ModeRest = read.mode_rest
symbol_view s.Mark = read.mark
symbol_view s.InMark = read.in_mark
symbol_view s.Dynamics = read.dynamics
symbol_view s.Effect = read.effect
symbol_view s.Constant = read.constant
symbol_view s.Int = read.int
symbol_view s.Guard = read.guard

-- what is still expected of a symbol after a lexeme, by what the code answers
abbrev pub comes : Taking Symbol → Lexeme → Option (List read.Sym)
comes = taking_view read.formula symbol_view
