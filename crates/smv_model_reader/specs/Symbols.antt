-- The code's symbols, as those of the grammar of programs.
use Rattle.std.specs.Prelude.{List, Option}
use Rattle.smv_language.specs.Language.{ProgramTree, Lexeme, SpellsProgram}
use Rattle.smv_model_reader.specs.declared.symbols.Symbol.{Symbol}
use Rattle.smv_model_reader.specs.declared.symbols.Symbol.TheVariants as s
use Rattle.smv_expression_reader.specs.Expected.{taking_view}
use Rattle.smv_expression_reader.specs.declared.expected.Taking.{Taking}
use Rattle.smv_model_reader.specs.ProgramGrammar as read

-- each symbol of the code, by its name in the grammar
abbrev pub symbol_view : Symbol → read.Sym
symbol_view s.Name = read.single read.the_name
symbol_view s.Number = read.single read.the_number
symbol_view s.Colon = read.single read.the_colon
symbol_view s.Becomes = read.single read.the_becomes
symbol_view s.Semicolon = read.single read.the_semicolon
symbol_view s.Open = read.single read.the_open
symbol_view s.Close = read.single read.the_close
symbol_view s.Dots = read.single read.the_dots
symbol_view s.Formula = read.expr
symbol_view s.Modules = read.modules
symbol_view s.Formals = read.formals
symbol_view s.FirstFormal = read.first_formal
symbol_view s.MoreFormals = read.more_formals
symbol_view s.Sections = read.sections
symbol_view s.Decls = read.decls
symbol_view s.TypeDecls = read.type_decls
symbol_view s.Declared = read.declared
symbol_view s.Type = read.type
symbol_view s.Actuals = read.actuals
symbol_view s.FirstActual = read.first_actual
symbol_view s.MoreActuals = read.more_actuals
symbol_view s.Int = read.int
symbol_view s.Member = read.member
symbol_view s.MoreMembers = read.more_members
symbol_view s.Defines = read.defines
symbol_view s.MoreConstants = read.more_constants
symbol_view s.Assigns = read.assigns
symbol_view s.MoreDots = read.more_dots
symbol_view s.Skip = read.skip
symbol_view s.LastSemicolon = read.last_semicolon

-- what is still expected of a symbol after a lexeme, by what the code answers
abbrev pub comes : Taking Symbol → Lexeme → Option (List read.Sym)
comes = taking_view read.formula symbol_view

-- the list spells some program
abbrev pub IsProgram : List Lexeme → Type 0
IsProgram ts = (p : ProgramTree) × SpellsProgram ts p
