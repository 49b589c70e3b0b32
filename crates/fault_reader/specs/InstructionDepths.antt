-- The expressions in instructions, as they are spelled, and whether they are too deep.
use Rattle.std.specs.Prelude.{ℕ, List, [], ◌∷◌, ◌++◌, Option}
use Rattle.smv_lexer.specs.declared.token.Token.{Token}
use Rattle.smv_lexer.specs.Tokens.{HasTokens}
use Rattle.smv_language.specs.Language.{Formula, Lexeme, lexemes_of}
use Rattle.fault_instructions.specs.Instructions.{EffectTree, ModeTree, SliceTree, ExtensionTree, InstructionTree}
use Rattle.fault_instructions.specs.SpellsInstructions.{SpellsArguments, no_argument, a_constant, an_expression, a_number}
use Rattle.fault_instructions.specs.SpellsInstructions.{two_numbers, SpellsEffect, an_effect}
use Rattle.fault_instructions.specs.SpellsInstructions.{SpellsGuard, no_guard, a_guard, SpellsMode, a_mode}
use Rattle.fault_instructions.specs.SpellsInstructions.{SpellsSlice, a_slice, SpellsExtension, an_extension, SpellsInstructions, unnamed}
use Rattle.fault_instructions.specs.SpellsInstructions.{named, BytesSpellInstructions}
use Rattle.smv_expression_reader.specs.ExpressionDepths.{Spelling, AreWithin, spelling, in_many}

-- the value that an effect follows
abbrev pub in_arguments : {ts : List Lexeme} {e : EffectTree} → SpellsArguments ts e → List Spelling
in_arguments no_argument = []
in_arguments (a_constant p) = []
in_arguments (an_expression p) = spelling p ∷ []
in_arguments (a_number p) = []
in_arguments (two_numbers p q) = []

-- the same of an effect
abbrev pub in_effect : {ts : List Lexeme} {e : EffectTree} → SpellsEffect ts e → List Spelling
in_effect (an_effect p) = in_arguments p

-- the condition behind `WHEN`
abbrev pub in_guard : {ts : List Lexeme} {g : Option Formula} → SpellsGuard ts g → List Spelling
in_guard no_guard = []
in_guard (a_guard p) = spelling p ∷ []

-- those of a mode
abbrev pub in_mode : (ts : List Lexeme) (m : ModeTree) → SpellsMode ts m → List Spelling
in_mode ts m (a_mode n mark d e g) = in_effect e ++ in_guard g

-- those of the modes of a slice
abbrev pub in_slice : (ts : List Lexeme) (s : SliceTree) → SpellsSlice ts s → List Spelling
in_slice ts s (a_slice x y start some p) = in_many SpellsMode in_mode p

-- those of the slices of an extension
abbrev pub in_extension : (ts : List Lexeme) (x : ExtensionTree) → SpellsExtension ts x → List Spelling
in_extension ts x (an_extension n p) = in_many SpellsSlice in_slice p

-- the expressions of a file
abbrev pub in_instructions : {ts : List Lexeme} {i : InstructionTree} → SpellsInstructions ts i → List Spelling
in_instructions (unnamed p) = in_many SpellsExtension in_extension p
in_instructions (named n p) = in_many SpellsExtension in_extension p

-- each of the expressions is within the depths, as the bytes spell them
abbrev pub HaveInstructionDepths : List ℕ → InstructionTree → Type 0
HaveInstructionDepths bytes i = (tokens : List Token) → HasTokens bytes tokens →
    (spelled : SpellsInstructions (lexemes_of bytes tokens) i) → AreWithin (in_instructions spelled)

-- the bytes spell instructions, but not each of their expressions within the depths
pub record AreInstructionsTooDeep (bytes : List ℕ) : Type 0 where
  pub instructions : InstructionTree
  pub spelled : BytesSpellInstructions bytes instructions
  pub deep : HaveInstructionDepths bytes instructions → ⊥
