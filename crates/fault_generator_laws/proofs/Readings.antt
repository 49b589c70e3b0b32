-- No reading refuses the generator's texts: they spell what they are of, nothing else, within the depths.
use Rattle.std.proofs.Common.{◌≡◌, ℕ, ◌+◌, arith, Bool, true, false, List, take, drop, refl, sym, subst}
use Rattle.std.specs.Prelude.{codes}
use Rattle.std.proofs.lemmas.List.{take-append-drop}
use Rattle.smv_lexer.specs.declared.token.Token.{Token}
use Rattle.smv_lexer.specs.Tokens.{HasTokens}
use Rattle.smv_lexer.proofs.SplitLemmas.{one_answer}
use Rattle.smv_language.specs.Language.{Formula, ProgramTree, Lexeme, lexemes_of, SpellsExpr, SpellsProgram, program_text, BytesSpellProgram, BytesSpellExpr, HasDepths}
use Rattle.smv_language.proofs.OneTree.{one_expression}
use Rattle.smv_language.proofs.OneProgram.{one_program}
use Rattle.smv_language.proofs.ProgramSpells.{program_spells}
use Rattle.smv_language.proofs.TextSpells.{text_spells}
use Rattle.fault_instructions.specs.Instructions.{InstructionTree}
use Rattle.fault_instructions.specs.InstructionText.{instructions_text}
use Rattle.fault_instructions.specs.SpellsInstructions.{SpellsInstructions, BytesSpellInstructions}
use Rattle.fault_instructions.proofs.InstructionSpells.{instructions_spell}
use Rattle.fault_instructions.proofs.OneInstructions.{one_instructions}
use Rattle.fault_reader.specs.Symbols.{IsInstructions}
use Rattle.fault_reader.specs.InstructionDepths.{HaveInstructionDepths, AreInstructionsTooDeep}
use Rattle.smv_expression_reader.specs.declared.fault.ParseFault.{ParseFault}
use Rattle.smv_expression_reader.specs.declared.fault.ParseFault.TheVariants as parse
use Rattle.smv_expression_reader.specs.Stops.{IsExpression, IsTooDeep, IsFrontOf, StopsAt, FaultMeans}
use Rattle.smv_model_reader.specs.Symbols.{IsProgram}
use Rattle.smv_model_reader.specs.ProgramDepths.{HasProgramDepths, IsProgramTooDeep}
use Rattle.fault_generator.specs.Generator.{generated_model, generated_instructions, generated_top}
use Rattle.fault_generator.proofs.Writable.{model_writable, instructions_writable, top_writable}
use Rattle.fault_generator_laws.specs.Laws.{GeneratedTextIsRead, InstructionTextIsRead, TopTextIsRead}
use Rattle.fault_generator_laws.proofs.Texts.{generated_text_has_depths, instruction_text_has_depths, top_text_has_depths}

-- bytes that spell something of a kind, not too deep, are refused for want of memory alone
module _ (IsSpelled : List Lexeme → Type 0) (Deep : Type 0) (bytes : List ℕ) (tokens : List Token) (split : HasTokens bytes tokens) (whole : IsSpelled (lexemes_of bytes tokens)) (flat : Deep → ⊥) where
  all_front : (n : ℕ) → IsFrontOf IsSpelled (take n (lexemes_of bytes tokens))
  all_front n = (drop n (lexemes_of bytes tokens), subst IsSpelled (sym (take-append-drop n (lexemes_of bytes tokens))) whole)

  never_stops : (at : ℕ) (left_out : Bool) → StopsAt IsSpelled bytes at left_out → ⊥
  never_stops at left_out x =
      x.behind (subst (λ (ts : List Token). IsFrontOf IsSpelled (take (x.number + 1) (lexemes_of bytes ts))) (one_answer bytes x.tokens tokens x.split split) (all_front (x.number + 1)))

  want_alone : (f : ParseFault) → FaultMeans IsSpelled Deep bytes f → f ≡ parse.OutOfMemory
  want_alone (parse.Lex f) h = absurd (h.1 split.0 split.1)
  want_alone (parse.Unexpected at) h = absurd (never_stops at false h)
  want_alone (parse.LeftOut at) h = absurd (never_stops at true h)
  want_alone (parse.End at) h = absurd (h.incomplete (subst (λ (ts : List Token). IsSpelled (lexemes_of bytes ts)) (one_answer bytes h.tokens tokens h.split split) whole))
  want_alone parse.TooDeep h = absurd (flat h)
  want_alone parse.OutOfMemory h = refl

-- the same of a program, of instructions and of an expression
program_read : (bytes : List ℕ) (p : ProgramTree) → BytesSpellProgram bytes p → HasProgramDepths bytes p → (f : ParseFault) → FaultMeans IsProgram (IsProgramTooDeep bytes) bytes f → f ≡ parse.OutOfMemory
program_read bytes p spelled depths = want_alone IsProgram (IsProgramTooDeep bytes) bytes spelled.0 spelled.1 (p, spelled.2) (λ d. d.deep (subst (HasProgramDepths bytes) (same d) depths))
  where
    same : (d : IsProgramTooDeep bytes) → p ≡ d.program
    same d = one_program (lexemes_of bytes spelled.0) p d.program spelled.2 (subst (λ (ts : List Token). SpellsProgram (lexemes_of bytes ts) d.program) (one_answer bytes spelled.0 d.spelled.0 spelled.1 d.spelled.1) d.spelled.2)

instructions_are_read : (bytes : List ℕ) (i : InstructionTree) → BytesSpellInstructions bytes i → HaveInstructionDepths bytes i → (f : ParseFault) →
    FaultMeans IsInstructions (AreInstructionsTooDeep bytes) bytes f → f ≡ parse.OutOfMemory
instructions_are_read bytes i spelled depths =
    want_alone IsInstructions (AreInstructionsTooDeep bytes) bytes spelled.0 spelled.1 (i, spelled.2) (λ d. d.deep (subst (HaveInstructionDepths bytes) (same d) depths))
  where
    same : (d : AreInstructionsTooDeep bytes) → i ≡ d.instructions
    same d = one_instructions (lexemes_of bytes spelled.0) i d.instructions spelled.2
        (subst (λ (ts : List Token). SpellsInstructions (lexemes_of bytes ts) d.instructions) (one_answer bytes spelled.0 d.spelled.0 spelled.1 d.spelled.1) d.spelled.2)

expression_read : (bytes : List ℕ) (e : Formula) → BytesSpellExpr bytes e → HasDepths bytes e → (f : ParseFault) → FaultMeans IsExpression (IsTooDeep bytes) bytes f → f ≡ parse.OutOfMemory
expression_read bytes e spelled depths = want_alone IsExpression (IsTooDeep bytes) bytes spelled.0 spelled.1 (e, spelled.2) (λ d. d.deep (subst (HasDepths bytes) (same d) depths))
  where
    same : (d : IsTooDeep bytes) → e ≡ d.tree
    same d = one_expression spelled.2 (subst (λ (ts : List Token). SpellsExpr (lexemes_of bytes ts) d.tree) (one_answer bytes spelled.0 d.spelled.0 spelled.1 d.spelled.1) d.spelled.2)

pub generated_text_is_read : GeneratedTextIsRead
generated_text_is_read number stages few =
    program_read (program_text (generated_model number stages)) (generated_model number stages)
    (program_spells (generated_model number stages) (model_writable number stages (omega (arith, few)))) (generated_text_has_depths number stages few)

pub instruction_text_is_read : InstructionTextIsRead
instruction_text_is_read =
    instructions_are_read (instructions_text generated_instructions) generated_instructions (instructions_spell generated_instructions instructions_writable) instruction_text_has_depths

pub top_text_is_read : TopTextIsRead
top_text_is_read = expression_read (codes "dead") generated_top (text_spells generated_top top_writable) top_text_has_depths
