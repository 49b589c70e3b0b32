-- What the bytes of an instruction file spell is one thing, or what is wrong with them is.
use Rattle.std.proofs.Common.{◌≡◌, ℕ, List, subst}
use Rattle.smv_lexer.specs.declared.token.Token.{Token}
use Rattle.smv_lexer.specs.Tokens.{HasTokens}
use Rattle.smv_language.specs.Lexemes.{lexemes_of}
use Rattle.smv_expression_reader.specs.declared.fault.ParseFault.{ParseFault}
use Rattle.fault_instructions.specs.Instructions.{InstructionTree}
use Rattle.fault_reader.specs.Symbols.{IsInstructions}
use Rattle.fault_reader.specs.InstructionDepths.{HaveInstructionDepths, AreInstructionsTooDeep}
use Rattle.verb_loading.specs.declared.status.InputFault.{InputFault}
use Rattle.verb_loading.specs.declared.wrong.Wrong.TheVariants as wrong
use Rattle.verb_loading.specs.Wrongs.{parse_wrong}
use Rattle.verb_loading.specs.Inputs.{IsInstructionText, IsFaultOfInstructions}
use Rattle.verb_loading.proofs.Told.{one_refusal}
use Rattle.verb_loading.proofs.TextFaults.{reason, of_this_kind, same_reason}

module _ (bytes : List ℕ) where
  -- instructions that are taken are not too deep
  not_deep : (i : InstructionTree) → IsInstructionText bytes i → AreInstructionsTooDeep bytes → ⊥
  not_deep i text d = d.deep (subst (HaveInstructionDepths bytes) (text.only d.instructions d.spelled) text.depths)

  deep_spelled : AreInstructionsTooDeep bytes → (tokens : List Token) × HasTokens bytes tokens × IsInstructions (lexemes_of bytes tokens)
  deep_spelled d = (d.spelled.0, d.spelled.1, (d.instructions, d.spelled.2))

  -- bytes that can't be read are the text of no instructions
  pub no_instructions : (i : InstructionTree) (f : ParseFault) (fault : InputFault) → wrong.Refused fault ≡ parse_wrong f → IsFaultOfInstructions bytes f → IsInstructionText bytes i → ⊥
  no_instructions i f fault e means text =
      of_this_kind IsInstructions (AreInstructionsTooDeep bytes) bytes text.spelled.0 text.spelled.1 (i, text.spelled.2) (not_deep i text)
      (reason IsInstructions (AreInstructionsTooDeep bytes) bytes f fault e means)

  pub one_text_fault : (f g : ParseFault) (a b : InputFault) → wrong.Refused a ≡ parse_wrong f → wrong.Refused b ≡ parse_wrong g → IsFaultOfInstructions bytes f → IsFaultOfInstructions bytes g → a ≡ b
  one_text_fault f g a b e d h k =
      one_refusal (same_reason IsInstructions (AreInstructionsTooDeep bytes) bytes deep_spelled (reason IsInstructions (AreInstructionsTooDeep bytes) bytes f a e h)
      (reason IsInstructions (AreInstructionsTooDeep bytes) bytes g b d k))

  pub one_instructions : (i j : InstructionTree) → IsInstructionText bytes i → IsInstructionText bytes j → i ≡ j
  one_instructions i j text other = text.only j other.spelled
