-- No reading refuses the texts of a generated case.
use Rattle.std.proofs.Common.{◌≡◌, ℕ, ◌<◌, ◌≤◌, arith, true, false, List, [], length, Option, Some, None, refl, sym, ap, subst, ◌∙◌}
use Rattle.std.specs.Prelude.{codes}
use Rattle.base_values.specs.declared.limits.TheConstants.{MOST_FILE_BYTES, MOST_INSTANCES, MOST_STAGES}
use Rattle.smv_language.specs.Language.{Text, Formula, ProgramTree, program_text, Each, BytesSpellProgram, BytesSpellExpr, lexemes_of, SpellsExpr, FlatModel}
use Rattle.smv_language.proofs.ProgramSpells.{program_spells}
use Rattle.smv_language.proofs.TextSpells.{text_spells}
use Rattle.smv_language.proofs.OneTree.{one_expression}
use Rattle.smv_lexer.specs.declared.token.Token.{Token}
use Rattle.smv_lexer.proofs.SplitLemmas.{one_answer}
use Rattle.smv_expression_reader.specs.declared.fault.ParseFault.{ParseFault}
use Rattle.smv_expression_reader.specs.declared.fault.ParseFault.TheVariants as parse
use Rattle.smv_flat_laws.specs.History.{with_history}
use Rattle.smv_flat_laws.specs.Model.{IsFlatOf}
use Rattle.smv_flat_laws.specs.Rules.{IsAccepted}
use Rattle.smv_flat_laws.proofs.Laws.{accepted_unbroken}
use Rattle.smv_flat_laws.proofs.Lists.{each_more}
use Rattle.smv_type_laws.specs.ExpressionKinds.{KindRule, too_large}
use Rattle.smv_type_laws.specs.Models.{breaches, IsFault, at_an_item, of_its_size, is_too_large}
use Rattle.smv_type_laws.proofs.Typed.{typed_has_none}
use Rattle.smv_type_laws.proofs.ClosedLaws.{models_closed}
use Rattle.fault_instructions.specs.InstructionText.{instructions_text}
use Rattle.fault_instructions.proofs.InstructionSpells.{instructions_spell}
use Rattle.fault_weave.specs.Faults.{Fault, HasFaults}
use Rattle.fault_weave.specs.WovenProgram.{woven}
use Rattle.fault_woven_laws.specs.Modes.{HasSymbols, IsSliceMode}
use Rattle.fault_woven_laws.specs.Laws.{AreWoven}
use Rattle.fault_woven_laws.proofs.WovenLaws.{woven_none, modes_symbols, history_none, none_among}
use Rattle.fault_extend.specs.FirstRefusal.{KeepsRules, IsTold, IsWant}
use Rattle.fault_extend.specs.declared.fault.WeaveFault.{WeaveFault}
use Rattle.fault_extend.proofs.OneFault.{none_told}
use Rattle.fault_generator.specs.Generator.{generated_model, generated_instructions, generated_top}
use Rattle.fault_generator.proofs.Writable.{model_writable, instructions_writable, top_writable}
use Rattle.fault_generator_laws.proofs.Accepted.{generated_accepted}
use Rattle.fault_generator_laws.proofs.Typed.{generated_typed}
use Rattle.fault_generator_laws.proofs.Top.{generated_top_keeps_names, generated_top_typed}
use Rattle.fault_generator_laws.proofs.Instructions.{generated_items_kept, generated_faults_few, generated_uses_kept}
use Rattle.fault_generator_laws.proofs.Faults.{generated_faults_are_stages}
use Rattle.fault_generator_laws.proofs.Woven.{generated_breaks_no_number}
use Rattle.fault_generator_laws.proofs.Sizes.{generated_small}
use Rattle.fault_generator_laws.proofs.Texts.{generated_text_short, instruction_text_short}
use Rattle.fault_generator_laws.proofs.Readings.{generated_text_is_read, instruction_text_is_read, top_text_is_read}
use Rattle.verb_loading.specs.declared.status.InputFault.{InputFault}
use Rattle.verb_loading.specs.declared.status.Refusal.{Refusal}
use Rattle.verb_loading.specs.declared.status.Refusal.TheVariants as refusal
use Rattle.verb_loading.specs.declared.input.Stop.{Stop}
use Rattle.verb_loading.specs.declared.input.Stop.TheVariants as stop
use Rattle.verb_loading.specs.declared.wrong.Wrong.{Wrong}
use Rattle.verb_loading.specs.declared.wrong.Wrong.TheVariants as wrong
use Rattle.verb_loading.specs.Wrongs.{parse_wrong, cause_wrong, weave_wrong, IfRefused}
use Rattle.verb_loading.specs.Models.{IsModelText, IsLawful, IsWrongModel, not_read, not_flat, not_typed}
use Rattle.verb_loading.specs.Wholes.{PassesLimit, by_number, by_size}
use Rattle.verb_loading.specs.Inputs.{AreTaken, IsWrongFaults, not_spelled, not_woven, past_limit}
use Rattle.verb_loading.specs.Cases.{IsWrongTop, by_names, by_kinds, IsWrongWord, too_long, not_spelled as no_word, not_kept}
use Rattle.verb_run.specs.GeneratedCase.{IsOfGenerator, IsGeneratedText}
use Rattle.verb_loading.proofs.LimitLaws.{of_program, slice_modes, are_woven}
use Rattle.smv_flat_laws.proofs.BothLaws.{both_long}
use Rattle.cert_laws.specs.ExtendedTraces.{IsModeOfFault}
use Rattle.smv_flat_laws.specs.Items.{modules_of_instances}

-- want of memory refuses nothing
want_refuses_none : (f : ParseFault) (a : InputFault) → f ≡ parse.OutOfMemory → wrong.Refused a ≡ parse_wrong f → ⊥
want_refuses_none f a e is = let bad : wrong.Refused a ≡ wrong.Memory = is ∙ ap parse_wrong e in cc

weave_want_refuses_none : (f : WeaveFault) (a : InputFault) → IsWant f → wrong.Refused a ≡ weave_wrong f → ⊥
weave_want_refuses_none f a e is = let bad : wrong.Refused a ≡ wrong.Memory = is ∙ ap (λ c. cause_wrong c f.item) e in cc

-- a model that breaks no rule at an item, and is not too large, breaks none
small_has_none : (m : FlatModel) → breaches m ≡ [] → is_too_large m ≡ false → (r : KindRule) (item : ℕ) → IsFault m r item → ⊥
small_has_none m none small r item (at_an_item first is rule at) = none_among first (breaches m) none is.among
small_has_none m none small r item (of_its_size kept large rule at) = let bad : true ≡ false = sym large ∙ small in cc

module _ (number stages : ℕ) (few : stages ≤ MOST_STAGES) where
  abbrev p : ProgramTree
  p = generated_model number stages

  lawful_size : stages < MOST_INSTANCES
  lawful_size = omega (arith, few)

  spelled : BytesSpellProgram (program_text p) p
  spelled = program_spells p (model_writable number stages (omega (arith, few)))

  -- nothing is wrong with the text of the model
  pub model_not_wrong : (a : InputFault) → IsWrongModel (program_text p) a → ⊥
  model_not_wrong a (not_read f h e) = want_refuses_none f a (generated_text_is_read number stages few f h) e
  model_not_wrong a (not_flat q r item text first is) =
      accepted_unbroken q r item (subst IsAccepted (sym (text.only p spelled)) (generated_accepted number stages lawful_size)) first
  model_not_wrong a (not_typed q m r item text accepted has fault is) =
      typed_has_none m r item (generated_typed number stages lawful_size m (subst (λ t. IsFlatOf t m) (text.only p spelled) has.is)) fault

  -- nor with the word of the top event
  pub top_not_wrong : (a : InputFault) → IsWrongWord p (codes "dead") a → ⊥
  top_not_wrong a (too_long more is) = omega (arith, more)
  top_not_wrong a (no_word f short means is) = want_refuses_none f a (top_text_is_read f means) is
  top_not_wrong a (not_kept e short spells depths bad) = kept (subst (λ t. IsWrongTop p t 0 a) (one_top e spells) bad)
    where
      one_top : (e : Formula) → BytesSpellExpr (codes "dead") e → e ≡ generated_top
      one_top e h =
          let top = text_spells generated_top top_writable in
          one_expression h.2 (subst (λ (ts : List Token). SpellsExpr (lexemes_of (codes "dead") ts) generated_top) (one_answer (codes "dead") h.0 top.0 h.1 top.1) top.2)

      kept : IsWrongTop p generated_top 0 a → ⊥
      kept (by_names r least is) = generated_top_keeps_names number stages lawful_size r least.broken
      kept (by_kinds m tree r none has resolved told is) =
          let bad : Path (Option KindRule) None (Some r) = sym (generated_top_typed number stages lawful_size m has.is tree resolved) ∙ told in cc

  module _ (m : FlatModel) (lawful : IsLawful p m) where
    keeps_rules : KeepsRules p generated_instructions (modules_of_instances p)
    keeps_rules = record { items = generated_items_kept number stages lawful_size; counts = generated_faults_few number stages (omega (arith, few)) }

    -- an extension passes no limit
    passes_none : (faults : List Fault) → AreTaken p generated_instructions → HasFaults p generated_instructions faults → (a : InputFault) → PassesLimit (woven p generated_instructions) faults a → ⊥
    passes_none faults taken has a (by_number item broken is) = generated_breaks_no_number number stages (omega (arith, few)) item broken
    passes_none faults taken has a (by_size whole accepted is broken told) =
        small_has_none (with_history is.flat is.modes) none small too_large 0 (subst (λ w. IsFault w too_large 0) is.is broken)
      where
        woven_are : AreWoven p m generated_instructions is.flat
        woven_are = are_woven p m generated_instructions faults lawful taken has whole is accepted

        modes : Each (IsSliceMode p generated_instructions is.flat) is.modes
        modes = slice_modes p generated_instructions is.flat faults is.modes is.are_modes (of_program p generated_instructions faults has)

        none : breaches (with_history is.flat is.modes) ≡ []
        none =
            history_none is.flat is.modes (models_closed (woven p generated_instructions) is.flat is.model.is)
            (each_more (IsSliceMode p generated_instructions is.flat) (HasSymbols is.flat) is.modes (λ f s. modes_symbols p m generated_instructions is.flat woven_are f s) modes)
            (woven_none p m generated_instructions is.flat woven_are)

        small : is_too_large (with_history is.flat is.modes) ≡ false
        small =
            generated_small number stages (omega (arith, few)) is.flat is.model.is is.modes
            (omega (arith, both_long (IsModeOfFault is.flat) faults is.modes is.are_modes, generated_faults_are_stages number stages lawful_size faults has))

    -- nor with the text of the instructions
    instructions_not_wrong : (a : InputFault) → IsWrongFaults p (instructions_text generated_instructions) a → ⊥
    instructions_not_wrong a (not_spelled f h e) = want_refuses_none f a (instruction_text_is_read f h) e
    instructions_not_wrong a (not_woven i n f text is told e) =
        let same : i ≡ generated_instructions = text.only generated_instructions (instructions_spell generated_instructions instructions_writable) in
        none_told p n generated_instructions (modules_of_instances p) f lawful.accepted is keeps_rules (generated_uses_kept p n) (subst (λ j. IsTold p n j (modules_of_instances p) f) same told)
        (λ want. weave_want_refuses_none f a want e)
    instructions_not_wrong a (past_limit i faults text taken has passes) =
        let same : i ≡ generated_instructions = text.only generated_instructions (instructions_spell generated_instructions instructions_writable) in
        passes_none faults (subst (AreTaken p) same taken) (subst (λ j. HasFaults p j faults) same has) a (subst (λ j. PassesLimit (woven p j) faults a) same passes)

-- The same of what the code has in memory.
pub refuses_none : (P : InputFault → Type 0) (w : Wrong) → ((a : InputFault) → P a → ⊥) → IfRefused P w → IfRefused (λ a. ⊥) w
refuses_none P (wrong.Refused a) none h = none a h
refuses_none P wrong.Memory none h = tt

pub text_length : (bytes : Text) → IsGeneratedText bytes → length bytes ≤ MOST_FILE_BYTES
text_length bytes g =
    omega (arith, generated_text_short g.of.number g.of.stages g.of.few, ap (λ (t : Text). length t) g.is, ap (λ p. length (program_text p)) g.of.is)

pub text_not_wrong : (bytes : Text) → IsGeneratedText bytes → (a : InputFault) → IsWrongModel bytes a → ⊥
text_not_wrong bytes g a h = model_not_wrong g.of.number g.of.stages g.of.few a (subst (λ b. IsWrongModel b a) (g.is ∙ ap program_text g.of.is) h)

pub instructions_length : (bytes : Text) → bytes ≡ instructions_text generated_instructions → length bytes ≤ MOST_FILE_BYTES
instructions_length bytes e = omega (arith, ap (λ (t : Text). length t) e, instruction_text_short)

pub case_not_wrong : (p : ProgramTree) → IsOfGenerator p → (m : FlatModel) → IsLawful p m → (bytes : Text) → bytes ≡ instructions_text generated_instructions → (a : InputFault) →
    IsWrongFaults p bytes a → ⊥
case_not_wrong p of m lawful bytes e a h =
    instructions_not_wrong of.number of.stages of.few m (subst (λ q. IsLawful q m) of.is lawful) a
    (subst (λ b. IsWrongFaults (generated_model of.number of.stages) b a) e (subst (λ q. IsWrongFaults q bytes a) of.is h))

-- the program of the text
pub text_of_generator : (bytes : Text) (p : ProgramTree) → IsGeneratedText bytes → IsModelText bytes p → IsOfGenerator p
text_of_generator bytes p g text = subst IsOfGenerator (sym (text.only g.program (subst (λ b. BytesSpellProgram b g.program) (sym g.is) spells))) g.of
  where
    spells : BytesSpellProgram (program_text g.program) g.program
    spells = subst (λ q. BytesSpellProgram (program_text q) q) (sym g.of.is) (spelled g.of.number g.of.stages g.of.few)

-- where a top event stops the work, memory does
pub stops_for_want : (p : ProgramTree) → IsOfGenerator p → (s : Stop) → ((r : Refusal) → s ≡ stop.Refused r → (a : InputFault) × (r ≡ refusal.Top a) × IsWrongWord p (codes "dead") a) → (s ≡ stop.Desk → ⊥) → s ≡ stop.Memory
stops_for_want p of (stop.Refused r) refused desk =
    let h = refused r refl in absurd (top_not_wrong of.number of.stages of.few h.0 (subst (λ q. IsWrongWord q (codes "dead") h.0) of.is h.2))
stops_for_want p of stop.Desk refused desk = absurd (desk refl)
stops_for_want p of stop.Memory refused desk = refl
