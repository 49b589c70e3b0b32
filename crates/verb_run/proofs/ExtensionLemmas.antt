-- From an answered run to the extension that it has written.
use Rattle.std.proofs.Common.{◌≡◌, ℕ, List, Option, Some, None, IfSome, IsSomeAnd, sym, ap, subst, ◌∙◌}
use Rattle.base_files.specs.declared.files.NamedFile.{NamedFile}
use Rattle.base_files.specs.Files.{file_of, with_file}
use Rattle.base_files.specs.Desk.{said_more}
use Rattle.base_files.proofs.Writing.{file_of-with_file}
use Rattle.smv_lexer.specs.declared.token.Token.{Token}
use Rattle.smv_lexer.proofs.SplitLemmas.{one_answer}
use Rattle.smv_language.specs.Language.{Text, ProgramTree, lexemes_of, SpellsProgram, BytesSpellProgram}
use Rattle.smv_language.proofs.OneProgram.{one_program}
use Rattle.fault_weave.specs.WovenProgram.{woven}
use Rattle.fault_weave.proofs.WovenNominal.{woven_extends}
use Rattle.verb_loading.specs.declared.status.Refusal.{Refusal}
use Rattle.verb_loading.specs.declared.status.Refusal.TheVariants as refusal
use Rattle.verb_loading.specs.declared.status.Status.{Status}
use Rattle.verb_loading.specs.declared.status.Status.TheVariants as status
use Rattle.verb_loading.specs.Statuses.{status_of}
use Rattle.verb_command_line.specs.Commands.{Command, extend}
use Rattle.verb_command_line.specs.Meaning.{Means as WordsMean, BreaksFirst}
use Rattle.verb_command_line.specs.CommandView.{rule_of, place_of}
use Rattle.verb_command_line.specs.declared.fault.WordFault.{WordFault}
use Rattle.verb_command_line.proofs.SeenLemmas.{same_fault}
use Rattle.verb_command_line.proofs.ReadingLaws.{one_command, one_fault, commands_have_no_fault}
use Rattle.verb_run.specs.Requests.{AsksToExtend, RefusesWords}
use Rattle.verb_loading.specs.Inputs.{HoldsModel, HoldsFaults}
use Rattle.verb_run.specs.Runs.{Outcome, ComesTo, refuses_model, refuses_faults, is_extended, Means, refuses_words, asked, IsAnswer, IsDelivered, HasAnswered, CommandComesTo}
use Rattle.verb_run.specs.Extension.{IsExtended}
use Rattle.verb_loading.proofs.WovenSpells.{woven_text_spells}

-- no refusal ends as done
pub never_done : (r : Refusal) → status.Done ≡ status_of r → ⊥
never_done (refusal.Model fault) e = cc
never_done (refusal.Faults fault) e = cc
never_done (refusal.Top fault) e = cc
never_done (refusal.NotAccepted o) e = cc
never_done (refusal.Causes fault) e = cc
never_done (refusal.Set fault) e = cc

-- words that are refused ask for nothing
pub refused_not_asked : (words : List Text) (f : WordFault) (c : Command) → RefusesWords words f → WordsMean words c → ⊥
refused_not_asked words f c broken means = commands_have_no_fault words c (rule_of f) (place_of f) means broken

pub words_not_asked : {P : Type 0} (words : List Text) (c : Command) (rule place : ℕ) → WordsMean words c → BreaksFirst words rule place → P
words_not_asked words c rule place means broken = absurd (commands_have_no_fault words c rule place means broken)

-- and they are refused once
pub one_refused_words : (words : List Text) (f g : WordFault) → RefusesWords words f → RefusesWords words g → f ≡ g
one_refused_words words f g broken also = let one = one_fault words (rule_of f) (place_of f) (rule_of g) (place_of g) broken also in same_fault f g one.0 one.1

-- bytes spell one program
one_text : (bytes : List ℕ) (p q : ProgramTree) → BytesSpellProgram bytes p → BytesSpellProgram bytes q → p ≡ q
one_text bytes p q h g = one_program (lexemes_of bytes h.0) p q h.2 (subst (λ (ts : List Token). SpellsProgram (lexemes_of bytes ts) q) (one_answer bytes h.0 g.0 h.1 g.1) g.2)

-- two files whose extension was written, and its report said
files_extended : (before after : List NamedFile) (said now : Option (List ℕ)) (model faults extended : Text) (p : ProgramTree) (text report : Text) → HoldsModel before model p →
    HoldsFaults before faults p text report → file_of after extended ≡ Some text → now ≡ said_more said report → IsExtended before after said now model faults extended
files_extended before after said now model faults extended p text report holds have written line =
    let made = have.extension in
    let spelled : BytesSpellProgram text (woven p made.instructions) =
    subst (λ t. BytesSpellProgram t (woven p made.instructions)) (sym made.printed) (woven_text_spells holds.bytes have.bytes p made.instructions holds.is_text.spelled made.is_text.spelled) in
    record {
      model_bytes = holds.bytes;
      fault_bytes = have.bytes;
      written_bytes = text;
      program = p;
      instructions = made.instructions;
      listed = made.faults;
      had_model = holds.has.held;
      had_faults = have.has.held;
      has_written = written;
      has_said = line ∙ ap (said_more said) made.told;
      spells_program = holds.is_text.spelled;
      only_program = holds.is_text.only;
      spells_instructions = made.is_text.spelled;
      only_instructions = made.is_text.only;
      spells_written = spelled;
      only_written = λ q other. one_text text (woven p made.instructions) q spelled other;
      weavable = made.taken.weavable;
      extension = woven_extends p made.instructions made.taken.weavable;
      are_faults = made.are_faults;
    }

comes_extended : (files : List NamedFile) (model faults extended : Text) (o : Outcome) (s : Status) (after : Option (List NamedFile)) (said now : Option (List ℕ)) → ComesTo files model faults extended o →
    IsDelivered o s (Some files) after said now → s ≡ status.Done → IsSomeAnd after (λ new. IsExtended files new said now model faults extended)
comes_extended files model faults extended o s after said now (refuses_model r no_model) stands done = absurd (never_done r (sym done ∙ stands.0))
comes_extended files model faults extended o s after said now (refuses_faults p r holds no_faults) stands done = absurd (never_done r (sym done ∙ stands.0))
comes_extended files model faults extended o s after said now (is_extended p text report holds have) stands done =
    subst (λ told. IsSomeAnd told (λ new. IsExtended files new said now model faults extended)) (sym stands.1)
    (files_extended files (with_file files extended text) said now model faults extended p text report holds have (file_of-with_file files extended text) stands.2)

means_extended : (files : List NamedFile) (words : List Text) (model faults extended : Text) (o : Outcome) (s : Status) (after : Option (List NamedFile)) (said now : Option (List ℕ)) → Means files words o →
    AsksToExtend words model faults extended → IsDelivered o s (Some files) after said now → s ≡ status.Done → IsSomeAnd after (λ new. IsExtended files new said now model faults extended)
means_extended files words model faults extended o s after said now (refuses_words f refused) asks stands done = absurd (refused_not_asked words f (extend model faults extended) refused asks)
means_extended files words model faults extended o s after said now (asked c o' named comes) asks stands done =
    comes_extended files model faults extended o' s after said now (subst (λ d. CommandComesTo files d o') (one_command words c (extend model faults extended) named asks) comes) stands done

-- a run that answers that it is done has extended the model
pub done_extends : (told after : Option (List NamedFile)) (said now : Option (List ℕ)) (words : List Text) (s : Status) (model faults extended : Text) →
    (IsAnswer s → IfSome told (λ files. HasAnswered files words s told after said now)) → s ≡ status.Done → AsksToExtend words model faults extended →
    IfSome told (λ before. IsSomeAnd after (λ new. IsExtended before new said now model faults extended))
done_extends None after said now words s model faults extended answered done asks = tt
done_extends (Some files) after said now words s model faults extended answered done asks =
    let answer = answered (subst IsAnswer (sym done) tt) in
    means_extended files words model faults extended answer.outcome s after said now answer.means asks answer.delivered done
