-- From the parts of a run to its outcome.
use Rattle.std.proofs.Common.{◌≡◌, ◌⊎◌, inl, inr, ⊎_elim, ℕ, List, [], ◌∷◌, Option, Some, None, IfSome, Result, Ok, Err, IfOk, IsErrOf, refl, sym, ap, subst, ◌∙◌}
use Rattle.base_files.specs.declared.files.NamedFile.{NamedFile}
use Rattle.base_files.specs.Desk.{said_more, SaysPrefix}
use Rattle.smv_language.specs.Language.{Text, ProgramTree, Tree, FlatLeaf}
use Rattle.verb_command_line.specs.Commands.{Command}
use Rattle.verb_command_line.specs.Meaning.{Means as WordsMean}
use Rattle.verb_command_line.specs.declared.fault.WordFault.{WordFault}
use Rattle.verb_loading.specs.declared.faults.Made.{Made}
use Rattle.base_files.specs.declared.desk.WriteStop.{WriteStop}
use Rattle.base_files.specs.declared.desk.WriteStop.TheVariants as write_stop
use Rattle.verb_run.specs.RunEndings.{Stopped}
use Rattle.verb_run.specs.Findings.{finished_as}
use Rattle.verb_run.specs.Analyses.{ended_with}
use Rattle.verb_run.specs.Tables.{ended_with_all}
use Rattle.cut_report_laws.specs.ExtendedTraces.{Ending, complete, bounded}
use Rattle.verb_loading.specs.Inputs.{RefusesModel, HoldsModel, RefusesFaults, HoldsExtension}
use Rattle.verb_loading.specs.Cases.{Case, HoldsCase, IsWrongWord}
use Rattle.verb_loading.specs.LoadedCases.{IsTopIn}
use Rattle.verb_run.specs.Runs.{Outcome, rejects, refuses, extends, ComesTo, refuses_model, refuses_faults, is_extended, TraceComesTo, ReplayComesTo, refuses_its_model, refuses_its_faults, refuses_its_top, reads_its_trace, Means, asked, refuses_words, IsAnswer, IsDelivered, IsDeliveredInPart, Stands, StandsInPart, IsCarriedOut, IsLeftInPart, HasAnswered, HasStopped}
use Rattle.verb_loading.specs.declared.status.InputFault.{InputFault}
use Rattle.verb_loading.specs.declared.status.Refusal.{Refusal}
use Rattle.verb_loading.specs.declared.status.Refusal.TheVariants as refusal
use Rattle.verb_loading.specs.declared.status.Status.{Status}
use Rattle.verb_loading.specs.declared.status.Status.TheVariants as status
use Rattle.verb_loading.specs.declared.input.Stop.{Stop}
use Rattle.verb_loading.specs.declared.input.Stop.TheVariants as stopped
use Rattle.verb_loading.specs.Statuses.{status_of, refusal_text, words_text}
use Rattle.verb_run.specs.Requests.{RefusesWords}

module _ (model faults extended : Text) where
  -- the model is refused
  pub comes_to_no_model : (told : Option (List NamedFile)) (r : Refusal) → IfSome told (λ files. RefusesModel files model r) →
      IfSome told (λ files. ComesTo files model faults extended (refuses r))
  comes_to_no_model None r no_model = tt
  comes_to_no_model (Some files) r no_model = refuses_model r no_model

  -- the instructions are refused
  pub comes_to_no_faults : (told mid : Option (List NamedFile)) (p : ProgramTree) (r : Refusal) → mid ≡ told → IfSome told (λ files. HoldsModel files model p) →
      IfSome mid (λ files. RefusesFaults files faults p r) → IfSome told (λ files. ComesTo files model faults extended (refuses r))
  comes_to_no_faults told mid p r same holds no_faults = at_told told holds (subst (λ t. IfSome t (λ files. RefusesFaults files faults p r)) same no_faults) where
    at_told : (t : Option (List NamedFile)) → IfSome t (λ files. HoldsModel files model p) → IfSome t (λ files. RefusesFaults files faults p r) →
        IfSome t (λ files. ComesTo files model faults extended (refuses r))
    at_told None holds no_faults = tt
    at_told (Some files) holds no_faults = refuses_faults p r holds no_faults

  -- both are taken: the extension of the one by the other
  pub comes_to_extension : (told mid : Option (List NamedFile)) (p : ProgramTree) (made : Made) → mid ≡ told → IfSome told (λ files. HoldsModel files model p) →
      IfSome mid (λ files. HoldsExtension files faults p made) →
      IfSome told (λ files. ComesTo files model faults extended (extends extended made.text.items made.report))
  comes_to_extension told mid p made same holds has = at_told told holds (subst (λ t. IfSome t (λ files. HoldsExtension files faults p made)) same has) where
    at_told : (t : Option (List NamedFile)) → IfSome t (λ files. HoldsModel files model p) → IfSome t (λ files. HoldsExtension files faults p made) →
        IfSome t (λ files. ComesTo files model faults extended (extends extended made.text.items made.report))
    at_told None holds has = tt
    at_told (Some files) holds has = is_extended p made.text.items made.report holds has

module _ (model faults trace top : Text) where
  -- the model of a replay is refused
  pub replays_no_model : (told : Option (List NamedFile)) (r : Refusal) → IfSome told (λ files. RefusesModel files model r) →
      IfSome told (λ files. ReplayComesTo files model faults trace top (refuses r))
  replays_no_model None r no_model = tt
  replays_no_model (Some files) r no_model = refuses_its_model r no_model

  -- its instructions are
  pub replays_no_faults : (told mid : Option (List NamedFile)) (p : ProgramTree) (r : Refusal) → mid ≡ told → IfSome told (λ files. HoldsModel files model p) →
      IfSome mid (λ files. RefusesFaults files faults p r) → IfSome told (λ files. ReplayComesTo files model faults trace top (refuses r))
  replays_no_faults told mid p r same holds no_faults = at_told told holds (subst (λ t. IfSome t (λ files. RefusesFaults files faults p r)) same no_faults) where
    at_told : (t : Option (List NamedFile)) → IfSome t (λ files. HoldsModel files model p) → IfSome t (λ files. RefusesFaults files faults p r) →
        IfSome t (λ files. ReplayComesTo files model faults trace top (refuses r))
    at_told None holds no_faults = tt
    at_told (Some files) holds no_faults = refuses_its_faults p r holds no_faults

  -- its top event is refused
  pub replays_no_top : (told : Option (List NamedFile)) (c : Case) (r : Refusal) → IfSome told (λ files. HoldsCase files model faults c) →
      (fault : InputFault) × (r ≡ refusal.Top fault) × IsWrongWord c.program top fault → IfSome told (λ files. ReplayComesTo files model faults trace top (refuses r))
  replays_no_top None c r holds wrong = tt
  replays_no_top (Some files) c r holds (fault, is, wrong) = subst (λ s. ReplayComesTo files model faults trace top (refuses s)) (sym is) (refuses_its_top c fault holds wrong)

  -- its trace is read
  pub replays_trace : (told mid : Option (List NamedFile)) (c : Case) (tree : Tree FlatLeaf) (o : Outcome) → mid ≡ told → IfSome told (λ files. HoldsCase files model faults c) → IsTopIn c top tree →
      IfSome mid (λ files. TraceComesTo files c tree trace o) → IfSome told (λ files. ReplayComesTo files model faults trace top o)
  replays_trace told mid c tree o same holds event comes = at_told told holds (subst (λ t. IfSome t (λ files. TraceComesTo files c tree trace o)) same comes) where
    at_told : (t : Option (List NamedFile)) → IfSome t (λ files. HoldsCase files model faults c) → IfSome t (λ files. TraceComesTo files c tree trace o) →
        IfSome t (λ files. ReplayComesTo files model faults trace top o)
    at_told None holds comes = tt
    at_told (Some files) holds comes = reads_its_trace c event.top tree o holds event.is_word event.is_tree comes

pub no_answer : {s : Status} {P : Type 0} → (s ≡ status.Desk) ⊎ (s ≡ status.Memory) → IsAnswer s → P
no_answer (inl desk) answer = absurd (subst IsAnswer desk answer)
no_answer (inr memory) answer = absurd (subst IsAnswer memory answer)

module _ (Comes : List NamedFile → Outcome → Type 0) (told mid after : Option (List NamedFile)) (said mid_said now : Option (List ℕ)) (same : mid ≡ told) (same_said : mid_said ≡ said) where
  -- a refusal that was said
  pub answers_refusal : (r : Refusal) (s : Status) → IfSome told (λ files. Comes files (refuses r)) → (s ≡ status_of r) ⊎ ((s ≡ status.Desk) ⊎ (s ≡ status.Memory)) →
      (s ≡ status_of r → now ≡ said_more mid_said (refusal_text r)) → after ≡ mid → IsAnswer s → IfSome told (λ files. Stands (Comes files) s told after said now)
  answers_refusal r s means ends said_line kept answer = ⊎_elim (λ is. at_told told means (kept ∙ same) is) (λ other. no_answer other answer) ends where
    at_told : (t : Option (List NamedFile)) → IfSome t (λ files. Comes files (refuses r)) → after ≡ told → s ≡ status_of r → IfSome t (λ files. Stands (Comes files) s told after said now)
    at_told None means whole is = tt
    at_told (Some files) means whole is =
        record { outcome = refuses r; means = means; delivered = (is, whole, said_line is ∙ ap (λ t. said_more t (refusal_text r)) same_said) }

  pub stops_at_refusal : (r : Refusal) → IfSome told (λ files. Comes files (refuses r)) → SaysPrefix mid_said now (refusal_text r) → after ≡ mid →
      IfSome told (λ files. StandsInPart (Comes files) told after said now)
  stops_at_refusal r means front kept = at_told told means (kept ∙ same) where
    at_told : (t : Option (List NamedFile)) → IfSome t (λ files. Comes files (refuses r)) → after ≡ told → IfSome t (λ files. StandsInPart (Comes files) told after said now)
    at_told None means whole = tt
    at_told (Some files) means whole = record { outcome = refuses r; means = means; in_part = (whole, subst (λ t. SaysPrefix t now (refusal_text r)) same_said front) }

  -- a run that could not go on
  pub answers_stop : (stop : Stop) (s : Status) → ((r : Refusal) → stop ≡ stopped.Refused r → IfSome told (λ files. Comes files (refuses r))) →
      Stopped stop s mid after mid_said now → IsAnswer s → IfSome told (λ files. Stands (Comes files) s told after said now)
  answers_stop (stopped.Refused r) s means ended answer = answers_refusal r s (means r refl) ended.ends ended.line ended.kept answer
  answers_stop stopped.Desk s means ended answer = no_answer (inl ended.ends) answer
  answers_stop stopped.Memory s means ended answer = no_answer (inr ended.ends) answer

  pub leaves_stop : (stop : Stop) (s : Status) → ((r : Refusal) → stop ≡ stopped.Refused r → IfSome told (λ files. Comes files (refuses r))) →
      Stopped stop s mid after mid_said now →
      ((after ≡ told) × (now ≡ said)) ⊎ IfSome told (λ files. StandsInPart (Comes files) told after said now)
  leaves_stop (stopped.Refused r) s means ended = inr (stops_at_refusal r (means r refl) ended.part ended.kept)
  leaves_stop stopped.Desk s means ended = inl (ended.kept ∙ same, ended.silent ∙ same_said)
  leaves_stop stopped.Memory s means ended = inl (ended.kept ∙ same, ended.silent ∙ same_said)

  -- what was prepared was written and said
  pub answers_prepared : (o : Outcome) (s : Status) → IfSome told (λ files. Comes files o) → (IsAnswer s → IsDelivered o s mid after mid_said now) → IsAnswer s →
      IfSome told (λ files. Stands (Comes files) s told after said now)
  answers_prepared o s means delivered answer = at_told told means where
    at_told : (t : Option (List NamedFile)) → IfSome t (λ files. Comes files o) → IfSome t (λ files. Stands (Comes files) s told after said now)
    at_told None means = tt
    at_told (Some files) means =
        record {
          outcome = o;
          means = means;
          delivered = subst (λ t. IsDelivered o s t after said now) same (subst (λ t. IsDelivered o s mid after t now) same_said (delivered answer));
        }

  pub stops_at_prepared : (o : Outcome) → IfSome told (λ files. Comes files o) → IsDeliveredInPart o mid after mid_said now → IfSome told (λ files. StandsInPart (Comes files) told after said now)
  stops_at_prepared o means part = at_told told means where
    at_told : (t : Option (List NamedFile)) → IfSome t (λ files. Comes files o) → IfSome t (λ files. StandsInPart (Comes files) told after said now)
    at_told None means = tt
    at_told (Some files) means =
        record {
          outcome = o;
          means = means;
          in_part = subst (λ t. IsDeliveredInPart o t after said now) same (subst (λ t. IsDeliveredInPart o mid after t now) same_said part);
        }

-- work that ends with its own status has it where there is an answer
pub finished_answers : (P : Status → Type 0) (done : Result Status WriteStop) (s : Status) → s ≡ finished_as done → IfOk done P → IsAnswer s → P s
finished_answers P (Ok t) s is so answer = subst P (sym is) so
finished_answers P (Err write_stop.Failed) s is so answer = absurd (subst IsAnswer is answer)
finished_answers P (Err write_stop.OutOfMemory) s is so answer = absurd (subst IsAnswer is answer)

-- and it has the desk's only where a call of the desk failed, if that is not its own
pub failed_finish : (P : Status → Type 0) (R : Type 0) (done : Result Status WriteStop) (s : Status) → s ≡ finished_as done → IfOk done P → (P status.Desk → ⊥) → (IsErrOf done write_stop.Failed → R) →
    s ≡ status.Desk → R
failed_finish P R (Ok t) s is so none fails desk = absurd (none (subst P (sym is ∙ desk) so))
failed_finish P R (Err write_stop.Failed) s is so none fails desk = fails refl
failed_finish P R (Err write_stop.OutOfMemory) s is so none fails desk = cc

-- an analysis does not end with it
pub not_desk : (e : Ending) → status.Desk ≡ ended_with e → ⊥
not_desk complete h = cc
not_desk (bounded k) h = cc

pub no_column_desk : (es : List Ending) → status.Desk ≡ ended_with_all es → ⊥
no_column_desk [] h = cc
no_column_desk (complete ∷ es) h = no_column_desk es h
no_column_desk (bounded k ∷ es) h = cc

-- what holds whatever the files are
pub for_files : (P : Type 0) (told : Option (List NamedFile)) → P → IfSome told (λ files. P)
for_files P None so = tt
for_files P (Some files) so = so

-- words that are refused
pub answers_words : (told after : Option (List NamedFile)) (said now : Option (List ℕ)) (words : List Text) (f : WordFault) (s : Status) → RefusesWords words f →
    (s ≡ status.Words f) ⊎ ((s ≡ status.Desk) ⊎ (s ≡ status.Memory)) → (s ≡ status.Words f → now ≡ said_more said (words_text f)) → after ≡ told → IsAnswer s →
    IfSome told (λ files. HasAnswered files words s told after said now)
answers_words None after said now words f s refused ends line kept answer = tt
answers_words (Some files) after said now words f s refused (inl is) line kept answer = record { outcome = rejects f; means = refuses_words f refused; delivered = (is, kept, line is) }
answers_words (Some files) after said now words f s refused (inr other) line kept answer = no_answer other answer

pub stops_at_words : (told after : Option (List NamedFile)) (said now : Option (List ℕ)) (words : List Text) (f : WordFault) → RefusesWords words f → SaysPrefix said now (words_text f) → after ≡ told →
    IfSome told (λ files. HasStopped files words told after said now)
stops_at_words None after said now words f refused part kept = tt
stops_at_words (Some files) after said now words f refused part kept = record { outcome = rejects f; means = refuses_words f refused; in_part = (kept, part) }

-- a command that was carried out is the answer to the words that mean it
pub answers_carried : (told after : Option (List NamedFile)) (said now : Option (List ℕ)) (words : List Text) (c : Command) (s : Status) → WordsMean words c → IsCarriedOut c s told after said now →
    IsAnswer s → IfSome told (λ files. HasAnswered files words s told after said now)
answers_carried None after said now words c s means carried answer = tt
answers_carried (Some files) after said now words c s means carried answer =
    let given = carried answer in record { outcome = given.outcome; means = asked c given.outcome means given.means; delivered = given.delivered }

pub stops_carried : (told after : Option (List NamedFile)) (said now : Option (List ℕ)) (words : List Text) (c : Command) → WordsMean words c → IsLeftInPart c told after said now →
    ((after ≡ told) × (now ≡ said)) ⊎ IfSome told (λ files. HasStopped files words told after said now)
stops_carried told after said now words c means (inl same) = inl same
stops_carried None after said now words c means (inr part) = inr tt
stops_carried (Some files) after said now words c means (inr part) = inr (record { outcome = part.outcome; means = asked c part.outcome means part.means; in_part = part.in_part })
