-- What answers the task of an analysis is the headline.
use Rattle.std.proofs.Common.{◌≡◌, ℕ, Bool, true, false, List, [], ◌∷◌, length, Option, Some, sym, ap, ◌∙◌, subst, refl}
use Rattle.std.specs.Prelude.{IsSomeAnd, if◌then◌else◌}
use Rattle.std.specs.Str.{bytes_eq}
use Rattle.std.proofs.lemmas.Slice.Eq.{bytes_eq-Decides}
use Rattle.base_files.specs.declared.files.NamedFile.{NamedFile}
use Rattle.base_files.specs.Files.{file_of, with_file}
use Rattle.base_files.proofs.Writing.{file_of-with_file}
use Rattle.smv_language.specs.ProgramTree.{Text, Formula}
use Rattle.fault_weave.proofs.WovenNominal.{woven_extends}
use Rattle.fault_weave.specs.ExtensionTraces.{Moment, IsExtended, Reaches}
use Rattle.cut_right_laws.proofs.Minimal.{right_sets_minimal}
use Rattle.cert_laws.specs.ExtendedTraces.{HasFailedFault, IsRightExtended}
use Rattle.cut_report_laws.specs.ExtendedTraces.{Ending, complete, bounded, Analysis, IsOfClass, IsAnalysisOf}
use Rattle.verb_loading.specs.declared.status.Status.{Status}
use Rattle.verb_loading.specs.declared.status.Status.TheVariants as status
use Rattle.verb_loading.specs.Cases.{Case, HoldsCase}
use Rattle.verb_loading.specs.CaseAnswers.{Said}
use Rattle.verb_run.specs.AnswerTexts.{extension_text}
use Rattle.cut_model_search.specs.CaseAnalysis.{size_for, HasChain, EndsBy}
use Rattle.verb_run.specs.Analyses.{ended_with, Certifies, AreWritten, HasAnalysed}
use Rattle.verb_run.specs.Headline.{IsAnalysed, AreMinimal, IsComplete, IsBounded, AnswersAreTheHeadline}
use Rattle.verb_loading.proofs.WovenSpells.{woven_text_spells}
use Rattle.std.proofs.lemmas.Option.{same_Some}

different : (a b : Text) → (a ≡ b → ⊥) → bytes_eq a b ≡ false
different a b n = by (bytes_eq a b) refl
  where
    by : (t : Bool) → bytes_eq a b ≡ t → bytes_eq a b ≡ false
    by true e = absurd (n ((bytes_eq-Decides a b).0 e))
    by false e = e

-- a file that was not written has what it had
pub other_file : (files : List NamedFile) (name other bytes : Text) → (name ≡ other → ⊥) → file_of (with_file files name bytes) other ≡ file_of files other
other_file [] name other bytes n = rw (different name other n) refl
other_file (file ∷ files) name other bytes n = by_name (bytes_eq file.name name) refl (other_file files name other bytes n)
  where
    by_name : (t : Bool) → bytes_eq file.name name ≡ t → file_of (with_file files name bytes) other ≡ file_of files other →
        file_of (if t then record { name = file.name; bytes = bytes } ∷ files else file ∷ with_file files name bytes) other ≡ file_of (file ∷ files) other
    by_name true e h = rw (different file.name other (λ same. n (sym ((bytes_eq-Decides file.name name).0 e) ∙ same))) refl
    by_name false e h = by_other (bytes_eq file.name other)
      where
        by_other : (t : Bool) → (if t then Some file.bytes else file_of (with_file files name bytes) other) ≡ (if t then Some file.bytes else file_of files other)
        by_other true = refl
        by_other false = h

-- the sets of a complete analysis are the minimal cut sets
sets_are_minimal : (c : Case) (event : Formula) (size : ℕ) (a : Analysis) → a.ending ≡ complete → IsAnalysisOf c.program c.instructions c.faults c.flat event size a → AreMinimal c event size a.sets
sets_are_minimal c event size a is h set =
    let right : IsRightExtended c.program c.instructions c.faults event size (IsOfClass c.program c.instructions complete) a.sets h.traces =
    subst (λ e. IsRightExtended c.program c.instructions c.faults event size (IsOfClass c.program c.instructions e) a.sets h.traces) is h.right in
    right_sets_minimal (List Moment) (IsExtended c.program c.instructions) (Reaches c.program event) (HasFailedFault c.faults) size a.sets h.traces
    (record { one_each = right.one_each; small = right.small; shown = right.shown; covered = λ trace class reaches few. right.covered trace class reaches few; apart = right.apart }) set

never_bounded : (k : ℕ) → status.Done ≡ status.Bounded k → ⊥
never_bounded k e = cc

same_bound : (j k : ℕ) → status.Bounded j ≡ status.Bounded k → j ≡ k
same_bound j k e = cc

module _ (before after : List NamedFile) (said now : Said) (model faults top extended cert : Text) (depth : ℕ) (size : Option ℕ) (c : Case)
    (holds : HoldsCase before model faults c) (apart : extended ≡ cert → ⊥) where
  abbrev analysed : (s : Status) (h : HasAnalysed c top depth (size_for size (length c.faults)) extended cert s (Some before) (Some after) said now) (ending : Ending) → h.analysis.ending ≡ ending →
      file_of after extended ≡ Some (extension_text c) → IsAnalysed before after said now model faults top extended size ending
  analysed s h ending is written = record {
    c = c;
    event = h.event;
    holds = holds;
    is_event = h.is_event;
    written_bytes = extension_text c;
    has_written = written;
    spells_written = woven_text_spells holds.program.bytes holds.bytes c.program c.instructions holds.program.is_text.spelled holds.is_text.spelled;
    extension = woven_extends c.program c.instructions holds.is_case.taken.weavable;
    analysis = h.analysis;
    ends = is;
    right = h.found.right;
    reported = h.reported;
  }

  complete_answer : HasAnalysed c top depth (size_for size (length c.faults)) extended cert status.Done (Some before) (Some after) said now → IsComplete before after said now model faults top extended cert size
  complete_answer h = by_ending h.analysis.ending refl h.ends h.written
    where
      by_ending : (ending : Ending) → h.analysis.ending ≡ ending → status.Done ≡ ended_with ending → AreWritten c h.event (size_for size (length c.faults)) h.analysis extended cert (Some before) (Some after) ending →
          IsComplete before after said now model faults top extended cert size
      by_ending complete is ends w =
          let files : after ≡ with_file (with_file before extended (extension_text c)) cert w.0 = same_Some after (with_file (with_file before extended (extension_text c)) cert w.0) w.2 in
          record {
            analysed =
                analysed status.Done h complete is
                (ap (λ fs. file_of fs extended) files ∙ other_file (with_file before extended (extension_text c)) cert extended w.0 (λ same. apart (sym same)) ∙ file_of-with_file before extended (extension_text c));
            certified =
                subst (λ o. IsSomeAnd o (λ bytes. Certifies c h.event (size_for size (length c.faults)) h.analysis bytes))
                (sym (ap (λ fs. file_of fs cert) files ∙ file_of-with_file (with_file before extended (extension_text c)) cert w.0)) w.1;
            minimal = sets_are_minimal c h.event (size_for size (length c.faults)) h.analysis is h.found.right;
          }
      by_ending (bounded k) is ends w = absurd (never_bounded k ends)

  bounded_answer : (k : ℕ) → HasAnalysed c top depth (size_for size (length c.faults)) extended cert (status.Bounded k) (Some before) (Some after) said now →
      (k ≡ depth) × IsBounded before after said now model faults top extended cert depth size
  bounded_answer k h = by_ending h.analysis.ending refl h.ends h.written h.found.ends
    where
      by_ending : (ending : Ending) → h.analysis.ending ≡ ending → status.Bounded k ≡ ended_with ending → AreWritten c h.event (size_for size (length c.faults)) h.analysis extended cert (Some before) (Some after) ending →
          EndsBy c h.event (size_for size (length c.faults)) depth h.analysis.sets ending → (k ≡ depth) × IsBounded before after said now model faults top extended cert depth size
      by_ending complete is ends w by = absurd (never_bounded k (sym ends))
      by_ending (bounded j) is ends w by =
          let files : after ≡ with_file before extended (extension_text c) = same_Some after (with_file before extended (extension_text c)) w in (
            same_bound k j ends ∙ by.0,
            record {
              analysed = analysed (status.Bounded k) h (bounded depth) (is ∙ ap bounded by.0) (ap (λ fs. file_of fs extended) files ∙ file_of-with_file before extended (extension_text c));
              chain = subst (λ n. HasChain c h.event (size_for size (length c.faults)) h.analysis.sets n) by.0 by.1;
              untouched = ap (λ fs. file_of fs cert) files ∙ other_file before extended cert (extension_text c) apart;
            },
          )

pub answers_are_the_headline : AnswersAreTheHeadline
answers_are_the_headline before after said now model faults top extended cert depth size c holds apart =
    (complete_answer before after said now model faults top extended cert depth size c holds apart, bounded_answer before after said now model faults top extended cert depth size c holds apart)
