-- From the parts of the work on bounds to what it comes to.
use Rattle.std.proofs.Common.{◌≡◌, sym, ℕ, List, Option, Some, None, IfSome, length, subst, ap, ◌∙◌}
use Rattle.base_files.specs.declared.files.NamedFile.{NamedFile}
use Rattle.base_files.specs.Desk.{said_more, SaysPrefix}
use Rattle.smv_language.specs.ProgramTree.{Text, ProgramTree}
use Rattle.fault_odds.specs.Marks.{HasProbabilities}
use Rattle.verb_loading.specs.declared.status.Refusal.{Refusal}
use Rattle.verb_loading.specs.declared.status.Refusal.TheVariants as refusal
use Rattle.verb_loading.specs.declared.status.InputFault.{InputFault}
use Rattle.verb_loading.specs.Inputs.{RefusesModel, HoldsModel, RefusesFaults}
use Rattle.verb_loading.specs.Cases.{Case, HoldsCase, IsTopWord, IsWrongWord}
use Rattle.cut_model_search.specs.CaseAnalysis.{IsFound, EndsBy}
use Rattle.verb_loading.specs.CaseAnswers.{Said}
use Rattle.verb_loading.specs.LoadedEvents.{case_in}
use Rattle.verb_loading.specs.declared.status.Status.{Status}
use Rattle.verb_loading.specs.declared.status.Status.TheVariants as status
use Rattle.verb_odds.specs.declared.odds.MarkedCase.{MarkedCase}
use Rattle.verb_odds.specs.declared.odds.FoundOdds.{FoundOdds}
use Rattle.cut_text_laws.specs.Analysis.{told_ending, Ending, complete, bounded}
use Rattle.verb_loading.specs.Statuses.{ended_with, IsBoundedAt}
use Rattle.verb_odds.specs.Odds.{RefusesOdds, at_model, at_faults, at_mark, at_top, RefusesMark, IsMarked, IsOddsFinding, FindsOdds, HasOdds, SaysOddsInPart}

module _ (model faults top : Text) where
  pub odds_no_model : (told : Option (List NamedFile)) (r : Refusal) → IfSome told (λ files. RefusesModel files model r) →
      IfSome told (λ files. RefusesOdds files model faults top r)
  odds_no_model None r bad = tt
  odds_no_model (Some files) r bad = at_model bad

  pub odds_no_faults : (told mid : Option (List NamedFile)) (p : ProgramTree) (r : Refusal) → mid ≡ told → IfSome told (λ files. HoldsModel files model p) →
      IfSome mid (λ files. RefusesFaults files faults p r) → IfSome told (λ files. RefusesOdds files model faults top r)
  odds_no_faults told mid p r same holds bad = at_told told holds (subst (λ t. IfSome t (λ files. RefusesFaults files faults p r)) same bad) where
    at_told : (t : Option (List NamedFile)) → IfSome t (λ files. HoldsModel files model p) → IfSome t (λ files. RefusesFaults files faults p r) →
        IfSome t (λ files. RefusesOdds files model faults top r)
    at_told None holds bad = tt
    at_told (Some files) holds bad = at_faults p holds bad

  pub odds_no_mark : (told : Option (List NamedFile)) (c : Case) (r : Refusal) → IfSome told (λ files. HoldsCase files model faults c) → RefusesMark c r →
      IfSome told (λ files. RefusesOdds files model faults top r)
  odds_no_mark None c r holds wrong = tt
  odds_no_mark (Some files) c r holds wrong = at_mark c wrong.0 wrong.1 wrong.2 holds wrong.3

  pub odds_no_top : (told : Option (List NamedFile)) (c : Case) (r : Refusal) → IfSome told (λ files. HoldsCase files model faults c) →
      HasProbabilities c.instructions → (fault : InputFault) × (r ≡ refusal.Top fault) × IsWrongWord c.program top fault → IfSome told (λ files. RefusesOdds files model faults top r)
  odds_no_top None c r holds all wrong = tt
  odds_no_top (Some files) c r holds all wrong = at_top c wrong.0 wrong.1 holds all wrong.2

  -- what was found of a case that the files hold
  pub finds_odds : (told : Option (List NamedFile)) (l : MarkedCase) (depth : ℕ) (f : FoundOdds) → IfSome told (λ files. HoldsCase files model faults (case_in l.loaded)) → IsMarked l →
      (l.word.now ≡ top) × (l.depth ≡ depth) → IsOddsFinding (case_in l.loaded) l.word.now l.depth l.odds f → IfSome told (λ files. FindsOdds files model faults top depth f)
  finds_odds None l depth f holds marked asked found = tt
  finds_odds (Some files) l depth f holds marked asked found =
      record {
        analysis = found.analysis;
        answer = record {
          c = case_in l.loaded;
          holds = holds;
          all = marked.all;
          event = found.event;
          is_event = subst (λ (w : Text). IsTopWord (case_in l.loaded).program w found.event) asked.0 found.is_event;
          odds = l.odds;
          are_odds = marked.odds;
          found = subst (λ (k : ℕ). IsFound (case_in l.loaded) found.event (length (case_in l.loaded).faults) k found.analysis) asked.1 found.found;
          bounded = found.bounded;
          reports = found.reported;
        };
        ends = found.ends;
      }

  -- and said
  pub has_odds : (told : Option (List NamedFile)) (depth : ℕ) (f : FoundOdds) (s : Status) (said now : Said) → IfSome told (λ files. FindsOdds files model faults top depth f) →
      s ≡ ended_with (told_ending f.ending) → now ≡ said_more said f.report → IfSome told (λ files. HasOdds files model faults top depth s said now)
  has_odds None depth f s said now found ends says = tt
  has_odds (Some files) depth f s said now found ends says =
      record { analysis = found.analysis; report = f.report; answer = found.answer; ends = ends ∙ ap ended_with found.ends; reported = says }

  -- or a beginning of it
  pub odds_in_part : (told : Option (List NamedFile)) (depth : ℕ) (f : FoundOdds) (said now : Said) → IfSome told (λ files. FindsOdds files model faults top depth f) → SaysPrefix said now f.report →
      IfSome told (λ files. SaysOddsInPart files model faults top depth said now)
  odds_in_part None depth f said now found says = tt
  odds_in_part (Some files) depth f said now found says = record { analysis = found.analysis; report = f.report; answer = found.answer; part = says }

-- a search is bounded by its depth alone
pub found_within : (c : Case) (word : Text) (depth : ℕ) (odds : List ℕ) (f : FoundOdds) → IsOddsFinding c word depth odds f → IsBoundedAt depth (ended_with (told_ending f.ending))
found_within c word depth odds f h k is = by_ending h.analysis.ending h.found.ends (sym (ap ended_with h.ends) ∙ is)
  where
    none : status.Done ≡ status.Bounded k → k ≡ depth
    none e = cc

    same : (j : ℕ) → status.Bounded j ≡ status.Bounded k → k ≡ j
    same j e = cc

    by_ending : (ending : Ending) → EndsBy c h.event (length c.faults) depth h.analysis.sets ending → ended_with ending ≡ status.Bounded k → k ≡ depth
    by_ending complete ends e = none e
    by_ending (bounded j) ends e = same j e ∙ ends.0
