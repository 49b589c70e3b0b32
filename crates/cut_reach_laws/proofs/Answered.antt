-- What answers a search of the model with causes is right for caused traces.
use Rattle.std.proofs.Common.{◌≡◌, ℕ, List, [], ◌∷◌, length, map, sym, ap, ◌∙◌, subst}
use Rattle.smv_language.specs.Language.{Tree, Formula, ProgramTree, Each, FlatLeaf, FlatModel}
use Rattle.smv_flat_laws.specs.FlatTrace.{IsFlatTrace}
use Rattle.smv_flat_laws.specs.History.{Mode}
use Rattle.fault_instructions.specs.Instructions.{InstructionTree}
use Rattle.fault_weave.specs.Faults.{Fault}
use Rattle.cut_right_laws.specs.Laws.{AreBoth}
use Rattle.sat_encoding_laws.specs.FlatTraces.{ReachesTop, HasFailedNumber, IsShortTrace, IsRightFlat}
use Rattle.cert_laws.specs.ExtendedTraces.{IsExtensionModel}
use Rattle.cut_search_laws.specs.FoundSets.{Found, sets_of, traces_of, AreFound}
use Rattle.cut_search_laws.specs.Problem.{Problem}
use Rattle.cut_search_laws.specs.FlatSearch.{FlatTrace}
use Rattle.cut_search.specs.Values.{trace_of, all_found}
use Rattle.cut_search.specs.Progress.{CodeFound}
use Rattle.cut_search.specs.Answer.{IsEnd}
use Rattle.cut_search.specs.declared.answer.End.{End}
use Rattle.cut_search.specs.declared.answer.End.TheVariants.{Complete, Bounded}
use Rattle.cut_search.proofs.SearchLemmas.{sets_same}
use Rattle.fault_cause_laws.specs.Causes.{CommonCause, IsCauseOf}
use Rattle.fault_cause_laws.specs.StagedModel.{with_causes, events_of}
use Rattle.fault_cause_laws.proofs.Carried.{all_right, short_right}
use Rattle.fault_cause_laws.specs.CausedTraces.{CausedTrace, IsRightCausedExtended}
use Rattle.fault_cause_laws.proofs.Staged.{extensions_staged}
use Rattle.fault_cause_laws.proofs.CausesExtendedCarried.{all_right_caused_extended, short_right_caused_extended}
use Rattle.cut_reach_laws.specs.CausedAnalyses.{ShowsCaused, IsOfEnd, AnswersAreCaused}
use Rattle.cut_reach_laws.proofs.Shown.{shown, Parts, parts_of}
use Rattle.cut_search.proofs.TraceLaws.{traces_same}

module _ (p : ProgramTree) (i : InstructionTree) (faults : List Fault) (top : Formula) (m : FlatModel) (fs : List Mode) (flat_top : Tree FlatLeaf) (model : IsExtensionModel p i faults top m fs flat_top) (cs : List CommonCause) (are : Each (IsCauseOf (length fs)) cs) where
  abbrev staged : FlatModel
  staged = with_causes m fs cs

  abbrev events : List Mode
  events = events_of m fs cs

  -- each found trace shows a caused one
  show_all : (size : ℕ) (found : List (Found FlatTrace)) → AreFound FlatTrace (IsFlatTrace staged) (ReachesTop staged flat_top) (HasFailedNumber staged events) (length events) size found →
      (traces : List CausedTrace) × AreBoth (ShowsCaused p i m fs cs) (traces_of found) traces
  show_all size [] is = ([], tt)
  show_all size (f ∷ more) is =
      let one = shown p i faults top m fs flat_top model cs are f.trace is.0.shown.is_one in
      let rest = show_all size more is.3 in
      (one.0 ∷ rest.0, (one.1, rest.1))

  all_caused : (size : ℕ) (sets : List (List ℕ)) (longs : List FlatTrace) (traces : List CausedTrace) → AreBoth (ShowsCaused p i m fs cs) longs traces →
      IsRightFlat staged events flat_top size (IsFlatTrace staged) sets longs → IsRightCausedExtended p i faults cs top size (IsOfEnd p i faults cs (Complete [])) sets traces
  all_caused size sets longs traces both right =
      let s = extensions_staged p i faults top m fs flat_top model cs are in
      let parts : Parts p i m fs cs longs traces = parts_of p i m fs cs longs traces both in
      all_right_caused_extended p i faults top m fs flat_top model cs are size sets parts.flats traces parts.cut (all_right m fs cs s.0 flat_top s.1 size sets longs parts.flats parts.tell right)

  short_caused : (k size : ℕ) (sets : List (List ℕ)) (longs : List FlatTrace) (traces : List CausedTrace) → AreBoth (ShowsCaused p i m fs cs) longs traces →
      IsRightFlat staged events flat_top size (IsShortTrace staged k) sets longs → IsRightCausedExtended p i faults cs top size (IsOfEnd p i faults cs (Bounded k)) sets traces
  short_caused k size sets longs traces both right =
      let s = extensions_staged p i faults top m fs flat_top model cs are in
      let parts : Parts p i m fs cs longs traces = parts_of p i m fs cs longs traces both in
      short_right_caused_extended p i faults top m fs flat_top model cs are k size sets parts.flats traces parts.cut (short_right m fs cs s.0 flat_top s.1 k size sets longs parts.flats parts.tell right)

  -- the sets are right for the caused traces that the ending speaks of
  right_by : (lists : Problem) (depth size : ℕ) (found : List CodeFound) (end : End) → IsEnd (record lists { model = staged; modes = events; top = flat_top }) depth size found end →
      (traces : List CausedTrace) → AreBoth (ShowsCaused p i m fs cs) (traces_of (all_found staged.symbols found)) traces →
      IsRightCausedExtended p i faults cs top size (IsOfEnd p i faults cs end) (sets_of (all_found staged.symbols found)) traces
  right_by lists depth size found (Complete clauses) ends traces both =
      all_caused size (sets_of (all_found staged.symbols found)) (traces_of (all_found staged.symbols found)) traces both ends.1
  right_by lists depth size found (Bounded k) ends traces both =
      short_caused k size (sets_of (all_found staged.symbols found)) (traces_of (all_found staged.symbols found)) traces both ends.2

pub answers_caused : AnswersAreCaused
answers_caused p i faults top m fs flat_top model cs are lists depth size a answer =
    let n : FlatModel = with_causes m fs cs in
    let found = all_found n.symbols answer.found in
    let shows = show_all p i faults top m fs flat_top model cs are size found answer.are in
    let same : map (trace_of n.symbols) a.traces ≡ traces_of found = ap (map (trace_of n.symbols)) answer.traces ∙ traces_same n.symbols answer.found in
    let sets : a.sets ≡ sets_of found = answer.sets ∙ sym (sets_same n.symbols answer.found) in
    record {
      traces = shows.0;
      show = subst (λ longs. AreBoth (ShowsCaused p i m fs cs) longs shows.0) (sym same) shows.1;
      right =
          subst (λ s. IsRightCausedExtended p i faults cs top size (IsOfEnd p i faults cs a.end) s shows.0) (sym sets)
          (right_by p i faults top m fs flat_top model cs are lists depth size answer.found a.end answer.ends shows.0 shows.1);
    }
