-- An answer for the flat model of an extension is an analysis of the extension.
use Rattle.std.proofs.Common.{◌≡◌, ◌↔◌, ℕ, zero, suc, Bool, true, List, [], ◌∷◌, map, length, Some, sym, ap, ◌∙◌, subst}
use Rattle.std.specs.Prelude.{slice_get}
use Rattle.smv_language.specs.ProgramTree.{Formula, ProgramTree}
use Rattle.smv_flat_laws.specs.FlatTrace.{IsFlatTrace}
use Rattle.fault_instructions.specs.Instructions.{InstructionTree}
use Rattle.fault_weave.specs.Faults.{Fault}
use Rattle.fault_weave.specs.ExtensionTraces.{Moment, IsExtended}
use Rattle.cut_right_laws.specs.Laws.{AreBoth}
use Rattle.sat_encoding_laws.specs.FlatTraces.{ReachesTop, HasFailedNumber}
use Rattle.cut_search_laws.specs.FoundSets.{Found, sets_of, traces_of, AreFound}
use Rattle.cut_search_laws.specs.Problem.{Problem}
use Rattle.cut_search_laws.specs.FlatSearch.{FlatTrace}
use Rattle.cert_laws.specs.ExtendedTraces.{IsExtensionModel, IsFlatCut, IsRightExtended}
use Rattle.cert_laws.proofs.Carried.{correspond, uncut, flat_traces_cut, all_right_extended, short_right_extended}
use Rattle.cut_report_laws.specs.ExtendedTraces.{IsOfClass, IsAnalysisOf}
use Rattle.cut_search.specs.declared.answer.Analysis.{Analysis}
use Rattle.cut_search.specs.declared.answer.End.{End}
use Rattle.cut_search.specs.declared.answer.End.TheVariants.{Complete, Bounded}
use Rattle.cut_search.specs.Values.{trace_of, all_found}
use Rattle.cut_search.specs.Progress.{CodeFound, HasChainFor}
use Rattle.cut_search.specs.Answer.{IsEnd, IsAnswer}
use Rattle.cut_search.proofs.SearchLemmas.{sets_same}
use Rattle.cut_report_laws.specs.SearchAnswer.{ending_of, analysis_of, EndsBy}
use Rattle.cut_report_laws.specs.Laws.{AnswersAreAnalyses}
use Rattle.cut_right_laws.proofs.Places.{both_long}
use Rattle.cut_search.proofs.TraceLaws.{traces_same}

-- two lists whose members are related, by place
both_at : {A B : Type 0} (R : A → B → Type 0) (xs : List A) (ys : List B) (k : ℕ) (x : A) (y : B) → AreBoth R xs ys → slice_get xs k ≡ Some x → slice_get ys k ≡ Some y → R x y
both_at R [] ys k x y h e g = cc
both_at R (a ∷ xs) [] k x y h e g = absurd h
both_at {A = A} {B = B} R (a ∷ xs) (b ∷ ys) zero x y h e g = subst (R x) (same {X = B} b y g) (subst (λ z. R z b) (same {X = A} a x e) h.0)
  where
    same : {X : Type 0} (a x : X) → Some a ≡ Some x → a ≡ x
    same a x e = cc
both_at R (a ∷ xs) (b ∷ ys) (suc k) x y h e g = both_at R xs ys k x y h.1 e g

module _ (p : ProgramTree) (i : InstructionTree) (faults : List Fault) (top : Formula) (problem : Problem) (model : IsExtensionModel p i faults top problem.model problem.modes problem.top) where
  open problem use {model as m, modes as fs, top as flat_top}

  -- each found trace is cut to an extended one
  cut_all : (size : ℕ) (found : List (Found FlatTrace)) → AreFound FlatTrace (IsFlatTrace m) (ReachesTop m flat_top) (HasFailedNumber m fs) (length fs) size found →
      (traces : List (List Moment)) × AreBoth (IsFlatCut p i m) (traces_of found) traces
  cut_all size [] are = ([], tt)
  cut_all size (f ∷ more) are =
      let one = flat_traces_cut p i faults top m fs flat_top model f.trace are.0.shown.is_one in
      let rest = cut_all size more are.3 in
      (one.0 ∷ rest.0, (one.1, rest.1))

  -- there is an extended trace exactly where there is a flat one
  some_extended : (first : Bool) → ((first ≡ true) ↔ ((trace : FlatTrace) × IsFlatTrace m trace)) → ((first ≡ true) ↔ ((trace : List Moment) × IsExtended p i trace))
  some_extended first tells = (
    (λ e. let flat = tells.0 e in
        let cut = flat_traces_cut p i faults top m fs flat_top model flat.0 flat.1 in
        (cut.0, (correspond p i faults top m fs flat_top model).traces flat.0 cut.0 cut.1 flat.1)),
    (λ h. let flat = uncut p i faults top m fs flat_top model h.0 h.1 in tells.1 (flat.0, flat.2)),
  )

  -- the sets are right for the extended traces that the ending speaks of
  right_by : (depth size : ℕ) (found : List CodeFound) (end : End) → IsEnd problem depth size found end → (traces : List (List Moment)) →
      AreBoth (IsFlatCut p i m) (traces_of (all_found m.symbols found)) traces →
      IsRightExtended p i faults top size (IsOfClass p i (ending_of end)) (sets_of (all_found m.symbols found)) traces
  right_by depth size found (Complete clauses) ends traces both =
      all_right_extended p i faults top m fs flat_top model size (sets_of (all_found m.symbols found)) (traces_of (all_found m.symbols found)) traces both ends.1
  right_by depth size found (Bounded k) ends traces both =
      short_right_extended p i faults top m fs flat_top model k size (sets_of (all_found m.symbols found)) (traces_of (all_found m.symbols found)) traces both ends.2

  ends_by : (depth size : ℕ) (found : List CodeFound) (end : End) (sets : List (List ℕ)) → sets ≡ sets_of found → IsEnd problem depth size found end →
      EndsBy problem depth size sets (ending_of end)
  ends_by depth size found (Complete clauses) sets e ends = tt
  ends_by depth size found (Bounded k) sets e ends = (ends.0, subst (λ s. HasChainFor problem size s k) (sym e) ends.1)

  is_analysis : (depth size : ℕ) (a : Analysis) → IsAnswer problem depth size a → IsAnalysisOf p i faults m top size (analysis_of m.symbols a)
  is_analysis depth size a answer =
      let cut = cut_all size (all_found m.symbols answer.found) answer.are in
      let shown : map (trace_of m.symbols) a.traces ≡ traces_of (all_found m.symbols answer.found) = ap (map (trace_of m.symbols)) answer.traces ∙ traces_same m.symbols answer.found in
      let both : AreBoth (IsFlatCut p i m) (map (trace_of m.symbols) a.traces) cut.0 = subst (λ flats. AreBoth (IsFlatCut p i m) flats cut.0) (sym shown) cut.1 in
      let sets : a.sets ≡ sets_of (all_found m.symbols answer.found) = answer.sets ∙ sym (sets_same m.symbols answer.found) in
      record {
        traces = cut.0;
        right = subst (λ s. IsRightExtended p i faults top size (IsOfClass p i (ending_of a.end)) s cut.0) (sym sets) (right_by depth size answer.found a.end answer.ends cut.0 cut.1);
        values = λ k values trace e g. both_at (IsFlatCut p i m) (map (trace_of m.symbols) a.traces) cut.0 k values trace both e g;
        one_each = both_long (IsFlatCut p i m) (map (trace_of m.symbols) a.traces) cut.0 both;
        in_order = answer.in_order;
        rising = answer.rising;
        first_exists = some_extended a.first answer.first;
      }

pub answers_are_analyses : AnswersAreAnalyses
answers_are_analyses p i faults top problem model depth size a answer = (
  is_analysis p i faults top problem model depth size a answer,
  ends_by p i faults top problem model depth size answer.found a.end a.sets answer.sets answer.ends,
)
