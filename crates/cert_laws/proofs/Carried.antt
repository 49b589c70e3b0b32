-- What is right for flat traces of an extension's model is right for extended traces.
use Rattle.std.proofs.Common.{◌≡◌, ◌↔◌, ℕ, suc, ◌+◌, ◌-◌, ◌≤◌, true, List, [], ◌∷◌, map, length, Some, refl, sym, ap, ◌∙◌, subst}
use Rattle.std.specs.Prelude.{slice_get}
use Rattle.smv_language.specs.Language.{Tree, Formula, ProgramTree, Value, Valuation, May, IsTrace, FlatLeaf, FlatModel, FlatMay}
use Rattle.smv_language.specs.Values.{truth}
use Rattle.smv_flat_laws.specs.History.{Mode}
use Rattle.smv_flat_laws.specs.FlatTrace.{IsFlatTrace}
use Rattle.smv_flat_laws.specs.NameResolution.{Resolver, IsSound, IsResolved}
use Rattle.smv_type_laws.specs.Laws.{values_by_number}
use Rattle.smv_type_laws.proofs.WrittenLaws.{numbers}
use Rattle.smv_type_laws.proofs.TraceLaws.{traces_are, traces_are_those}
use Rattle.smv_type_laws.proofs.AnyResolver.{may_by}
use Rattle.fault_instructions.specs.Instructions.{InstructionTree}
use Rattle.fault_weave.specs.ExtensionTraces.{Moment, IsExtended, Reaches}
use Rattle.fault_weave.specs.Conservative.{IsCutMoment, IsCut, IsExtensionOf}
use Rattle.fault_weave.specs.Faults.{Fault}
use Rattle.fault_weave.specs.WovenProgram.{woven}
use Rattle.fault_weave.proofs.Agreement.{may_agree}
use Rattle.fault_weave.proofs.WovenNominal.{woven_extends}
use Rattle.cut_right_laws.specs.Right.{IsWithin}
use Rattle.cut_right_laws.specs.Laws.{Correspond}
use Rattle.cut_right_laws.proofs.Carried.{right_carried}
use Rattle.sat_encoding_laws.specs.FlatTraces.{ReachesTop, HasFailedNumber}
use Rattle.cert_laws.specs.ExtendedTraces.{IsModeOfFault, HasFailedFault, IsExtensionModel, IsFlatCut}
use Rattle.cert_laws.specs.Laws.{FlatTracesAreCut, AllRightIsExtended, ShortRightIsExtended}
use Rattle.cert_laws.proofs.Modes.{IsOfSlice, of_program, fails_iff}
use Rattle.smv_flat_laws.proofs.Variables.{both_at as both_left, both_at_second as both_right}
use Rattle.smv_flat_laws.proofs.Conditions.{each_at}

module _ (p : ProgramTree) (i : InstructionTree) (faults : List Fault) (top : Formula) (m : FlatModel) (fs : List Mode) (flat_top : Tree FlatLeaf) (model : IsExtensionModel p i faults top m fs flat_top) where
  extension : IsExtensionOf p i (woven p i)
  extension = woven_extends p i model.weavable

  -- what may be TRUE at a valuation's values may be so at the moment that it is cut to
  top_iff : (v : Valuation) (mo : Moment) → IsCutMoment p i v mo → FlatMay m (values_by_number m v) (values_by_number m v) flat_top (truth true) ↔ May p [] mo.read mo.read top (truth true)
  top_iff v mo cut =
      let r : (r : Resolver) × IsSound (woven p i) m model.flat.written r × IsResolved (r []) top flat_top = model.resolved model.flat in
      let flat : May (woven p i) [] v v top (truth true) ↔ FlatMay m (values_by_number m v) (values_by_number m v) flat_top (truth true) =
      may_by (woven p i) m model.flat r.0 r.1 (values_by_number m v) (values_by_number m v) v v (numbers m v) (numbers m v) [] top flat_top r.2 (truth true) in
      let read : May (woven p i) [] v v top (truth true) ↔ May p [] mo.read mo.read top (truth true) =
      may_agree p i model.weavable [] v v mo.read mo.read cut.read cut.read top (truth true) model.readable in
      ((λ h. read.0 (flat.1 h)), (λ h. flat.0 (read.1 h)))

  reaches_iff : (vs : List Valuation) (trace : List Moment) → IsCut p i vs trace → ReachesTop m flat_top (map (values_by_number m) vs) ↔ Reaches p top trace
  reaches_iff [] [] cut = ((λ h. absurd h), (λ h. absurd h))
  reaches_iff [] (mo ∷ trace) cut = absurd cut
  reaches_iff (v ∷ vs) [] cut = absurd cut
  reaches_iff (v ∷ []) (mo ∷ []) cut = top_iff v mo cut.0
  reaches_iff (v ∷ []) (mo ∷ next ∷ trace) cut = absurd cut.1
  reaches_iff (v ∷ w ∷ vs) (mo ∷ []) cut = absurd cut.1
  reaches_iff (v ∷ w ∷ vs) (mo ∷ next ∷ trace) cut = reaches_iff (w ∷ vs) (next ∷ trace) cut.1

  pub fault_of_slice : (k : ℕ) (f : Fault) → slice_get faults k ≡ Some f → IsOfSlice p i f
  fault_of_slice k f at = each_at (IsOfSlice p i) faults k f (of_program p i faults model.has_faults) at

  failed_iff : (vs : List Valuation) (trace : List Moment) → IsCut p i vs trace → (n : ℕ) → HasFailedNumber m fs (map (values_by_number m) vs) n ↔ HasFailedFault faults trace n
  failed_iff vs trace cut n = (
    (λ h. let a : (f : Fault) × (slice_get faults (n - 1) ≡ Some f) × IsModeOfFault m f h.0 = both_right (IsModeOfFault m) faults fs (n - 1) h.0 model.modes h.2 in
        (a.0, h.1, a.1, (fails_iff p i model.weavable m a.0 h.0 a.2 (fault_of_slice (n - 1) a.0 a.1) vs trace cut).0 h.3)),
    (λ h. let a : (g : Mode) × (slice_get fs (n - 1) ≡ Some g) × IsModeOfFault m h.0 g = both_left (IsModeOfFault m) faults fs (n - 1) h.0 model.modes h.2 in
        (a.0, h.1, a.1, (fails_iff p i model.weavable m h.0 a.0 a.2 (fault_of_slice (n - 1) h.0 h.2) vs trace cut).1 h.3)),
  )

  trace_iff : (vs : List Valuation) (trace : List Moment) → IsCut p i vs trace → IsFlatTrace m (map (values_by_number m) vs) ↔ IsExtended p i trace
  trace_iff vs trace cut =
      let flat : IsTrace (woven p i) vs ↔ IsFlatTrace m (map (values_by_number m) vs) = traces_are (woven p i) m model.accepted model.flat vs in
      let cuts : IsTrace (woven p i) vs ↔ IsExtended p i trace = extension.traces vs trace cut in
      ((λ h. cuts.0 (flat.1 h)), (λ h. flat.0 (cuts.1 h)))

  pub correspond : Correspond (List (List Value)) (List Moment) (IsFlatTrace m) (ReachesTop m flat_top) (HasFailedNumber m fs) (IsExtended p i) (Reaches p top) (HasFailedFault faults) (IsFlatCut p i m)
  correspond = record {
    traces = λ t u r h. (trace_iff r.0 u r.2).0 (subst (IsFlatTrace m) (sym r.1) h);
    reaching = λ t u r. subst (λ z. ReachesTop m flat_top z ↔ Reaches p top u) r.1 (reaches_iff r.0 u r.2);
    failed = λ t u r n. subst (λ z. HasFailedNumber m fs z n ↔ HasFailedFault faults u n) r.1 (failed_iff r.0 u r.2 n);
  }

  -- each extended trace is the cut of a flat one
  pub uncut : (u : List Moment) → IsExtended p i u → (t : List (List Value)) × IsFlatCut p i m t u × IsFlatTrace m t
  uncut u h =
      let w : (vs : List Valuation) × IsCut p i vs u = extension.whole u h in
      (map (values_by_number m) w.0, (w.0, refl, w.1), (trace_iff w.0 u w.1).1 h)

  pub cut_long : (vs : List Valuation) (trace : List Moment) → IsCut p i vs trace → length (map (values_by_number m) vs) ≡ length trace
  cut_long [] [] cut = refl
  cut_long [] (mo ∷ trace) cut = absurd cut
  cut_long (v ∷ vs) [] cut = absurd cut
  cut_long (v ∷ vs) (mo ∷ trace) cut = ap suc (cut_long vs trace cut.1)

  pub uncut_short : (k : ℕ) (u : List Moment) → IsWithin (IsExtended p i) k u → (t : List (List Value)) × IsFlatCut p i m t u × IsWithin (IsFlatTrace m) k t
  uncut_short k u h =
      let t : (t : List (List Value)) × IsFlatCut p i m t u × IsFlatTrace m t = uncut u h.0 in
      let long : length t.0 ≡ length u = ap length (sym t.1.1) ∙ cut_long t.1.0 u t.1.2 in
      (t.0, t.1, (t.2, subst (λ n. n ≤ k + 1) (sym long) h.1))

pub flat_traces_cut : FlatTracesAreCut
flat_traces_cut p i faults top m fs flat_top model flat h =
    let vs : (vs : List Valuation) × (map (values_by_number m) vs ≡ flat) = (traces_are_those (woven p i) m model.accepted model.flat).1 flat h in
    let is_trace : IsTrace (woven p i) vs.0 = (traces_are (woven p i) m model.accepted model.flat vs.0).1 (subst (IsFlatTrace m) (sym vs.1) h) in
    let cut : (trace : List Moment) × IsCut p i vs.0 trace = (extension p i faults top m fs flat_top model).cut vs.0 is_trace in
    (cut.0, (vs.0, vs.1, cut.1))

pub all_right_extended : AllRightIsExtended
all_right_extended p i faults top m fs flat_top model size sets flats traces both right =
    right_carried (List (List Value)) (List Moment) (IsFlatTrace m) (ReachesTop m flat_top) (HasFailedNumber m fs) (IsExtended p i) (Reaches p top) (HasFailedFault faults)
    (IsFlatCut p i m) (IsFlatTrace m) (IsExtended p i) (correspond p i faults top m fs flat_top model) (uncut p i faults top m fs flat_top model) size sets flats traces both right

pub short_right_extended : ShortRightIsExtended
short_right_extended p i faults top m fs flat_top model k size sets flats traces both right =
    right_carried (List (List Value)) (List Moment) (IsFlatTrace m) (ReachesTop m flat_top) (HasFailedNumber m fs) (IsExtended p i) (Reaches p top) (HasFailedFault faults)
    (IsFlatCut p i m) (IsWithin (IsFlatTrace m) k) (IsWithin (IsExtended p i) k) (correspond p i faults top m fs flat_top model) (uncut_short p i faults top m fs flat_top model k) size sets flats traces both right
