-- A flat caused trace corresponds to the caused trace that it is cut to.
use Rattle.std.proofs.Common.{◌≡◌, ℕ, ◌+◌, ◌-◌, ◌≤◌, true, List, length, map, Option, Some, None, refl, ap, ◌∙◌, sym, subst, arith}
use Rattle.std.specs.Prelude.{slice_get, IsTrue, ◌↔◌}
use Rattle.smv_language.specs.Language.{Tree, Formula, ProgramTree, Value, Valuation, Each, FlatLeaf, FlatModel}
use Rattle.smv_flat_laws.specs.History.{Mode}
use Rattle.smv_flat_laws.specs.FlatTrace.{IsFlatTrace, stands}
use Rattle.smv_type_laws.specs.Laws.{values_by_number}
use Rattle.fault_instructions.specs.Instructions.{InstructionTree}
use Rattle.fault_weave.specs.ExtensionTraces.{Moment, IsExtended, Reaches}
use Rattle.fault_weave.specs.Conservative.{IsCutMoment, IsCut}
use Rattle.fault_weave.specs.Faults.{Fault}
use Rattle.cut_right_laws.specs.Laws.{Correspond}
use Rattle.cut_right_laws.proofs.Carried.{right_carried}
use Rattle.sat_encoding_laws.specs.FlatTraces.{ReachesTop, HasFailedNumber}
use Rattle.cert_laws.specs.ExtendedTraces.{IsExtensionModel, IsModeOfFault, IsFlatCut, HasFailedFault}
use Rattle.cert_laws.proofs.Modes.{stands_iff}
use Rattle.cert_laws.proofs.Carried.{fault_of_slice, cut_long, correspond, uncut}
use Rattle.fault_cause_laws.specs.Causes.{CommonCause, IsCauseOf}
use Rattle.fault_cause_laws.specs.CausedEvents.{AreCaused, HasHappened}
use Rattle.fault_cause_laws.specs.StagedModel.{mode_of}
use Rattle.fault_cause_laws.specs.StagedValues.{stands_there}
use Rattle.fault_cause_laws.specs.Laws.{StandsAt}
use Rattle.fault_cause_laws.proofs.StagedTraces.{mode_there}
use Rattle.fault_cause_laws.specs.CausesRightLaws.{Caused, IsCaused, IsShortCaused, CausedReaches, EventHappened}
use Rattle.fault_cause_laws.specs.CausedTraces.{CausedTrace, FaultStandsAt, IsCausedExtended, IsShortCausedExtended, CausedReachesTop, HasEvent}
use Rattle.fault_cause_laws.specs.CausesExtendedLaws.{IsCausedCut, AllRightIsCausedExtended, ShortRightIsCausedExtended}
use Rattle.fault_cause_laws.proofs.Alike.{AreAlike, caused_alike, happened_alike}
use Rattle.smv_flat_laws.proofs.Variables.{both_at as both_left, both_at_second as both_right}
use Rattle.smv_language.proofs.ListLaws.{get_mapped, get_map}
use Rattle.smv_flat_laws.proofs.BothLaws.{both_size}

module _ (p : ProgramTree) (i : InstructionTree) (faults : List Fault) (top : Formula) (m : FlatModel) (fs : List Mode) (flat_top : Tree FlatLeaf) (model : IsExtensionModel p i faults top m fs flat_top) where
  many : length faults ≡ length fs
  many = both_size (IsModeOfFault m) faults fs model.modes

  -- a mode stands at a moment of a flat trace exactly where its fault stands at that of its cut
  stand_alike : (vs : List Valuation) (trace : List Moment) → IsCut p i vs trace → AreAlike (length fs) (StandsAt m fs (map (values_by_number m) vs)) (FaultStandsAt faults trace)
  stand_alike vs trace cut k n low high =
      let mode_at : slice_get fs (n - 1) ≡ Some (mode_of fs n) = mode_there fs (n - 1) (record { variable = 0; symbol = 0 }) (omega arith) in
      let fault : (f : Fault) × (slice_get faults (n - 1) ≡ Some f) × IsModeOfFault m f (mode_of fs n) = both_right (IsModeOfFault m) faults fs (n - 1) (mode_of fs n) model.modes mode_at in
      (to_fault fault.0 fault.1 fault.2 (slice_get (map (values_by_number m) vs) k) refl, from_fault fault.0 fault.1 fault.2)
    where
      to_fault : (f : Fault) → slice_get faults (n - 1) ≡ Some f → IsModeOfFault m f (mode_of fs n) → (o : Option (List Value)) → slice_get (map (values_by_number m) vs) k ≡ o → IsTrue (stands_there m (mode_of fs n) o) → FaultStandsAt faults trace k n
      to_fault f at is None e h = cc
      to_fault f at is (Some u) e h =
          let v : (v : Valuation) × (slice_get vs k ≡ Some v) × (values_by_number m v ≡ u) = get_mapped (values_by_number m) vs k u e in
          let mo : (mo : Moment) × (slice_get trace k ≡ Some mo) × IsCutMoment p i v.0 mo = both_left (IsCutMoment p i) vs trace k v.0 cut v.1 in
          (f, low, at, (mo.0, mo.1, (stands_iff p i model.weavable m f (mode_of fs n) is (fault_of_slice p i faults top m fs flat_top model (n - 1) f at) v.0 mo.0 mo.2).0 (subst (λ x. stands m (mode_of fs n) x ≡ true) (sym v.2) h)))

      from_fault : (f : Fault) → slice_get faults (n - 1) ≡ Some f → IsModeOfFault m f (mode_of fs n) → FaultStandsAt faults trace k n → StandsAt m fs (map (values_by_number m) vs) k n
      from_fault f at is h =
          let same : h.0 ≡ f = inner h.0 f (sym h.2 ∙ at) in
          let v : (v : Valuation) × (slice_get vs k ≡ Some v) × IsCutMoment p i v h.3.0 = both_right (IsCutMoment p i) vs trace k h.3.0 cut h.3.1 in
          let stands_now : stands m (mode_of fs n) (values_by_number m v.0) ≡ true =
          (stands_iff p i model.weavable m f (mode_of fs n) is (fault_of_slice p i faults top m fs flat_top model (n - 1) f at) v.0 h.3.0 v.2).1 (subst (λ (z : Fault). h.3.0.mode z.place z.slice ≡ Some z.mode) same h.3.2) in
          ap (stands_there m (mode_of fs n)) (get_map (values_by_number m) vs k v.0 v.1) ∙ stands_now
        where
          inner : (a b : Fault) → Some a ≡ Some b → a ≡ b
          inner a b e = cc

  module _ (cs : List CommonCause) (are : Each (IsCauseOf (length fs)) cs) where
    flat_long : (t : List (List Value)) (u : List Moment) → IsFlatCut p i m t u → length t ≡ length u
    flat_long t u r = ap length (sym r.1) ∙ cut_long p i faults top m fs flat_top model r.0 u r.2

    alike : (t : List (List Value)) (u : List Moment) → IsFlatCut p i m t u → AreAlike (length fs) (StandsAt m fs t) (FaultStandsAt faults u)
    alike t u r = subst (λ z. AreAlike (length fs) (StandsAt m fs z) (FaultStandsAt faults u)) r.1 (stand_alike r.0 u r.2)

    turned : (t : List (List Value)) (u : List Moment) → IsFlatCut p i m t u → AreAlike (length fs) (FaultStandsAt faults u) (StandsAt m fs t)
    turned t u r k n low high = let x : StandsAt m fs t k n ↔ FaultStandsAt faults u k n = alike t u r k n low high in (x.1, x.0)

    base : Correspond (List (List Value)) (List Moment) (IsFlatTrace m) (ReachesTop m flat_top) (HasFailedNumber m fs) (IsExtended p i) (Reaches p top) (HasFailedFault faults) (IsFlatCut p i m)
    base = correspond p i faults top m fs flat_top model

    is_caused : (t : Caused) (u : CausedTrace) → IsCausedCut p i m t u → IsCaused m fs cs t → IsCausedExtended p i faults cs u
    is_caused t u r h =
        record {
          is_trace = base.traces t.0 u.0 r.0 h.is_trace;
          caused =
              subst (λ n. AreCaused n (FaultStandsAt faults u.0) cs u.1) (flat_long t.0 u.0 r.0)
              (subst (λ ts. AreCaused (length t.0) (FaultStandsAt faults u.0) cs ts) r.1
              (caused_alike (length fs) (length t.0) (StandsAt m fs t.0) (FaultStandsAt faults u.0) (λ k n low high s. (alike t.0 u.0 r.0 k n low high).0 s) cs t.1 are h.caused));
        }

    events_alike : (t : Caused) (u : CausedTrace) → IsCausedCut p i m t u → (n : ℕ) → EventHappened m fs cs t n ↔ HasEvent p i faults cs u n
    events_alike t u r n =
        subst (λ z. EventHappened m fs cs t n ↔ HasHappened (length u.0) (FaultStandsAt faults u.0) z cs u.1 n) (sym many)
        (subst (λ z. EventHappened m fs cs t n ↔ HasHappened z (FaultStandsAt faults u.0) (length fs) cs u.1 n) (flat_long t.0 u.0 r.0)
        (subst (λ ts. EventHappened m fs cs t n ↔ HasHappened (length t.0) (FaultStandsAt faults u.0) (length fs) cs ts n) r.1 (
          happened_alike (length fs) (length t.0) (StandsAt m fs t.0) (FaultStandsAt faults u.0) (alike t.0 u.0 r.0) cs t.1 n,
          happened_alike (length fs) (length t.0) (FaultStandsAt faults u.0) (StandsAt m fs t.0) (turned t.0 u.0 r.0) cs t.1 n,
        )))

    caused_correspond : Correspond Caused CausedTrace (IsCaused m fs cs) (CausedReaches m fs cs flat_top) (EventHappened m fs cs) (IsCausedExtended p i faults cs) (CausedReachesTop p i faults cs top) (HasEvent p i faults cs) (IsCausedCut p i m)
    caused_correspond = record { traces = is_caused; reaching = λ t u r. base.reaching t.0 u.0 r.0; failed = events_alike }

    -- each caused trace is the cut of a flat one
    caused_uncut : (u : CausedTrace) → IsCausedExtended p i faults cs u → (t : Caused) × IsCausedCut p i m t u × IsCaused m fs cs t
    caused_uncut u h =
        let t : (t : List (List Value)) × IsFlatCut p i m t u.0 × IsFlatTrace m t = uncut p i faults top m fs flat_top model u.0 h.is_trace in (
          (t.0, u.1),
          (t.1, refl),
          record {
            is_trace = t.2;
            caused =
                subst (λ n. AreCaused n (StandsAt m fs t.0) cs u.1) (sym (flat_long t.0 u.0 t.1))
                (caused_alike (length fs) (length u.0) (FaultStandsAt faults u.0) (StandsAt m fs t.0) (λ k n low high s. (alike t.0 u.0 t.1 k n low high).1 s) cs u.1 are h.caused);
          },
        )

    short_uncut : (k : ℕ) (u : CausedTrace) → IsShortCausedExtended p i faults cs k u → (t : Caused) × IsCausedCut p i m t u × IsShortCaused m fs cs k t
    short_uncut k u h =
        let t : (t : Caused) × IsCausedCut p i m t u × IsCaused m fs cs t = caused_uncut u h.0 in
        (t.0, t.1, (t.2, subst (λ n. n ≤ k + 1) (sym (flat_long t.0.0 u.0 t.1.0)) h.1))

pub all_right_caused_extended : AllRightIsCausedExtended
all_right_caused_extended p i faults top m fs flat_top model cs are size sets flats traces both right =
    right_carried Caused CausedTrace (IsCaused m fs cs) (CausedReaches m fs cs flat_top) (EventHappened m fs cs) (IsCausedExtended p i faults cs) (CausedReachesTop p i faults cs top) (HasEvent p i faults cs) (IsCausedCut p i m)
    (IsCaused m fs cs) (IsCausedExtended p i faults cs) (caused_correspond p i faults top m fs flat_top model cs are) (caused_uncut p i faults top m fs flat_top model cs are) size sets flats traces both right

pub short_right_caused_extended : ShortRightIsCausedExtended
short_right_caused_extended p i faults top m fs flat_top model cs are k size sets flats traces both right =
    right_carried Caused CausedTrace (IsCaused m fs cs) (CausedReaches m fs cs flat_top) (EventHappened m fs cs) (IsCausedExtended p i faults cs) (CausedReachesTop p i faults cs top) (HasEvent p i faults cs) (IsCausedCut p i m)
    (IsShortCaused m fs cs k) (IsShortCausedExtended p i faults cs k) (caused_correspond p i faults top m fs flat_top model cs are) (short_uncut p i faults top m fs flat_top model cs are k) size sets flats traces both right
