-- From no staged trace against a claim to the relation of each extended trace.
use Rattle.std.proofs.Common.{◌≡◌, ℕ, suc, ◌-◌, Bool, true, List, [], length, map, Option, Some, None, refl, ap, ◌∙◌, sym, subst, arith, ◌⊎◌, inl, inr}
use Rattle.std.specs.Prelude.{slice_get, IsTrue}
use Rattle.std.proofs.lemmas.Bool.Decides.{leb_tells}
use Rattle.smv_language.specs.Language.{Tree, Formula, ProgramTree, Value, Valuation, Each, FlatLeaf, FlatModel}
use Rattle.smv_flat_laws.specs.History.{Mode}
use Rattle.smv_flat_laws.specs.FlatTrace.{IsFlatTrace, stands, stands_in_some, told_from}
use Rattle.smv_flat_laws.specs.NameResolution.{leaves_in}
use Rattle.smv_type_laws.specs.Laws.{values_by_number}
use Rattle.fault_instructions.specs.Instructions.{InstructionTree}
use Rattle.fault_weave.specs.ExtensionTraces.{Moment, IsExtended, Reaches}
use Rattle.fault_weave.specs.Conservative.{IsCutMoment, IsCut}
use Rattle.fault_weave.specs.Faults.{Fault}
use Rattle.cut_right_laws.specs.Right.{HasFailedExactly}
use Rattle.cut_right_laws.specs.Sets.{has_number}
use Rattle.cut_right_laws.specs.Laws.{Correspond}
use Rattle.sat_encoding_laws.specs.FlatTraces.{ReachesTop, HasFailedNumber}
use Rattle.sat_encoding_laws.proofs.SetLaws.{has_contains}
use Rattle.cert_laws.specs.ExtendedTraces.{IsExtensionModel, IsModeOfFault, IsFlatCut, HasFailedFault}
use Rattle.cert_laws.proofs.Modes.{stands_iff}
use Rattle.cert_laws.proofs.Carried.{fault_of_slice, cut_long, correspond, uncut}
use Rattle.fault_cause_laws.specs.Additions.{IsKnownName}
use Rattle.fault_cause_laws.specs.Columns.{with_value}
use Rattle.fault_cause_laws.proofs.Columns.{with_values_length}
use Rattle.fault_cause_laws.specs.Laws.{AreStaged}
use Rattle.fault_cause_laws.proofs.Staged.{extensions_staged}
use Rattle.fault_orders.specs.declared.Relation.{Relation}
use Rattle.fault_orders.specs.declared.Relation.TheVariants.{Before, After, Together}
use Rattle.fault_orders.specs.Relations.{BeginsAt, Stands, HasRelation}
use Rattle.fault_orders.specs.RelationValues.{order_value, ordered_told}
use Rattle.fault_orders.specs.Laws.{SpeaksAgainst}
use Rattle.fault_orders.proofs.Ordered.{orders_told}
use Rattle.fault_orders.proofs.Begins.{Stood, begins_somewhere, begins_once}
use Rattle.fault_orders.proofs.Speaking.{against_exactly}
use Rattle.cut_reach_laws.specs.OrdersExtendedLaws.{FaultStands, IsAsked, NoneAgainst, IsSuch}
use Rattle.std.proofs.lemmas.Option.{same_Some as same_some}
use Rattle.smv_flat_laws.proofs.Variables.{both_at as both_left, both_at_second as both_right}
use Rattle.smv_language.proofs.ListLaws.{get_mapped, get_map}
use Rattle.smv_flat_laws.proofs.HistoryLaws.{length_told}

-- two numbers stand in some relation, whichever is asked
related : (r : Relation) (j k : ℕ) → Stands (List Value) r j k ⊎ (Stands (List Value) r j k → ⊥)
related Before j k = elim (leb_tells (suc j) k) [ inl h ↦ inl h.1 | inr h ↦ inr (λ l. omega (arith, h.1, l)) ]
related After j k = elim (leb_tells (suc k) j) [ inl h ↦ inl h.1 | inr h ↦ inr (λ l. omega (arith, h.1, l)) ]
related Together j k = elim (leb_tells (suc j) k) [ inl h ↦ inr (λ e. omega (arith, h.1, e)) | inr h ↦ elim (leb_tells (suc k) j) [ inl g ↦ inr (λ e. omega (arith, g.1, e)) | inr g ↦ inl (omega (arith, h.1, g.1)) ] ]

-- it is the same relation over other moments
pub moved : (r : Relation) (j k : ℕ) → Stands (List Value) r j k → Stands Moment r j k
moved Before j k h = h
moved After j k h = h
moved Together j k h = h

module _ (p : ProgramTree) (i : InstructionTree) (faults : List Fault) (top : Formula) (m : FlatModel) (fs : List Mode) (flat_top : Tree FlatLeaf) (model : IsExtensionModel p i faults top m fs flat_top) where
  pub staged_facts : AreStaged m fs [] × Each (IsKnownName (length m.variables) (length m.symbols)) (leaves_in flat_top)
  staged_facts = extensions_staged p i faults top m fs flat_top model [] tt

  -- a mode begins in a flat trace where its fault begins in the cut
  pub begins_cut : (vs : List Valuation) (trace : List Moment) → IsCut p i vs trace → (k : ℕ) (fault : Fault) (mode : Mode) → slice_get faults k ≡ Some fault → IsModeOfFault m fault mode → (j : ℕ) →
      BeginsAt (List Value) (Stood m mode) (map (values_by_number m) vs) j → BeginsAt Moment (FaultStands fault) trace j
  begins_cut vs trace cut k fault mode at is j b =
      let v : (v : Valuation) × (slice_get vs j ≡ Some v) × (values_by_number m v ≡ b.moment) = get_mapped (values_by_number m) vs j b.moment b.there in
      let mo : (mo : Moment) × (slice_get trace j ≡ Some mo) × IsCutMoment p i v.0 mo = both_left (IsCutMoment p i) vs trace j v.0 cut v.1 in
      record {
        moment = mo.0;
        there = mo.1;
        holds = (stands_iff p i model.weavable m fault mode is (fault_of_slice p i faults top m fs flat_top model k fault at) v.0 mo.0 mo.2).0 (subst (λ x. stands m mode x ≡ true) (sym v.2) b.holds);
        none_before = λ n other l there fact.
            let w : (w : Valuation) × (slice_get vs n ≡ Some w) × IsCutMoment p i w other = both_right (IsCutMoment p i) vs trace n other cut there in
            b.none_before n (values_by_number m w.0) l (get_map (values_by_number m) vs n w.0 w.1)
            ((stands_iff p i model.weavable m fault mode is (fault_of_slice p i faults top m fs flat_top model k fault at) w.0 other w.2).1 fact);
      }

  base : Correspond (List (List Value)) (List Moment) (IsFlatTrace m) (ReachesTop m flat_top) (HasFailedNumber m fs) (IsExtended p i) (Reaches p top) (HasFailedFault faults) (IsFlatCut p i m)
  base = correspond p i faults top m fs flat_top model

  module _ (set : List ℕ) (first second : ℕ) (f g : Mode) (one other : Fault) (asked : IsAsked faults m fs flat_top set first second f g one other) where
    told_length : (t : List (List Value)) → length (ordered_told m fs f g t) ≡ length t
    told_length t =
        with_values_length (order_value m g f t) 0 (with_value (order_value m f g t) (told_from m fs [] t)) ∙ with_values_length (order_value m f g t) 0 (told_from m fs [] t) ∙ length_told m fs [] t

    -- the trace does not speak against the claim
    not_against : (class : ℕ → Bool) (claim : Option Relation) → NoneAgainst m fs first second flat_top set claim class → (t : List (List Value)) → IsFlatTrace m t → IsTrue (class (length t)) → SpeaksAgainst m fs flat_top set f g claim t → ⊥
    not_against class claim none t is short s =
        none (ordered_told m fs f g t) ((orders_told m fs first second f g staged_facts.0.knows staged_facts.0.modes asked.pair (ordered_told m fs f g t)).1 (t, is, refl))
        (subst (λ n. IsTrue (class n)) (sym (told_length t)) short)
        ((against_exactly m fs first second f g staged_facts.0.knows asked.pair flat_top staged_facts.1 asked.truth set asked.numbered asked.first_in asked.second_in claim t is).1 s)

    pub exactly_flat : (t : List (List Value)) (trace : List Moment) → IsFlatCut p i m t trace → HasFailedExactly (List Moment) (IsExtended p i) (Reaches p top) (HasFailedFault faults) trace set →
        HasFailedExactly (List (List Value)) (IsFlatTrace m) (ReachesTop m flat_top) (HasFailedNumber m fs) t set
    exactly_flat t trace r h n = ((λ x. (h n).0 ((base.failed t trace r n).0 x)), (λ c. (base.failed t trace r n).1 ((h n).1 c)))

    pub stood_of : (t : List (List Value)) → HasFailedExactly (List (List Value)) (IsFlatTrace m) (ReachesTop m flat_top) (HasFailedNumber m fs) t set → (n : ℕ) (mode : Mode) → slice_get fs (n - 1) ≡ Some mode → IsTrue (has_number set n) → stands_in_some m mode t ≡ true
    stood_of t h n mode at has =
        let x : HasFailedNumber m fs t n = (h n).1 (has_contains set n has) in
        let same : x.0 ≡ mode = same_some x.0 mode (sym x.2 ∙ at) in
        subst (λ (z : Mode). stands_in_some m z t ≡ true) same x.3

    pub mode_one : IsModeOfFault m one f
    mode_one =
        let a : (y : Mode) × (slice_get fs (first - 1) ≡ Some y) × IsModeOfFault m one y = both_left (IsModeOfFault m) faults fs (first - 1) one model.modes asked.is_one in
        subst (IsModeOfFault m one) (same_some a.0 f (sym a.1 ∙ asked.pair.is_first)) a.2

    pub mode_other : IsModeOfFault m other g
    mode_other =
        let a : (y : Mode) × (slice_get fs (second - 1) ≡ Some y) × IsModeOfFault m other y = both_left (IsModeOfFault m) faults fs (second - 1) other model.modes asked.is_other in
        subst (IsModeOfFault m other) (same_some a.0 g (sym a.1 ∙ asked.pair.is_second)) a.2

    pub said : (class : ℕ → Bool) (r : Relation) → NoneAgainst m fs first second flat_top set (Some r) class → (trace : List Moment) → IsSuch p i faults top set trace → IsTrue (class (length trace)) →
        HasRelation Moment r (FaultStands one) (FaultStands other) trace
    said class r none trace such short =
        let t : (t : List (List Value)) × IsFlatCut p i m t trace × IsFlatTrace m t = uncut p i faults top m fs flat_top model trace such.is_trace in
        let cut : IsFlatCut p i m t.0 trace = t.1 in
        let long : length t.0 ≡ length trace = ap length (sym cut.1) ∙ cut_long p i faults top m fs flat_top model cut.0 trace cut.2 in
        let exactly : HasFailedExactly (List (List Value)) (IsFlatTrace m) (ReachesTop m flat_top) (HasFailedNumber m fs) t.0 set = exactly_flat t.0 trace cut such.exactly in
        let a : (j : ℕ) × BeginsAt (List Value) (Stood m f) t.0 j = begins_somewhere m f t.0 (stood_of t.0 exactly first f asked.pair.is_first asked.first_in) in
        let b : (k : ℕ) × BeginsAt (List Value) (Stood m g) t.0 k = begins_somewhere m g t.0 (stood_of t.0 exactly second g asked.pair.is_second asked.second_in) in
        elim (related r a.0 b.0) [
          | inl s ↦ (
            a.0,
            b.0,
            begins_cut cut.0 trace cut.2 (first - 1) one f asked.is_one mode_one a.0 (subst (λ us. BeginsAt (List Value) (Stood m f) us a.0) (sym cut.1) a.1),
            begins_cut cut.0 trace cut.2 (second - 1) other g asked.is_other mode_other b.0 (subst (λ us. BeginsAt (List Value) (Stood m g) us b.0) (sym cut.1) b.1),
            moved r a.0 b.0 s,
          )
          | inr n ↦ absurd (not_against class (Some r) none t.0 t.2 (subst (λ n. IsTrue (class n)) (sym long) short) (record {
            reaches = (base.reaching t.0 trace cut).1 such.reaches;
            exactly = exactly;
            breaks = λ h. n (related_at r h.0 a.0 h.1 b.0 (once f t.0 h.0 a.0 h.2 a.1) (once g t.0 h.1 b.0 h.3 b.1) h.4);
          }))
        ]
      where
        once : (h : Mode) (us : List (List Value)) (j k : ℕ) → BeginsAt (List Value) (Stood m h) us j → BeginsAt (List Value) (Stood m h) us k → j ≡ k
        once h us j k = begins_once m h us j k

        related_at : (r : Relation) (j j' k k' : ℕ) → j ≡ j' → k ≡ k' → Stands (List Value) r j k → Stands (List Value) r j' k'
        related_at r j j' k k' e h s = subst (λ x. Stands (List Value) r x k') e (subst (λ y. Stands (List Value) r j y) h s)

    pub none_said : (class : ℕ → Bool) → NoneAgainst m fs first second flat_top set None class → (trace : List Moment) → IsSuch p i faults top set trace → IsTrue (class (length trace)) → ⊥
    none_said class none trace such short =
        let t : (t : List (List Value)) × IsFlatCut p i m t trace × IsFlatTrace m t = uncut p i faults top m fs flat_top model trace such.is_trace in
        let cut : IsFlatCut p i m t.0 trace = t.1 in
        let long : length t.0 ≡ length trace = ap length (sym cut.1) ∙ cut_long p i faults top m fs flat_top model cut.0 trace cut.2 in
        not_against class None none t.0 t.2 (subst (λ n. IsTrue (class n)) (sym long) short) (record {
          reaches = (base.reaching t.0 trace cut).1 such.reaches;
          exactly = exactly_flat t.0 trace cut such.exactly;
          breaks = tt;
        })
