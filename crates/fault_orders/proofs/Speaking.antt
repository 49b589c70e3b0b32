-- The expression against a claim is TRUE at the end of a staged trace exactly where the trace speaks against it.
use Rattle.std.proofs.Common.{◌≡◌, ℕ, zero, suc, ◌+◌, ◌-◌, ◌<◌, ◌≤◌, Bool, true, false, ◌||◌, List, [], ◌∷◌, ◌++◌, length, take, Option, Some, None, refl, ap, ◌∙◌, sym, subst, arith, eqb-true}
use Rattle.std.proofs.lemmas.List.{append_assoc, length-append, length-map}
use Rattle.std.specs.Prelude.{slice_get, codes, nat_eq, IsTrue, ◌↔◌}
use Rattle.smv_language.specs.Language.{Tree, Value, Values, one, evaluate, FlatLeaf, FlatModel, FlatMay, one_of, leaves_at}
use Rattle.smv_language.specs.Values.{truth}
use Rattle.smv_flat_laws.specs.History.{Mode, with_history}
use Rattle.smv_flat_laws.specs.FlatTrace.{IsFlatMoment, IsFlatTrace, stands_in_some, bits_after, told_from}
use Rattle.smv_flat_laws.proofs.Lists.{length_end}
use Rattle.smv_flat_laws.proofs.Conditions.{MayBe, may_one}
use Rattle.cut_right_laws.specs.Right.{HasFailedExactly}
use Rattle.cut_right_laws.specs.Sets.{has_number}
use Rattle.sat_encoding_laws.specs.FlatTraces.{ReachesTop, HasFailedNumber, IsNumbered, last_of}
use Rattle.sat_encoding_laws.proofs.SetLaws.{has_contains, contains_has}
use Rattle.sat_encoding_laws.proofs.HistoryFacts.{at_last, to_last, each_last, last_told}
use Rattle.fault_cause_laws.specs.Additions.{KnowsNames}
use Rattle.fault_cause_laws.specs.Columns.{with_values, with_value}
use Rattle.fault_cause_laws.proofs.AddedReadings.{get_last, truth_same}
use Rattle.fault_cause_laws.proofs.Columns.{with_values_length}
use Rattle.std.proofs.lemmas.Option.{slice_get_within as within_of}
use Rattle.fault_cause_laws.proofs.Grown.{HasGrown, grown_by, grown_history, gives_same}
use Rattle.fault_orders.specs.declared.Relation.{Relation}
use Rattle.fault_orders.specs.Stage.{order_variable, with_order, bit_number, stage, with_set, with_claim, against}
use Rattle.fault_orders.specs.RelationValues.{begins_before, order_value, ordered_told}
use Rattle.fault_orders.specs.Laws.{ArePair, Breaks, SpeaksAgainst, IsKnownTop, IsTruth}
use Rattle.fault_orders.proofs.Begins.{against_claim, breaks_iff}
use Rattle.fault_orders.proofs.Claims.{all_match, set_gives, claimed, claim_gives, matches_iff}
use Rattle.smv_flat_laws.proofs.HistoryLaws.{all_variables as history_variables, length_told}
use Rattle.smv_flat_laws.proofs.HistoryTraces.{domains_length}
use Rattle.sat_encoding_laws.proofs.HistoryPlaces.{get_past as get_after}
use Rattle.std.proofs.lemmas.Bool.{and_parts, and_from}
use Rattle.base_values.proofs.BoolLaws.{bool_same}
use Rattle.smv_language.proofs.ListLaws.{get_map}
use Rattle.base_values.proofs.ListLaws.{get_left, get_within}

-- the last valuation with one more value
pub last_value : (value : ℕ → Value) (k : ℕ) (v : List Value) (vs : List (List Value)) → last_of (with_values value k (v ∷ vs)) ≡ last_of (v ∷ vs) ++ value (k + length vs) ∷ []
last_value value k v [] = ap (λ n. v ++ value n ∷ []) (let e : k ≡ k + 0 = omega arith in e)
last_value value k v (w ∷ ws) = last_value value (suc k) w ws ∙ ap (λ n. last_of (w ∷ ws) ++ value n ∷ []) (let e : suc k + length ws ≡ k + suc (length ws) = omega arith in e)

pub take_all : (vs : List (List Value)) (n : ℕ) → n ≡ length vs → take n vs ≡ vs
take_all [] zero e = refl
take_all [] (suc n) e = refl
take_all (v ∷ vs) zero e = absurd (omega arith)
take_all (v ∷ vs) (suc n) e = ap (λ us. v ∷ us) (take_all vs n (omega arith))

-- whether the fault of a number has failed
abbrev failed_one : FlatModel → List (List Value) → Option Mode → Bool
failed_one m trace None = false
failed_one m trace (Some f) = stands_in_some m f trace

abbrev failed_of : FlatModel → List Mode → List (List Value) → ℕ → Bool
failed_of m fs trace i = failed_one m trace (slice_get fs (i - 1))

-- a number of the set is a fault's
numbered_has : (faults : ℕ) (set : List ℕ) (i : ℕ) → IsNumbered faults set → has_number set i ≡ true → (1 ≤ i) × (i ≤ faults)
numbered_has faults [] i h e = cc
numbered_has faults (j ∷ js) i h e = by_or (nat_eq j i) (has_number js i) e (λ x. subst (λ k. (1 ≤ k) × (k ≤ faults)) (eqb-true j i x) h.0) (numbered_has faults js i h.1)
  where
    by_or : (a b : Bool) → (a || b) ≡ true → (a ≡ true → (1 ≤ i) × (i ≤ faults)) → (b ≡ true → (1 ≤ i) × (i ≤ faults)) → (1 ≤ i) × (i ≤ faults)
    by_or true b e f g = f refl
    by_or false b e f g = g e

module _ (m : FlatModel) (fs : List Mode) (first second : ℕ) (f g : Mode) (knows : KnowsNames m) (pair : ArePair fs first second f g)
    (top : Tree FlatLeaf) (known : IsKnownTop m top) (is_truth : IsTruth m top) (set : List ℕ) (numbered : IsNumbered (length fs) set) where
  abbrev n : ℕ
  n = length m.variables + length fs

  abbrev base : FlatModel
  base = with_history m fs

  abbrev middle : FlatModel
  middle = with_order (codes "ahead") (bit_number m first) (bit_number m second) base

  abbrev staged : FlatModel
  staged = stage m fs first second

  grown : HasGrown m staged
  grown = grown_by m middle _ (grown_by m base _ (grown_history m fs))

  count_is : length staged.variables ≡ (n + 1) + 1
  count_is =
      length-append middle.variables (order_variable (codes "behind") ∷ [])
      ∙ ap (λ x. x + 1) (length-append base.variables (order_variable (codes "ahead") ∷ []) ∙ ap (λ x. x + 1) (history_variables m fs))

  -- the failed set, by numbers
  exactly_iff : (trace : List (List Value)) → ((j : ℕ) → j < length fs → failed_of m fs trace (1 + j) ≡ has_number set (1 + j)) ↔ HasFailedExactly (List (List Value)) (IsFlatTrace m) (ReachesTop m top) (HasFailedNumber m fs) trace set
  exactly_iff trace = (to_sets, from_sets)
    where
      named : (i : ℕ) → 0 < i → 1 + (i - 1) ≡ i
      named i l = omega arith

      failed_is : (i : ℕ) (h : Mode) → slice_get fs (i - 1) ≡ Some h → failed_of m fs trace i ≡ stands_in_some m h trace
      failed_is i h e = ap (failed_one m trace) e

      to_sets : ((j : ℕ) → j < length fs → failed_of m fs trace (1 + j) ≡ has_number set (1 + j)) → HasFailedExactly (List (List Value)) (IsFlatTrace m) (ReachesTop m top) (HasFailedNumber m fs) trace set
      to_sets all i = (
        (λ h.
            let back : 1 + (i - 1) ≡ i = named i h.1 in
            let same : failed_of m fs trace i ≡ has_number set i = subst (λ x. failed_of m fs trace x ≡ has_number set x) back (all (i - 1) (within_of fs (i - 1) h.0 h.2)) in
            has_contains set i (sym same ∙ failed_is i h.0 h.2 ∙ h.3)),
        (λ c. from_number i (contains_has set i c) (numbered_has (length fs) set i numbered (contains_has set i c))),
      )
        where
          from_number : (i : ℕ) → has_number set i ≡ true → (1 ≤ i) × (i ≤ length fs) → HasFailedNumber m fs trace i
          from_number i h l =
              let small : i - 1 < length fs = omega arith in
              let there : (x : Mode) × (slice_get fs (i - 1) ≡ Some x) = get_within fs (i - 1) small in
              let back : 1 + (i - 1) ≡ i = omega arith in
              let same : failed_of m fs trace i ≡ has_number set i = subst (λ x. failed_of m fs trace x ≡ has_number set x) back (all (i - 1) small) in
              (there.0, l.0, there.1, sym (failed_is i there.0 there.1) ∙ same ∙ h)

      from_sets : HasFailedExactly (List (List Value)) (IsFlatTrace m) (ReachesTop m top) (HasFailedNumber m fs) trace set → (j : ℕ) → j < length fs → failed_of m fs trace (1 + j) ≡ has_number set (1 + j)
      from_sets h j l =
          let there : (x : Mode) × (slice_get fs j ≡ Some x) = get_within fs j l in
          let back : 1 + j - 1 ≡ j = omega arith in
          let at : slice_get fs (1 + j - 1) ≡ Some there.0 = subst (λ x. slice_get fs x ≡ Some there.0) (sym back) there.1 in
          bool_same (failed_of m fs trace (1 + j)) (has_number set (1 + j))
          (λ t. contains_has set (1 + j) ((h (1 + j)).0 (there.0, omega arith, at, sym (failed_is (1 + j) there.0 at) ∙ t)))
          (λ t. let x : HasFailedNumber m fs trace (1 + j) = (h (1 + j)).1 (has_contains set (1 + j) t) in failed_is (1 + j) x.0 x.2 ∙ x.3)

  -- the last valuation that is told
  module _ (v : List Value) (vs : List (List Value)) (is : IsFlatTrace m (v ∷ vs)) where
    abbrev trace : List (List Value)
    trace = v ∷ vs

    abbrev w : List Value
    w = last_of trace

    abbrev bits : List Value
    bits = bits_after m fs trace

    abbrev a : Bool
    a = begins_before m f g trace

    abbrev b : Bool
    b = begins_before m g f trace

    abbrev u : List Value
    u = ((w ++ bits) ++ truth a ∷ []) ++ truth b ∷ []

    value_is : (f g : Mode) → order_value m f g trace (0 + length vs) ≡ truth (begins_before m f g trace)
    value_is f g = ap (λ us. truth (begins_before m f g us)) (take_all trace (suc (0 + length vs)) (let e : suc (0 + length vs) ≡ suc (length vs) = omega arith in e))

    last_is : last_of (ordered_told m fs f g trace) ≡ u
    last_is =
        let inner : last_of (with_value (order_value m f g trace) (told_from m fs [] trace)) ≡ (w ++ bits) ++ truth a ∷ [] =
        last_value (order_value m f g trace) 0 (v ++ bits_after m fs ([] ++ v ∷ [])) (told_from m fs ([] ++ v ∷ []) vs)
        ∙ joined (last_told m fs [] v vs) (ap (λ n. order_value m f g trace (0 + n)) (length_told m fs ([] ++ v ∷ []) vs) ∙ value_is f g) in
        last_value (order_value m g f trace) 0 ((v ++ bits_after m fs ([] ++ v ∷ [])) ++ order_value m f g trace 0 ∷ []) (with_values (order_value m f g trace) 1 (told_from m fs ([] ++ v ∷ []) vs))
        ∙ joined inner (ap (λ n. order_value m g f trace (0 + n)) (with_values_length (order_value m f g trace) 1 (told_from m fs ([] ++ v ∷ []) vs) ∙ length_told m fs ([] ++ v ∷ []) vs) ∙ value_is g f)
      where
        joined : {x y : List Value} {p q : Value} → x ≡ y → p ≡ q → (x ++ p ∷ []) ≡ (y ++ q ∷ [])
        joined {x = x} {y = y} {p = p} {q = q} e h = ap (λ z. z ++ p ∷ []) e ∙ ap (λ z. y ++ z ∷ []) h

    moment : IsFlatMoment m w
    moment = each_last (IsFlatMoment m) v vs is.moments

    w_long : length w ≡ length m.variables
    w_long = domains_length m.variables w moment.domains

    bits_long : length (w ++ bits) ≡ n
    bits_long = length-append w bits ∙ ap (λ x. x + length bits) w_long ∙ ap (λ x. length m.variables + x) (length-map fs (λ f. truth (stands_in_some m f trace)))

    ahead_long : length ((w ++ bits) ++ truth a ∷ []) ≡ suc n
    ahead_long = length_end (w ++ bits) (truth a) ∙ ap suc bits_long

    bit_there : (j : ℕ) → j < length fs → one_of (slice_get u (length m.variables + j)) ≡ Some (one (truth (failed_of m fs trace (1 + j))))
    bit_there j l =
        let there : (x : Mode) × (slice_get fs j ≡ Some x) = get_within fs j l in
        let back : 1 + j - 1 ≡ j = omega arith in
        let bit : slice_get bits j ≡ Some (truth (stands_in_some m there.0 trace)) = get_map (λ f. truth (stands_in_some m f trace)) fs j there.0 there.1 in
        let in_whole : slice_get (w ++ bits) (length m.variables + j) ≡ Some (truth (stands_in_some m there.0 trace)) =
        subst (λ x. slice_get (w ++ bits) (x + j) ≡ Some (truth (stands_in_some m there.0 trace))) w_long (get_after w bits j ∙ bit) in
        let far : slice_get u (length m.variables + j) ≡ Some (truth (stands_in_some m there.0 trace)) =
        get_left ((w ++ bits) ++ truth a ∷ []) (truth b ∷ []) (length m.variables + j) (truth (stands_in_some m there.0 trace)) (get_left (w ++ bits) (truth a ∷ []) (length m.variables + j) (truth (stands_in_some m there.0 trace)) in_whole) in
        ap one_of far ∙ ap (λ x. Some (one (truth (failed_one m trace x)))) (sym there.1 ∙ ap (slice_get fs) (sym back))

    ahead_there : one_of (slice_get u n) ≡ Some (one (truth a))
    ahead_there = ap one_of (get_left ((w ++ bits) ++ truth a ∷ []) (truth b ∷ []) n (truth a) (get_last (w ++ bits) (truth a) n bits_long))

    behind_there : one_of (slice_get u (suc n)) ≡ Some (one (truth b))
    behind_there = ap one_of (get_last ((w ++ bits) ++ truth a ∷ []) (truth b) (suc n) ahead_long)

    abbrev t : Bool
    t = (is_truth w moment).0

    top_there : evaluate (leaves_at staged u) (leaves_at staged u) top ≡ Some (one (truth t))
    top_there =
        let apart : u ≡ w ++ (bits ++ (truth a ∷ truth b ∷ [])) = append_assoc (w ++ bits) (truth a ∷ []) (truth b ∷ []) ∙ append_assoc w bits (truth a ∷ truth b ∷ []) in
        subst (λ x. evaluate (leaves_at staged x) (leaves_at staged x) top ≡ Some (one (truth t))) (sym apart)
        (gives_same m staged knows grown w (bits ++ (truth a ∷ truth b ∷ [])) w_long top known ∙ (is_truth w moment).1)

    gives : (claim : Option Relation) → evaluate (leaves_at staged u) (leaves_at staged u) (against staged (length fs) top set claim) ≡ Some (one (truth (claimed claim (all_match (failed_of m fs trace) set 1 (length fs) t) a b)))
    gives claim =
        let ahead : length staged.variables - 2 ≡ n = ends (length staged.variables) n count_is in
        let bit : n - length fs ≡ length m.variables = omega arith in
        subst (λ x. evaluate (leaves_at staged u) (leaves_at staged u) (with_claim x claim (with_set (x - length fs) 1 (length fs) set top)) ≡ Some (one (truth (claimed claim (all_match (failed_of m fs trace) set 1 (length fs) t) a b)))) (sym ahead)
        (claim_gives (leaves_at staged u) claim n (with_set (n - length fs) 1 (length fs) set top) (all_match (failed_of m fs trace) set 1 (length fs) t) a b
        (subst (λ x. evaluate (leaves_at staged u) (leaves_at staged u) (with_set x 1 (length fs) set top) ≡ Some (one (truth (all_match (failed_of m fs trace) set 1 (length fs) t)))) (sym bit)
        (set_gives (leaves_at staged u) (failed_of m fs trace) set (length fs) (length m.variables) 1 bit_there top t top_there)) ahead_there behind_there)
      where
        ends : (x n : ℕ) → x ≡ (n + 1) + 1 → x - 2 ≡ n
        ends x n e = omega arith

    may_iff : (o : Option Values) (x : Bool) → o ≡ Some (one (truth x)) → MayBe o (truth true) ↔ (x ≡ true)
    may_iff o x e = (
      (λ h. sym (truth_same true x ((may_one (truth x) (truth true)).0 (subst (λ p. MayBe p (truth true)) e h)))),
      (λ h. subst (λ p. MayBe p (truth true)) (sym e) ((may_one (truth x) (truth true)).1 (ap truth (sym h)))),
    )

    -- the ends of the two traces
    abbrev told_first : List Value
    told_first = ((v ++ bits_after m fs ([] ++ v ∷ [])) ++ order_value m f g trace 0 ∷ []) ++ order_value m g f trace 0 ∷ []

    abbrev told_rest : List (List Value)
    told_rest = with_values (order_value m g f trace) 1 (with_values (order_value m f g trace) 1 (told_from m fs ([] ++ v ∷ []) vs))

    staged_end : (e : Tree FlatLeaf) → ReachesTop staged e (ordered_told m fs f g trace) ↔ FlatMay staged u u e (truth true)
    staged_end e = (
      (λ h. subst (λ x. FlatMay staged x x e (truth true)) last_is (at_last (λ v. FlatMay staged v v e (truth true)) told_first told_rest h)),
      (λ h. to_last (λ v. FlatMay staged v v e (truth true)) told_first told_rest (subst (λ x. FlatMay staged x x e (truth true)) (sym last_is) h)),
    )

    own_end : ReachesTop m top trace ↔ (t ≡ true)
    own_end =
        let it : FlatMay m w w top (truth true) ↔ (t ≡ true) = may_iff (evaluate (leaves_at m w) (leaves_at m w) top) t (is_truth w moment).1 in
        ((λ h. it.0 (at_last (λ v. FlatMay m v v top (truth true)) v vs h)), (λ h. to_last (λ v. FlatMay m v v top (truth true)) v vs (it.1 h)))

    -- both faults of the pair have failed, where the failed set has them
    module _ (first_in : IsTrue (has_number set first)) (second_in : IsTrue (has_number set second)) where
      has_failed : (i : ℕ) (h : Mode) → 0 < i → slice_get fs (i - 1) ≡ Some h → has_number set i ≡ true → ((j : ℕ) → j < length fs → failed_of m fs trace (1 + j) ≡ has_number set (1 + j)) → stands_in_some m h trace ≡ true
      has_failed i h l e in_set all =
          let back : 1 + (i - 1) ≡ i = omega arith in
          sym (ap (failed_one m trace) e) ∙ subst (λ x. failed_of m fs trace x ≡ has_number set x) back (all (i - 1) (within_of fs (i - 1) h e)) ∙ in_set

      claim_iff : (claim : Option Relation) → ((j : ℕ) → j < length fs → failed_of m fs trace (1 + j) ≡ has_number set (1 + j)) → (x : Bool) → (claimed claim x a b ≡ true) ↔ ((x ≡ true) × Breaks m f g claim trace)
      claim_iff None all x = ((λ h. (h, tt)), (λ h. h.0))
      claim_iff (Some r) all x =
          let it : Breaks m f g (Some r) trace ↔ (against_claim r a b ≡ true) =
          breaks_iff m f g r trace (has_failed first f pair.first_counts pair.is_first first_in all) (has_failed second g pair.second_counts pair.is_second second_in all) in (
            (λ h. let y : (x ≡ true) × (against_claim r a b ≡ true) = and_parts x (against_claim r a b) h in (y.0, it.1 y.1)),
            (λ h. and_from x (against_claim r a b) h.0 (it.0 h.1)),
          )

      first_part : (claim : Option Relation) (x : Bool) → claimed claim x a b ≡ true → x ≡ true
      first_part None x h = h
      first_part (Some r) x h = (and_parts x (against_claim r a b) h).0

      against_here : (claim : Option Relation) → ReachesTop staged (against staged (length fs) top set claim) (ordered_told m fs f g trace) ↔ SpeaksAgainst m fs top set f g claim trace
      against_here claim =
          let may : FlatMay staged u u (against staged (length fs) top set claim) (truth true) ↔ (claimed claim (all_match (failed_of m fs trace) set 1 (length fs) t) a b ≡ true) =
          may_iff (evaluate (leaves_at staged u) (leaves_at staged u) (against staged (length fs) top set claim)) (claimed claim (all_match (failed_of m fs trace) set 1 (length fs) t) a b) (gives claim) in
          let match : (all_match (failed_of m fs trace) set 1 (length fs) t ≡ true) ↔ ((t ≡ true) × ((j : ℕ) → j < length fs → failed_of m fs trace (1 + j) ≡ has_number set (1 + j))) = matches_iff (failed_of m fs trace) set (length fs) 1 t in (
            (λ h.
                let c : claimed claim (all_match (failed_of m fs trace) set 1 (length fs) t) a b ≡ true = may.0 ((staged_end (against staged (length fs) top set claim)).0 h) in
                let all : (t ≡ true) × ((j : ℕ) → j < length fs → failed_of m fs trace (1 + j) ≡ has_number set (1 + j)) = match.0 (first_part claim (all_match (failed_of m fs trace) set 1 (length fs) t) c) in
                record {
                  reaches = own_end.1 all.0;
                  exactly = (exactly_iff trace).0 all.1;
                  breaks = ((claim_iff claim all.1 (all_match (failed_of m fs trace) set 1 (length fs) t)).0 c).1;
                }),
            (λ s.
                let all : (j : ℕ) → j < length fs → failed_of m fs trace (1 + j) ≡ has_number set (1 + j) = (exactly_iff trace).1 s.exactly in
                (staged_end (against staged (length fs) top set claim)).1 (may.1 ((claim_iff claim all (all_match (failed_of m fs trace) set 1 (length fs) t)).1 (match.1 (own_end.0 s.reaches, all), s.breaks)))),
          )

  pub against_exactly : IsTrue (has_number set first) → IsTrue (has_number set second) → (claim : Option Relation) (trace : List (List Value)) → IsFlatTrace m trace →
      (ReachesTop staged (against staged (length fs) top set claim) (ordered_told m fs f g trace) ↔ SpeaksAgainst m fs top set f g claim trace)
  against_exactly first_in second_in claim [] is = absurd is.first
  against_exactly first_in second_in claim (v ∷ vs) is = against_here v vs is first_in second_in claim
