-- The bit of an order, moment by moment.
use Rattle.std.proofs.Common.{◌≡◌, ℕ, zero, suc, Bool, true, false, cond, ◌||◌, ◌&&◌, List, [], ◌∷◌, ◌++◌, length, take, Some, refl, ap, ◌∙◌, ◌⊎◌, inl, inr}
use Rattle.std.specs.Prelude.{slice_get}
use Rattle.smv_language.specs.declared.expr.Op.TheVariants as op
use Rattle.smv_language.specs.Language.{Text, Value, opposite, gives_applied, gives_not, FlatModel, one_of, Holds}
use Rattle.smv_language.specs.Values.{truth}
use Rattle.smv_flat_laws.specs.History.{Mode}
use Rattle.smv_flat_laws.specs.FlatTrace.{stands, stands_in_some}
use Rattle.fault_cause_laws.specs.Additions.{with_addition}
use Rattle.fault_cause_laws.proofs.AddedReadings.{gives_and, gives_opposite, get_last}
use Rattle.fault_cause_laws.proofs.Columns.{one_added, IsForced, Fits}
use Rattle.fault_orders.specs.Stage.{order_variable, order_at_first, order_at_step}
use Rattle.fault_orders.specs.RelationValues.{begins_before}
use Rattle.smv_flat_laws.proofs.HistoryTraces.{within_one, applied_or as gives_or}
use Rattle.base_values.proofs.ListLaws.{get_left}

-- TRUE from the moment on at which the one is TRUE and the other is not
abbrev pub ordered : (ℕ → Bool) → (ℕ → Bool) → ℕ → Bool
ordered p q zero = p 0 && opposite (q 0)
ordered p q (suc k) = ordered p q k || (p (suc k) && opposite (q (suc k)))

-- two variables are known
pub record KnowsTwo (n x y : ℕ) (p q : ℕ → Bool) (k : ℕ) (v : List Value) : Type 0 where
  pub long : length v ≡ n
  pub one : slice_get v x ≡ Some (truth (p k))
  pub other : slice_get v y ≡ Some (truth (q k))

module _ (m : FlatModel) (name : Text) (x y : ℕ) (p q : ℕ → Bool) where
  abbrev n : ℕ
  n = length m.variables

  abbrev value : ℕ → Value
  value k = truth (ordered p q k)

  abbrev K : ℕ → List Value → Type 0
  K = KnowsTwo n x y p q

  abbrev made : FlatModel
  made = with_addition m (one_added (order_variable name) [] (order_at_first n x y ∷ []) [] (order_at_step n x y ∷ []))

  first_iff : (v : List Value) (b : Value) → K 0 v → (Holds made (v ++ b ∷ []) (v ++ b ∷ []) (order_at_first n x y) → b ≡ value 0) × (b ≡ value 0 → Holds made (v ++ b ∷ []) (v ++ b ∷ []) (order_at_first n x y))
  first_iff v b known =
      let u : List Value = v ++ b ∷ [] in
      let here : slice_get u n ≡ Some b = get_last v b n known.long in
      let a : slice_get u x ≡ Some (truth (p 0)) = get_left v (b ∷ []) x (truth (p 0)) known.one in
      let c : slice_get u y ≡ Some (truth (q 0)) = get_left v (b ∷ []) y (truth (q 0)) known.other in
      within_one (one_of (slice_get u n)) (gives_applied op.And (one_of (slice_get u x)) (gives_not (one_of (slice_get u y)))) b (value 0)
      (ap one_of here) (gives_and (one_of (slice_get u x)) (gives_not (one_of (slice_get u y))) (p 0) (opposite (q 0)) (ap one_of a) (gives_opposite (one_of (slice_get u y)) (q 0) (ap one_of c)))

  step_iff : (k : ℕ) (v w : List Value) (b : Value) → K k v → K (suc k) w →
      (Holds made (v ++ value k ∷ []) (w ++ b ∷ []) (order_at_step n x y) → b ≡ value (suc k)) × (b ≡ value (suc k) → Holds made (v ++ value k ∷ []) (w ++ b ∷ []) (order_at_step n x y))
  step_iff k v w b known knows =
      let u : List Value = w ++ b ∷ [] in
      let t : List Value = v ++ value k ∷ [] in
      let here : slice_get u n ≡ Some b = get_last w b n knows.long in
      let there : slice_get t n ≡ Some (value k) = get_last v (value k) n known.long in
      let a : slice_get u x ≡ Some (truth (p (suc k))) = get_left w (b ∷ []) x (truth (p (suc k))) knows.one in
      let c : slice_get u y ≡ Some (truth (q (suc k))) = get_left w (b ∷ []) y (truth (q (suc k))) knows.other in
      within_one (one_of (slice_get u n)) (gives_applied op.Or (one_of (slice_get t n)) (gives_applied op.And (one_of (slice_get u x)) (gives_not (one_of (slice_get u y))))) b (value (suc k))
      (ap one_of here)
      (gives_or (one_of (slice_get t n)) (gives_applied op.And (one_of (slice_get u x)) (gives_not (one_of (slice_get u y)))) (ordered p q k) (p (suc k) && opposite (q (suc k))) (ap one_of there)
      (gives_and (one_of (slice_get u x)) (gives_not (one_of (slice_get u y))) (p (suc k)) (opposite (q (suc k))) (ap one_of a) (gives_opposite (one_of (slice_get u y)) (q (suc k)) (ap one_of c))))

  pub is_forced : IsForced m (order_variable name) [] (order_at_first n x y ∷ []) [] (order_at_step n x y ∷ []) K value
  is_forced =
      record {
        first = λ v b known dom f e. (first_iff v b known).0 f.0;
        next = λ k v w b known knows dom f e. (step_iff k v w b known knows).0 f.0;
      }

  pub does_fit : Fits m (order_variable name) [] (order_at_first n x y ∷ []) [] (order_at_step n x y ∷ []) K value
  does_fit =
      record {
        domain = λ k v known. refl;
        first = λ v known. ((first_iff v (value 0) known).1 refl, tt);
        each = λ k v known. tt;
        next = λ k v w known knows. ((step_iff k v w (value (suc k)) known knows).1 refl, tt);
      }

-- What is ordered, by the moments so far.
module _ (m : FlatModel) (f g : Mode) where
  abbrev some : Mode → List (List Value) → Bool
  some h vs = stands_in_some m h vs

  begins_last : (vs : List (List Value)) (v : List Value) →
      begins_before m f g (vs ++ v ∷ []) ≡ (begins_before m f g vs || (some f (vs ++ v ∷ []) && opposite (some g (vs ++ v ∷ []))))
  begins_last [] v = at_one (stands m f v) (stands m g v)
    where
      at_one : (a b : Bool) → cond b false (cond a true false) ≡ (false || ((a || false) && opposite (b || false)))
      at_one true true = refl
      at_one true false = refl
      at_one false true = refl
      at_one false false = refl
  begins_last (w ∷ vs) v =
      at_more (stands m f w) (stands m g w) (begins_before m f g (vs ++ v ∷ [])) (begins_before m f g vs) (some f (vs ++ v ∷ [])) (some g (vs ++ v ∷ [])) (begins_last vs v)
    where
      at_more : (a b now before fs gs : Bool) → now ≡ (before || (fs && opposite gs)) →
          cond b false (cond a true now) ≡ (cond b false (cond a true before) || ((a || fs) && opposite (b || gs)))
      at_more true true now before fs gs e = refl
      at_more false true now before true gs e = refl
      at_more false true now before false gs e = refl
      at_more true false now before fs gs e = refl
      at_more false false now before fs gs e = e

  begins_already : (vs : List (List Value)) → begins_before m f g vs ≡ (begins_before m f g vs || (some f vs && opposite (some g vs)))
  begins_already [] = refl
  begins_already (w ∷ vs) = at_more (stands m f w) (stands m g w) (begins_before m f g vs) (some f vs) (some g vs) (begins_already vs)
    where
      at_more : (a b before fs gs : Bool) → before ≡ (before || (fs && opposite gs)) →
          cond b false (cond a true before) ≡ (cond b false (cond a true before) || ((a || fs) && opposite (b || gs)))
      at_more true true before fs gs e = refl
      at_more false true before true gs e = refl
      at_more false true before false gs e = refl
      at_more true false before fs gs e = refl
      at_more false false before fs gs e = e

  one_more : (k : ℕ) (vs : List (List Value)) → (take (suc k) vs ≡ take k vs) ⊎ ((v : List Value) × (take (suc k) vs ≡ take k vs ++ v ∷ []))
  one_more zero [] = inl refl
  one_more (suc k) [] = inl refl
  one_more zero (v ∷ vs) = inr (v, refl)
  one_more (suc k) (v ∷ vs) = by_case (one_more k vs)
    where
      by_case : (take (suc k) vs ≡ take k vs) ⊎ ((u : List Value) × (take (suc k) vs ≡ take k vs ++ u ∷ [])) →
          (take (suc (suc k)) (v ∷ vs) ≡ take (suc k) (v ∷ vs)) ⊎ ((u : List Value) × (take (suc (suc k)) (v ∷ vs) ≡ take (suc k) (v ∷ vs) ++ u ∷ []))
      by_case (inl e) = inl (ap (λ us. v ∷ us) e)
      by_case (inr e) = inr (e.0, ap (λ us. v ∷ us) e.1)

  begins_next : (k : ℕ) (vs : List (List Value)) → begins_before m f g (take (suc k) vs) ≡ (begins_before m f g (take k vs) || (some f (take (suc k) vs) && opposite (some g (take (suc k) vs))))
  begins_next k vs = by_case (one_more k vs)
    where
      by_case : (take (suc k) vs ≡ take k vs) ⊎ ((u : List Value) × (take (suc k) vs ≡ take k vs ++ u ∷ [])) →
          begins_before m f g (take (suc k) vs) ≡ (begins_before m f g (take k vs) || (some f (take (suc k) vs) && opposite (some g (take (suc k) vs))))
      by_case (inl e) = rw e (begins_already (take k vs))
      by_case (inr e) = rw e.1 (begins_last (take k vs) e.0)

  pub begins_ordered : (vs : List (List Value)) (k : ℕ) → begins_before m f g (take (suc k) vs) ≡ ordered (λ j. some f (take (suc j) vs)) (λ j. some g (take (suc j) vs)) k
  begins_ordered vs zero = begins_next 0 vs
  begins_ordered vs (suc k) = begins_next (suc k) vs ∙ ap (λ b. b || (some f (take (suc (suc k)) vs) && opposite (some g (take (suc (suc k)) vs)))) (begins_ordered vs k)
