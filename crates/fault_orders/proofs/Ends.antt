-- What a staged trace shows: the model's own values at the front of each valuation, and the relation at the end.
use Rattle.std.proofs.Common.{◌≡◌, ℕ, zero, suc, ◌+◌, ◌<◌, ◌≤◌, Bool, true, false, List, [], ◌∷◌, ◌++◌, length, map, take, refl, ap, ◌∙◌, sym, arith, ◌⊎◌, inl, inr}
use Rattle.std.specs.Prelude.{nat_lt}
use Rattle.std.proofs.lemmas.Bool.Decides.{leb_tells}
use Rattle.std.proofs.lemmas.List.{append_assoc, length-append}
use Rattle.smv_language.specs.Language.{Value, Each, FlatModel}
use Rattle.smv_language.specs.Values.{truth}
use Rattle.smv_flat_laws.specs.History.{Mode}
use Rattle.smv_flat_laws.specs.FlatTrace.{IsFlatMoment, bits_after, told_from}
use Rattle.sat_encoding_laws.specs.FlatTraces.{last_of}
use Rattle.sat_encoding_laws.proofs.HistoryFacts.{last_told}
use Rattle.fault_cause_laws.specs.Columns.{with_values, with_value}
use Rattle.fault_cause_laws.proofs.Columns.{with_values_length}
use Rattle.fault_orders.specs.Relations.{BeginsAt, HasRelation}
use Rattle.fault_orders.specs.RelationValues.{begins_before, order_value, ordered_told, told_relation}
use Rattle.fault_orders.specs.Laws.{EndsTellOrders, OwnValuesAreKept}
use Rattle.fault_orders.proofs.Begins.{Stood, begins_somewhere, order_of}
use Rattle.fault_orders.proofs.Speaking.{last_value, take_all}
use Rattle.smv_flat_laws.proofs.HistoryTraces.{domains_length}
use Rattle.smv_flat_laws.proofs.HistoryLaws.{length_told}

-- ---- the end

value_at_end : (m : FlatModel) (f g : Mode) (v : List Value) (vs : List (List Value)) → order_value m f g (v ∷ vs) (0 + length vs) ≡ truth (begins_before m f g (v ∷ vs))
value_at_end m f g v vs = ap (λ us. truth (begins_before m f g us)) (take_all (v ∷ vs) (suc (0 + length vs)) (let e : suc (0 + length vs) ≡ suc (length vs) = omega arith in e))

joined : (x y : List Value) (p q : Value) → x ≡ y → p ≡ q → (x ++ p ∷ []) ≡ (y ++ q ∷ [])
joined x y p q e h = ap (λ z. z ++ p ∷ []) e ∙ ap (λ z. y ++ z ∷ []) h

module _ (m : FlatModel) (fs : List Mode) (f g : Mode) (v : List Value) (vs : List (List Value)) where
  abbrev all : List (List Value)
  all = v ∷ vs

  abbrev front_of : List Value
  front_of = last_of all ++ bits_after m fs all

  ends_with : last_of (ordered_told m fs f g all) ≡ (front_of ++ truth (begins_before m f g all) ∷ []) ++ truth (begins_before m g f all) ∷ []
  ends_with =
      let inner : last_of (with_value (order_value m f g all) (told_from m fs [] all)) ≡ front_of ++ truth (begins_before m f g all) ∷ [] =
      last_value (order_value m f g all) 0 (v ++ bits_after m fs ([] ++ v ∷ [])) (told_from m fs ([] ++ v ∷ []) vs)
      ∙ joined _ _ _ _ (last_told m fs [] v vs) (ap (λ n. order_value m f g all (0 + n)) (length_told m fs ([] ++ v ∷ []) vs) ∙ value_at_end m f g v vs) in
      last_value (order_value m g f all) 0 ((v ++ bits_after m fs ([] ++ v ∷ [])) ++ order_value m f g all 0 ∷ []) (with_values (order_value m f g all) 1 (told_from m fs ([] ++ v ∷ []) vs))
      ∙ joined _ _ _ _ inner (ap (λ n. order_value m g f all (0 + n)) (with_values_length (order_value m f g all) 1 (told_from m fs ([] ++ v ∷ []) vs) ∙ length_told m fs ([] ++ v ∷ []) vs) ∙ value_at_end m g f v vs)

-- two first moments stand as the two booleans tell
stands_told : (m : FlatModel) (f g : Mode) (trace : List (List Value)) (j k : ℕ) → BeginsAt (List Value) (Stood m f) trace j → BeginsAt (List Value) (Stood m g) trace k → (a b : Bool) → a ≡ nat_lt j k → b ≡ nat_lt k j →
    HasRelation (List Value) (told_relation a b) (Stood m f) (Stood m g) trace
stands_told m f g trace j k x y true b e h = by (leb_tells (suc j) k)
  where
    by : ((nat_lt j k ≡ true) × (suc j ≤ k)) ⊎ ((nat_lt j k ≡ false) × (k < suc j)) → HasRelation (List Value) (told_relation true b) (Stood m f) (Stood m g) trace
    by (inl l) = (j, k, x, y, l.1)
    by (inr l) = let bad : true ≡ false = e ∙ l.0 in cc
stands_told m f g trace j k x y false true e h = by (leb_tells (suc k) j)
  where
    by : ((nat_lt k j ≡ true) × (suc k ≤ j)) ⊎ ((nat_lt k j ≡ false) × (j < suc k)) → HasRelation (List Value) (told_relation false true) (Stood m f) (Stood m g) trace
    by (inl l) = (j, k, x, y, l.1)
    by (inr l) = let bad : true ≡ false = h ∙ l.0 in cc
stands_told m f g trace j k x y false false e h = by (leb_tells (suc j) k) (leb_tells (suc k) j)
  where
    by : ((nat_lt j k ≡ true) × (suc j ≤ k)) ⊎ ((nat_lt j k ≡ false) × (k < suc j)) → ((nat_lt k j ≡ true) × (suc k ≤ j)) ⊎ ((nat_lt k j ≡ false) × (j < suc k)) →
        HasRelation (List Value) (told_relation false false) (Stood m f) (Stood m g) trace
    by (inl l) o = let bad : false ≡ true = e ∙ l.0 in cc
    by (inr l) (inl o) = let bad : false ≡ true = h ∙ o.0 in cc
    by (inr l) (inr o) = (j, k, x, y, omega (arith, l.1, o.1))

pub ends_tell : EndsTellOrders
ends_tell m fs f g [] one other = let bad : false ≡ true = one in cc
ends_tell m fs f g (v ∷ vs) one other =
    let x : (j : ℕ) × BeginsAt (List Value) (Stood m f) (v ∷ vs) j = begins_somewhere m f (v ∷ vs) one in
    let y : (k : ℕ) × BeginsAt (List Value) (Stood m g) (v ∷ vs) k = begins_somewhere m g (v ∷ vs) other in
    let a : Bool = begins_before m f g (v ∷ vs) in
    let b : Bool = begins_before m g f (v ∷ vs) in
    record {
      front = last_of (v ∷ vs) ++ bits_after m fs (v ∷ vs);
      ahead = begins_before m f g (v ∷ vs);
      behind = begins_before m g f (v ∷ vs);
      ends = ends_with m fs f g v vs ∙ append_assoc (last_of (v ∷ vs) ++ bits_after m fs (v ∷ vs)) (truth (begins_before m f g (v ∷ vs)) ∷ []) (truth (begins_before m g f (v ∷ vs)) ∷ []);
      relation =
          stands_told m f g (v ∷ vs) x.0 y.0 x.1 y.1 (begins_before m f g (v ∷ vs)) (begins_before m g f (v ∷ vs)) (order_of m f g (v ∷ vs) x.0 y.0 x.1 y.1) (order_of m g f (v ∷ vs) y.0 x.0 y.1 x.1);
    }

-- ---- the front

take_front : (v w : List Value) → take (length v) (v ++ w) ≡ v
take_front [] [] = refl
take_front [] (x ∷ w) = refl
take_front (x ∷ v) w = ap (λ us. x ∷ us) (take_front v w)

front_told : (m : FlatModel) (fs : List Mode) (before vs : List (List Value)) → Each (IsFlatMoment m) vs → map (take (length m.variables)) (told_from m fs before vs) ≡ vs
front_told m fs before [] h = refl
front_told m fs before (v ∷ vs) h = both (own v h.0 (bits_after m fs (before ++ v ∷ []))) (front_told m fs (before ++ v ∷ []) vs h.1)
  where
    own : (v : List Value) → IsFlatMoment m v → (w : List Value) → take (length m.variables) (v ++ w) ≡ v
    own v is w = ap (λ n. take n (v ++ w)) (sym (domains_length m.variables v is.domains)) ∙ take_front v w

    both : {x y : List Value} {xs ys : List (List Value)} → x ≡ y → xs ≡ ys → (x ∷ xs) ≡ (y ∷ ys)
    both e g = cc

-- each has at least so many values
abbrev AreLong : ℕ → List (List Value) → Type 0
AreLong n vs = Each (λ v. n ≤ length v) vs

long_told : (m : FlatModel) (fs : List Mode) (before vs : List (List Value)) → Each (IsFlatMoment m) vs → AreLong (length m.variables) (told_from m fs before vs)
long_told m fs before [] h = tt
long_told m fs before (v ∷ vs) h =
    let e = length-append v (bits_after m fs (before ++ v ∷ [])) in
    let d = domains_length m.variables v h.0.domains in
    (omega (arith, e, d), long_told m fs (before ++ v ∷ []) vs h.1)

long_more : (n : ℕ) (value : ℕ → Value) (k : ℕ) (vs : List (List Value)) → AreLong n vs → AreLong n (with_values value k vs)
long_more n value k [] h = tt
long_more n value k (v ∷ vs) h = let e = length-append v (value k ∷ []) in let here = h.0 in (omega (arith, e, here), long_more n value (suc k) vs h.1)

take_less : (n : ℕ) (v w : List Value) → n ≤ length v → take n (v ++ w) ≡ take n v
take_less zero v w h = refl
take_less (suc n) [] w h = absurd (omega (arith, h))
take_less (suc n) (x ∷ v) w h = ap (λ us. x ∷ us) (take_less n v w (omega (arith, h)))

front_more : (n : ℕ) (value : ℕ → Value) (k : ℕ) (vs : List (List Value)) → AreLong n vs → map (take n) (with_values value k vs) ≡ map (take n) vs
front_more n value k [] h = refl
front_more n value k (v ∷ vs) h = both (take_less n v (value k ∷ []) h.0) (front_more n value (suc k) vs h.1)
  where
    both : {x y : List Value} {xs ys : List (List Value)} → x ≡ y → xs ≡ ys → (x ∷ xs) ≡ (y ∷ ys)
    both e g = cc

pub own_kept : OwnValuesAreKept
own_kept m fs f g trace is =
    let n : ℕ = length m.variables in
    let base : AreLong (length m.variables) (told_from m fs [] trace) = long_told m fs [] trace is.moments in
    front_more (length m.variables) (order_value m g f trace) 0 (with_value (order_value m f g trace) (told_from m fs [] trace)) (long_more (length m.variables) (order_value m f g trace) 0 (told_from m fs [] trace) base)
    ∙ front_more (length m.variables) (order_value m f g trace) 0 (told_from m fs [] trace) base ∙ front_told m fs [] trace is.moments
