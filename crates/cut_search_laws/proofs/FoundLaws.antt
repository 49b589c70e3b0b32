-- The list of found sets: a new set keeps it, every earlier set contains one of the list, and it is right.
use Rattle.std.proofs.Common.{◌≡◌, ◌≢◌, ℕ, zero, suc, ◌<◌, ◌≤◌, Bool, true, false, not, List, [], ◌∷◌, length, Some, refl, sym, ap, ◌∙◌, subst, arith, ◌⊎◌, inl, inr}
use Rattle.std.proofs.lemmas.List.{length-map}
use Rattle.std.proofs.lemmas.Bool.{cases_lt}
use Rattle.std.specs.Prelude.{slice_get, Contains, IsTrue, cond, if◌then◌else◌, filter}
use Rattle.smv_language.specs.Trace.{Each, AtSome}
use Rattle.cut_right_laws.specs.Right.{IsContained, HasFailedAll, HasFailedAtMost, Shows, IsRight}
use Rattle.cut_right_laws.specs.Sets.{IsRising, is_contained, stands_before}
use Rattle.cut_search_laws.specs.FoundSets.{AreInOrder, Found, sets_of, traces_of, without, placed, with_found, AreApart, IsNew, IsFound, AreFound, ContainOneOf}
use Rattle.sat_encoding_laws.proofs.SetLaws.{each_kept, has_contains, contains_has, contained_from, contained_in_itself, before_through, before_either}
use Rattle.smv_language.proofs.ListLaws.{get_mapped}
use Rattle.smv_flat_laws.proofs.Conditions.{each_at}
use Rattle.smv_type_laws.proofs.ClosedLaws.{each_both}
use Rattle.smv_language.proofs.BoolLaws.{not_both}

-- Lists.
pub each_filtered : {A : Type 0} (P : A → Type 0) (test : A → Bool) (xs : List A) → Each P xs → Each P (filter test xs)
each_filtered P test [] h = tt
each_filtered P test (x ∷ xs) h = by_test (test x) (each_filtered P test xs h.1)
  where
    by_test : (b : Bool) → Each P (filter test xs) → Each P (cond b (x ∷ filter test xs) (filter test xs))
    by_test true k = (h.0, k)
    by_test false k = k

pub some_kept : {A : Type 0} (P Q : A → Type 0) → ((x : A) → P x → Q x) → (xs : List A) → AtSome P xs → AtSome Q xs
some_kept P Q f [] h = absurd h
some_kept P Q f (x ∷ xs) (inl h) = inl (f x h)
some_kept P Q f (x ∷ xs) (inr h) = inr (some_kept P Q f xs h)

-- Taking out and putting in.
pub taken_out : {T : Type 0} (set : List ℕ) (fs : List (Found T)) → Each (λ f. is_contained set f.set ≡ false) (without set fs)
taken_out set [] = tt
taken_out set (f ∷ fs) = by_test (is_contained set f.set) refl (taken_out set fs)
  where
    by_test : (b : Bool) → is_contained set f.set ≡ b → Each (λ f. is_contained set f.set ≡ false) (without set fs) →
        Each (λ f. is_contained set f.set ≡ false) (cond (not b) (f ∷ without set fs) (without set fs))
    by_test true e k = k
    by_test false e k = (e, k)

pub each_placed : {T : Type 0} (P : Found T → Type 0) (new : Found T) (fs : List (Found T)) → P new → Each P fs → Each P (placed new fs)
each_placed P new [] n h = (n, tt)
each_placed P new (f ∷ fs) n h = by_test (stands_before new.set f.set) (each_placed P new fs n h.1)
  where
    by_test : (b : Bool) → Each P (placed new fs) → Each P (if b then new ∷ f ∷ fs else f ∷ placed new fs)
    by_test true k = (n, h)
    by_test false k = (h.0, k)

new_is_placed : {T : Type 0} (P : Found T → Type 0) (new : Found T) (fs : List (Found T)) → P new → AtSome P (placed new fs)
new_is_placed P new [] n = inl n
new_is_placed P new (f ∷ fs) n = by_test (stands_before new.set f.set) (new_is_placed P new fs n)
  where
    by_test : (b : Bool) → AtSome P (placed new fs) → AtSome P (if b then new ∷ f ∷ fs else f ∷ placed new fs)
    by_test true k = inl n
    by_test false k = inr k

others_stay : {T : Type 0} (P : Found T → Type 0) (new : Found T) (fs : List (Found T)) → AtSome P fs → AtSome P (placed new fs)
others_stay P new [] h = absurd h
others_stay P new (f ∷ fs) h = by_test (stands_before new.set f.set) h (λ k. others_stay P new fs k)
  where
    by_test : (b : Bool) → AtSome P (f ∷ fs) → (AtSome P fs → AtSome P (placed new fs)) → AtSome P (if b then new ∷ f ∷ fs else f ∷ placed new fs)
    by_test true k more = inr k
    by_test false (inl k) more = inl k
    by_test false (inr k) more = inr (more k)

-- each of the list contains the set or stays
stays_or_contains : {T : Type 0} (set : List ℕ) (fs : List (Found T)) → Each (λ f. (is_contained set f.set ≡ true) ⊎ AtSome (λ g. g ≡ f) (without set fs)) fs
stays_or_contains set [] = tt
stays_or_contains {T = T} set (f ∷ fs) = by_test (is_contained set f.set) refl (stays_or_contains set fs)
  where
    further : (x : Found T) → ((is_contained set x.set ≡ true) ⊎ AtSome (λ g. g ≡ x) (without set fs)) → ((is_contained set x.set ≡ true) ⊎ AtSome (λ g. g ≡ x) (f ∷ without set fs))
    further x (inl e) = inl e
    further x (inr k) = inr (inr k)

    by_test : (b : Bool) → is_contained set f.set ≡ b → Each (λ x. (is_contained set x.set ≡ true) ⊎ AtSome (λ g. g ≡ x) (without set fs)) fs →
        Each (λ x. (is_contained set x.set ≡ true) ⊎ AtSome (λ g. g ≡ x) (cond (not b) (f ∷ without set fs) (without set fs))) (f ∷ fs)
    by_test true e k = (inl e, k)
    by_test false e k =
        (inr (inl refl), each_kept (λ x. (is_contained set x.set ≡ true) ⊎ AtSome (λ g. g ≡ x) (without set fs)) (λ x. (is_contained set x.set ≡ true) ⊎ AtSome (λ g. g ≡ x) (f ∷ without set fs)) further fs k)

-- every set of the list before contains one of the list with the new set
pub still_contain : {T : Type 0} (new : Found T) (fs : List (Found T)) → ContainOneOf (with_found new fs) fs
still_contain {T = T} new fs =
    each_kept (λ f. (is_contained new.set f.set ≡ true) ⊎ AtSome (λ g. g ≡ f) (without new.set fs)) (λ f. AtSome (λ g. is_contained g.set f.set ≡ true) (with_found new fs)) (λ f h. one f h) fs
    (stays_or_contains new.set fs)
  where
    one : (f : Found T) → ((is_contained new.set f.set ≡ true) ⊎ AtSome (λ g. g ≡ f) (without new.set fs)) → AtSome (λ g. is_contained g.set f.set ≡ true) (with_found new fs)
    one f (inl e) = new_is_placed (λ g. is_contained g.set f.set ≡ true) new (without new.set fs) e
    one f (inr k) =
        others_stay (λ g. is_contained g.set f.set ≡ true) new (without new.set fs)
        (some_kept (λ g. g ≡ f) (λ g. is_contained g.set f.set ≡ true) (λ g e. subst (λ x. is_contained x.set f.set ≡ true) (sym e) (contained_in_itself f.set)) (without new.set fs) k)

-- and the new set is one of it
pub new_is_listed : {T : Type 0} (new : Found T) (fs : List (Found T)) → AtSome (λ g. g ≡ new) (with_found new fs)
new_is_listed new fs = new_is_placed (λ g. g ≡ new) new (without new.set fs) refl

module _ (T : Type 0) (is_trace reaches : T → Type 0) (has_failed : T → ℕ → Type 0) (faults size : ℕ) where
  abbrev Are : List (Found T) → Type 0
  Are fs = AreFound T is_trace reaches has_failed faults size fs

  abbrev Is : Found T → Type 0
  Is f = IsFound T is_trace reaches has_failed faults size f

  abbrev Before : Found T → Found T → Type 0
  Before f g = IsTrue (stands_before f.set g.set)

  found_without : (set : List ℕ) (fs : List (Found T)) → Are fs → Are (without set fs)
  found_without set [] h = tt
  found_without set (f ∷ fs) h = by_test (is_contained set f.set) (found_without set fs h.3)
    where
      by_test : (b : Bool) → Are (without set fs) → Are (cond (not b) (f ∷ without set fs) (without set fs))
      by_test true k = k
      by_test false k = (
        h.0,
        each_filtered (AreApart f) (λ g. not (is_contained set g.set)) fs h.1,
        each_filtered (Before f) (λ g. not (is_contained set g.set)) fs h.2,
        k,
      )

  found_placed : (new : Found T) (fs : List (Found T)) → Is new → Each (AreApart new) fs → Are fs → Are (placed new fs)
  found_placed new [] n apart h = (n, tt, tt, tt)
  found_placed new (f ∷ fs) n apart h = by_test (stands_before new.set f.set) refl (found_placed new fs n apart.1 h.3)
    where
      turned : AreApart f new
      turned = record { left = apart.0.right; right = apart.0.left }

      different : new.set ≡ f.set → ⊥
      different e = not_both (is_contained new.set f.set) (subst (λ s. is_contained new.set s ≡ true) e (contained_in_itself new.set)) apart.0.left

      by_test : (b : Bool) → stands_before new.set f.set ≡ b → Are (placed new fs) → Are (if b then new ∷ f ∷ fs else f ∷ placed new fs)
      by_test true e k = (n, apart, (e, each_kept (Before f) (Before new) (λ g o. before_through new.set f.set g.set e o) fs h.2), h)
      by_test false e k = (
        h.0,
        each_placed (AreApart f) new fs turned h.1,
        each_placed (Before f) new fs (before_either new.set f.set e different) h.2,
        k,
      )

  -- a new set that contains no listed one keeps the list
  pub found_with : (new : Found T) (fs : List (Found T)) → Is new → IsNew new.set fs → Are fs → Are (with_found new fs)
  found_with new fs n fresh h =
      found_placed new (without new.set fs) n
      (each_both (λ f. is_contained new.set f.set ≡ false) (λ f. is_contained f.set new.set ≡ false) (AreApart new) (λ f l r. record { left = l; right = r }) (without new.set fs)
      (taken_out new.set fs) (each_filtered (λ f. is_contained f.set new.set ≡ false) (λ f. not (is_contained new.set f.set)) fs fresh))
      (found_without new.set fs h)

  pub each_found : (fs : List (Found T)) → Are fs → Each Is fs
  each_found [] h = tt
  each_found (f ∷ fs) h = (h.0, each_found fs h.3)

  apart_at : (fs : List (Found T)) (j k : ℕ) (f g : Found T) → Are fs → slice_get fs j ≡ Some f → slice_get fs k ≡ Some g → j < k → AreApart f g
  apart_at [] j k f g h e e' l = cc
  apart_at (x ∷ fs) j zero f g h e e' l = absurd (omega (arith, l))
  apart_at (x ∷ fs) zero (suc k) f g h e e' l = subst (λ y. AreApart y g) (some_same x f e) (each_at (AreApart x) fs k g h.1 e')
    where
      some_same : (y x : Found T) → Some y ≡ Some x → y ≡ x
      some_same y x e = cc
  apart_at (x ∷ fs) (suc j) (suc k) f g h e e' l = apart_at fs j k f g h.3 e e' (omega (arith, l))

  contained_test : (set other : List ℕ) → IsContained set other → is_contained set other ≡ true
  contained_test set other h = contained_from set other (λ i e. contains_has other i (h i (has_contains set i e)))

  not_contained : (fs : List (Found T)) (j k : ℕ) (f g : Found T) → Are fs → slice_get fs j ≡ Some f → slice_get fs k ≡ Some g → j ≢ k → is_contained f.set g.set ≡ false
  not_contained fs j k f g h e e' n = by_order (cases_lt j k)
    where
      by_order : (j < k) ⊎ (k ≤ j) → is_contained f.set g.set ≡ false
      by_order (inl l) = (apart_at fs j k f g h e e' l).left
      by_order (inr l) = (apart_at fs k j g f h e' e (strict j k n l)).right
        where
          strict : (j k : ℕ) → j ≢ k → k ≤ j → k < j
          strict j k n l = grind (arith, n, l)

  -- a list of found sets that covers a class is right for it
  pub found_is_right : (class : T → Type 0) (fs : List (Found T)) → Are fs →
      ((trace : T) → class trace → reaches trace → HasFailedAtMost T is_trace reaches has_failed size trace →
      (set : List ℕ) × Contains (sets_of fs) set × HasFailedAll T is_trace reaches has_failed trace set) →
      IsRight T is_trace reaches has_failed size class (sets_of fs) (traces_of fs)
  found_is_right class fs h covers = record {
    one_each = length-map fs (λ f. f.trace) ∙ sym (length-map fs (λ f. f.set));
    small = λ k set e.
        let at : (f : Found T) × (slice_get fs k ≡ Some f) × (f.set ≡ set) = get_mapped (λ f. f.set) fs k set e in
        subst (λ s. length s ≤ size) at.2 (each_at Is fs k at.0 (each_found fs h) at.1).small;
    shown = λ k set trace e e'.
        let at : (f : Found T) × (slice_get fs k ≡ Some f) × (f.set ≡ set) = get_mapped (λ f. f.set) fs k set e in
        let at' : (f : Found T) × (slice_get fs k ≡ Some f) × (f.trace ≡ trace) = get_mapped (λ f. f.trace) fs k trace e' in
        let same : at'.0 ≡ at.0 = some_same at'.0 at.0 (sym at'.1 ∙ at.1) in
        subst (λ s. Shows T is_trace reaches has_failed trace s) at.2
        (subst (λ t. Shows T is_trace reaches has_failed t at.0.set) (ap (λ (f : Found T). f.trace) (sym same) ∙ at'.2) (each_at Is fs k at.0 (each_found fs h) at.1).shown);
    covered = covers;
    apart = λ j k set other e e' n contained.
        let at : (f : Found T) × (slice_get fs j ≡ Some f) × (f.set ≡ set) = get_mapped (λ f. f.set) fs j set e in
        let at' : (f : Found T) × (slice_get fs k ≡ Some f) × (f.set ≡ other) = get_mapped (λ f. f.set) fs k other e' in
        not_both (is_contained set other) (contained_test set other contained)
        (subst (λ s. is_contained s other ≡ false) at.2 (subst (λ s. is_contained at.0.set s ≡ false) at'.2 (not_contained fs j k at.0 at'.0 h at.1 at'.1 n)));
  }
    where
      some_same : (y x : Found T) → Some y ≡ Some x → y ≡ x
      some_same y x e = cc

  -- its sets stand in order, and their numbers rise
  pub found_in_order : (fs : List (Found T)) → Are fs → AreInOrder (sets_of fs)
  found_in_order [] h = tt
  found_in_order (f ∷ []) h = tt
  found_in_order (f ∷ g ∷ fs) h = (h.2.0, found_in_order (g ∷ fs) h.3)

  pub found_rising : (fs : List (Found T)) → Are fs → Each IsRising (sets_of fs)
  found_rising [] h = tt
  found_rising (f ∷ fs) h = (h.0.rising, found_rising fs h.3)
