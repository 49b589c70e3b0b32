-- Sets in order: a smaller one contains no larger one, and of two of one size none contains the other.
use Rattle.std.proofs.Common.{◌≡◌, ℕ, zero, suc, ◌+◌, ◌<◌, ◌≤◌, nat_eq, nat_lt, Bool, true, false, List, [], ◌∷◌, length, take, get_or, Option, Some, None, refl, sym, ap, subst, ◌∙◌, arith, ◌⊎◌, inl, inr, eq-eqb, eqb-true, ltb-true}
use Rattle.std.specs.Prelude.{IsTrue, slice_get, if◌then◌else◌}
use Rattle.std.specs.List.{list_all}
use Rattle.std.proofs.lemmas.Bool.{cases_eq, cases_lt, false_from_ne_true}
use Rattle.std.proofs.lemmas.Option.{same_Some as some_same, none-some as none_some}
use Rattle.cut_right_laws.specs.Sets.{IsRising, has_number, is_contained, is_before_in_order, stands_before}
use Rattle.cut_sets.specs.Tests.{are_apart}
use Rattle.cert_laws.specs.Certificate.{Site, a_set}
use Rattle.cert_laws.specs.Acceptance.{no_set, IsSetAt}
use Rattle.cert_check.specs.Matter.{Matter}
use Rattle.cert_check.specs.SiteFindings.{AreKept}
use Rattle.cert_check.specs.Order.{AreInOrder}
use Rattle.smv_language.proofs.BoolLaws.{or_cases, not_both}
use Rattle.sat_encoding_laws.proofs.SetLaws.{either_of, contained_has, contained_from, has_first, has_later, before_through}
use Rattle.sat_encoding_laws.proofs.Numbers.{no_more_numbers, rising_above, rising_rest}
use Rattle.cert_check.proofs.SetLaws.{passed, passes}

-- where there is an item, there is one at each place before it
there_is_one : {A : Type 0} (xs : List A) (n k : ℕ) (x : A) → slice_get xs n ≡ None → n < k → slice_get xs k ≡ Some x → ⊥
there_is_one [] n k x e l at = none_some x at
there_is_one (y ∷ ys) zero k x e l at = cc
there_is_one (y ∷ ys) (suc n) zero x e l at = absurd (omega (arith, l))
there_is_one (y ∷ ys) (suc n) (suc k) x e l at = there_is_one ys n k x e (omega (arith, l)) at

pub there_at : {A : Type 0} (xs : List A) (j k : ℕ) (x item : A) → slice_get xs k ≡ Some x → j < k → item ≡ get_or xs j item → slice_get xs j ≡ Some item
there_at [] j k x item at l e = absurd (none_some x at)
there_at (y ∷ ys) zero k x item at l e = ap Some (sym e)
there_at (y ∷ ys) (suc j) zero x item at l e = absurd (omega (arith, l))
there_at (y ∷ ys) (suc j) (suc k) x item at l e = there_at ys j k x item at (omega (arith, l)) e

beyond_first : (j k : ℕ) (js : List ℕ) → (j ≡ k → ⊥) → has_number (j ∷ js) k ≡ true → has_number js k ≡ true
beyond_first j k js n h = either_of (λ e. absurd (n (eqb-true j k e))) (λ g. g) (or_cases (nat_eq j k) (has_number js k) h)

same_of_one_size : (s t : List ℕ) → IsRising s → IsRising t → length s ≡ length t → is_contained s t ≡ true → s ≡ t
same_of_one_size [] [] r q e h = refl
same_of_one_size [] (j ∷ js) r q e h = absurd (omega (arith, e))
same_of_one_size (i ∷ is) [] r q e h = absurd (omega (arith, e))
same_of_one_size (i ∷ is) (j ∷ js) r q e h = by_first (cases_eq j i) (same_of_one_size is js (rising_rest i is r) (rising_rest j js q) (omega (arith, e)))
  where
    inside : (k : ℕ) → has_number (i ∷ is) k ≡ true → has_number (j ∷ js) k ≡ true
    inside k g = contained_has (i ∷ is) (j ∷ js) k h g

    -- where the first numbers differ, all of the one set are among the later ones of the other
    among : (j ≡ i → ⊥) → (k : ℕ) → has_number (i ∷ is) k ≡ true → has_number js k ≡ true
    among n k g = beyond_first j k js (either_of (λ f. differs k (eqb-true i k f)) (λ f. above k (rising_above i k is r f)) (or_cases (nat_eq i k) (has_number is k) g)) (inside k g)
      where
        first : j < i
        first = rising_above j i js q (beyond_first j i js n (inside i (has_first i is)))

        differs : (k : ℕ) → i ≡ k → j ≡ k → ⊥
        differs k f b = let a : j < i = first in omega (arith, a, f, b)

        above : (k : ℕ) → i < k → j ≡ k → ⊥
        above k f b = let a : j < i = first in omega (arith, a, f, b)

    too_many : length (i ∷ is) ≤ length js → ⊥
    too_many l = omega (arith, l, e)

    after : j ≡ i → (k : ℕ) → has_number is k ≡ true → has_number js k ≡ true
    after f k g = beyond_first j k js (differs (rising_above i k is r g)) (inside k (has_later i k is g))
      where
        differs : i < k → j ≡ k → ⊥
        differs l b = omega (arith, f, l, b)

    by_first : (j ≡ i) ⊎ (j ≡ i → ⊥) → (is_contained is js ≡ true → is ≡ js) → (i ∷ is) ≡ (j ∷ js)
    by_first (inl f) more = ap (λ n. n ∷ is) (sym f) ∙ ap (λ xs. j ∷ xs) (more (contained_from is js (after f)))
    by_first (inr n) more = absurd (too_many (no_more_numbers (i ∷ is) js r (among n)))

-- No set stands before itself, and none before a smaller one.
not_in_order : (s : List ℕ) → is_before_in_order s s ≡ false
not_in_order [] = refl
not_in_order (i ∷ is) = rw (eq-eqb i i refl) (not_in_order is)

not_before_itself : (s : List ℕ) → stands_before s s ≡ false
not_before_itself s = rw (eq-eqb (length s) (length s) refl) (not_in_order s)

before_no_smaller : (s t : List ℕ) → stands_before s t ≡ true → length s ≤ length t
before_no_smaller s t h = by_test (nat_eq (length s) (length t)) refl h
  where
    at_most : (m n : ℕ) → (m ≡ n) ⊎ (m < n) → m ≤ n
    at_most m n (inl e) = omega (arith, e)
    at_most m n (inr l) = omega (arith, l)

    by_test : (b : Bool) → nat_eq (length s) (length t) ≡ b → (if b then is_before_in_order s t else nat_lt (length s) (length t)) ≡ true → length s ≤ length t
    by_test true e g = at_most (length s) (length t) (inl (eqb-true (length s) (length t) e))
    by_test false e g = at_most (length s) (length t) (inr (ltb-true (length s) (length t) g))

-- Which sets are apart.
apart_from : (s t : List ℕ) → (is_contained s t ≡ true → ⊥) → (is_contained t s ≡ true → ⊥) → are_apart s t ≡ true
apart_from s t f g = rw (false_from_ne_true (is_contained s t) f, false_from_ne_true (is_contained t s) g) refl

smaller_apart : (other set : List ℕ) → IsRising set → length other < length set → is_contained other set ≡ false → are_apart other set ≡ true
smaller_apart other set r l e = apart_from other set (λ h. not_both (is_contained other set) h e) (λ h. too_many (no_more_numbers set other r (λ i g. contained_has set other i h g)))
  where
    too_many : length set ≤ length other → ⊥
    too_many m = omega (arith, l, m)

same_size_apart : (other set : List ℕ) → IsRising other → IsRising set → length other ≡ length set → stands_before other set ≡ true → are_apart other set ≡ true
same_size_apart other set r q e b =
    apart_from other set (λ h. differ (same_of_one_size other set r q e h)) (λ h. differ (sym (same_of_one_size set other q r (sym e) h)))
  where
    differ : other ≡ set → ⊥
    differ p = not_both (stands_before set set) (subst (λ s. stands_before s set ≡ true) p b) (not_before_itself set)

-- The sets so far.
module _ (sets : List (List ℕ)) (set : List ℕ) where
  abbrev is_apart_from : List ℕ → Bool
  is_apart_from other = are_apart other set

  pub apart_next : (j : ℕ) (other : List ℕ) → slice_get sets j ≡ Some other → IsRising set → length other < length set → is_contained other set ≡ false →
      list_all (λ o. are_apart o set) (take j sets) ≡ true → list_all (λ o. are_apart o set) (take (j + 1) sets) ≡ true
  apart_next j other at rises less not_in so_far = passes is_apart_from sets (j + 1) each
    where
      each : (i : ℕ) (x : List ℕ) → i < j + 1 → slice_get sets i ≡ Some x → are_apart x set ≡ true
      each i x l there = by_place (cases_lt i j)
        where
          last : j ≤ i → i ≡ j
          last m = omega (arith, l, m)

          by_place : (i < j) ⊎ (j ≤ i) → are_apart x set ≡ true
          by_place (inl m) = passed is_apart_from sets j i x so_far m there
          by_place (inr m) = subst (λ o. are_apart o set ≡ true) (some_same other x (sym at ∙ ap (slice_get sets) (sym (last m)) ∙ there)) (smaller_apart other set rises less not_in)

  pub not_apart : (k j : ℕ) (other : List ℕ) → j < k → slice_get sets j ≡ Some other → is_contained other set ≡ true → list_all (λ o. are_apart o set) (take k sets) ≡ false
  not_apart k j other l at h = false_from_ne_true (list_all is_apart_from (take k sets)) (λ all. not_both (are_apart other set) (passed is_apart_from sets k j other all l at) (rw h refl))

  pub rest_apart : (k j : ℕ) (other : List ℕ) → AreInOrder sets (k + 1) → slice_get sets k ≡ Some set → j < k → slice_get sets j ≡ Some other → length set ≤ length other →
      list_all (λ o. are_apart o set) (take j sets) ≡ true → list_all (λ o. are_apart o set) (take k sets) ≡ true
  rest_apart k j other order here l at no_smaller so_far = passes is_apart_from sets k each
    where
      each : (i : ℕ) (x : List ℕ) → i < k → slice_get sets i ≡ Some x → are_apart x set ≡ true
      each i x m there = by_place (cases_lt i j)
        where
          below : i < k + 1
          below = omega (arith, m)

          last : k < k + 1
          last = omega arith

          before : stands_before x set ≡ true
          before = order.before i k x set m last there here

          same : j ≡ i → length set ≤ length x
          same e = subst (λ o. length set ≤ length o) (some_same other x (sym at ∙ ap (slice_get sets) e ∙ there)) no_smaller

          further : j < i → length set ≤ length x
          further n = let a : length other ≤ length x = before_no_smaller other x (order.before j i other x n below at there) in omega (arith, a, no_smaller)

          apart : length set ≤ length x → are_apart x set ≡ true
          apart a = let b : length x ≤ length set = before_no_smaller x set before in same_size_apart x set (order.rising i x below there) (order.rising k set last here) (omega (arith, a, b)) before

          strict : (j ≡ i → ⊥) → j ≤ i → j < i
          strict n a = grind (arith, n, a)

          by_size : j ≤ i → (j ≡ i) ⊎ (j ≡ i → ⊥) → are_apart x set ≡ true
          by_size a (inl e) = apart (same e)
          by_size a (inr n) = apart (further (strict n a))

          by_place : (i < j) ⊎ (j ≤ i) → are_apart x set ≡ true
          by_place (inl a) = passed is_apart_from sets j i x so_far a there
          by_place (inr a) = by_size a (cases_eq j i)

-- Sets in order.
pub none_in_order : (sets : List (List ℕ)) → AreInOrder sets 0
none_in_order sets = record { rising = λ j set l at. absurd (omega (arith, l)); before = λ i j one other m l at there. absurd (omega (arith, l)) }

pub in_order_with : (sets : List (List ℕ)) (k : ℕ) (set : List ℕ) → AreInOrder sets k → slice_get sets k ≡ Some set → IsRising set →
    ((j : ℕ) (before : List ℕ) → k ≡ suc j → slice_get sets j ≡ Some before → IsTrue (stands_before before set)) → AreInOrder sets (k + 1)
in_order_with sets k set order here rises after = record { rising = rising; before = before }
  where
    last : (j : ℕ) → j < k + 1 → k ≤ j → k ≡ j
    last j l m = omega (arith, l, m)

    same : (j : ℕ) (x : List ℕ) → k ≡ j → slice_get sets j ≡ Some x → set ≡ x
    same j x e at = some_same set x (sym here ∙ ap (slice_get sets) e ∙ at)

    rising : (j : ℕ) (x : List ℕ) → j < k + 1 → slice_get sets j ≡ Some x → IsRising x
    rising j x l at = by_place (cases_lt j k)
      where
        by_place : (j < k) ⊎ (k ≤ j) → IsRising x
        by_place (inl m) = order.rising j x m at
        by_place (inr m) = subst IsRising (same j x (last j l m) at) rises

    -- every set before the last place stands before the set there
    all_before : (i n : ℕ) (one : List ℕ) → k ≡ suc n → i < k → slice_get sets i ≡ Some one → IsTrue (stands_before one set)
    all_before i n one e l at = by_option (slice_get sets n) refl
      where
        is_last : (i ≡ n → ⊥) → i < n
        is_last f = grind (arith, e, l, f)

        within : n < k
        within = omega (arith, e)

        by_option : (o : Option (List ℕ)) → slice_get sets n ≡ o → IsTrue (stands_before one set)
        by_option None f = absurd (there_is_one sets n k set f within here)
        by_option (Some x) f = by_place (cases_eq i n)
          where
            by_place : (i ≡ n) ⊎ (i ≡ n → ⊥) → IsTrue (stands_before one set)
            by_place (inl p) = after n one e (ap (slice_get sets) (sym p) ∙ at)
            by_place (inr p) = before_through one x set (order.before i n one x (is_last p) within at f) (after n x e f)

    before : (i j : ℕ) (one other : List ℕ) → i < j → j < k + 1 → slice_get sets i ≡ Some one → slice_get sets j ≡ Some other → IsTrue (stands_before one other)
    before i j one other m l at there = by_place (cases_lt j k)
      where
        by_place : (j < k) ⊎ (k ≤ j) → IsTrue (stands_before one other)
        by_place (inl a) = order.before i j one other m a at there
        by_place (inr a) = subst (λ x. IsTrue (stands_before one x)) (same j other (last j l a) there) (by_number k refl (omega (arith, m, l)))
          where
            by_number : (n : ℕ) → k ≡ n → i < k → IsTrue (stands_before one set)
            by_number zero e b = absurd (omega (arith, e, b))
            by_number (suc n) e b = all_before i n one e b at

-- a set that is kept with its site is in order after those before it
pub in_order_after : (a : Matter) (k : ℕ) (set : List ℕ) (rest : List Site) → AreInOrder a.certificate.sets k → slice_get a.certificate.sets k ≡ Some set → AreKept a (a_set k set ∷ rest) →
    AreInOrder a.certificate.sets (k + 1)
in_order_after a k set rest order at kept = with (kept.each.0 no_set)
  where
    with : IsSetAt a.subject a.certificate k set → AreInOrder a.certificate.sets (k + 1)
    with is = in_order_with a.certificate.sets k set order at is.rises is.after
