-- What the tests of numbers and sets find, as the rules ask it.
use Rattle.std.proofs.Common.{◌≡◌, ℕ, zero, suc, ◌<◌, ◌≤◌, Bool, true, false, not, List, [], ◌∷◌, length, take, Option, Some, None, refl, sym, ap, subst, ◌∙◌, arith}
use Rattle.std.specs.Prelude.{◌&&◌, All, Contains, IsTrue, slice_get}
use Rattle.std.specs.List.{list_all}
use Rattle.std.proofs.lemmas.List.Elements.{All-contains}
use Rattle.cut_right_laws.specs.Sets.{IsRising, is_contained, stands_before}
use Rattle.cut_right_laws.specs.Right.{IsContained}
use Rattle.sat_encoding_laws.proofs.SetLaws.{has_contains, contains_has, contained_has, contained_from}
use Rattle.cut_sets.specs.Tests.{are_apart}
use Rattle.cert_laws.specs.Certificate.{Certificate}
use Rattle.cert_laws.specs.Acceptance.{Subject, IsSetAt, IsApart}
use Rattle.cert_check.specs.Order.{stands_after, is_after_in}
use Rattle.std.proofs.lemmas.Option.{same_Some as some_same, none-some as none_some}
use Rattle.std.proofs.lemmas.Bool.{and_parts, and_from as and_both, both_ways, not-true}
use Rattle.base_values.proofs.ListLaws.{all_from}

-- All of a list, by its members.
pub each_in : {A : Type 0} (P : A → Type 0) (xs : List A) → All P xs → (x : A) → Contains xs x → P x
each_in P xs h x m = All-contains P xs x h m

-- Containment.
contained_then : (s t : List ℕ) → is_contained s t ≡ true → IsContained s t
contained_then s t e i h = has_contains t i (contained_has s t i e (contains_has s i h))

contained_where : (s t : List ℕ) → IsContained s t → is_contained s t ≡ true
contained_where s t f = contained_from s t (λ i h. contains_has t i (f i (has_contains s i h)))

apart_then : (s t : List ℕ) → are_apart s t ≡ true → (IsContained s t → ⊥) × (IsContained t s → ⊥)
apart_then s t e =
    let both = and_parts (not (is_contained s t)) (not (is_contained t s)) e in
    ((λ f. both_ways (is_contained s t) (not-true (is_contained s t) both.0) (contained_where s t f)), (λ f. both_ways (is_contained t s) (not-true (is_contained t s) both.1) (contained_where t s f)))

apart_where : (s t : List ℕ) → (IsContained s t → ⊥) × (IsContained t s → ⊥) → are_apart s t ≡ true
apart_where s t f = by_tests (is_contained s t) (is_contained t s) refl refl
  where
    by_tests : (b c : Bool) → is_contained s t ≡ b → is_contained t s ≡ c → (not b && not c) ≡ true
    by_tests true c e d = absurd (f.0 (contained_then s t e))
    by_tests false true e d = absurd (f.1 (contained_then t s d))
    by_tests false false e d = refl

pub passed : {A : Type 0} (p : A → Bool) (xs : List A) (k j : ℕ) (x : A) → list_all p (take k xs) ≡ true → j < k → slice_get xs j ≡ Some x → p x ≡ true
passed p [] k j x e l at = absurd (none_some x at)
passed p (y ∷ ys) zero j x e l at = absurd (omega (arith, l))
passed p (y ∷ ys) (suc k) zero x e l at = subst (λ z. p z ≡ true) (some_same y x at) (and_parts (p y) (list_all p (take k ys)) e).0
passed p (y ∷ ys) (suc k) (suc j) x e l at = passed p ys k j x (and_parts (p y) (list_all p (take k ys)) e).1 (omega (arith, l)) at

pub passes : {A : Type 0} (p : A → Bool) (xs : List A) (k : ℕ) → ((j : ℕ) (x : A) → j < k → slice_get xs j ≡ Some x → p x ≡ true) → list_all p (take k xs) ≡ true
passes p [] zero f = refl
passes p [] (suc k) f = refl
passes p (y ∷ ys) zero f = refl
passes p (y ∷ ys) (suc k) f = and_both (p y) (list_all p (take k ys)) (f 0 y (omega arith) refl) (passes p ys k (λ j x l at. f (suc j) x (omega (arith, l)) at))

pub apart_from_test : (subject : Subject) (c : Certificate) (k : ℕ) (set : List ℕ) → list_all (λ other. are_apart other set) (take k c.sets) ≡ true → IsApart subject c k set
apart_from_test subject c k set e j other l at = apart_then other set (passed (λ o. are_apart o set) c.sets k j other e l at)

pub test_from_apart : (subject : Subject) (c : Certificate) (k : ℕ) (set : List ℕ) → IsApart subject c k set → list_all (λ other. are_apart other set) (take k c.sets) ≡ true
test_from_apart subject c k set f = passes (λ o. are_apart o set) c.sets k (λ j other l at. apart_where other set (f j other l at))

-- Order.
pub after_then : (sets : List (List ℕ)) (k : ℕ) (set : List ℕ) → is_after_in sets k set ≡ true → (j : ℕ) (before : List ℕ) → k ≡ suc j → slice_get sets j ≡ Some before → IsTrue (stands_before before set)
after_then sets zero set e j before p at = absurd (omega (arith, p))
after_then sets (suc k) set e j before p at = sym (ap (stands_after set) (ap (slice_get sets) (same k j p) ∙ at)) ∙ e
  where
    same : (k j : ℕ) → suc k ≡ suc j → k ≡ j
    same k j p = omega (arith, p)

pub after_where : (sets : List (List ℕ)) (k : ℕ) (set : List ℕ) → k < length sets → ((j : ℕ) (before : List ℕ) → k ≡ suc j → slice_get sets j ≡ Some before → IsTrue (stands_before before set)) →
    is_after_in sets k set ≡ true
after_where sets zero set l f = refl
after_where sets (suc k) set l f = by_place (slice_get sets k) refl
  where
    past : (xs : List (List ℕ)) (k : ℕ) → suc k < length xs → slice_get xs k ≡ None → ⊥
    past [] k l e = absurd (omega (arith, l))
    past (x ∷ xs) zero l e = cc
    past (x ∷ xs) (suc k) l e = past xs k (omega (arith, l)) e

    by_place : (o : Option (List ℕ)) → slice_get sets k ≡ o → stands_after set o ≡ true
    by_place None e = absurd (past sets k l e)
    by_place (Some before) e = f k before refl e

-- What is asked of a set, from its tests.
pub set_from : (subject : Subject) (c : Certificate) (k : ℕ) (set : List ℕ) → IsRising set → All (λ i. (1 ≤ i) × (i ≤ subject.faults)) set → length set ≤ c.size → is_after_in c.sets k set ≡ true → IsSetAt subject c k set
set_from subject c k set rises names small after = record { rises = rises; names = λ i m. each_in (λ i. (1 ≤ i) × (i ≤ subject.faults)) set names i m; small = small; after = after_then c.sets k set after }

pub names_in : (subject : Subject) (c : Certificate) (k : ℕ) (set : List ℕ) → IsSetAt subject c k set → All (λ i. (1 ≤ i) × (i ≤ subject.faults)) set
names_in subject c k set h = all_from (λ i. (1 ≤ i) × (i ≤ subject.faults)) set (λ i m. h.names i m)
