-- Members of lists and literals of clauses.
use Rattle.std.proofs.Common.{◌≡◌, ◌⊎◌, inl, inr, ⊎_elim, ℕ, ◌<◌, true, false, not, List, [], ◌∷◌, ◌++◌, length, get_or, Contains, refl, sym, ap, ◌∙◌, subst, arith, eq-eqb, zero, suc}
use Rattle.std.specs.List.{flat_map}
use Rattle.std.specs.Prelude.{Any}
use Rattle.std.proofs.lemmas.Bool.{cases_Bool, cond-true, cond-false, eqb-true, not-true, not_from_false, both_ways}
use Rattle.std.proofs.lemmas.List.Elements.{Contains-append_left, Contains-append_right, Contains-append_cases, Contains-push, Contains-push_cases, All-contains, All-filter, All-contains_itself, filter_passes}
use Rattle.std.proofs.lemmas.List.Folds.{Any-from_list_any, list_any-from_Any}
use Rattle.sat_clauses.specs.Literal.{Literal}
use Rattle.sat_clauses.specs.Code.{code_of}
use Rattle.sat_clauses.specs.Truth.{is_same}
use Rattle.sat_clauses.proofs.CodeLemmas.{code_of-injective}
use Rattle.sat_clauses.proofs.ListLemmas.{Contains-cons}
use Rattle.sat_simplify.specs.Resolution.{has_literal, without, with_literal, joined, each_once}
use Rattle.base_values.proofs.ListLaws.{none_contained, contains_here}

-- a member of a list is its first, or one of the rest
pub cons_cases : {X : Type 0} (y : X) (ys : List X) (x : X) → Contains (y ∷ ys) x → (y ≡ x) ⊎ Contains ys x
cons_cases {X} y ys x has = by_place has.0 has.1 has.2 where
  by_place : (k : ℕ) → k < length (y ∷ ys) → get_or (y ∷ ys) k x ≡ x → (y ≡ x) ⊎ Contains ys x
  by_place zero lt e = inl e
  by_place (suc k) lt e = inr (k, omega (arith, lt), e)

-- what stands in a list that is joined of lists
pub from_flat_map : {X Y : Type 0} (f : X → List Y) (xs : List X) (y : Y) → Contains (flat_map f xs) y → (x : X) × Contains xs x × Contains (f x) y
from_flat_map {X} {Y} f [] y has = absurd (none_contained y has)
from_flat_map {X} {Y} f (x ∷ xs) y has = by_part (Contains-append_cases (f x) (flat_map f xs) y has) (λ h. from_flat_map f xs y h) where
  by_part : Contains (f x) y ⊎ Contains (flat_map f xs) y → (Contains (flat_map f xs) y → (x : X) × Contains xs x × Contains (f x) y) → (z : X) × Contains (x ∷ xs) z × Contains (f z) y
  by_part (inl h) more = (x, contains_here x xs, h)
  by_part (inr h) more = let r = more h in (r.0, Contains-cons x xs r.0 r.1, r.2)

pub in_flat_map : {X Y : Type 0} (f : X → List Y) (xs : List X) (x : X) (y : Y) → Contains xs x → Contains (f x) y → Contains (flat_map f xs) y
in_flat_map {X} {Y} f [] x y has h = absurd (none_contained x has)
in_flat_map {X} {Y} f (z ∷ xs) x y has h = by_part (cons_cases z xs x has) (λ r. in_flat_map f xs x y r h) where
  by_part : (z ≡ x) ⊎ Contains xs x → (Contains xs x → Contains (flat_map f xs) y) → Contains (flat_map f (z ∷ xs)) y
  by_part (inl e) more = Contains-append_left (f z) (flat_map f xs) y (subst (λ w. Contains (f w) y) (sym e) h)
  by_part (inr r) more = Contains-append_right (f z) (flat_map f xs) y (more r)

pub is_same-refl : (l : Literal) → is_same l l ≡ true
is_same-refl l = eq-eqb (code_of l) (code_of l) refl

pub same_literal : (l m : Literal) → is_same l m ≡ true → l ≡ m
same_literal l m e = code_of-injective l m (eqb-true (code_of l) (code_of m) e)

-- the test finds a literal exactly where the clause has it
pub contains_from_has : (l : Literal) (c : List Literal) → has_literal l c ≡ true → Contains c l
contains_from_has l c e =
    let some : Any (λ m. is_same l m ≡ true) c = Any-from_list_any (is_same l) c e in
    subst (Contains c) (sym (same_literal l some.1 some.4)) (some.0, some.2, some.3)

pub has_from_contains : (l : Literal) (c : List Literal) → Contains c l → has_literal l c ≡ true
has_from_contains l c has = list_any-from_Any (is_same l) c (has.0, l, has.1, has.2, is_same-refl l)

-- a literal of a clause without one is another literal of the clause
pub from_without : (l : Literal) (c : List Literal) (m : Literal) → Contains (without l c) m → Contains c m × (is_same m l ≡ false)
from_without l c m has = (
  All-contains (Contains c) (without l c) m (All-filter (λ m. not (is_same m l)) (Contains c) c (All-contains_itself c)) has,
  not-true (is_same m l) (All-contains (λ m. not (is_same m l) ≡ true) (without l c) m (filter_passes (λ m. not (is_same m l)) c) has),
)

pub in_without : (l : Literal) (c : List Literal) (m : Literal) → Contains c m → is_same m l ≡ false → Contains (without l c) m
in_without l [] m has other = absurd (none_contained m has)
in_without l (k ∷ c) m has other = by_part (cons_cases k c m has) (cases_Bool (not (is_same k l))) (λ r. in_without l c m r other) where
  by_part : (k ≡ m) ⊎ Contains c m → (not (is_same k l) ≡ true) ⊎ (not (is_same k l) ≡ false) → (Contains c m → Contains (without l c) m) → Contains (without l (k ∷ c)) m
  by_part (inl e) (inl kept) more = subst (λ r. Contains r m) (sym (cond-true (not (is_same k l)) (k ∷ without l c) (without l c) kept)) (subst (λ x. Contains (x ∷ without l c) m) (sym e) (contains_here m (without l c)))
  by_part (inl e) (inr gone) more = absurd (both_ways (not (is_same k l)) gone (ap (λ x. not (is_same x l)) e ∙ not_from_false (is_same m l) other))
  by_part (inr r) (inl kept) more = subst (λ r. Contains r m) (sym (cond-true (not (is_same k l)) (k ∷ without l c) (without l c) kept)) (Contains-cons k (without l c) m (more r))
  by_part (inr r) (inr gone) more = subst (λ r. Contains r m) (sym (cond-false (not (is_same k l)) (k ∷ without l c) (without l c) gone)) (more r)

-- what stands in a clause with one more literal
pub from_with : (c : List Literal) (l m : Literal) → Contains (with_literal c l) m → Contains c m ⊎ (l ≡ m)
from_with c l m has = by_test (cases_Bool (has_literal l c)) where
  by_test : (has_literal l c ≡ true) ⊎ (has_literal l c ≡ false) → Contains c m ⊎ (l ≡ m)
  by_test (inl there) = inl (subst (λ r. Contains r m) (cond-true (has_literal l c) c (c ++ l ∷ []) there) has)
  by_test (inr new) = Contains-push_cases c l m (subst (λ r. Contains r m) (cond-false (has_literal l c) c (c ++ l ∷ []) new) has)

pub in_with : (c : List Literal) (l m : Literal) → Contains c m → Contains (with_literal c l) m
in_with c l m has = by_test (cases_Bool (has_literal l c)) where
  by_test : (has_literal l c ≡ true) ⊎ (has_literal l c ≡ false) → Contains (with_literal c l) m
  by_test (inl there) = subst (λ r. Contains r m) (sym (cond-true (has_literal l c) c (c ++ l ∷ []) there)) has
  by_test (inr new) = subst (λ r. Contains r m) (sym (cond-false (has_literal l c) c (c ++ l ∷ []) new)) (Contains-append_left c (l ∷ []) m has)

pub in_with_itself : (c : List Literal) (l : Literal) → Contains (with_literal c l) l
in_with_itself c l = by_test (cases_Bool (has_literal l c)) where
  by_test : (has_literal l c ≡ true) ⊎ (has_literal l c ≡ false) → Contains (with_literal c l) l
  by_test (inl there) = subst (λ r. Contains r l) (sym (cond-true (has_literal l c) c (c ++ l ∷ []) there)) (contains_from_has l c there)
  by_test (inr new) = subst (λ r. Contains r l) (sym (cond-false (has_literal l c) c (c ++ l ∷ []) new)) (Contains-push c l)

-- what stands in two clauses joined
pub from_joined : (c d : List Literal) (m : Literal) → Contains (joined c d) m → Contains c m ⊎ Contains d m
from_joined c [] m has = inl has
from_joined c (l ∷ d) m has = by_part (from_joined (with_literal c l) d m has) where
  by_part : Contains (with_literal c l) m ⊎ Contains d m → Contains c m ⊎ Contains (l ∷ d) m
  by_part (inl h) = ⊎_elim (λ r. inl r) (λ e. inr (subst (λ x. Contains (l ∷ d) x) e (contains_here l d))) (from_with c l m h)
  by_part (inr h) = inr (Contains-cons l d m h)

pub joined_left : (c d : List Literal) (m : Literal) → Contains c m → Contains (joined c d) m
joined_left c [] m has = has
joined_left c (l ∷ d) m has = joined_left (with_literal c l) d m (in_with c l m has)

pub joined_right : (c d : List Literal) (m : Literal) → Contains d m → Contains (joined c d) m
joined_right c [] m has = absurd (none_contained m has)
joined_right c (l ∷ d) m has = by_part (cons_cases l d m has) (λ r. joined_right (with_literal c l) d m r) where
  by_part : (l ≡ m) ⊎ Contains d m → (Contains d m → Contains (joined (with_literal c l) d) m) → Contains (joined c (l ∷ d)) m
  by_part (inl e) more = joined_left (with_literal c l) d m (subst (Contains (with_literal c l)) e (in_with_itself c l))
  by_part (inr r) more = more r

pub from_once : (c : List Literal) (m : Literal) → Contains (each_once c) m → Contains c m
from_once c m has = ⊎_elim (λ h. absurd (none_contained m h)) (λ h. h) (from_joined [] c m has)

pub in_once : (c : List Literal) (m : Literal) → Contains c m → Contains (each_once c) m
in_once c m has = joined_right [] c m has
