-- Lists of which any two members are judged.
use Rattle.std.proofs.Common.{◌≡◌, ℕ, zero, suc, List, [], ◌∷◌, ◌++◌, Some, refl, ap, subst}
use Rattle.std.specs.Prelude.{slice_get}
use Rattle.smv_language.specs.Trace.{Each}
use Rattle.smv_flat_laws.proofs.Reaches.{each_left, each_right}
use Rattle.smv_flat_laws.proofs.Lists.{each_more}
use Rattle.smv_flat_laws.proofs.Conditions.{each_join, each_at}

-- each member with each later one
abbrev pub Pairwise : {A : Type 0} → (A → A → Type 0) → List A → Type 0
Pairwise R [] = Unit {0}
Pairwise R (x ∷ xs) = Each (R x) xs × Pairwise R xs

-- each of the first with each of the second
abbrev pub Across : {A : Type 0} → (A → A → Type 0) → List A → List A → Type 0
Across R xs ys = Each (λ x. Each (R x) ys) xs

pub pairs_join : {A : Type 0} (R : A → A → Type 0) (xs ys : List A) → Pairwise R xs → Pairwise R ys → Across R xs ys → Pairwise R (xs ++ ys)
pairs_join R [] ys h k c = k
pairs_join R (x ∷ xs) ys h k c = (each_join (R x) xs ys h.0 c.0, pairs_join R xs ys h.1 k c.1)

pub pairs_left : {A : Type 0} (R : A → A → Type 0) (xs ys : List A) → Pairwise R (xs ++ ys) → Pairwise R xs
pairs_left R [] ys h = tt
pairs_left R (x ∷ xs) ys h = (each_left (R x) xs ys h.0, pairs_left R xs ys h.1)

pub pairs_right : {A : Type 0} (R : A → A → Type 0) (xs ys : List A) → Pairwise R (xs ++ ys) → Pairwise R ys
pairs_right R [] ys h = h
pairs_right R (x ∷ xs) ys h = pairs_right R xs ys h.1

pub pairs_across : {A : Type 0} (R : A → A → Type 0) (xs ys : List A) → Pairwise R (xs ++ ys) → Across R xs ys
pairs_across R [] ys h = tt
pairs_across R (x ∷ xs) ys h = (each_right (R x) xs ys h.0, pairs_across R xs ys h.1)

-- each of one kind with each of another
pub across_kinds : {A : Type 0} (P Q : A → Type 0) (R : A → A → Type 0) → ((x y : A) → P x → Q y → R x y) → (xs ys : List A) → Each P xs → Each Q ys → Across R xs ys
across_kinds P Q R f [] ys h k = tt
across_kinds P Q R f (x ∷ xs) ys h k = (each_more Q (R x) ys (λ y q. f x y h.0 q) k, across_kinds P Q R f xs ys h.1 k)

-- two places of a list hold what is not so to one another: they are one place
pub pairwise_same : {A : Type 0} (R : A → A → Type 0) (xs : List A) (i j : ℕ) (x y : A) → Pairwise R xs → slice_get xs i ≡ Some x → slice_get xs j ≡ Some y →
    (R x y → ⊥) → (R y x → ⊥) → i ≡ j
pairwise_same R [] i j x y h e f m n = cc
pairwise_same R (z ∷ xs) zero zero x y h e f m n = refl
pairwise_same R (z ∷ xs) zero (suc j) x y h e f m n = let same : z ≡ x = cc in absurd (m (subst (λ w. R w y) same (each_at (R z) xs j y h.0 f)))
pairwise_same R (z ∷ xs) (suc i) zero x y h e f m n = let same : z ≡ y = cc in absurd (n (subst (λ w. R w x) same (each_at (R z) xs i x h.0 e)))
pairwise_same R (z ∷ xs) (suc i) (suc j) x y h e f m n = ap suc (pairwise_same R xs i j x y h.1 e f m n)
