-- Where nothing leads back to itself, and the members of a list alone lead on: what holds of each where it holds of all
-- to which that leads, holds of all.
use Rattle.std.proofs.Common.{◌≡◌, ℕ, zero, suc, arith, List, [], ◌∷◌, length, Some, refl, sym, ◌∙◌, ap, inl, inr}
use Rattle.std.specs.Prelude.{slice_get, ◌⊎◌}
use Rattle.smv_language.specs.Language.{Each}
use Rattle.smv_flat_laws.proofs.Lists.{each_more}
use Rattle.smv_flat_laws.proofs.Conditions.{each_at}
use Rattle.smv_flat_laws.proofs.Places.{In}

-- a list without its member at a place
abbrev without_at : {A : Type 0} → ℕ → List A → List A
without_at k [] = []
without_at zero (x ∷ xs) = xs
without_at (suc k) (x ∷ xs) = x ∷ without_at k xs

one_less : {A : Type 0} (xs : List A) (k : ℕ) (x : A) → slice_get xs k ≡ Some x → length xs ≡ suc (length (without_at k xs))
one_less [] k x e = cc
one_less (y ∷ xs) zero x e = refl
one_less (y ∷ xs) (suc k) x e = ap suc (one_less xs k x e)

still_in : {A : Type 0} (xs : List A) (k : ℕ) (x y : A) → slice_get xs k ≡ Some x → In y xs → In y (without_at k xs) ⊎ (y ≡ x)
still_in [] k x y e h = cc
still_in (z ∷ xs) zero x y e (zero, f) = let first : z ≡ x = cc in let also : z ≡ y = cc in inr (sym also ∙ first)
still_in (z ∷ xs) zero x y e (suc i, f) = inl (i, f)
still_in (z ∷ xs) (suc k) x y e (zero, f) = inl (0, f)
still_in (z ∷ xs) (suc k) x y e (suc i, f) = further (still_in xs k x y e (i, f))
  where
    further : In y (without_at k xs) ⊎ (y ≡ x) → In y (z ∷ without_at k xs) ⊎ (y ≡ x)
    further (inl h) = inl (suc h.0, h.1)
    further (inr h) = inr h

module _ (A : Type 0) (R : A → A → Type 0) (P : A → Type 0) (further : (x y z : A) → R x y → R y z → R x z) (none_back : (x : A) → R x x → ⊥) (step : (x : A) → ((y : A) → R x y → P y) → P x) where
  -- what leads on is in one list or in the other
  abbrev Covers : List A → List A → Type 0
  Covers left met = (x y : A) → R x y → In x left ⊎ In x met

  covers_less : (left met : List A) (k : ℕ) (x : A) → slice_get left k ≡ Some x → Covers left met → Covers (without_at k left) (x ∷ met)
  covers_less left met k x e covers y z r = by_list (covers y z r)
    where
      by_left : In y (without_at k left) ⊎ (y ≡ x) → In y (without_at k left) ⊎ In y (x ∷ met)
      by_left (inl h) = inl h
      by_left (inr same) = inr (0, ap Some (sym same))

      by_list : In y left ⊎ In y met → In y (without_at k left) ⊎ In y (x ∷ met)
      by_list (inl h) = by_left (still_in left k x y e h)
      by_list (inr h) = inr (suc h.0, h.1)

  -- all of the members that were met lead here, and so many are left
  abbrev Holds : ℕ → Type 0
  Holds n = (left met : List A) → length left ≡ n → Covers left met → (x : A) → Each (λ s. R s x) met → P x

  on_from : (n : ℕ) → Holds n → (left met : List A) → length left ≡ suc n → Covers left met → (x : A) → Each (λ s. R s x) met → (y : A) → R x y → In x left ⊎ In x met → P y
  on_from n more left met size covers x reach y r (inl here) =
      let less : length left ≡ suc (length (without_at here.0 left)) = one_less left here.0 x here.1 in
      more (without_at here.0 left) (x ∷ met) (omega (arith, less, size)) (covers_less left met here.0 x here.1 covers) y
      (r, each_more (λ s. R s x) (λ s. R s y) met (λ s q. further s x y q r) reach)
  on_from n more left met size covers x reach y r (inr back) = absurd (none_back x (each_at (λ s. R s x) met back.0 x reach back.1))

  none_left : (left met : List A) → length left ≡ 0 → (x : A) → Each (λ s. R s x) met → (y : A) → In x left ⊎ In x met → P y
  none_left left met size x reach y (inl here) = let less : length left ≡ suc (length (without_at here.0 left)) = one_less left here.0 x here.1 in absurd (omega (arith, less, size))
  none_left left met size x reach y (inr back) = absurd (none_back x (each_at (λ s. R s x) met back.0 x reach back.1))

  holds : (n : ℕ) → Holds n
  holds zero left met size covers x reach = step x (λ y r. none_left left met size x reach y (covers x y r))
  holds (suc n) left met size covers x reach = step x (λ y r. on_from n (holds n) left met size covers x reach y r (covers x y r))

  pub by_steps : (members : List A) → ((x y : A) → R x y → In x members) → (x : A) → P x
  by_steps members covers x = holds (length members) members [] refl (λ y z r. inl (covers y z r)) x tt
