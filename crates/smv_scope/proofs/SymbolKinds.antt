-- The place of a text in a list, and texts that have none.
use Rattle.std.proofs.Common.{◌≡◌, ℕ, suc, ◌+◌, ◌<◌, arith, Bool, true, false, List, [], ◌∷◌, length, Some, None, refl, sym, ap}
use Rattle.std.specs.Prelude.{slice_get}
use Rattle.smv_language.specs.Language.{Text, same_text, is_among, formal_from as place_from}
use Rattle.smv_scope.proofs.LookSplit.{never}
use Rattle.smv_language.proofs.OneTree.{same_text_equal}
use Rattle.std.proofs.lemmas.Option.{same_Some as of_some}

-- the place of a text in a list
pub record PlacedAt (xs : List Text) (x : Text) (j : ℕ) : Type 0 where
  pub there : slice_get xs j ≡ Some x
  pub among : is_among xs x ≡ true
  pub below : j < length xs

pub placed_at : (k : ℕ) (xs : List Text) (x : Text) (i : ℕ) → place_from k xs x ≡ Some i → (j : ℕ) × (i ≡ k + j) × PlacedAt xs x j
placed_at k [] x i e = never i e
placed_at k (y ∷ xs) x i e = by_name (same_text y x) refl (λ h. placed_at (suc k) xs x i h)
  where
    by_name : (b : Bool) → same_text y x ≡ b → (place_from (suc k) xs x ≡ Some i → (j : ℕ) × (i ≡ suc k + j) × PlacedAt xs x j) → (j : ℕ) × (i ≡ k + j) × PlacedAt (y ∷ xs) x j
    by_name true t rest =
        let is : k ≡ i = of_some k i (rw t at e) in
        (0, omega (arith, is), record { there = ap Some (same_text_equal y x t); among = rw t refl; below = omega arith })
    by_name false t rest =
        let r : (j : ℕ) × (i ≡ suc k + j) × PlacedAt xs x j = rest (rw t at e) in
        (suc r.0, omega (arith, r.1), record { there = r.2.there; among = rw t r.2.among; below = let b : r.0 < length xs = r.2.below in omega (arith, b) })

pub not_placed : (k : ℕ) (xs : List Text) (x : Text) → place_from k xs x ≡ None → is_among xs x ≡ false
not_placed k [] x e = refl
not_placed k (y ∷ xs) x e = by_name (same_text y x) refl (λ h. not_placed (suc k) xs x h)
  where
    by_name : (b : Bool) → same_text y x ≡ b → (place_from (suc k) xs x ≡ None → is_among xs x ≡ false) → is_among (y ∷ xs) x ≡ false
    by_name true t rest = let bad : Some k ≡ None = rw t at e in never k (sym bad)
    by_name false t rest = rw t (rest (rw t at e))
