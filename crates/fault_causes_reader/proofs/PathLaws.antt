-- Paths compared part by part, and paths that stand twice.
use Rattle.std.proofs.Common.{◌≡◌, suc, Bool, true, false, List, [], ◌∷◌, length, map, refl, ap}
use Rattle.std.specs.Prelude.{◌&&◌, ◌||◌}
use Rattle.std.specs.List.{list_any}
use Rattle.smv_language.specs.Language.{Path, same_text}
use Rattle.fault_cause_laws.specs.CauseRules.{same_path}

-- paths of other lengths differ
pub other_lengths : (x y : Path) → (length x ≡ length y → ⊥) → same_path x y ≡ false
other_lengths [] [] h = absurd (h refl)
other_lengths [] (b ∷ y) h = refl
other_lengths (a ∷ x) [] h = refl
other_lengths (a ∷ x) (b ∷ y) h = go (same_text a b) (other_lengths x y (λ e. h (ap suc e)))
  where
    go : (c : Bool) → same_path x y ≡ false → (c && same_path x y) ≡ false
    go true e = e
    go false e = refl

-- a test of what is made of members
pub any_map : {A B : Type 0} (test : B → Bool) (f : A → B) (xs : List A) → list_any test (map f xs) ≡ list_any (λ x. test (f x)) xs
any_map test f [] = refl
any_map test f (x ∷ xs) = ap (λ b. test (f x) || b) (any_map test f xs)
