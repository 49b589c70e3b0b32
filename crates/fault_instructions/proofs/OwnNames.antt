-- The names that a slice adds differ.
use Rattle.std.proofs.Common.{◌≡◌, ◌≢◌, ℕ, arith, [], ◌∷◌, sym, ◌∙◌, ap, refl}
use Rattle.smv_language.specs.ProgramTree.{Text}
use Rattle.fault_instructions.specs.AddedNames.{own_name, mode_variable}

-- the two added variables differ by their last letters
abbrev last_or : ℕ → Text → ℕ
last_or d [] = d
last_or d (c ∷ cs) = last_or c cs

own_last : (d : ℕ) (x : Text) → last_or d (own_name x) ≡ 108
own_last d [] = refl
own_last d (c ∷ x) = own_last c x

mode_last : (d : ℕ) (x : Text) → last_or d (mode_variable x) ≡ 101
mode_last d [] = refl
mode_last d (c ∷ x) = mode_last c x

pub own_not_mode : (x y : Text) → own_name x ≢ mode_variable y
own_not_mode x y e = let same : 108 ≡ 101 = sym (own_last 0 x) ∙ ap (last_or 0) e ∙ mode_last 0 y in absurd (omega (arith, same))
