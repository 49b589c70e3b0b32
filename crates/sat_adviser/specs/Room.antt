-- For how many variables the advisers of a list have room, where some of them were made ready.
use Rattle.std.specs.Prelude.{◌≡◌, ℕ, zero, suc, List, [], ◌∷◌, Option, SomeIndex}
use Rattle.std.specs.Option.{option_map}

-- the list with this done to its first n elements
abbrev pub first_mapped : {Y : Type 0} → (Y → Y) → ℕ → List Y → List Y
first_mapped g zero ys = ys
first_mapped g (suc n) [] = []
first_mapped g (suc n) (y ∷ ys) = g y ∷ first_mapped g n ys

-- the first of them have room for `vars` variables, and those after them, one at least, for what they had room for before
abbrev pub AreSomeReady : ℕ → List (Option ℕ) → List (Option ℕ) → Type 0
AreSomeReady vars old new = SomeIndex old (λ n. new ≡ first_mapped (option_map (λ _. vars)) n old)
