-- Where a new set stands in a list of sets.
use Rattle.std.specs.Prelude.{ℕ, suc, List, [], ◌∷◌, if◌then◌else◌}
use Rattle.cut_right_laws.specs.Sets.{stands_before}
use Rattle.cut_search_laws.specs.FoundSets.{Found}

-- before the first set that it stands before, or at the end
abbrev pub place_of : {T : Type 0} → List ℕ → List (Found T) → ℕ
place_of set [] = 0
place_of set (f ∷ fs) = if stands_before set f.set then 0 else suc (place_of set fs)
