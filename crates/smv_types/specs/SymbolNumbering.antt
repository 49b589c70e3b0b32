-- Symbols by their numbers, as a map keeps them.
use Rattle.std.specs.Prelude.{◌≡◌, ℕ, ◌+◌, Option, Some, None, List, [], ◌∷◌, if◌then◌else◌}
use Rattle.std.specs.Borrow.{Bor}
use Rattle.indexmap.specs.IndexMap.{IndexMap, get}
use Rattle.smv_language.specs.Language.{same_text, same_borrowed}

-- the first place of a text among texts that are numbered from i on
abbrev pub number_from : ℕ → List (List ℕ) → List ℕ → Option ℕ
number_from i [] x = None
number_from i (y ∷ ys) x = if same_text y x then Some i else number_from (i + 1) ys x

-- the map has the first place of each text
abbrev pub AreNumbered : {S : Type 0} → ℕ → List (List ℕ) → IndexMap (Bor (List ℕ)) ℕ S → Type 0
AreNumbered i texts places = (x : Bor (List ℕ)) → get same_borrowed places x ≡ number_from i texts x.now
