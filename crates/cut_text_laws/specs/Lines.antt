-- Lines of bytes, and words in them.
use Rattle.std.specs.Prelude.{◌≢◌, ℕ, List, [], ◌∷◌, ◌++◌, flat_map, codes}
use Rattle.std.specs.List.{AllByRecursion}
use Rattle.std.specs.Fmt.{decimal}

-- the bytes of a line, without its line feed
abbrev pub Line : Type 0
Line = List ℕ

-- words with one space between
abbrev pub spaced : List Line → Line
spaced [] = []
spaced (w ∷ []) = w
spaced (w ∷ x ∷ words) = w ++ (codes " " ++ spaced (x ∷ words))

-- a word and a count
abbrev pub counted : Line → ℕ → Line
counted word n = spaced (word ∷ decimal n ∷ [])

-- lines with a line feed after each
abbrev pub fed : List Line → List ℕ
fed lines = flat_map (λ line. line ++ 10 ∷ []) lines

-- no byte of the line is a line feed
abbrev pub IsLine : Line → Type 0
IsLine line = AllByRecursion (λ b. b ≢ 10) line
