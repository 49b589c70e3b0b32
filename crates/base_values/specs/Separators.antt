-- Bytes that are cut at a byte.
use Rattle.std.specs.Prelude.{◌≡◌, ◌≢◌, ℕ, List, [], ◌∷◌, ◌++◌}
use Rattle.std.specs.List.{AllByRecursion}

-- no byte is this one
abbrev pub Lacks : ℕ → List ℕ → Type 0
Lacks b bytes = AllByRecursion (λ c. c ≢ b) bytes

-- there is no byte, or this one is the first
abbrev pub BeginsWith : ℕ → List ℕ → Type 0
BeginsWith b [] = Unit {0}
BeginsWith b (c ∷ cs) = c ≡ b

-- the bytes are a line, its feed and more
pub record IsLineThen (bytes line after : List ℕ) : Type 0 where
  pub is_line : Lacks 10 line
  pub lie : bytes ≡ line ++ 10 ∷ after
