-- Words: lists of literals, the least significant first, the last one the sign.
use Rattle.std.specs.Prelude.{◌≡◌, ℕ, ◌<◌, List, [], ◌∷◌, ◌++◌, map, ℤ, length, false, replicate}
use Rattle.sat_clauses.specs.Literal.{Literal}
use Rattle.sat_clauses.specs.Models.{TotalAssignment, literal_value}
use Rattle.sat_circuits.specs.Circuit.{Circuit, after, fold_gates}
use Rattle.sat_circuits.specs.Gates.{constant_lit}
use Rattle.sat_circuits.specs.Meaning.{Means, AllBelow}
use Rattle.sat_circuits.specs.Bits.{signed_value, IsCutTo, fit_from, last_from}

-- the number that the word is in the assignment
abbrev pub word_value : TotalAssignment → List Literal → ℤ
word_value v w = signed_value (map (literal_value v) w)

-- the word at n bits: the lowest n literals, or the last one repeated
unfoldable pub fit : ℕ → List Literal → List Literal
fit n w = fit_from (constant_lit false) n w

-- the sign of the word
abbrev pub sign_of : List Literal → Literal
sign_of w = last_from (constant_lit false) w

-- n literals that are always false
abbrev pub zeros : ℕ → List Literal
zeros n = replicate n (constant_lit false)

-- a word may be used in that circuit: it has a sign, and its variables are below the next free one
pub record IsWordOf (s : Circuit) (w : List Literal) : Type 0 where
  pub signed : 0 < length w
  pub below : AllBelow s.free w

-- a word of n literals, with variables below the next free one
pub record IsOfWidth (n : ℕ) (s : Circuit) (w : List Literal) : Type 0 where
  pub long : length w ≡ n
  pub below : AllBelow s.free w

-- a word of n literals, after which `limit` is the next free variable
pub record IsSized (n limit : ℕ) (s : Circuit) (w : List Literal) : Type 0 where
  pub long : length w ≡ n
  pub below : AllBelow s.free w
  pub free : s.free ≡ limit

-- w was built onto old, has that width, and is the number z, cut to it, in each assignment that makes the clauses true
abbrev pub GivesCut : Circuit → Circuit → List Literal → ℕ → (TotalAssignment → ℤ) → Type 0
GivesCut old new w width z = Means old (new, w) (IsOfWidth width) (λ v x. IsCutTo width (z v) (word_value v x))

-- two words of n literals each, after which `limit` is the next free variable
pub record AreSized (n limit : ℕ) (s : Circuit) (r : List Literal × List Literal) : Type 0 where
  pub first : IsOfWidth n s r.0
  pub second : IsOfWidth n s r.1
  pub free : s.free ≡ limit

-- the literal of x stands after those of w
unfoldable pub push_gate : {X : Type 0} → (X → Circuit → Circuit × Literal) → X → List Literal → Circuit → Circuit × List Literal
push_gate gate x w s = after (gate x s) (λ l t. (t, w ++ l ∷ []))

-- w, and then for each item the literal of its gate
abbrev pub map_gates : {X : Type 0} → (X → Circuit → Circuit × Literal) → List X → List Literal → Circuit → Circuit × List Literal
map_gates gate xs w s = fold_gates (push_gate gate) xs w s
