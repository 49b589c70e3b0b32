-- Definitions by their numbers, and what they are linked to.
use Rattle.std.specs.Prelude.{◌≡◌, ◌↔◌, ℕ, zero, suc, ◌<◌, Bool, true, false, List, [], ◌∷◌, ◌++◌, length, map, Option, Some, None}
use Rattle.std.specs.Prelude.{slice_get, set, if◌then◌else◌, Vec}
use Rattle.std.specs.declared.alloc.Global.{Global}
use Rattle.smv_language.specs.Trace.{AtSome}
use Rattle.smv_scope.specs.declared.links.Links.{Links}
use Rattle.base_values.specs.Marks.{is_set}

-- the number is among these
abbrev pub Has : List ℕ → ℕ → Type 0
Has ks k = AtSome (λ j. j ≡ k) ks

-- what each number is linked to
abbrev pub Graph : Type 0
Graph = ℕ → List ℕ

-- the links of a row, where it is there
abbrev pub row_of : Option (Vec ℕ Global) → List ℕ
row_of None = []
row_of (Some v) = v.items

-- the links of the code as a graph; a number that is not there has none
abbrev pub graph_of : Links → Graph
graph_of l k = row_of (slice_get l.of.items k)

-- only numbers below the count are linked to others
abbrev pub IsWithin : Graph → ℕ → Type 0
IsWithin g count = (a b : ℕ) → Has (g a) b → a < count

-- what is reached from some numbers, with these
pub data Reaches (g : Graph) (starts : List ℕ) : ℕ → Type 0 where
  start : {k : ℕ} → Has starts k → Reaches g starts k
  further : {a b : ℕ} → Reaches g starts a → Has (g a) b → Reaches g starts b

-- the marks tell of each number whether it is reached
pub record AreReached (g : Graph) (starts : List ℕ) (count : ℕ) (marks : List Bool) : Type 0 where
  pub size : length marks ≡ count
  pub told : (k : ℕ) (b : Bool) → slice_get marks k ≡ Some b → (b ≡ true) ↔ Reaches g starts k

-- whether the number leads back to itself; none does where there is no circle
pub record IsCircle (g : Graph) (some : Bool) (k : ℕ) (b : Bool) : Type 0 where
  pub told : some ≡ true → (b ≡ true) ↔ Reaches g (g k) k
  pub none : some ≡ false → b ≡ false

-- marks of so many numbers, each of which tells whether its number leads back to itself
pub record AreCircles (g : Graph) (count : ℕ) (some : Bool) (marks : List Bool) : Type 0 where
  pub size : length marks ≡ count
  pub each : (k : ℕ) (b : Bool) → slice_get marks k ≡ Some b → IsCircle g some k b

-- whether a number is marked
abbrev pub is_marked : List Bool → ℕ → Bool
is_marked marks k = is_set (slice_get marks k)

-- what is marked so far, and what waits to be looked at
pub record Spread : Type 0 where
  pub reached : List Bool
  pub waiting : List ℕ

-- a number is looked at: if it is not marked yet, it is, and what it is linked to waits
abbrev pub spread_by : Graph → Spread → ℕ → Spread
spread_by g s k = if is_marked s.reached k then s else record { reached = set s.reached k true; waiting = s.waiting ++ g k }

-- all that is marked or waits is reached, and all that is reached is marked, or comes from what waits
pub record IsSpreading (g : Graph) (starts : List ℕ) (count : ℕ) (s : Spread) : Type 0 where
  pub size : length s.reached ≡ count
  pub marked : (k : ℕ) → slice_get s.reached k ≡ Some true → Reaches g starts k
  pub waits : (k : ℕ) → Has s.waiting k → Reaches g starts k
  pub begun : (k : ℕ) → Has starts k → slice_get s.reached k ≡ Some false → Has s.waiting k
  pub closed : (a b : ℕ) → slice_get s.reached a ≡ Some true → Has (g a) b → slice_get s.reached b ≡ Some false → Has s.waiting b

-- the rows of links
abbrev pub rows : Links → List (List ℕ)
rows l = map (λ (v : Vec ℕ Global). v.items) l.of.items

-- a link more
abbrev pub linked_to : List (List ℕ) → ℕ → ℕ → List (List ℕ)
linked_to [] from to = []
linked_to (r ∷ rs) zero to = (r ++ to ∷ []) ∷ rs
linked_to (r ∷ rs) (suc from) to = r ∷ linked_to rs from to

-- links from each of some numbers to one
abbrev pub all_linked_to : List (List ℕ) → List ℕ → ℕ → List (List ℕ)
all_linked_to rs [] to = rs
all_linked_to rs (one ∷ more) to = all_linked_to (linked_to rs one to) more to

-- the rows from a number on are added from their other ends
abbrev pub turned_from : List (List ℕ) → ℕ → List (List ℕ) → List (List ℕ)
turned_from back k [] = back
turned_from back k (r ∷ rs) = turned_from (all_linked_to back r k) (suc k) rs

-- the same links from their other ends
pub record AreTurned (l back : Links) : Type 0 where
  pub size : length back.of.items ≡ length l.of.items
  pub links : (a b : ℕ) → b < length l.of.items → Has (graph_of back b) a ↔ Has (graph_of l a) b

-- the row of a number
abbrev pub links_at : List (List ℕ) → Graph
links_at [] k = []
links_at (r ∷ rs) zero = r
links_at (r ∷ rs) (suc k) = links_at rs k
