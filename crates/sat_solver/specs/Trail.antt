-- What holds of a trail. Lists of entries here have the newest first.
use Rattle.std.specs.Prelude.{◌≡◌, ◌≢◌, ◌<◌, ◌≤◌, ℕ, List, [], ◌∷◌, Some, None, replicate, reverse, take, length, map, slice_get}
use Rattle.std.specs.Prelude.{slice_index_or}
use Rattle.sat_clauses.specs.Literal.{Literal}
use Rattle.sat_clauses.specs.Assignment.{Assignment, all_free, value_of, made_true}
use Rattle.sat_solver.specs.declared.trail.TrailEntry.{TrailEntry}
use Rattle.sat_solver.specs.declared.trail.Reason.TheVariants.{Assumed, Chosen}
use Rattle.sat_solver.specs.TrailRecord.{TrailValue}

-- the assignment of so many places that makes these literals true
abbrev pub assigned : ℕ → List TrailEntry → Assignment
assigned n [] = replicate n None
assigned n (e ∷ es) = made_true (assigned n es) e.lit

-- each literal was in range and free when it was made true
abbrev pub IsFresh : ℕ → List TrailEntry → Type 0
IsFresh n [] = Unit {0}
IsFresh n (e ∷ es) = IsFresh n es × (e.lit.var < n) × (value_of (assigned n es) e.lit ≡ None)

-- the entries before place i, the newest first
abbrev pub below : List TrailEntry → ℕ → List TrailEntry
below xs i = reverse (take i xs)

-- the literals of the entries
abbrev pub lits_of : List TrailEntry → List Literal
lits_of es = map (λ (e : TrailEntry). e.lit) es

-- the store's trail s begins with the literals of t that the store has followed
pub record IsFollowed (s : List Literal) (t : TrailValue) : Type 0 where
  pub there : t.followed ≤ length s
  pub within : t.followed ≤ length t.entries
  pub same : take t.followed s ≡ take t.followed (lits_of t.entries)

-- the trail once the store has followed all of it
abbrev pub followed_whole : TrailValue → TrailValue
followed_whole t = record t { followed = length t.entries }

-- the trail has no literal, over this many variables
pub record IsIdle (vars : ℕ) (t : TrailValue) : Type 0 where
  pub values : t.values ≡ all_free vars
  pub entries : t.entries ≡ []
  pub followed : t.followed ≡ 0

-- the assignment is that of the literals, each of which was free when it was made true
pub record IsLawful (t : TrailValue) : Type 0 where
  pub matches : t.values ≡ assigned (length t.values) (reverse t.entries)
  pub fresh : IsFresh (length t.values) (reverse t.entries)

-- no variable below n is free, and n is at most one above the highest
pub record IsLeast (a : Assignment) (n : ℕ) : Type 0 where
  pub positive : 1 ≤ n
  pub within : n ≤ length a
  pub taken : (x : ℕ) → 0 < x → x < n → slice_index_or a x None ≢ None

-- one of the literals is an assumption, and so many of the first assumptions were true when it was made true
pub record HasAssumed (t : TrailValue) (count : ℕ) : Type 0 where
  pub place : ℕ
  pub entry : TrailEntry
  pub is_there : slice_get t.entries place ≡ Some entry
  pub assumed : entry.reason ≡ Assumed count

-- one of the literals was a free choice
pub record HasChoice (t : TrailValue) : Type 0 where
  pub place : ℕ
  pub entry : TrailEntry
  pub is_there : slice_get t.entries place ≡ Some entry
  pub chosen : entry.reason ≡ Chosen
