-- Frames by the number of the highest frame in which a clause holds: it is kept once, and stands in each frame up to that one.
use Rattle.std.specs.Prelude.{◌≡◌, ◌≢◌, ◌⊎◌, ℕ, zero, suc, ◌+◌, ◌≤◌, ◌<◌, Bool, not, ◌&&◌, List, [], ◌∷◌, ◌++◌, All, Contains, filter}
use Rattle.std.specs.Prelude.{length, slice_index_or, nat_le, if◌then◌else◌}
use Rattle.sat_clauses.specs.Literal.{Literal}
use Rattle.sat_simplify.specs.Resolution.{subsumes}
use Rattle.sat_clauses.specs.declared.system.System.{System}
use Rattle.cut_frames.specs.Chain.{IsPart}
use Rattle.cut_frames.specs.FrameLists.{frame_at, IsFramed, AreStronger}
use Rattle.cut_frames.specs.FrontierGrowth.{Keeps, HasGrown}
use Rattle.cut_frames.specs.declared.levels.Held.{Held}
use Rattle.cut_frames.specs.declared.levels.Levels.{Levels}

-- the clauses that stand in the frame of a number
abbrev pub standing_in : ℕ → List Held → List (List Literal)
standing_in i [] = []
standing_in i (h ∷ hs) = if nat_le i h.highest then h.clause ∷ standing_in i hs else standing_in i hs

-- so many frames, from a number on
abbrev pub frames_from : ℕ → ℕ → List Held → List (List (List Literal))
frames_from i zero hs = []
frames_from i (suc n) hs = standing_in i hs ∷ frames_from (suc i) n hs

-- the frames by number, from 0 to the last
abbrev pub frames_of : Levels → List (List (List Literal))
frames_of l = frames_from 0 (suc l.last) l.held.items

-- the clause of a place with its number
abbrev pub held_at : Levels → ℕ → Held
held_at l k = slice_index_or l.held.items k (record { clause = []; highest = 0 })

-- The clause says no more than another one in the frames up to a number: it stands in no higher one, and has all literals of that
-- other one. So it is no shorter, where that one has no literal twice.
abbrev pub outdone : ℕ → List Literal → Held → Bool
outdone j c h = nat_le h.highest j && (nat_le (length c) (length h.clause) && subsumes c h.clause)

-- a clause put into the frames up to a number, in the place of those that say no more there
abbrev pub with_clause : ℕ → List Literal → List Held → List Held
with_clause j c hs = filter (λ h. not (outdone j c h)) hs ++ record { clause = c; highest = j } ∷ []

-- A clause now stands in the frames up to a number, some of the clauses there of which it is a part may be gone, and nothing else
-- changed. Each clause of a frame still stands in the frame before.
pub record HasGained (j : ℕ) (c : List Literal) (old now : List (List (List Literal))) : Type 0 where
  pub same : length now ≡ length old
  pub within : j < length old
  pub here : (i : ℕ) → i ≤ j → Contains (frame_at now i) c
  pub stays : (i : ℕ) (d : List Literal) → Contains (frame_at old i) d → Contains (frame_at now i) d ⊎ ((i ≤ j) × IsPart c d)
  pub only : (i : ℕ) (d : List Literal) → Contains (frame_at now i) d → Contains (frame_at old i) d ⊎ ((d ≡ c) × (i ≤ j))
  pub shrinks : (i : ℕ) (d : List Literal) → Contains (frame_at now (suc i)) d → Contains (frame_at now i) d

-- no clause has this number
pub record IsEmptyLevel (l : Levels) (i : ℕ) : Type 0 where
  pub from_one : 0 < i
  pub within : i < l.last
  pub none : All (λ (h : Held). h.highest ≢ i) l.held.items

-- some clause has this number
pub record IsFilledLevel (l : Levels) (i : ℕ) : Type 0 where
  pub place : ℕ
  pub inside : place < length l.held.items
  pub number : (held_at l place).highest ≡ i

-- each number from 1 on below n is some clause's
abbrev pub AreFilledBelow : Levels → ℕ → Type 0
AreFilledBelow l n = (j : ℕ) → 0 < j → j < n → IsFilledLevel l j

module _ (system : System) where
  -- each number is that of a frame, and the frames are those of the system
  pub record IsLevelled (l : Levels) : Type 0 where
    pub numbers : All (λ (h : Held). h.highest ≤ l.last) l.held.items
    pub framed : IsFramed system (frames_of l)

  -- they are still the frames of the system, as many, and each implies what it was
  pub record IsTightened (old now : Levels) : Type 0 where
    pub framed : IsLevelled now
    pub last : now.last ≡ old.last
    pub stronger : AreStronger system (frames_of old) (frames_of now)

  -- clauses went from frame i to the next, and nothing else changed
  pub record HasMoved (old now : Levels) (i : ℕ) : Type 0 where
    pub last : now.last ≡ old.last
    pub count : length now.held.items ≡ length old.held.items
    pub stays : (k : ℕ) → (held_at now k ≡ held_at old k) ⊎ ((held_at now k).highest ≡ i + 1)
    pub grown : HasGrown system (frames_of old) (frames_of now) i

  -- that, and they are still the frames of the system
  pub record IsPushedFrom (old now : Levels) (i : ℕ) : Type 0 where
    pub framed : IsLevelled now
    pub moved : HasMoved old now i

  -- if the clause has this number, a step from the frame breaks it
  abbrev pub IsStuck : Levels → ℕ → Held → Type 0
  IsStuck l i h = h.highest ≡ i → Keeps system (frame_at (frames_of l) i) h.clause → ⊥

  -- no clause of this number is kept by each step from the frame
  abbrev pub IsLevelPushed : Levels → ℕ → Type 0
  IsLevelPushed l i = (k : ℕ) → k < length l.held.items → IsStuck l i (held_at l k)

  -- that is so of each frame from 1 on below n
  abbrev pub AreLevelsPushed : Levels → ℕ → Type 0
  AreLevelsPushed l n = (j : ℕ) → 0 < j → j < n → IsLevelPushed l j
