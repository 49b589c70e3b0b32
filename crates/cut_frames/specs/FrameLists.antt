-- Frames as a list of clause lists by number. The frame of number 0 is `first`; its list has the clauses of the others.
use Rattle.std.specs.Prelude.{ℕ, zero, suc, ◌+◌, ◌-◌, ◌<◌, List, [], All, Contains, slice_index_or, length}
use Rattle.sat_clauses.specs.Literal.{Literal}
use Rattle.sat_clauses.specs.Hints.{HasNoOpposites}
use Rattle.sat_clauses.specs.declared.system.System.{System}
use Rattle.cut_frames.specs.Chain.{State, IsFirstState, IsStepOf, IsBad, Makes, InFrame, IsOverBits, Stands, SameClauses}

-- the list of a number, or no clauses
abbrev pub frame_at : List (List (List Literal)) → ℕ → List (List Literal)
frame_at frames i = slice_index_or frames i []

module _ (system : System) where
  -- what the frame of a number says of a state: that of number 0 is `first`
  abbrev pub InNumber : List (List (List Literal)) → ℕ → State → Type 0
  InNumber frames zero s = IsFirstState system s
  InNumber frames (suc i) s = InFrame system (frame_at frames (suc i)) s

  -- the invariant of frames
  pub record IsFramed (frames : List (List (List Literal))) : Type 0 where
    pub some : 0 < length frames
    pub over_bits : (i : ℕ) (c : List Literal) → Contains (frame_at frames i) c → IsOverBits system c
    pub apart : (i : ℕ) (c : List Literal) → Contains (frame_at frames i) c → HasNoOpposites c
    -- the first states make the clauses of every frame true
    pub begins : (s : State) → IsFirstState system s → InFrame system (frame_at frames 0) s
    -- a step from a frame leads into the next
    pub steps : (i : ℕ) (s t : State) → InNumber frames i s → IsStepOf system s t → InFrame system (frame_at frames (suc i)) t
    -- each clause of a frame stands in the frame before
    pub shrinks : (i : ℕ) (c : List Literal) → Contains (frame_at frames (suc i)) c → Contains (frame_at frames i) c

  -- each frame implies what it was
  abbrev pub AreStronger : List (List (List Literal)) → List (List (List Literal)) → Type 0
  AreStronger old now = (i : ℕ) (s : State) → i < length old → InFrame system (frame_at now i) s → InFrame system (frame_at old i) s

  -- two neighbouring frames, from frame 1 on, that are one set of clauses
  pub record HasEqualNeighbours (frames : List (List (List Literal))) : Type 0 where
    pub at : ℕ
    pub from_one : 0 < at
    pub within : at + 1 < length frames
    pub same : SameClauses (frame_at frames at) (frame_at frames (at + 1))

  -- clauses over state bits that hold in each first state and are kept by every step
  pub record IsInductive (clauses : List (List Literal)) : Type 0 where
    pub over_bits : All (IsOverBits system) clauses
    pub apart : All HasNoOpposites clauses
    pub holds_first : (s : State) → IsFirstState system s → InFrame system clauses s
    pub is_kept : (s t : State) → InFrame system clauses s → IsStepOf system s t → InFrame system clauses t

  -- each clause of a frame from number 1 on, but of the last, that every step from the frame makes true stands in the next
  abbrev pub ArePushed : List (List (List Literal)) → Type 0
  ArePushed frames = (i : ℕ) (c : List Literal) → 0 < i → i + 1 < length frames → Contains (frame_at frames i) c →
      ((s t : State) → InFrame system (frame_at frames i) s → IsStepOf system s t → Makes system t c) → Stands (frame_at frames (i + 1)) c

  -- no state of the last frame is bad
  abbrev pub IsClear : List (List Literal) → List (List (List Literal)) → Type 0
  IsClear bad frames = (s : State) → InNumber frames (length frames - 1) s → IsBad system bad s → ⊥
