-- What one look of `clear` says.
use Rattle.std.specs.Prelude.{◌≡◌, ◌⊎◌, ℕ, suc, ◌-◌, ◌<◌, false, List, [], Some, slice_get, length}
use Rattle.sat_clauses.specs.Literal.{Literal}
use Rattle.sat_clauses.specs.Assignment.{Assignment}
use Rattle.sat_clauses.specs.Models.{clause_value}
use Rattle.sat_clauses.specs.declared.system.System.{System}
use Rattle.cut_frames.specs.Chain.{State, state_values, IsFirstState, IsStepOf, IsBad, Makes, IsOverBits}
use Rattle.sat_clauses.specs.Hints.{HasNoOpposites}
use Rattle.cut_frames.specs.FrameLists.{InNumber, IsClear}
use Rattle.cut_frames.specs.Path.{Gives, state_in, Leads, IsPath}
use Rattle.cut_frames.specs.declared.clear.Look.{Look}
use Rattle.cut_frames.specs.declared.clear.Look.TheVariants.{Nothing, IsFirst, Deeper, Blocked}
use Rattle.cut_frames.specs.declared.clear.Cleared.{Cleared}
use Rattle.cut_frames.specs.declared.clear.Cleared.TheVariants.{Clear, Path}

module _ (system : System) where
  -- a clause that blocks the state in the frame of a number, and may be put into the frames up to it
  pub record Blocks (frames : List (List (List Literal))) (level : ℕ) (s : State) (c : List Literal) : Type 0 where
    pub from_one : 0 < level
    pub over_bits : IsOverBits system c
    pub apart : HasNoOpposites c
    pub first : (t : State) → IsFirstState system t → Makes system t c
    pub after : (m : ℕ) (r t : State) → level ≡ suc m → InNumber system frames m r → IsStepOf system r t → Makes system t c
    pub excludes : clause_value (state_values system s) c ≡ false

  -- a look for a bad state in the last frame
  abbrev pub IsBadLook : List (List Literal) → List (List (List Literal)) → Look → Type 0
  IsBadLook bad frames Nothing = IsClear system bad frames
  IsBadLook bad frames IsFirst = ⊥
  IsBadLook bad frames (Deeper a) =
      InNumber system frames (length frames - 1) (state_in system a) × IsBad system bad (state_in system a) × Gives 2 system.state_bits a
  IsBadLook bad frames (Blocked c) = ⊥

  -- a look at a state of the frame of a number
  abbrev pub IsStepLook : List (List (List Literal)) → ℕ → State → Look → Type 0
  IsStepLook frames level s Nothing = ⊥
  IsStepLook frames level s IsFirst = IsFirstState system s
  IsStepLook frames level s (Deeper a) = (0 < level) × InNumber system frames (level - 1) (state_in system a) × Leads system a s
  IsStepLook frames level s (Blocked c) = Blocks frames level s c

  -- either answer of `clear`: no state of the last frame is bad, or a path into a bad state, of at most the last frame's number of steps or
  -- of at most so many
  abbrev pub IsCleared : List (List Literal) → List (List (List Literal)) → ℕ → Cleared → Type 0
  IsCleared bad frames most Clear = IsClear system bad frames
  IsCleared bad frames most (Path path) = IsPath system bad (length frames - 1) path ⊎ IsPath system bad most path

  -- a look at the newest obligation, or where there is none for a bad state
  pub record IsLook (bad : List (List Literal)) (frames : List (List (List Literal))) (owed : List Assignment) (look : Look) : Type 0 where
    pub at_bad : owed ≡ [] → IsBadLook bad frames look
    pub at_newest : (a : Assignment) → slice_get owed (length owed - 1) ≡ Some a →
        IsStepLook frames (length frames - length owed) (state_in system a) look
