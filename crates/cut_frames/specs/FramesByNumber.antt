-- The frames by number, as the layer above has them: number 0 is `first`.
use Rattle.std.specs.Prelude.{◌↔◌, ℕ, suc, ◌+◌, ◌<◌, List, Contains, length}
use Rattle.sat_clauses.specs.Literal.{Literal}
use Rattle.sat_clauses.specs.declared.system.System.{System}
use Rattle.cut_frames.specs.Chain.{State, IsFirstState, IsStepOf, InFrame}
use Rattle.cut_frames.specs.FrameLists.{frame_at, InNumber}

module _ (system : System) where
  -- each frame implies the next, alone and with a step
  pub record AreNumbered (frames : List (List (List Literal))) : Type 0 where
    -- there is a frame of number 0, it is `first`, and each first state makes the list of its number true
    pub some : 0 < length frames
    pub is_first : (s : State) → InNumber system frames 0 s ↔ IsFirstState system s
    pub outlined : (s : State) → InNumber system frames 0 s → InFrame system (frame_at frames 0) s
    -- each frame implies the next
    pub implies : (i : ℕ) (s : State) → i + 1 < length frames → InNumber system frames i s → InNumber system frames (suc i) s
    -- a frame with a step implies the next
    pub steps : (i : ℕ) (s t : State) → i + 1 < length frames → InNumber system frames i s → IsStepOf system s t →
        InNumber system frames (suc i) t
    -- each clause of a frame from number 2 on stands in the frame before it
    pub stands : (i : ℕ) (c : List Literal) → 0 < i → i + 1 < length frames → Contains (frame_at frames (i + 1)) c →
        Contains (frame_at frames i) c
