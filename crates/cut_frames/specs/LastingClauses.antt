-- Clauses of an invariant that stay in all frames.
use Rattle.std.specs.Prelude.{◌≡◌, ◌<◌, ℕ, true, List, length}
use Rattle.sat_clauses.specs.Literal.{Literal}
use Rattle.sat_clauses.specs.declared.system.System.{System}
use Rattle.cut_frames.specs.Chain.{State, InFrame}
use Rattle.cut_frames.specs.FrameLists.{frame_at, IsInductive}
use Rattle.cut_frames.specs.declared.lasting.Lasting.{Lasting}

module _ (system : System) where
  -- each state of a frame from number 1 on makes the clauses true
  abbrev pub AreImplied : List (List (List Literal)) → List (List Literal) → Type 0
  AreImplied frames clauses = (i : ℕ) (s : State) → 0 < i → i < length frames → InFrame system (frame_at frames i) s →
      InFrame system clauses s

  -- the clauses are an invariant, and where the frames are said to imply them they do
  pub record AreLasting (frames : List (List (List Literal))) (lasting : Lasting) : Type 0 where
    pub inductive : IsInductive system lasting.clauses
    pub implied : lasting.is_implied ≡ true → AreImplied frames lasting.clauses
