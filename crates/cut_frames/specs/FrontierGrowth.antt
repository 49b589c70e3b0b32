-- What `advance` gives.
use Rattle.std.specs.Prelude.{◌≡◌, ◌≢◌, ℕ, ◌+◌, Bool, true, false, List, All, Contains, length}
use Rattle.cut_frames.specs.FrameLists.{frame_at}
use Rattle.sat_clauses.specs.Literal.{Literal}
use Rattle.sat_clauses.specs.declared.system.System.{System}
use Rattle.cut_frames.specs.Chain.{State, IsFirstState, IsStepOf, Makes, InFrame, IsOverBits, IsFrame, Stands}

module _ (system : System) where
  -- a chain but for its last property
  pub record IsOpenChain (frames : List (List (List Literal))) : Type 0 where
    pub over_bits : All (All (IsOverBits system)) frames
    pub first : (frame : List (List Literal)) (s : State) → IsFrame system frames 1 frame → IsFirstState system s → InFrame system frame s
    pub after_first : (frame : List (List Literal)) (s t : State) → IsFrame system frames 1 frame → IsFirstState system s →
        IsStepOf system s t → InFrame system frame t
    pub advances : (i : ℕ) (frame next : List (List Literal)) (s t : State) → IsFrame system frames i frame →
        IsFrame system frames (i + 1) next →
        InFrame system frame s → IsStepOf system s t → InFrame system next t
    pub shrinks : (i : ℕ) (frame next : List (List Literal)) → IsFrame system frames i frame → IsFrame system frames (i + 1) next →
        (c : List Literal) → Contains next c → Stands frame c
    pub loses : (i : ℕ) (frame next : List (List Literal)) → IsFrame system frames i frame → IsFrame system frames (i + 1) next →
        (c : List Literal) × Contains frame c × (Stands next c → ⊥)
    pub pushed : (i : ℕ) (frame next : List (List Literal)) → IsFrame system frames i frame → IsFrame system frames (i + 1) next →
        (c : List Literal) → Contains frame c → ((s t : State) → InFrame system frame s → IsStepOf system s t → Makes system t c) →
        Stands next c

  -- each step from a state of the frame makes the clause true
  abbrev pub Keeps : List (List Literal) → List Literal → Type 0
  Keeps frame c = (s t : State) → InFrame system frame s → IsStepOf system s t → Makes system t c

  -- the answer tells whether every step from the frame makes the clause true
  pub record DecidesKept (frame : List (List Literal)) (c : List Literal) (answer : Bool) : Type 0 where
    pub kept : answer ≡ true → Keeps frame c
    pub lost : answer ≡ false → Keeps frame c → ⊥

  -- frame i + 1 has got clauses, and no other list changed
  pub record HasGrown (old now : List (List (List Literal))) (i : ℕ) : Type 0 where
    pub same_length : length now ≡ length old
    pub others : (j : ℕ) → j ≢ i + 1 → frame_at now j ≡ frame_at old j
    pub grows : (c : List Literal) → Contains (frame_at old (i + 1)) c → Contains (frame_at now (i + 1)) c
