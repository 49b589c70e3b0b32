-- Chains of frames over a system of clause lists.
use Rattle.std.specs.Prelude.{◌≡◌, ℕ, ◌+◌, ◌-◌, ◌≤◌, ◌<◌, List, Some, All, Any, Contains, slice_get, length, ◌^◌}
use Rattle.sat_clauses.specs.declared.system.System.{System}
pub use Rattle.sat_clauses.specs.States.{State, Agrees, IsState, IsFirstState, IsStepOf, IsBad, state_values, Makes, InFrame, IsOverBits}
use Rattle.sat_clauses.specs.Literal.{Literal}

-- each literal of the one clause stands in the other
abbrev pub IsPart : List Literal → List Literal → Type 0
IsPart d c = All (Contains c) d

-- the two clauses are one set of literals
abbrev pub SameLiterals : List Literal → List Literal → Type 0
SameLiterals c d = All (Contains d) c × All (Contains c) d

-- the clause stands in the frame: some clause of it is the same set of literals
abbrev pub Stands : List (List Literal) → List Literal → Type 0
Stands frame c = Any (SameLiterals c) frame

-- the two frames are one set of clauses
abbrev pub SameClauses : List (List Literal) → List (List Literal) → Type 0
SameClauses f g = All (Stands g) f × All (Stands f) g

module _ (system : System) where
  -- frame i of the chain, from 1
  abbrev pub IsFrame : List (List (List Literal)) → ℕ → List (List Literal) → Type 0
  IsFrame frames i frame = (0 < i) × (slice_get frames (i - 1) ≡ Some frame)

  -- Frame 1 holds in the first states and after a step from one. From each frame a step leads into the next, which loses some of
  -- its clauses but none that every step keeps. No frame but the last has a bad state.
  pub record IsChain (bad : List (List Literal)) (frames : List (List (List Literal))) : Type 0 where
    pub over_bits : All (All (IsOverBits system)) frames
    pub first : (frame : List (List Literal)) (s : State) → IsFrame frames 1 frame → IsFirstState system s → InFrame system frame s
    pub after_first : (frame : List (List Literal)) (s t : State) → IsFrame frames 1 frame → IsFirstState system s → IsStepOf system s t →
        InFrame system frame t
    pub advances : (i : ℕ) (frame next : List (List Literal)) (s t : State) → IsFrame frames i frame → IsFrame frames (i + 1) next →
        InFrame system frame s → IsStepOf system s t → InFrame system next t
    pub shrinks : (i : ℕ) (frame next : List (List Literal)) → IsFrame frames i frame → IsFrame frames (i + 1) next →
        (c : List Literal) → Contains next c → Stands frame c
    pub loses : (i : ℕ) (frame next : List (List Literal)) → IsFrame frames i frame → IsFrame frames (i + 1) next →
        (c : List Literal) × Contains frame c × (Stands next c → ⊥)
    pub pushed : (i : ℕ) (frame next : List (List Literal)) → IsFrame frames i frame → IsFrame frames (i + 1) next →
        (c : List Literal) → Contains frame c → ((s t : State) → InFrame system frame s → IsStepOf system s t → Makes system t c) →
        Stands next c
    pub clear : (i : ℕ) (frame next : List (List Literal)) → IsFrame frames i frame → IsFrame frames (i + 1) next → (s : State) →
        InFrame system frame s → IsBad system bad s → ⊥

-- there is a chain of k frames
abbrev pub HasChain : System → List (List Literal) → ℕ → Type 0
HasChain system bad k = (frames : List (List (List Literal))) × (length frames ≡ k) × IsChain system bad frames

-- the law, over chains alone: with b state bits a chain has at most 2 ^ b + 1 frames
abbrev pub ChainsAreShort : Type 0
ChainsAreShort = (system : System) (bad : List (List Literal)) (k : ℕ) → HasChain system bad k → k ≤ 2 ^ system.state_bits + 1
