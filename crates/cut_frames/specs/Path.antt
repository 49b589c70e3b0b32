-- Paths of a system, one assignment for each moment.
use Rattle.std.specs.Prelude.{◌≡◌, ◌⊎◌, ℕ, suc, ◌+◌, ◌-◌, ◌*◌, ◌≤◌, ◌<◌, Bool, List, [], Some, None, IsSome, All, slice_get, slice_index_or}
use Rattle.std.specs.Prelude.{length}
use Rattle.sat_clauses.specs.Literal.{Literal}
use Rattle.sat_clauses.specs.Assignment.{Assignment}
use Rattle.sat_clauses.specs.declared.system.System.{System}
pub use Rattle.sat_clauses.specs.States.{IsStepUnder}
use Rattle.cut_frames.specs.Bits.{read_from}
use Rattle.cut_frames.specs.Chain.{State, IsFirstState, IsBad}
use Rattle.cut_frames.specs.FrameLists.{InNumber}
use Rattle.sat_clauses.specs.Models.{values_of}

-- each of the k variables from n on has a value
abbrev pub Gives : ℕ → ℕ → Assignment → Type 0
Gives n k a = (x : ℕ) → n ≤ x → x < n + k → IsSome (slice_index_or a x None)

-- each of the k variables from n on is free
abbrev pub AreFree : ℕ → ℕ → Assignment → Type 0
AreFree n k a = (x : ℕ) → n ≤ x → x < n + k → slice_index_or a x None ≡ None

-- each of the k variables from n on has the value that it has elsewhere
abbrev pub AreTaken : ℕ → ℕ → Assignment → Assignment → Type 0
AreTaken n k values a = (x : ℕ) → n ≤ x → x < n + k → slice_index_or a x None ≡ Some (values_of values x)

-- every variable but the k from n on is as it was
abbrev pub AreKept : ℕ → ℕ → Assignment → Assignment → Type 0
AreKept n k old new = (x : ℕ) → (x < n) ⊎ (n + k ≤ x) → slice_index_or new x None ≡ slice_index_or old x None

module _ (system : System) where
  -- the state that a moment gives
  abbrev pub state_in : Assignment → State
  state_in a = read_from 2 system.state_bits a

  -- the input bits that a moment gives
  abbrev pub inputs_in : Assignment → List Bool
  inputs_in a = read_from (2 * system.state_bits + 2) system.input_bits a

  -- the moment gives all state and input bits, and under its inputs a step leads from its state to the other
  abbrev pub Leads : Assignment → State → Type 0
  Leads a t =
      Gives 2 system.state_bits a
      × Gives (2 * system.state_bits + 2) system.input_bits a
      × IsStepUnder system (inputs_in a) (state_in a) t

  -- a path of the system from a first state into a bad one, of at most k steps
  pub record IsPath (bad : List (List Literal)) (k : ℕ) (path : List Assignment) : Type 0 where
    pub some : 0 < length path
    pub short : length path ≤ k + 1
    pub given : All (Gives 2 system.state_bits) path
    pub starts_first : IsFirstState system (state_in (slice_index_or path 0 []))
    pub steps : (i : ℕ) → i + 1 < length path → Leads (slice_index_or path i []) (state_in (slice_index_or path (i + 1) []))
    pub ends_bad : IsBad system bad (state_in (slice_index_or path (length path - 1) []))

  -- the moment gives a bad state
  abbrev pub EndsBad : List (List Literal) → Assignment → Type 0
  EndsBad bad a = IsBad system bad (state_in a) × Gives 2 system.state_bits a

  -- moments, the last of a path first: that of a bad state, then each of a state with a step to the one before it in the list
  pub record AreLinked (bad : List (List Literal)) (owed : List Assignment) : Type 0 where
    pub given : (p : ℕ) (a : Assignment) → slice_get owed p ≡ Some a → Gives 2 system.state_bits a
    pub ends_bad : (a : Assignment) → slice_get owed 0 ≡ Some a → IsBad system bad (state_in a)
    pub steps : (p : ℕ) (a b : Assignment) → slice_get owed p ≡ Some b → slice_get owed (suc p) ≡ Some a → Leads a (state_in b)

  -- obligations, the oldest first: a bad state of the last frame, then each a state of the frame before, with a step to the one before it
  -- in the list
  pub record AreOwed (bad : List (List Literal)) (frames : List (List (List Literal))) (owed : List Assignment) : Type 0 where
    pub fits : length owed ≤ length frames
    pub given : (p : ℕ) (a : Assignment) → slice_get owed p ≡ Some a → Gives 2 system.state_bits a
    pub inside : (p : ℕ) (a : Assignment) → slice_get owed p ≡ Some a → InNumber system frames (length frames - 1 - p) (state_in a)
    pub ends_bad : (a : Assignment) → slice_get owed 0 ≡ Some a → IsBad system bad (state_in a)
    pub steps : (p : ℕ) (a b : Assignment) → slice_get owed p ≡ Some b → slice_get owed (suc p) ≡ Some a → Leads a (state_in b)

  -- a moment with the values' state, and with no inputs
  pub record IsStateMoment (values a : Assignment) : Type 0 where
    pub places : length a ≡ 2 * system.state_bits + system.input_bits + 2
    pub state : AreTaken 2 system.state_bits values a
    pub inputs : AreFree (2 * system.state_bits + 2) system.input_bits a

  -- a moment with the values' state and inputs
  pub record IsStepMoment (values a : Assignment) : Type 0 where
    pub state : AreTaken 2 system.state_bits values a
    pub inputs : AreTaken (2 * system.state_bits + 2) system.input_bits values a
