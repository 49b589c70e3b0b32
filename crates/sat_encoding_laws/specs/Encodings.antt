-- What clause lists say of a flat model: the interface between the encoding and what searches or checks over it.
--
-- `state_of` has the bits of the state and frozen variables of a valuation by number, `inputs_of` those of its input
-- variables. A state is first, a step leads to it, or it is bad, where the lists can be made true with it (`States`).
use Rattle.std.specs.Prelude.{◌≡◌, ℕ, ◌-◌, ◌≤◌, Bool, true, false, List, Option, Some, None, length, slice_get, filter}
use Rattle.smv_language.specs.Language.{Tree, Value, Each, AtSome, FlatLeaf, FlatModel, FlatMay, Holds}
use Rattle.smv_language.specs.Values.{truth}
use Rattle.smv_flat_laws.specs.FlatTrace.{AreInDomains, IsFlatMoment, IsFlatStep}
use Rattle.sat_clauses.specs.Literal.{Literal}
use Rattle.sat_clauses.specs.declared.system.System.{System}
use Rattle.sat_clauses.specs.States.{State, IsFirstState, IsBad, IsStepUnder}

-- the valuation meets what the first one must
abbrev pub IsFlatFirst : FlatModel → List Value → Type 0
IsFlatFirst m v = Each (Holds m v v) m.at_first

-- the value is TRUE
abbrev pub is_true_value : Option Value → Bool
is_true_value (Some (truth b)) = b
is_true_value _ = false

-- the variable of the number is TRUE
abbrev pub is_true_at : List Value → ℕ → Bool
is_true_at v n = is_true_value (slice_get v n)

-- the variable of the number is TRUE, where there is one
abbrev pub is_true_in : List Value → Option ℕ → Bool
is_true_in v (Some n) = is_true_at v n
is_true_in v None = false

-- the history bit of the fault of a number, from one on; it is FALSE where there is none
abbrev pub bit_of : List ℕ → List Value → ℕ → Bool
bit_of history v i = is_true_in v (slice_get history (i - 1))

module _ (m : FlatModel) (system : System) (state_of inputs_of : List Value → List Bool) where
  -- The lists mean the model: their first states and steps are those of its moments, different valuations have different bits, and
  -- states do not depend on inputs.
  pub record IsEncodingOf : Type 0 where
    -- a first state is that of some first moment
    pub first_means : (s : State) → IsFirstState system s → (v : List Value) × IsFlatMoment m v × IsFlatFirst m v × (state_of v ≡ s)
    pub first_comes : (v : List Value) → IsFlatMoment m v → IsFlatFirst m v → IsFirstState system (state_of v)
    -- a step leads under inputs where some moment with these inputs and some next one are a step
    pub step_means : (inputs : List Bool) (s t : State) → length inputs ≡ system.input_bits → IsStepUnder system inputs s t →
        (v w : List Value) × IsFlatMoment m v × IsFlatMoment m w × IsFlatStep m v w × (state_of v ≡ s) × (inputs_of v ≡ inputs)
        × (state_of w ≡ t)
    pub step_comes : (v w : List Value) → IsFlatMoment m v → IsFlatMoment m w → IsFlatStep m v w →
        IsStepUnder system (inputs_of v) (state_of v) (state_of w)
    -- the bits determine the valuation
    pub one_valuation : (v w : List Value) → AreInDomains m.variables v → AreInDomains m.variables w → state_of v ≡ state_of w →
        inputs_of v ≡ inputs_of w → v ≡ w
    -- what is asked of a first moment, of each one and of the second of a step reads no inputs
    pub first_free : (v w : List Value) → AreInDomains m.variables v → AreInDomains m.variables w → state_of v ≡ state_of w →
        IsFlatFirst m v → IsFlatFirst m w
    pub moment_free : (v w : List Value) → AreInDomains m.variables w → state_of v ≡ state_of w → IsFlatMoment m v → IsFlatMoment m w
    pub next_free : (u v w : List Value) → AreInDomains m.variables v → AreInDomains m.variables w → state_of v ≡ state_of w →
        IsFlatStep m u v → IsFlatStep m u w

module _ (m : FlatModel) (top : Tree FlatLeaf) (history : List ℕ) (sets : List (List ℕ)) (size : ℕ) where
  -- the top event is reached with at most so many faults, and no listed set has failed as a whole
  pub record IsBadMoment (v : List Value) : Type 0 where
    pub moment : IsFlatMoment m v
    pub reaches : FlatMay m v v top (truth true)
    pub small : length (filter (is_true_at v) history) ≤ size
    pub unlisted : Each (AtSome (λ i. bit_of history v i ≡ false)) sets

module _ (m : FlatModel) (system : System) (state_of : List Value →
    List Bool) (top : Tree FlatLeaf) (history : List ℕ) (sets : List (List ℕ)) (size : ℕ) where
  -- the list means the bad moments: its states are exactly theirs
  pub record IsBadListOf (bad : List (List Literal)) : Type 0 where
    -- a bad state is that of some bad moment, and then of bad moments alone
    pub bad_means : (s : State) → IsBad system bad s → (v : List Value) × IsBadMoment m top history sets size v × (state_of v ≡ s)
    pub bad_comes : (v : List Value) → IsBadMoment m top history sets size v → IsBad system bad (state_of v)
    -- neither the top event nor history bits read inputs
    pub bad_free : (v w : List Value) → AreInDomains m.variables w → state_of v ≡ state_of w → IsBadMoment m top history sets size v →
        IsBadMoment m top history sets size w
