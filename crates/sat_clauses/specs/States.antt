-- States of a system of clause lists: which are first, which steps lead from one to another, and which are bad.
use Rattle.std.specs.Prelude.{◌≡◌, ℕ, ◌+◌, ◌-◌, ◌*◌, ◌≤◌, ◌<◌, Bool, false, IsTrue, List, [], ◌∷◌, All, slice_index_or, length}
use Rattle.sat_clauses.specs.declared.system.System.{System}
use Rattle.sat_clauses.specs.Literal.{Literal}
use Rattle.sat_clauses.specs.Models.{TotalAssignment, clause_value, all_true}

-- a pattern of the state bits
abbrev pub State : Type 0
State = List Bool

-- the variables from n on have the values of the state
abbrev pub Agrees : TotalAssignment → ℕ → State → Type 0
Agrees v n [] = Unit {0}
Agrees v n (b ∷ bs) = (v n ≡ b) × Agrees v (n + 1) bs

-- the literal of a variable so many places further on
abbrev pub moved_on : ℕ → Literal → Literal
moved_on bits l = record { var = l.var + bits; negated = l.negated }

module _ (system : System) where
  -- a state has as many bits as the system says
  abbrev pub IsState : State → Type 0
  IsState s = length s ≡ system.state_bits

  -- the clauses of first states can be made true with its bits as the state now
  abbrev pub IsFirstState : State → Type 0
  IsFirstState s = IsState s × ((v : TotalAssignment) × Agrees v 2 s × IsTrue (all_true v system.first))

  -- the clauses of steps can be made true with the bits of both, as the states now and next
  abbrev pub IsStepOf : State → State → Type 0
  IsStepOf s t = IsState s × IsState t
      × ((v : TotalAssignment) × Agrees v 2 s × Agrees v (system.state_bits + 2) t × IsTrue (all_true v system.step))

  -- under the inputs a step leads from the one state to the other
  abbrev pub IsStepUnder : List Bool → State → State → Type 0
  IsStepUnder inputs s t =
      IsState s
      × IsState t
      × (
      (v : TotalAssignment)
      × Agrees v 2 s
      × Agrees v (system.state_bits + 2) t
      × Agrees v (2 * system.state_bits + 2) inputs
      × IsTrue (all_true v system.step)
      )

  -- the clauses of bad states can be made true with its bits
  abbrev pub IsBad : List (List Literal) → State → Type 0
  IsBad bad s = IsState s × ((v : TotalAssignment) × Agrees v 2 s × IsTrue (all_true v bad))

  -- the values of the state bits now, as an assignment
  abbrev pub state_values : State → TotalAssignment
  state_values s v = slice_index_or s (v - 2) false

  -- the bits of the state make the clause true; other variables count as false
  abbrev pub Makes : State → List Literal → Type 0
  Makes s c = IsTrue (clause_value (state_values s) c)

  -- the bits of the state make each clause of the frame true
  abbrev pub InFrame : List (List Literal) → State → Type 0
  InFrame frame s = IsState s × IsTrue (all_true (state_values s) frame)

  -- each variable of the clause is a bit of the state now
  abbrev pub IsOverBits : List Literal → Type 0
  IsOverBits c = All (λ l. (2 ≤ l.var) × (l.var < system.state_bits + 2)) c

  -- clauses that hold in each first state, are kept by every step, and hold in no bad state
  pub record IsInvariant (bad clauses : List (List Literal)) : Type 0 where
    pub holds_first : (s : State) → IsFirstState s → InFrame clauses s
    pub is_kept : (s t : State) → InFrame clauses s → IsStepOf s t → InFrame clauses t
    pub excludes : (s : State) → InFrame clauses s → IsBad bad s → ⊥
