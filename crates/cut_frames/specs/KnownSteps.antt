-- Steps that answers have shown, and the clauses that they break.
use Rattle.std.specs.Prelude.{◌≡◌, ◌-◌, ℕ, Bool, false, not, ◌&&◌, ◌||◌, nat_eq, nat_lt, List, slice_index_or}
use Rattle.std.specs.List.{list_any, list_all}
use Rattle.sat_clauses.specs.Literal.{Literal}
use Rattle.sat_clauses.specs.Models.{TotalAssignment, clause_value}
use Rattle.sat_clauses.specs.declared.system.System.{System}
use Rattle.cut_frames.specs.Chain.{State, IsStepOf, InFrame}
use Rattle.cut_frames.specs.declared.levels.Held.{Held}
use Rattle.cut_frames.specs.declared.shown.Seen.{Seen}

-- the values of the bits of a state now; other variables count as false
abbrev pub bits_of : State → TotalAssignment
bits_of t v = slice_index_or t (v - 2) false

-- the state makes no literal of the clause true
abbrev pub breaks : List Literal → State → Bool
breaks c t = not (clause_value (bits_of t) c)

-- the step was seen in the frame of the number, and leads to a state that breaks the clause
abbrev pub shows : ℕ → List Literal → Seen → Bool
shows i c s = nat_eq s.level i && breaks c s.to

-- the state makes the clause true, unless that stands in lower frames alone
abbrev pub is_true_at : State → ℕ → Held → Bool
is_true_at t i h = nat_lt h.highest i || clause_value (bits_of t) h.clause

-- the state breaks the clause, which has this number
abbrev pub is_hit : State → ℕ → Held → Bool
is_hit t i h = nat_eq h.highest i && breaks h.clause t

-- the step was seen in another frame, or comes from a state of the frame of the number and breaks a clause of that number
abbrev pub counts : ℕ → List Held → Seen → Bool
counts i hs s = not (nat_eq s.level i) || (list_any (is_hit s.to i) hs && list_all (is_true_at s.from i) hs)

module _ (system : System) where
  -- it is a step of the system
  abbrev pub IsSeen : Seen → Type 0
  IsSeen s = IsStepOf system s.from s.to

  -- a step of the system that, if it was seen in the frame of the number, comes from a state of that frame
  pub record IsShown (frame : List (List Literal)) (i : ℕ) (s : Seen) : Type 0 where
    pub step : IsStepOf system s.from s.to
    pub inside : s.level ≡ i → InFrame system frame s.from
