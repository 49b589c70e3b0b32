-- Bad states of a frame that make as few of given literals true as they can.
use Rattle.std.specs.Prelude.{◌≡◌, false, ℕ, ◌-◌, List, IsTrue, All, map, filter, not, length}
use Rattle.sat_clauses.specs.Literal.{Literal, opposite}
use Rattle.sat_clauses.specs.Models.{TotalAssignment, literal_value}
use Rattle.sat_clauses.specs.declared.system.System.{System}
use Rattle.cut_frames.specs.Chain.{State, state_values, IsBad, IsOverBits}
use Rattle.cut_frames.specs.FrameLists.{InNumber}
use Rattle.cut_frames.specs.Path.{state_in}
use Rattle.cut_frames.specs.declared.clear.Look.{Look}
use Rattle.cut_frames.specs.declared.clear.Look.TheVariants.{Deeper}

-- the literal is a variable, not turned round
abbrev pub IsPlain : Literal → Type 0
IsPlain l = l.negated ≡ false

-- literals of which as few as can be are to be true at a bad state: state bits, none of them turned round
pub record IsHistory (system : System) (history : List Literal) : Type 0 where
  pub over_bits : IsOverBits system history
  pub positive : All IsPlain history

-- each of the literals that the first values make true is true under the second ones
abbrev pub IsWithin : List Literal → TotalAssignment → TotalAssignment → Type 0
IsWithin history v w = All (λ l. IsTrue (literal_value v l) → IsTrue (literal_value w l)) history

-- those of the literals that the values don't make true, turned round
abbrev pub given_up : TotalAssignment → List Literal → List Literal
given_up v history = map opposite (filter (λ l. not (literal_value v l)) history)

module _ (system : System) (bad : List (List Literal)) (frames : List (List (List Literal))) (history : List Literal) where
  -- the values make this literal true only if every bad state of the frame does that makes no other one true than they do
  abbrev pub IsNeeded : ℕ → TotalAssignment → Literal → Type 0
  IsNeeded last v l = IsTrue (literal_value v l) → (t : State) → InNumber system frames last t → IsBad system bad t →
      IsWithin history (state_values system t) v → IsTrue (literal_value (state_values system t) l)

  -- a bad state of the last frame that makes no literal true that this one doesn't make true makes all of its literals true
  abbrev pub IsMinimal : State → Type 0
  IsMinimal s = (t : State) → InNumber system frames (length frames - 1) t → IsBad system bad t →
      IsWithin history (state_values system t) (state_values system s) →
      IsWithin history (state_values system s) (state_values system t)

  -- a bad state that a look finds is such a one
  abbrev pub FindsMinimal : Look → Type 0
  FindsMinimal (Deeper a) = IsMinimal (state_in system a)
  FindsMinimal _ = Unit {0}
