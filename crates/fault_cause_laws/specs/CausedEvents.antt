-- Caused traces and their events.
--
-- A trace is known here by its number of moments and by which fault's mode stands at which moment, so that flat traces and
-- extended traces share these definitions.
use Rattle.std.specs.Prelude.{◌≡◌, ◌⊎◌, ℕ, suc, ◌+◌, ◌-◌, ◌<◌, ◌≤◌, true, List, Option, Some, None, slice_get}
use Rattle.smv_language.specs.Trace.{Each, EachBoth}
use Rattle.cut_right_laws.specs.Sets.{has_number}
use Rattle.fault_cause_laws.specs.Causes.{CommonCause}

-- the moment lies in the window of a cause that occurs at a moment, or not at all
abbrev pub IsInWindow : CommonCause → Option ℕ → ℕ → Type 0
IsInWindow c None k = ⊥
IsInWindow c (Some t) k = (t + c.from ≤ k) × (k ≤ t + c.to)

-- no cause that strikes the fault has its window at the moment
abbrev pub IsFree : List CommonCause → List (Option ℕ) → ℕ → ℕ → Type 0
IsFree causes times i k = EachBoth (λ c time. has_number c.strikes i ≡ true → IsInWindow c time k → ⊥) causes times

-- how many moments there are, and which fault's mode stands at which moment, these counted from 0
module _ (moments : ℕ) (stands : ℕ → ℕ → Type 0) where
  -- the fault's mode stands at some moment of the window
  abbrev pub IsStruck : CommonCause → ℕ → ℕ → Type 0
  IsStruck c t i = (k : ℕ) × IsInWindow c (Some t) k × stands k i

  -- A cause does not occur, or at a moment of the trace; and where the trace goes on to the end of its window, each fault
  -- that it strikes stands at some moment of the window.
  abbrev pub Occurs : CommonCause → Option ℕ → Type 0
  Occurs c None = Unit {0}
  Occurs c (Some t) = (t < moments) × (t + c.to < moments → Each (IsStruck c t) c.strikes)

  abbrev pub AreCaused : List CommonCause → List (Option ℕ) → Type 0
  AreCaused causes times = EachBoth Occurs causes times

  -- the fault's mode stands at a moment and not at the one before, and no cause that strikes it has its window there
  pub record BeginsFreely (causes : List CommonCause) (times : List (Option ℕ)) (i : ℕ) (k : ℕ) : Type 0 where
    pub within : k < moments
    pub begins : stands k i
    pub not_before : (j : ℕ) → suc j ≡ k → stands j i → ⊥
    pub free : IsFree causes times i k

  -- an event has happened: the faults come first, and then the causes, all numbered from one on
  abbrev pub HasHappened : ℕ → List CommonCause → List (Option ℕ) → ℕ → Type 0
  HasHappened faults causes times i =
      ((0 < i) × (i ≤ faults) × ((k : ℕ) × BeginsFreely causes times i k))
      ⊎ ((faults < i) × ((t : ℕ) × (slice_get times (i - faults - 1) ≡ Some (Some t))))
