-- Caused traces and events, over extended traces.
use Rattle.std.specs.Prelude.{◌≡◌, ℕ, ◌+◌, ◌-◌, ◌<◌, ◌≤◌, List, Option, Some, length, slice_get}
use Rattle.smv_language.specs.ProgramTree.{Formula, ProgramTree}
use Rattle.fault_instructions.specs.Instructions.{InstructionTree}
use Rattle.fault_weave.specs.ExtensionTraces.{Moment, IsExtended, Reaches}
use Rattle.fault_weave.specs.Faults.{Fault}
use Rattle.cut_right_laws.specs.Right.{IsRight}
use Rattle.fault_cause_laws.specs.Causes.{CommonCause}
use Rattle.fault_cause_laws.specs.CausedEvents.{AreCaused, HasHappened}

-- an extended trace with the moments of its causes
abbrev pub CausedTrace : Type 0
CausedTrace = List Moment × List (Option ℕ)

-- the mode of the fault of a number, from one on, stands at the moment of a number, from 0 on
abbrev pub FaultStandsAt : List Fault → List Moment → ℕ → ℕ → Type 0
FaultStandsAt faults trace k i = (f : Fault) × (0 < i) × (slice_get faults (i - 1) ≡ Some f)
    × ((mo : Moment) × (slice_get trace k ≡ Some mo) × (mo.mode f.place f.slice ≡ Some f.mode))

module _ (p : ProgramTree) (i : InstructionTree) (faults : List Fault) (causes : List CommonCause) where
  -- an extended trace, and moments of causes that occur in it
  pub record IsCausedExtended (c : CausedTrace) : Type 0 where
    pub is_trace : IsExtended p i c.0
    pub caused : AreCaused (length c.0) (FaultStandsAt faults c.0) causes c.1

  -- of at most k steps
  abbrev pub IsShortCausedExtended : ℕ → CausedTrace → Type 0
  IsShortCausedExtended k c = IsCausedExtended c × (length c.0 ≤ k + 1)

  abbrev pub CausedReachesTop : Formula → CausedTrace → Type 0
  CausedReachesTop top c = Reaches p top c.0

  -- an event of the caused trace, by its number
  abbrev pub HasEvent : CausedTrace → ℕ → Type 0
  HasEvent c n = HasHappened (length c.0) (FaultStandsAt faults c.0) (length faults) causes c.1 n

  -- sets of events, with one caused trace each, are right for a class of the caused traces
  abbrev pub IsRightCausedExtended : Formula → ℕ → (CausedTrace → Type 0) → List (List ℕ) → List CausedTrace → Type 0
  IsRightCausedExtended top size class sets traces =
      IsRight CausedTrace IsCausedExtended (CausedReachesTop top) HasEvent size class sets traces
