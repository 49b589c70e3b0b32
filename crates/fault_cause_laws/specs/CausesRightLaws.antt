-- What is right for staged traces is right for caused traces.
use Rattle.std.specs.Prelude.{◌≡◌, ℕ, ◌+◌, ◌≤◌, List, Option, length}
use Rattle.smv_language.specs.Language.{Tree, Value, Each, FlatLeaf, FlatModel}
use Rattle.smv_flat_laws.specs.History.{Mode}
use Rattle.smv_flat_laws.specs.FlatTrace.{IsFlatTrace}
use Rattle.smv_flat_laws.specs.NameResolution.{leaves_in}
use Rattle.fault_cause_laws.specs.Additions.{IsKnownName}
use Rattle.cut_right_laws.specs.Right.{IsRight, IsWithin}
use Rattle.cut_right_laws.specs.Laws.{AreBoth}
use Rattle.sat_encoding_laws.specs.FlatTraces.{ReachesTop, IsRightFlat}
use Rattle.fault_cause_laws.specs.Causes.{CommonCause}
use Rattle.fault_cause_laws.specs.CausedEvents.{HasHappened}
use Rattle.fault_cause_laws.specs.StagedModel.{with_causes, events_of}
use Rattle.fault_cause_laws.specs.StagedValues.{caused_told}
use Rattle.fault_cause_laws.specs.Laws.{AreStaged, StandsAt, IsCausedTrace}

-- a trace with the moments of its causes
abbrev pub Caused : Type 0
Caused = List (List Value) × List (Option ℕ)

module _ (m : FlatModel) (fs : List Mode) (cs : List CommonCause) where
  abbrev pub IsCaused : Caused → Type 0
  IsCaused c = IsCausedTrace m fs cs c.0 c.1

  -- of at most k steps
  abbrev pub IsShortCaused : ℕ → Caused → Type 0
  IsShortCaused k c = IsCaused c × (length c.0 ≤ k + 1)

  abbrev pub CausedReaches : Tree FlatLeaf → Caused → Type 0
  CausedReaches top c = ReachesTop m top c.0

  abbrev pub EventHappened : Caused → ℕ → Type 0
  EventHappened c i = HasHappened (length c.0) (StandsAt m fs c.0) (length fs) cs c.1 i

  -- the staged trace tells of the caused trace
  abbrev pub Tells : List (List Value) → Caused → Type 0
  Tells long c = IsCaused c × (long ≡ caused_told m fs cs c.0 c.1)

  -- sets of events, with one caused trace each, are right for a class of the caused traces
  abbrev pub IsRightCaused : Tree FlatLeaf → ℕ → (Caused → Type 0) → List (List ℕ) → List Caused → Type 0
  IsRightCaused top size class sets traces = IsRight Caused IsCaused (CausedReaches top) EventHappened size class sets traces

-- sets that are right for all staged traces are right for all caused traces
abbrev pub AllRightIsCaused : Type 0
AllRightIsCaused =
    (m : FlatModel) (fs : List Mode) (cs : List CommonCause) → AreStaged m fs cs → (top : Tree FlatLeaf) →
    Each (IsKnownName (length m.variables) (length m.symbols)) (leaves_in top) →
    (size : ℕ) (sets : List (List ℕ)) (staged : List (List (List Value))) (traces : List Caused) → AreBoth (Tells m fs cs) staged traces →
    IsRightFlat (with_causes m fs cs) (events_of m fs cs) top size (IsFlatTrace (with_causes m fs cs)) sets staged →
    IsRightCaused m fs cs top size (IsCaused m fs cs) sets traces

-- and those that are right for staged traces of at most k steps are right for caused traces of at most k steps
abbrev pub ShortRightIsCaused : Type 0
ShortRightIsCaused =
    (m : FlatModel) (fs : List Mode) (cs : List CommonCause) → AreStaged m fs cs → (top : Tree FlatLeaf) →
    Each (IsKnownName (length m.variables) (length m.symbols)) (leaves_in top) →
    (k size : ℕ) (sets : List (List ℕ)) (staged : List (List (List Value))) (traces : List Caused) → AreBoth (Tells m fs cs) staged traces →
    IsRightFlat (with_causes m fs cs) (events_of m fs cs) top size (IsWithin (IsFlatTrace (with_causes m fs cs)) k) sets staged →
    IsRightCaused m fs cs top size (IsShortCaused m fs cs k) sets traces
