-- The laws of the staged model of causes.
use Rattle.std.specs.Prelude.{◌≡◌, ◌↔◌, ℕ, IsTrue, List, Option, None, length, map}
use Rattle.smv_language.specs.Language.{Value, Each, FlatModel}
use Rattle.smv_flat_laws.specs.History.{Mode}
use Rattle.smv_flat_laws.specs.FlatTrace.{IsFlatTrace, IsModeOf}
use Rattle.fault_cause_laws.specs.Additions.{KnowsNames}
use Rattle.sat_encoding_laws.specs.FlatTraces.{HasFailedNumber}
use Rattle.fault_cause_laws.specs.Causes.{CommonCause, IsCauseOf}
use Rattle.fault_cause_laws.specs.CausedEvents.{AreCaused, HasHappened}
use Rattle.fault_cause_laws.specs.StagedModel.{with_causes, events_of}
use Rattle.fault_cause_laws.specs.StagedValues.{stands_at, caused_told}

-- a model, its faults and causes: the model knows its names, the faults are modes of it, and the causes strike them
pub record AreStaged (m : FlatModel) (fs : List Mode) (cs : List CommonCause) : Type 0 where
  pub knows : KnowsNames m
  pub modes : Each (IsModeOf m) fs
  pub causes : Each (IsCauseOf (length fs)) cs

-- the mode of the fault of a number stands at the moment of a number
abbrev pub StandsAt : FlatModel → List Mode → List (List Value) → ℕ → ℕ → Type 0
StandsAt m fs trace k i = IsTrue (stands_at m fs trace k i)

-- a trace of the model, and moments of the causes
pub record IsCausedTrace (m : FlatModel) (fs : List Mode) (cs : List CommonCause) (trace : List (List Value))
    (times : List (Option ℕ)) : Type 0 where
  pub is_trace : IsFlatTrace m trace
  pub caused : AreCaused (length trace) (StandsAt m fs trace) cs times

-- the traces of the staged model are the caused traces, told by the added variables
abbrev pub StagedTracesAreCaused : Type 0
StagedTracesAreCaused =
    (m : FlatModel) (fs : List Mode) (cs : List CommonCause) → AreStaged m fs cs → (long : List (List Value)) →
    (IsFlatTrace (with_causes m fs cs) long
    ↔ ((trace : List (List Value)) × (times : List (Option ℕ)) × IsCausedTrace m fs cs trace times
    × (long ≡ caused_told m fs cs trace times)))

-- one each: what is told of two caused traces is the same only where they are
abbrev pub OneTraceEach : Type 0
OneTraceEach =
    (m : FlatModel) (fs : List Mode) (cs : List CommonCause) → AreStaged m fs cs →
    (trace other : List (List Value)) (times others : List (Option ℕ)) →
    IsCausedTrace m fs cs trace times → IsCausedTrace m fs cs other others →
    caused_told m fs cs trace times ≡ caused_told m fs cs other others → (trace ≡ other) × (times ≡ others)

-- the events of a staged trace are those of its caused trace
abbrev pub StagedEventsAreEvents : Type 0
StagedEventsAreEvents =
    (m : FlatModel) (fs : List Mode) (cs : List CommonCause) → AreStaged m fs cs → (trace : List (List Value)) (times : List (Option ℕ)) →
    IsCausedTrace m fs cs trace times → (i : ℕ) →
    (HasFailedNumber (with_causes m fs cs) (events_of m fs cs) (caused_told m fs cs trace times) i
    ↔ HasHappened (length trace) (StandsAt m fs trace) (length fs) cs times i)

-- the caused traces in which no cause has a moment are the traces of the model, with the faults that they have failed as events
abbrev pub UncausedAreTraces : Type 0
UncausedAreTraces =
    (m : FlatModel) (fs : List Mode) (cs : List CommonCause) → AreStaged m fs cs → (trace : List (List Value)) →
    (IsCausedTrace m fs cs trace (map (λ c. None) cs) ↔ IsFlatTrace m trace)
    × ((i : ℕ) → HasHappened (length trace) (StandsAt m fs trace) (length fs) cs (map (λ c. None) cs) i ↔ HasFailedNumber m fs trace i)
