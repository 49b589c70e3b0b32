-- The laws of kinds of the staged model of causes.
use Rattle.std.specs.Prelude.{◌≡◌, ℕ, ◌≤◌, List, [], length}
use Rattle.base_values.specs.declared.limits.TheConstants.{LONGEST_WINDOW}
use Rattle.smv_language.specs.Language.{Each, FlatModel}
use Rattle.smv_flat_laws.specs.FlatTrace.{IsModeOf}
use Rattle.smv_flat_laws.specs.History.{Mode, with_history}
use Rattle.smv_type_laws.specs.ExpressionKinds.{KindRule, too_large}
use Rattle.smv_type_laws.specs.Laws.{IsClosed}
use Rattle.smv_type_laws.specs.Models.{breaches, IsFault}
use Rattle.fault_woven_laws.specs.Modes.{HasSymbols}
use Rattle.fault_cause_laws.specs.Causes.{CommonCause, IsCauseOf}
use Rattle.fault_cause_laws.specs.StagedModel.{with_causes, events_of}

-- a model that breaks no rule of kinds but, it may be, that of its size, with its faults: modes of it whose variables have symbols
pub record AreOfKinds (m : FlatModel) (fs : List Mode) : Type 0 where
  pub closed : IsClosed m
  pub no_breach : breaches m ≡ []
  pub modes : Each (IsModeOf m) fs
  pub symbols : Each (HasSymbols m) fs

-- a cause of so many faults whose window ends at most `LONGEST_WINDOW` steps after its moment, as it does where no rule of causes is broken
pub record IsShortCause (faults : ℕ) (c : CommonCause) : Type 0 where
  pub strikes : IsCauseOf faults c
  pub short : c.to ≤ LONGEST_WINDOW

-- the model that is staged for such causes breaks no rule at an item, with the history of its events or without
abbrev pub StagedBreaksNone : Type 0
StagedBreaksNone =
    (m : FlatModel) (fs : List Mode) (cs : List CommonCause) → AreOfKinds m fs → Each (IsShortCause (length fs)) cs →
    (breaches (with_causes m fs cs) ≡ []) × (breaches (with_history (with_causes m fs cs) (events_of m fs cs)) ≡ [])

-- so the one fault of kinds that it may have is that of its size
abbrev pub StagedBreaksSizeAlone : Type 0
StagedBreaksSizeAlone =
    (m : FlatModel) (fs : List Mode) (cs : List CommonCause) → AreOfKinds m fs → Each (IsShortCause (length fs)) cs →
    (rule : KindRule) (item : ℕ) →
    (IsFault (with_causes m fs cs) rule item → (rule ≡ too_large) × (item ≡ 0))
    × (IsFault (with_history (with_causes m fs cs) (events_of m fs cs)) rule item → (rule ≡ too_large) × (item ≡ 0))
