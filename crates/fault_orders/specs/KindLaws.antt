-- The laws of kinds of a model that is staged for two faults.
use Rattle.std.specs.Prelude.{◌≡◌, ℕ, ◌<◌, ◌≤◌, List, [], length}
use Rattle.smv_language.specs.Flat.{FlatModel}
use Rattle.smv_flat_laws.specs.History.{Mode}
use Rattle.smv_type_laws.specs.ExpressionKinds.{KindRule, too_large}
use Rattle.smv_type_laws.specs.Models.{breaches, IsFault}
use Rattle.fault_cause_laws.specs.KindLaws.{AreOfKinds}
use Rattle.fault_orders.specs.Stage.{stage}

-- two numbers of faults
pub record AreFaultNumbers (faults first second : ℕ) : Type 0 where
  pub first_counts : 0 < first
  pub first_within : first ≤ faults
  pub second_counts : 0 < second
  pub second_within : second ≤ faults

-- the staged model breaks no rule at an item
abbrev pub StageBreaksNone : Type 0
StageBreaksNone = (m : FlatModel) (fs : List Mode) (first second : ℕ) → AreOfKinds m fs → AreFaultNumbers (length fs) first second →
    breaches (stage m fs first second) ≡ []

-- so the one fault of kinds that it may have is that of its size
abbrev pub StageBreaksSizeAlone : Type 0
StageBreaksSizeAlone =
    (m : FlatModel) (fs : List Mode) (first second : ℕ) → AreOfKinds m fs → AreFaultNumbers (length fs) first second →
    (rule : KindRule) (item : ℕ) →
    IsFault (stage m fs first second) rule item → (rule ≡ too_large) × (item ≡ 0)
