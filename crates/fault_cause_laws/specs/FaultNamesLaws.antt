-- That no two faults of an extension have one name, as statements.
use Rattle.std.specs.Prelude.{◌≡◌, ℕ, List, [], ◌∷◌, ◌++◌, Some, map, slice_get}
use Rattle.smv_language.specs.ProgramTree.{Path, ProgramTree}
use Rattle.smv_flat_laws.specs.Rules.{IsAccepted}
use Rattle.fault_instructions.specs.Instructions.{InstructionTree}
use Rattle.fault_weave.specs.Faults.{Fault, HasFaults}
use Rattle.fault_rules.specs.Sites.{item_sites}
use Rattle.fault_rules.specs.Rules.{broken_at}
use Rattle.fault_rules.specs.FirstBroken.{AllKept}
use Rattle.fault_cause_laws.specs.Causes.{CommonCause}
use Rattle.fault_cause_laws.specs.CausesText.{WrittenCause}
use Rattle.fault_cause_laws.specs.CauseRules.{fault_path, IsStrikeOf, AreReadAs, AreLawful}

-- two places of the list with one path are one place
abbrev pub StandOnce : List Path → Type 0
StandOnce paths = (j k : ℕ) (x : Path) → slice_get paths j ≡ Some x → slice_get paths k ≡ Some x → j ≡ k

-- These are the faults of a program under instructions. The program breaks no rule of flattening, and no item of the
-- instructions breaks a rule.
pub record AreFaultsOf (p : ProgramTree) (i : InstructionTree) (faults : List Fault) : Type 0 where
  pub accepted : IsAccepted p
  pub items_kept : AllKept (broken_at p) (item_sites i)
  pub are_faults : HasFaults p i faults

-- their names are all different
abbrev pub NamesDiffer : Type 0
NamesDiffer = (p : ProgramTree) (i : InstructionTree) (faults : List Fault) → AreFaultsOf p i faults → StandOnce (map fault_path faults)

-- a name tells its fault: its last two parts are the slice and the mode, and those before them the instance
abbrev pub NamesTellFaults : Type 0
NamesTellFaults = (f g : Fault) → fault_path f ≡ fault_path g → f ≡ g

-- a name is that of one number alone
abbrev pub NamesMeanOne : Type 0
NamesMeanOne =
    (p : ProgramTree) (i : InstructionTree) (faults : List Fault) → AreFaultsOf p i faults → (w : ProgramTree) (x : Path) (j k : ℕ) →
    IsStrikeOf faults w x j → IsStrikeOf faults w x k → j ≡ k

-- so causes that are written with names are the same causes for whoever reads them: no name leaves a choice of faults
abbrev pub CausesReadAsOne : Type 0
CausesReadAsOne =
    (p : ProgramTree) (i : InstructionTree) (faults : List Fault) → AreFaultsOf p i faults →
    (w : ProgramTree) (written : List WrittenCause) (cs ds : List CommonCause) →
    AreReadAs faults w written cs → AreReadAs faults w written ds → cs ≡ ds

-- and no two events have one name, where those of causes have one part, and those of faults more
abbrev pub EventNamesDiffer : Type 0
EventNamesDiffer =
    (p : ProgramTree) (i : InstructionTree) (faults : List Fault) → AreFaultsOf p i faults →
    (w : ProgramTree) (written : List WrittenCause) (cs : List CommonCause) →
    AreLawful faults w written → AreReadAs faults w written cs → StandOnce (map fault_path faults ++ map (λ c. c.name ∷ []) cs)
