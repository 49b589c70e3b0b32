-- What a weave keeps of the rules of flattening, as statements.
use Rattle.std.specs.Prelude.{◌≡◌, ℕ}
use Rattle.smv_language.specs.Language.{ProgramTree, Each}
use Rattle.smv_flat_laws.specs.Items.{instances_of}
use Rattle.smv_flat_laws.specs.Looks.{ActualsMean}
use Rattle.smv_flat_laws.specs.Rules.{Rule, too_many, Site, sites, Breaks, IsFirstBroken, IsAccepted, IsWithin}
use Rattle.fault_instructions.specs.Instructions.{InstructionTree}
use Rattle.fault_weave.specs.WovenProgram.{woven}
use Rattle.fault_instructions.specs.Weavable.{IsWeavable}
use Rattle.fault_rules.specs.Sites.{item_sites}
use Rattle.fault_rules.specs.Rules.{broken_at}
use Rattle.fault_rules.specs.FirstBroken.{AllKept}
use Rattle.fault_extend_laws.specs.Uses.{uses}
use Rattle.fault_extend_laws.specs.Expressions.{KeepsNames}

-- no rule is broken there but that of too many instances or variables
abbrev pub OnlyLimits : ProgramTree → Site → Type 0
OnlyLimits p site = (rule : Rule) → Breaks p rule site → rule ≡ too_many

-- What a weave starts from: the program breaks no rule of flattening, no item of the instructions breaks a rule, and
-- no mode breaks a rule of names at any instance.
pub record IsExtendable (p : ProgramTree) (i : InstructionTree) : Type 0 where
  pub accepted : IsAccepted p
  pub weavable : IsWeavable p i
  pub items_kept : AllKept (broken_at p) (item_sites i)
  pub names_kept : Each (KeepsNames p) (uses p i)

-- a woven program breaks no rule of flattening anywhere but its limits
abbrev pub WovenKeepsNames : Type 0
WovenKeepsNames = (p : ProgramTree) (i : InstructionTree) → IsExtendable p i → Each (OnlyLimits (woven p i)) (sites (woven p i))

-- so that, where it breaks one, it is a limit
abbrev pub WovenBreaksLimitsAlone : Type 0
WovenBreaksLimitsAlone = (p : ProgramTree) (i : InstructionTree) → IsExtendable p i → (rule : Rule) (item : ℕ) →
    IsFirstBroken (woven p i) rule item → rule ≡ too_many

-- and that, where it breaks no limit, it is accepted
abbrev pub WovenIsAccepted : Type 0
WovenIsAccepted = (p : ProgramTree) (i : InstructionTree) → IsExtendable p i → Each (IsWithin (woven p i)) (sites (woven p i)) →
    IsAccepted (woven p i)

-- its actuals mean something where those of the program do
abbrev pub WovenActualsMean : Type 0
WovenActualsMean = (p : ProgramTree) (i : InstructionTree) → IsWeavable p i → ActualsMean p → ActualsMean (woven p i)

-- and its instances are those of the program
abbrev pub WovenInstancesAreSame : Type 0
WovenInstancesAreSame = (p : ProgramTree) (i : InstructionTree) → instances_of (woven p i) ≡ instances_of p
