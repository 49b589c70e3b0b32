-- The first item that breaks a rule.
use Rattle.std.specs.Prelude.{◌≡◌, ℕ, suc, List, ◌∷◌, ◌++◌, Option, Some, None, length}
use Rattle.smv_language.specs.Trace.{Each}
use Rattle.fault_rules.specs.Sites.{Site}
use Rattle.fault_rules.specs.declared.fault.InstructionRule.{InstructionRule}

-- none of the items breaks a rule, where it is told of each which rule it breaks
abbrev pub AllKept : (Site → Option InstructionRule) → List Site → Type 0
AllKept told sites = Each (λ site. told site ≡ None) sites

-- the rule is broken at the item of this number, counted from 1, and none at an item before it
pub record IsFirstBroken (told : Site → Option InstructionRule) (sites : List Site) (rule : InstructionRule) (item : ℕ) : Type 0 where
  pub before : List Site
  pub site : Site
  pub after : List Site
  pub in_order : sites ≡ before ++ site ∷ after
  pub kept_before : AllKept told before
  pub broken : told site ≡ Some rule
  pub at_item : item ≡ suc (length before)
