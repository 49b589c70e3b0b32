-- What is told of a model that breaks a rule.
use Rattle.std.specs.Prelude.{◌≡◌, ◌⊎◌, ℕ, Option, Some, None}
use Rattle.smv_language.specs.Flat.{FlatModel}
use Rattle.smv_type_laws.specs.ExpressionKinds.{KindRule}
use Rattle.smv_type_laws.specs.Models.{IsFault}
use Rattle.smv_types.specs.Answers.{told_rule}
use Rattle.smv_types.specs.declared.fault.TypeRule.TheVariants.{OutOfMemory}
use Rattle.smv_types.specs.declared.fault.TypeFault.{TypeFault}

-- want of memory
abbrev pub IsOfMemory : TypeFault → Type 0
IsOfMemory f = f.rule ≡ OutOfMemory

-- The rule and the item are the model's fault.
pub record IsFaultOf (m : FlatModel) (f : TypeFault) : Type 0 where
  pub rule : KindRule
  pub is_rule : f.rule ≡ told_rule rule
  pub is_fault : IsFault m rule f.item

-- want of memory, or the fault of the model
abbrev pub IsToldOf : FlatModel → TypeFault → Type 0
IsToldOf m f = IsOfMemory f ⊎ IsFaultOf m f

-- a rule with its item
abbrev pub told_fault : Option (KindRule × ℕ) → Option TypeFault
told_fault None = None
told_fault (Some p) = Some (record { rule = told_rule p.0; item = p.1 })
