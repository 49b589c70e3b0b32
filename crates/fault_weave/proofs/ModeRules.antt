-- The rule sections of a mode, for a condition that asks nothing of an INIT.
use Rattle.std.specs.Prelude.{◌↔◌, Option, Some, None}
use Rattle.smv_language.specs.Language.{Text, Formula, SectionTree, init, Each}
use Rattle.fault_instructions.specs.declared.instructions.Start.{Start}
use Rattle.fault_instructions.specs.declared.instructions.Start.TheVariants.{Nominal, Any}
use Rattle.fault_instructions.specs.declared.effects.EffectRule.{EffectRule}
use Rattle.fault_instructions.specs.declared.effects.EffectRule.TheVariants.{NotOwn, AsBefore, AsEntered, Falling}
use Rattle.fault_instructions.specs.Instructions.{EffectTree}
use Rattle.fault_instructions.specs.Effects.{rule_of}
use Rattle.fault_instructions.specs.Templates.{rules, first_trees}
use Rattle.fault_weave.specs.WovenProgram.{start_rules, mode_rules}
use Rattle.fault_instructions.proofs.AmongLaws.{each_append}
use Rattle.smv_language.proofs.BoolLaws.{iff_trans}

first_rules_all : (P : SectionTree → Type 0) → ((f : Formula) → P (init f)) → (r : Option EffectRule) (slice mode x : Text) → Each P (first_trees r slice mode x)
first_rules_all P h None slice mode x = tt
first_rules_all P h (Some NotOwn) slice mode x = tt
first_rules_all P h (Some AsBefore) slice mode x = (h _, tt)
first_rules_all P h (Some AsEntered) slice mode x = tt
first_rules_all P h (Some (Falling d f)) slice mode x = (h _, tt)

pub start_rules_all : (P : SectionTree → Type 0) → ((f : Formula) → P (init f)) → (start : Start) (e : EffectTree) (slice mode x : Text) → Each P (start_rules start e slice mode x)
start_rules_all P h Nominal e slice mode x = tt
start_rules_all P h Any e slice mode x = first_rules_all P h (rule_of e) slice mode x

pub mode_rules_plain : (P : SectionTree → Type 0) → ((f : Formula) → P (init f)) → (start : Start) (e : EffectTree) (slice mode x : Text) →
    Each P (mode_rules start e slice mode x) ↔ Each P (rules e slice mode x)
mode_rules_plain P h start e slice mode x =
    iff_trans (each_append P (rules e slice mode x) (start_rules start e slice mode x)) ((λ q. q.0), (λ q. (q, start_rules_all P h start e slice mode x)))
