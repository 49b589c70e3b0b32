-- Worked example: a guard that is a number: EXTENSION OF MODULE main SLICE Lamp AFFECTS on WITH MODE dark : Permanent StuckAt(FALSE) WHEN 3;
use Rattle.std.proofs.Common.{[], ◌∷◌, Some, None, inl, inr, refl}
use Rattle.std.specs.Prelude.{codes, pos, false}
use Rattle.smv_language.specs.Tree.{number}
use Rattle.smv_language.specs.Language.{boolean, var, ProgramTree, FlatModel}
use Rattle.smv_language.specs.Values.{truth}
use Rattle.fault_instructions.specs.declared.instructions.Dynamics.TheVariants.{Permanent}
use Rattle.fault_instructions.specs.declared.instructions.Start.TheVariants.{Nominal}
use Rattle.fault_instructions.specs.declared.effects.ConstantEffect.TheVariants.{StuckAt}
use Rattle.fault_instructions.specs.Instructions.{of_constant, ModeTree, InstructionTree}
use Rattle.smv_flat_laws.specs.Rules.{Rule, no_main, main_has_parameters, double_module, double_name, no_such_module, wrong_count, module_loop, no_such_name, not_a_target, double_assign, define_loop, next_here, input_here, too_many}
use Rattle.smv_type_laws.specs.ExpressionKinds.{not_boolean}
use Rattle.fault_extend_laws.specs.Uses.{Use}
use Rattle.fault_extend_laws.specs.Expressions.{BreaksNames, of_kinds, by_kinds, IsFirstUse}

-- VAR on : boolean;
abbrev lamp : ProgramTree
lamp = record { name = codes "main"; formals = []; sections = var (record { name = codes "on"; what = boolean } ∷ []) ∷ [] } ∷ []

abbrev dark : ModeTree
dark = record { name = codes "dark"; mark = None; dynamics = Permanent; effect = of_constant StuckAt (truth false); guard = Some (number (pos 3)) }

abbrev dimmed : InstructionTree
dimmed = record {
  name = None;
  extensions = record { of_module = codes "main"; slices = record { name = codes "Lamp"; target = codes "on"; start = Nominal; modes = dark ∷ [] } ∷ [] } ∷ [];
}

abbrev dark_use : Use
dark_use = record { place = []; item = 3; type = boolean; mode = dark }

no_rule : (r : Rule) → BreaksNames lamp dark_use r → ⊥
no_rule r (inl b) = b
no_rule no_main (inr b) = b
no_rule main_has_parameters (inr b) = b
no_rule double_module (inr b) = b
no_rule double_name (inr b) = b
no_rule no_such_module (inr b) = b
no_rule wrong_count (inr b) = b
no_rule module_loop (inr b) = b
no_rule no_such_name (inr b) = b
no_rule not_a_target (inr b) = b
no_rule double_assign (inr b) = b
no_rule define_loop (inr b) = b
no_rule next_here (inr b) = cc
no_rule input_here (inr b) = b.1
no_rule too_many (inr b) = b

-- the third item breaks the second rule of kinds
dark_is_refused : (m : FlatModel) → IsFirstUse lamp m dimmed (of_kinds not_boolean) 3
dark_is_refused m = record {
  before = [];
  here = dark_use;
  after = [];
  in_order = refl;
  kept_before = tt;
  broken = by_kinds not_boolean no_rule (record { follows_as = None; guard_as = Some (number (pos 3)); is_followed = refl; is_guard = λ is. (is.resolver, is.sound, refl) }) refl;
  at_item = refl;
}
