use Rattle.std.proofs.Common.{◌≡◌, ◌≢◌, ◌∙◌, ap, subst}
use Rattle.std.specs.Prelude.{IfErr, OnOk}
use Rattle.fault_instructions.specs.Instructions.{instruction_tree}
use Rattle.fault_rules.specs.Sites.{item_sites}
use Rattle.fault_rules.specs.CountLimits.{count_broken_at}
use Rattle.fault_rules.specs.FaultCounts.{module_names}
use Rattle.fault_rules.specs.FirstBroken.{IsFirstBroken, AllKept}
use Rattle.fault_rules.specs.declared.fault.InstructionRule.TheVariants as broken
use Rattle.fault_extend.specs.FirstRefusal.{modules_in}
use Rattle.fault_extend.proofs.weaving.count.Goals as goal

pub returns-clause-kept : goal.returns-clause-kept
returns-clause-kept c =
    let same : module_names c.as_slice-2.result.now ≡ modules_in c.args.typed.now.model.instances =
    ap module_names c.as_slice-2.ensures.value ∙ c.in_ok-owners.ensures ∙ ap modules_in c.as_slice.ensures ∙ ap (λ m. modules_in m.instances) c.model.ensures.model in
    subst (λ modules. OnOk c.judge_counts.result (AllKept (count_broken_at modules) (item_sites (instruction_tree c.args.i.now)))) same c.judge_counts.ensures.kept

pub returns-clause-first : goal.returns-clause-first
returns-clause-first c =
    let same : module_names c.as_slice-2.result.now ≡ modules_in c.args.typed.now.model.instances =
    ap module_names c.as_slice-2.ensures.value ∙ c.in_ok-owners.ensures ∙ ap modules_in c.as_slice.ensures ∙ ap (λ m. modules_in m.instances) c.model.ensures.model in
    subst (λ modules. IfErr c.judge_counts.result (λ fault. fault.rule ≢ broken.OutOfMemory → IsFirstBroken (count_broken_at modules) (item_sites (instruction_tree c.args.i.now)) fault.rule fault.item)) same
    c.judge_counts.ensures.first
