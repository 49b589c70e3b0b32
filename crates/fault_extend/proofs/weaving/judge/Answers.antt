use Rattle.std.proofs.Common.{◌∙◌, map, ap, subst}
use Rattle.std.specs.Prelude.{IfErr, OnOk}
use Rattle.smv_language.specs.Language.{program_tree, Each, model_tree}
use Rattle.fault_instructions.specs.Instructions.{instruction_tree}
use Rattle.fault_rules.specs.PlacedSlices.{seen_placed}
use Rattle.fault_extend_laws.specs.Expressions.{KeepsUse}
use Rattle.fault_extend_laws.proofs.SliceLaws.{all_uses}
use Rattle.fault_extend.specs.FirstRefusal.{modules_in, IsFirstFault}
use Rattle.fault_extend.proofs.Telling.{uses_told}
use Rattle.fault_extend.proofs.weaving.judge.Goals as goal

pub returns-clause-uses : goal.returns-clause-uses
returns-clause-uses c = λ accepted flat.
    let p = program_tree c.args.p.now in
    let m = model_tree c.args.typed.now.model in
    subst (λ us. OnOk c.judge_guards.result (Each (KeepsUse p m) us))
    (all_uses p (instruction_tree c.args.i.now) (map seen_placed c.as_slice.result.now) m.instances (ap (map seen_placed) c.as_slice.ensures.value ∙ c.in_ok-slices.ensures.items) flat.instances)
    (c.judge_guards.ensures.kept accepted flat)

pub returns-clause-told : goal.returns-clause-told
returns-clause-told c =
    let p = program_tree c.args.p.now in
    let m = model_tree c.args.typed.now.model in
    uses_told p m (instruction_tree c.args.i.now) (modules_in c.args.typed.now.model.instances) c.judge_guards.result (record { items = c.in_ok-slices.ensures.kept; counts = c.in_ok-count.ensures.kept }) c.judge_guards.ensures.want
    (λ accepted flat.
    subst (λ us. IfErr c.judge_guards.result (IsFirstFault p m us))
    (all_uses p (instruction_tree c.args.i.now) (map seen_placed c.as_slice.result.now) m.instances (ap (map seen_placed) c.as_slice.ensures.value ∙ c.in_ok-slices.ensures.items) flat.instances)
    (c.judge_guards.ensures.told accepted flat))
