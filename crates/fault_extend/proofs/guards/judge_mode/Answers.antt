use Rattle.std.proofs.Common.{◌∙◌, sym}
use Rattle.std.specs.Option.{option_map}
use Rattle.smv_language.specs.Language.{declared_tree, flat_tree}
use Rattle.fault_instructions.specs.Instructions.{mode_tree}
use Rattle.fault_extend.specs.GuardJudgement.{program_in, model_in, use_at}
use Rattle.fault_extend.proofs.KindAnswers.{mode_told, mode_kept}
use Rattle.fault_extend.proofs.guards.judge_mode.Goals as goal

pub returns-in-Some-clause-told : goal.returns-in-Some-clause-told
returns-in-Some-clause-told c = λ at n is.
    let u = use_at at.place (declared_tree c.args.declared.now) (mode_tree c.args.mode.now) n in
    mode_told (program_in c.args.nominal) (model_in c.args.nominal) u (option_map flat_tree c.in_ok-resolved.resolved.follows) (option_map flat_tree c.in_ok-resolved.resolved.guard) c.in-Some.rule c.kind_fault.result
    (c.in_ok-resolved.ensures.kept at (declared_tree c.args.declared.now) n is) (c.in_ok-resolved.ensures.follows at is) (c.in_ok-resolved.ensures.guard at is) (sym c.first_of_kinds.ensures ∙ c.in-Some.is)
    c.kind_fault.ensures

pub returns-clause-kept : goal.returns-clause-kept
returns-clause-kept c = λ at n is.
    let u = use_at at.place (declared_tree c.args.declared.now) (mode_tree c.args.mode.now) n in
    mode_kept (program_in c.args.nominal) (model_in c.args.nominal) u (option_map flat_tree c.in_ok-resolved.resolved.follows) (option_map flat_tree c.in_ok-resolved.resolved.guard)
    (c.in_ok-resolved.ensures.kept at (declared_tree c.args.declared.now) n is) (c.in_ok-resolved.ensures.follows at is) (c.in_ok-resolved.ensures.guard at is) (sym c.first_of_kinds.ensures ∙ c.in-None.is)
