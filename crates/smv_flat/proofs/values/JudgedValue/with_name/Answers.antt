-- A name is judged by what it means.
use Rattle.smv_flat.proofs.JudgeValues.{judge_told}
use Rattle.smv_flat.proofs.values.JudgedValue.with_name.Goals as goal

pub returns : goal.returns
returns c =
    judge_told c.args.scope.now.scene c.requires.scope.1.scene c.args.scope.now.needs c.requires.scope.1.needs c.args.spot c.args.each.now c.name.result.now c.name.ensures
    c.meaning-meaning.result c.meaning-meaning.ensures.found c.is_no_value.result c.is_input.result c.is_next.result c.is_no_value.ensures c.is_input.ensures
    c.is_next.ensures c.args.self c.with_flags.result c.with_flags.ensures
