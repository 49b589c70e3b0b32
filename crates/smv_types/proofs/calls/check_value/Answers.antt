use Rattle.std.proofs.Common.{false}
use Rattle.smv_language.specs.ModelTree.{model_tree, flat_tree}
use Rattle.smv_type_laws.specs.Models.{judged_in}
use Rattle.smv_types.proofs.CallLaws.{value_answered, value_kept, value_lies}
use Rattle.smv_types.proofs.calls.check_value.Goals as goal

pub returns-clause-kept : goal.returns-clause-kept
returns-clause-kept c =
    let j = judged_in (model_tree c.args.t.now.model) false (flat_tree c.args.e.now) in
    value_kept c.value_told.result j (value_answered c.value_told.result c.judge_in-judged.result j c.judge_in-judged.ensures c.value_told.ensures)

pub returns-clause-lies : goal.returns-clause-lies
returns-clause-lies c = value_lies c.value_told.result (model_tree c.args.t.now.model) (flat_tree c.args.e.now) c.args.t.now.typed (returns-clause-kept c)
