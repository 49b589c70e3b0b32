use Rattle.std.proofs.Common.{◌+◌, ◌∙◌, ap, sym, min}
use Rattle.base_values.specs.declared.limits.TheConstants.{MOST_COST}
use Rattle.smv_language.specs.Language.{model_tree, flat_tree, leaf_of, tree_of}
use Rattle.smv_type_laws.proofs.Mapped.{cost_mapped}
use Rattle.smv_types.proofs.CallLaws.{top_answered, top_kept, top_lies}
use Rattle.smv_types.proofs.calls.check_top.Goals as goal

pub returns-clause-answer : goal.returns-clause-answer
returns-clause-answer c =
    top_answered c.top_told.result (model_tree c.args.t.now.model) (flat_tree c.args.e.now) c.judge_in-judged.result c.broken_condition.result c.cost.result c.judge_in-judged.ensures c.broken_condition.ensures
    (c.cost.ensures ∙ ap (λ n. min n (MOST_COST + 1)) (sym (cost_mapped leaf_of (tree_of c.args.e.now)))) c.top_told.ensures

pub returns-clause-kept : goal.returns-clause-kept
returns-clause-kept c = top_kept c.top_told.result (model_tree c.args.t.now.model) (flat_tree c.args.e.now) (returns-clause-answer c)

pub returns-clause-lies : goal.returns-clause-lies
returns-clause-lies c = top_lies c.top_told.result (model_tree c.args.t.now.model) (flat_tree c.args.e.now) c.args.t.now.typed (returns-clause-kept c)
