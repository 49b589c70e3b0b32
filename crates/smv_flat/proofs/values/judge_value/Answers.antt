-- A value is judged by its names.
use Rattle.std.proofs.Common.{rules}
use Rattle.smv_language.specs.ExpressionTree.{tree_of}
use Rattle.smv_scope.specs.SceneTree.{program_of}
use Rattle.smv_flat.proofs.JudgeValues.{value_judged}
use Rattle.smv_flat.proofs.values.judge_value.Goals as goal

pub returns : goal.returns
returns c = record {
  judged = value_judged (program_of c.args.scope.now.scene) c.args.spot (tree_of c.args.value.now) c.as_slice.result.now c.in_ok-uses.uses.names.items
      c.in_ok-uses.uses.has_next c.in_ok-uses.uses.nested_next c.judge_names.result c.as_slice.ensures.value c.in_ok-uses.ensures.names c.in_ok-uses.ensures.next c.in_ok-uses.ensures.nested
      c.judge_names.ensures;
}

pub returns-in_err-uses : goal.returns-in_err-uses
returns-in_err-uses c = record { judged = λ at at_spot. search rules }
