use Rattle.std.proofs.Common.{arith}
use Rattle.smv_types.specs.Names.{name_kind}
use Rattle.smv_types.proofs.PartLaws.{condition_step}
use Rattle.smv_types.proofs.conditions.judge_formulas.Goals as goal

pub loop-formula-preserved : goal.loop-formula-preserved
loop-formula-preserved c =
    condition_step (name_kind c.args.sorts.now) c.args.formulas.now c.loop-formula.formula-index c.formula-item.result c.loop-formula.first c.site_of.result c.earlier-first.result c.judge-judged.result
    c.broken_condition-broken.result (omega arith) c.formula-item.is c.loop-formula.invariant c.judge-judged.ensures c.broken_condition-broken.ensures c.site_of.ensures c.earlier-first.ensures
