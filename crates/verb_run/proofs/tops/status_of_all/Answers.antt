use Rattle.std.proofs.Common.{arith, sym, ◌∙◌}
use Rattle.verb_run.proofs.Columns.{ends_bounded, ends_on, ends_after}
use Rattle.verb_run.proofs.tops.status_of_all.Goals as goal

pub returns-in-Bounded : goal.returns-in-Bounded
returns-in-Bounded c = ends_bounded c.args.columns.now c.loop-column.column-index c.column-item.result c.in-Bounded.k c.loop-column-test.true c.column-item.is c.in-Bounded.is _ c.loop-column.invariant

pub loop-column-preserved : goal.loop-column-preserved
loop-column-preserved c = ends_on c.args.columns.now c.loop-column.column-index c.column-item.result c.loop-column-test.true c.column-item.is c.in_default.is _ c.loop-column.invariant

pub returns : goal.returns
returns c = sym (ends_after c.args.columns.now c.loop-column.column-index (omega (arith, c.loop-column-test.false))) ∙ c.loop-column.invariant
