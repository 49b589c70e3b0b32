use Rattle.std.proofs.Common.{[], arith}
use Rattle.verb_command_line.specs.CommandView.{texts}
use Rattle.verb_command_line.proofs.StepLemmas.{fewer_left, at_within}
use Rattle.verb_command_line.proofs.OutsideLoop.{passed_none, outside_on, outside_out, outside_end}
use Rattle.verb_command_line.proofs.pair.first_outside.Goals as goal

pub loop-rest-init : goal.loop-rest-init
loop-rest-init c = passed_none c.args.set.now c.args.first.now (texts c.args.words.now)

pub overflow_cast-result : goal.overflow_cast-result
overflow_cast-result c = let few = at_within c.args.words.now c.loop-rest.at (texts c.loop-rest.rest.now) c.loop-rest.invariant.read in omega (arith, few, c.requires)

pub overflow_add-result : goal.overflow_add-result
overflow_add-result c = let few = at_within c.args.words.now c.loop-rest.at (texts c.loop-rest.rest.now) c.loop-rest.invariant.read in omega (arith, few, c.requires)

pub returns-then-is_outside : goal.returns-then-is_outside
returns-then-is_outside c =
    outside_out c.args.set.now c.args.first.now c.args.words.now c.loop-rest.at c.loop-rest.rest.now (record { ref_ptr = (0, 0); now = [] }) c.is_outside.result c.loop-rest.invariant
    c.in-len2-up.len_at_least c.is_outside.ensures c.if-is_outside.true

pub overflow_add-at : goal.overflow_add-at
overflow_add-at c = let few = at_within c.args.words.now c.loop-rest.at (texts c.loop-rest.rest.now) c.loop-rest.invariant.read in omega (arith, few, c.requires)

pub loop-rest-smaller : goal.loop-rest-smaller
loop-rest-smaller c = fewer_left c.loop-rest.rest.now c.in-len2-up.len_at_least

pub loop-rest-preserved : goal.loop-rest-preserved
loop-rest-preserved c =
    outside_on c.args.set.now c.args.first.now c.args.words.now c.loop-rest.at c.loop-rest.rest.now (record { ref_ptr = (0, 0); now = [] }) c.is_outside.result c.loop-rest.invariant
    c.in-len2-up.len_at_least c.is_outside.ensures c.if-is_outside.false

pub returns : goal.returns
returns c = outside_end c.args.set.now c.args.first.now c.args.words.now c.loop-rest.at c.loop-rest.rest.now c.loop-rest.invariant c.in_default.len_below
