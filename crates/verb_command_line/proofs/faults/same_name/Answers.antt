use Rattle.std.proofs.Common.{[], map, arith}
use Rattle.verb_command_line.specs.CommandView.{texts, viewed}
use Rattle.verb_command_line.proofs.LoopLemmas.{compared_none}
use Rattle.verb_command_line.proofs.StepLemmas.{fewer_left, front_read, at_within, name_on, name_out, name_end}
use Rattle.verb_command_line.proofs.faults.same_name.Goals as goal

pub loop-rest-init : goal.loop-rest-init
loop-rest-init c = compared_none (map viewed c.args.options.now) (texts c.args.words.now)

pub slice_bounds-repeats_file-end : goal.slice_bounds-repeats_file-end
slice_bounds-repeats_file-end c = front_read c.args.words.now c.loop-rest.at (texts c.loop-rest.rest.now) c.loop-rest.invariant.read

pub overflow_cast-result : goal.overflow_cast-result
overflow_cast-result c = let few = at_within c.args.words.now c.loop-rest.at (texts c.loop-rest.rest.now) c.loop-rest.invariant.read in omega (arith, few, c.requires)

pub overflow_add-result : goal.overflow_add-result
overflow_add-result c = let few = at_within c.args.words.now c.loop-rest.at (texts c.loop-rest.rest.now) c.loop-rest.invariant.read in omega (arith, few, c.requires)

pub returns-then-repeats_file : goal.returns-then-repeats_file
returns-then-repeats_file c =
    name_out (map viewed c.args.options.now) c.args.words.now c.loop-rest.at c.loop-rest.rest.now (record { ref_ptr = (0, 0); now = [] }) c.repeats_file.result c.loop-rest.invariant
    c.in-len2-up.len_at_least c.repeats_file.ensures c.if-repeats_file.true

pub overflow_add-at : goal.overflow_add-at
overflow_add-at c = let few = at_within c.args.words.now c.loop-rest.at (texts c.loop-rest.rest.now) c.loop-rest.invariant.read in omega (arith, few, c.requires)

pub loop-rest-smaller : goal.loop-rest-smaller
loop-rest-smaller c = fewer_left c.loop-rest.rest.now c.in-len2-up.len_at_least

pub loop-rest-preserved : goal.loop-rest-preserved
loop-rest-preserved c =
    name_on (map viewed c.args.options.now) c.args.words.now c.loop-rest.at c.loop-rest.rest.now (record { ref_ptr = (0, 0); now = [] }) c.repeats_file.result c.loop-rest.invariant
    c.in-len2-up.len_at_least c.repeats_file.ensures c.if-repeats_file.false

pub returns : goal.returns
returns c = name_end (map viewed c.args.options.now) c.args.words.now c.loop-rest.at c.loop-rest.rest.now c.loop-rest.invariant c.in_default.len_below
