use Rattle.std.proofs.Common.{◌≤◌, [], map, sym, ◌∙◌, arith}
use Rattle.verb_command_line.specs.CommandView.{texts, viewed}
use Rattle.verb_command_line.proofs.LoopLemmas.{searched_none}
use Rattle.verb_command_line.proofs.StepLemmas.{fewer_left, front_read, step_on, step_out, step_last, step_end, step_few}
use Rattle.verb_command_line.proofs.faults.pair_fault.Goals as goal

pub loop-rest-init : goal.loop-rest-init
loop-rest-init c = searched_none (map viewed c.args.options.now) (texts c.args.words.now)

pub slice_bounds-fault_here-end : goal.slice_bounds-fault_here-end
slice_bounds-fault_here-end c = front_read c.args.words.now c.loop-rest.at (texts c.loop-rest.rest.now) c.loop-rest.invariant.read

pub overflow_cast-at : goal.overflow_cast-at
overflow_cast-at c =
    let few : c.loop-rest.at ≤ 16 = step_few viewed c.args.options.now c.args.words.now c.loop-rest.at (texts c.loop-rest.rest.now) c.loop-rest.invariant c.requires in omega (arith, few)

pub overflow_add-at : goal.overflow_add-at
overflow_add-at c =
    let few : c.loop-rest.at ≤ 16 = step_few viewed c.args.options.now c.args.words.now c.loop-rest.at (texts c.loop-rest.rest.now) c.loop-rest.invariant c.requires in omega (arith, few)

pub fault_here-fault-requires : goal.fault_here-fault-requires
fault_here-fault-requires c =
    let few : c.loop-rest.at ≤ 16 = step_few viewed c.args.options.now c.args.words.now c.loop-rest.at (texts c.loop-rest.rest.now) c.loop-rest.invariant c.requires in omega (arith, few)

pub returns-then-is_some : goal.returns-then-is_some
returns-then-is_some c =
    step_out (map viewed c.args.options.now) c.args.words.now c.loop-rest.at c.loop-rest.rest.now (record { ref_ptr = (0, 0); now = [] }) c.fault_here-fault.result c.loop-rest.invariant
    c.in-len2-up.len_at_least c.fault_here-fault.ensures (sym c.is_some.ensures ∙ c.if-is_some.true)

pub overflow_add-at-in-len2-up : goal.overflow_add-at-in-len2-up
overflow_add-at-in-len2-up c =
    let few : c.loop-rest.at ≤ 16 = step_few viewed c.args.options.now c.args.words.now c.loop-rest.at (texts c.loop-rest.rest.now) c.loop-rest.invariant c.requires in omega (arith, few)

pub loop-rest-smaller : goal.loop-rest-smaller
loop-rest-smaller c = fewer_left c.loop-rest.rest.now c.in-len2-up.len_at_least

pub loop-rest-preserved : goal.loop-rest-preserved
loop-rest-preserved c =
    step_on (map viewed c.args.options.now) c.args.words.now c.loop-rest.at c.loop-rest.rest.now (record { ref_ptr = (0, 0); now = [] }) c.fault_here-fault.result c.loop-rest.invariant
    c.in-len2-up.len_at_least c.fault_here-fault.ensures (sym c.is_some.ensures ∙ c.if-is_some.false)

pub slice_bounds-fault_here-end-in-len1-up : goal.slice_bounds-fault_here-end-in-len1-up
slice_bounds-fault_here-end-in-len1-up c = front_read c.args.words.now c.loop-rest.at (texts c.loop-rest.rest.now) c.loop-rest.invariant.read

pub overflow_cast-at-in-len1-up : goal.overflow_cast-at-in-len1-up
overflow_cast-at-in-len1-up c =
    let few : c.loop-rest.at ≤ 16 = step_few viewed c.args.options.now c.args.words.now c.loop-rest.at (texts c.loop-rest.rest.now) c.loop-rest.invariant c.requires in omega (arith, few)

pub overflow_add-at-in-len1-up : goal.overflow_add-at-in-len1-up
overflow_add-at-in-len1-up c =
    let few : c.loop-rest.at ≤ 16 = step_few viewed c.args.options.now c.args.words.now c.loop-rest.at (texts c.loop-rest.rest.now) c.loop-rest.invariant c.requires in omega (arith, few)

pub fault_here-requires : goal.fault_here-requires
fault_here-requires c =
    let few : c.loop-rest.at ≤ 16 = step_few viewed c.args.options.now c.args.words.now c.loop-rest.at (texts c.loop-rest.rest.now) c.loop-rest.invariant c.requires in omega (arith, few)

pub returns-in-empty : goal.returns-in-empty
returns-in-empty c = step_end (map viewed c.args.options.now) c.args.words.now c.loop-rest.at c.loop-rest.rest.now c.loop-rest.invariant c.in-empty.len_below

pub returns-in-len1-up : goal.returns-in-len1-up
returns-in-len1-up c =
    step_last (map viewed c.args.options.now) c.args.words.now c.loop-rest.at c.loop-rest.rest.now (record { ref_ptr = (0, 0); now = [] }) c.fault_here.result c.loop-rest.invariant
    c.in-len1-up.len_at_least c.in_default.len_below c.fault_here.ensures
