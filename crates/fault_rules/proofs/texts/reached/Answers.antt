use Rattle.std.proofs.Common.{arith, ◌<◌, ◌∙◌, ap, get_or, take, length}
use Rattle.std.proofs.lemmas.List.{take_more}
use Rattle.fault_rules.specs.Steps.{walk}
use Rattle.fault_rules.proofs.StepLaws.{reach_more, begins_more}
use Rattle.fault_rules.proofs.texts.reached.Goals as goal

pub loop-byte-preserved : goal.loop-byte-preserved
loop-byte-preserved c =
    let below : c.loop-byte.byte-index < length c.args.text.now = omega arith in
    let done = take c.loop-byte.byte-index c.args.text.now in
    let old = c.loop-byte.steps.keys in
    let new = c.stepped.new.steps.keys in
    let b = get_or c.args.text.now c.loop-byte.byte-index 0 in
    record {
      steps_are = c.in_ok-at.ensures.steps;
      begins = begins_more c.args.steps.now.keys old new c.loop-byte.invariant.begins c.in_ok-at.ensures.kept;
      leads = ap (walk new c.args.from) (take_more c.args.text.now c.loop-byte.byte-index 0 below)
          ∙ reach_more old new c.args.from c.loop-byte.at b c.in_ok-at.at done c.loop-byte.invariant.leads c.in_ok-at.ensures.kept c.in_ok-at.ensures.reaches.leads;
      within = c.in_ok-at.ensures.reaches.within;
    }
