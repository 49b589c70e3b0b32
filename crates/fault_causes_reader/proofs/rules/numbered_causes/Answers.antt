use Rattle.fault_staging.specs.CauseOf.{cause_of}
use Rattle.fault_causes_reader.specs.FaultPaths.{paths_of}
use Rattle.fault_causes_reader.specs.StageView.{written_tree}
use Rattle.fault_causes_reader.specs.CausesFile.{IsReadIn}
use Rattle.fault_causes_reader.proofs.RuleSteps.{both_more_mapped}
use Rattle.fault_causes_reader.proofs.rules.numbered_causes.Goals as goal

pub loop-cause-preserved : goal.loop-cause-preserved
loop-cause-preserved c =
    both_more_mapped (IsReadIn (paths_of c.args.faults.now)) written_tree cause_of c.args.written.now c.loop-cause.causes c.push.new.self c.loop-cause.cause-index c.cause-item.result
    c.in_ok-numbered_cause.field-0 c.loop-cause-test.true c.cause-item.is c.in_ok-push.ensures.ok c.in_ok-numbered_cause.ensures c.loop-cause.invariant
