use Rattle.fault_causes_reader.specs.FaultPaths.{paths_of}
use Rattle.fault_causes_reader.specs.CausesFile.{IsNumberOf}
use Rattle.fault_causes_reader.proofs.RuleSteps.{both_more}
use Rattle.fault_causes_reader.proofs.rules.strikes_of.Goals as goal

pub loop-name-preserved : goal.loop-name-preserved
loop-name-preserved c =
    both_more (IsNumberOf (paths_of c.args.faults.now)) c.args.names.now c.loop-name.strikes c.push.new.self c.loop-name.name-index c.name-item.result c.in_ok-fault_named.field-0
    c.loop-name-test.true c.name-item.is c.in_ok-push.ensures.ok c.in_ok-fault_named.ensures.number c.loop-name.invariant
