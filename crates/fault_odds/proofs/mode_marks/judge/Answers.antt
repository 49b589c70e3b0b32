use Rattle.fault_instructions.specs.Instructions.{instruction_tree}
use Rattle.fault_odds.proofs.MarkLemmas.{judged_all, judged_fault}
use Rattle.fault_odds.proofs.mode_marks.judge.Goals as goal

pub returns-clause-all : goal.returns-clause-all
returns-clause-all c =
    judged_all (instruction_tree c.args.i.now) c.judged.result c.first_wrong.result c.as_slice.result.now _ c.judged.ensures.all c.first_wrong.ensures c.as_slice.ensures c.in_ok-marks.ensures

pub returns-clause-fault : goal.returns-clause-fault
returns-clause-fault c =
    judged_fault (instruction_tree c.args.i.now) c.judged.result c.first_wrong.result c.as_slice.result.now _ c.judged.ensures.fault c.first_wrong.ensures c.as_slice.ensures c.in_ok-marks.ensures
