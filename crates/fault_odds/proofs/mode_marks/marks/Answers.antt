use Rattle.fault_instructions.specs.Instructions.{instruction_tree}
use Rattle.fault_odds.proofs.UnitLemmas.{odds_of_woven}
use Rattle.fault_odds.proofs.mode_marks.marks.Goals as goal

pub returns-clause-odds : goal.returns-clause-odds
returns-clause-odds c =
    odds_of_woven c.requires.woven.0 (instruction_tree c.args.i.now) c.args.faults.now c.in_ok-odds.odds c.requires.woven.1 c.in_ok-judge.ensures.all c.in_ok-odds.ensures
