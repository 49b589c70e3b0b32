use Rattle.std.proofs.Common.{◌≤◌, subst, sym}
use Rattle.fault_instructions.specs.Instructions.{instruction_tree}
use Rattle.fault_odds.specs.Units.{one_in_units}
use Rattle.fault_odds.proofs.UnitLemmas.{units_at_most_one}
use Rattle.fault_odds.proofs.mode_marks.units_of_fault.Goals as goal

pub returns-clause-small : goal.returns-clause-small
returns-clause-small c =
    subst (λ n. n ≤ one_in_units) (sym c.units_or_zero.ensures) (units_at_most_one (instruction_tree c.args.i.now) c.args.slice.now c.args.mode.now)
