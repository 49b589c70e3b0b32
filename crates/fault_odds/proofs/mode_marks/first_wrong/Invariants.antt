-- what is left gives the first of all
use Rattle.std.proofs.Common.{◌≡◌, drop}
use Rattle.fault_odds.specs.FirstMark.{first_of}
use Rattle.fault_odds.proofs.mode_marks.first_wrong.Given as goal

abbrev pub invariant-loop-i : goal.invariant-loop-i
invariant-loop-i l = first_of l.i (drop l.i l.marks) ≡ first_of 0 l.marks
