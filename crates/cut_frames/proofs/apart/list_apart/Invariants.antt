use Rattle.std.proofs.Common.{◌≡◌, take}
use Rattle.cut_frames.specs.OwnVariables.{apart_list}
use Rattle.cut_frames.proofs.apart.list_apart.Given as goal

abbrev pub invariant-loop-clause : goal.invariant-loop-clause
invariant-loop-clause l = l.apart ≡ apart_list l.places (take l.clause-index l.list)
