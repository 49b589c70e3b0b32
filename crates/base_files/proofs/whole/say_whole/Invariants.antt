use Rattle.std.proofs.Common.{◌≡◌, ◌≤◌, length}
use Rattle.base_files.proofs.Saying.{IsSaid}
use Rattle.base_files.specs.Desk.{OnlySays}
use Rattle.base_files.proofs.whole.say_whole.Given as goal

abbrev pub invariant-loop-rest : goal.invariant-loop-rest
invariant-loop-rest g l = record {
  said : IsSaid (g.D.Desk.told l.fn.desk).said (g.D.Desk.told l.desk).said l.bytes l.rest;
  stays : OnlySays (g.D.Desk.told l.fn.desk) (g.D.Desk.told l.desk);
}

abbrev pub decreases-loop-rest : goal.decreases-loop-rest
decreases-loop-rest g l = length l.rest
