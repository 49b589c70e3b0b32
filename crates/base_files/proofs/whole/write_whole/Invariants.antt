use Rattle.std.proofs.Common.{◌≡◌, ◌≤◌, length}
use Rattle.base_files.proofs.Writing.{IsWritten}
use Rattle.base_files.specs.Desk.{OnlyWrites}
use Rattle.base_files.proofs.whole.write_whole.Given as goal

abbrev pub invariant-loop-rest : goal.invariant-loop-rest
invariant-loop-rest g l = record {
  written : IsWritten (g.D.Desk.told l.fn.desk).files (g.D.Desk.told l.desk).files l.name l.bytes l.rest;
  stays : OnlyWrites (g.D.Desk.told l.fn.desk) (g.D.Desk.told l.desk);
}

abbrev pub decreases-loop-rest : goal.decreases-loop-rest
decreases-loop-rest g l = length l.rest
