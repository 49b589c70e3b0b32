use Rattle.std.proofs.Common.{◌≡◌, ◌≤◌, ◌-◌, length}
use Rattle.base_files.proofs.Reading.{IsPrefixOf}
use Rattle.base_files.specs.Desk.{OnlyReads}
use Rattle.base_files.proofs.whole.read_whole.Given as goal

abbrev pub invariant-loop-bytes : goal.invariant-loop-bytes
invariant-loop-bytes g l = record {
  stays : OnlyReads (g.D.Desk.told l.fn.desk) (g.D.Desk.told l.desk);
  prefix : IsPrefixOf (g.D.Desk.told l.fn.desk).files l.name l.bytes.items;
  short : length l.bytes.items ≤ l.limit;
  room : length l.buffer ≡ 4096;
}

abbrev pub decreases-loop-bytes : goal.decreases-loop-bytes
decreases-loop-bytes g l = l.limit - length l.bytes.items
