-- between two frontiers, no further than the depth
use Rattle.std.proofs.Common.{◌≡◌, ◌≤◌, ◌-◌}
use Rattle.cut_frames.specs.FramesRecord.{frontier}
use Rattle.cut_search.specs.Progress.{IsBetween}
use Rattle.cut_search.proofs.search.search.Given as goal

abbrev pub invariant-frontiers : goal.invariant-frontiers
invariant-frontiers g l = record {
  system : l.frames.system ≡ (g.E.Encoded.problem l.model).system;
  between : IsBetween (g.E.Encoded.problem l.model) l.bounds.size l.list.items l.frames;
  within : frontier l.frames ≤ l.bounds.depth;
}

abbrev pub decreases-frontiers : goal.decreases-frontiers
decreases-frontiers g l = l.bounds.depth - frontier l.frames
