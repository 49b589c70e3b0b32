use Rattle.std.proofs.Common.{◌≡◌}
use Rattle.cut_frames.specs.Levels.{frames_of, IsTightened}
use Rattle.cut_frames.specs.OwnVariables.{IsKept}
use Rattle.cut_frames.proofs.raise.raise_all.Given as goal

abbrev pub invariant-loop : goal.invariant-loop
invariant-loop g l = record {
  tightened : IsTightened l.problem.system.now l.initial.frames l.frames;
  same : l.outline.agreed.items ≡ l.initial.outline.agreed.items;
  kept : IsKept l.problem.system.now l.problem.bad.now (frames_of l.frames) l.kept;
}
