use Rattle.std.proofs.Common.{◌≡◌}
use Rattle.cut_frames.specs.Levels.{frames_of, IsTightened}
use Rattle.cut_frames.specs.OwnVariables.{IsKept}
use Rattle.cut_frames.specs.Path.{AreOwed}
use Rattle.cut_frames.specs.StatesLeft.{work_left}
use Rattle.cut_frames.proofs.clear.clear_frames.Given as goal

abbrev pub invariant-looks : goal.invariant-looks
invariant-looks g l = record {
  tightened : IsTightened l.problem.system.now l.initial.frames l.frames;
  owed : AreOwed l.problem.system.now l.problem.bad.now (frames_of l.frames) l.owed;
  same : l.outline.agreed.items ≡ l.initial.outline.agreed.items;
  kept : IsKept l.problem.system.now l.problem.bad.now (frames_of l.frames) l.kept;
}

abbrev pub decreases-looks : goal.decreases-looks
decreases-looks g l = work_left l.problem.system.now.state_bits (frames_of l.frames) l.owed
