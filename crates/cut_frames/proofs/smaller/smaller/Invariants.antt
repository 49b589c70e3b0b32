-- The clause so far is a part of the one at the start, and may stand as that may.
use Rattle.std.proofs.Common.{◌≡◌}
use Rattle.cut_frames.specs.GuardedSearch.{HasAsked}
use Rattle.cut_frames.specs.Levels.{frames_of}
use Rattle.cut_frames.specs.Parts.{IsPart, MayStand, HoldsFrames}
use Rattle.cut_frames.proofs.smaller.smaller.Given as goal

abbrev pub invariant-turns : goal.invariant-turns
invariant-turns g l = record {
  same : l.outline.agreed.items ≡ l.initial.outline.agreed.items;
  part : IsPart l.attempt.clause l.fn.clause;
  stands : MayStand l.at.system.now (frames_of l.at.frames.now) l.at.level l.attempt.clause;
  holds : HoldsFrames l.at.system.now (frames_of l.at.frames.now) l.kept;
  asked : HasAsked l.initial.kept l.kept;
}
