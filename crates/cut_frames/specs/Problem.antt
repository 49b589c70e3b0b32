-- Problems that frames can be asked about, and frames by number that steps can be asked from.
use Rattle.std.specs.Prelude.{◌<◌, ◌≤◌, [], All}
use Rattle.sat_clauses.specs.Assignment.{Assignment}
use Rattle.sat_clauses.specs.Literal.{Literal}
use Rattle.cut_frames.specs.Chain.{IsOverBits}
use Rattle.cut_frames.specs.Condition.{IsFit, IsOverNow}
use Rattle.cut_frames.specs.Levels.{frames_of, IsLevelled}
use Rattle.cut_frames.specs.Minimal.{IsPlain, IsWithin, IsNeeded}
use Rattle.cut_frames.specs.OwnVariables.{IsFound}
use Rattle.cut_frames.specs.declared.guarded.Beside.TheVariants.{Bad}
use Rattle.cut_frames.specs.declared.levels.Levels.{Levels}
use Rattle.cut_frames.specs.declared.problem.FrameAt.{FrameAt}
use Rattle.cut_frames.specs.declared.problem.Problem.{Problem}
use Rattle.sat_clauses.specs.Models.{values_of}

-- frames are made of the system, its bad states are over the state now, and the history literals are bits of it, not turned round
pub record IsWellPosed (p : Problem) : Type 0 where
  pub fit : IsFit p.system.now
  pub bad : All (All (IsOverNow p.system.now)) p.bad.now
  pub history : IsOverBits p.system.now p.history.now
  pub positive : All IsPlain p.history.now

-- one of the frames from number 1 on
pub record IsFrameAt (at : FrameAt) : Type 0 where
  pub fit : IsFit at.system.now
  pub framed : IsLevelled at.system.now at.frames.now
  pub some : 0 < at.level
  pub level : at.level ≤ at.frames.now.last

-- the values are those of a bad state of the last frame
abbrev pub IsBadFound : Problem → Levels → Assignment → Type 0
IsBadFound p l values = IsFound p.system.now p.bad.now (frames_of l) Bad l.last [] values

-- each history literal is one that the values make true only where they have to
abbrev pub AreNeeded : Problem → Levels → Assignment → Type 0
AreNeeded p l values = All (IsNeeded p.system.now p.bad.now (frames_of l) p.history.now l.last (values_of values)) p.history.now

-- The values are those of a bad state of the last frame that makes no more history literals true than other ones, and this literal only
-- where it has to.
pub record IsLess (p : Problem) (l : Levels) (lit : Literal) (old now : Assignment) : Type 0 where
  pub values : IsBadFound p l now
  pub within : IsWithin p.history.now (values_of now) (values_of old)
  pub needed : IsNeeded p.system.now p.bad.now (frames_of l) p.history.now l.last (values_of now) lit
