-- What the fields of `Frames` stand for.
use Rattle.std.specs.Prelude.{◌≡◌, false, All}
use Rattle.cut_frames.specs.FramesRecord.{FramesValue}
use Rattle.cut_frames.specs.Condition.{IsFit, IsOverNow}
use Rattle.cut_frames.specs.Levels.{frames_of, IsLevelled}
use Rattle.cut_frames.specs.OwnVariables.{IsKept}
use Rattle.cut_frames.specs.Parts.{AreAgreed}
use Rattle.cut_frames.specs.LastingClauses.{AreLasting}
use Rattle.cut_frames.specs.KnownSteps.{IsSeen}
use Rattle.cut_frames.specs.declared.frames.Frames.TheInside.{Inside}

-- what contracts see of its parts
abbrev pub value_of : Inside → FramesValue
value_of f = record { system = f.system; frames = frames_of f.levels; bad = f.bad; spent = f.spent }

-- the frames are those of the system, what is known of its first states is so, and unless memory was wanted the steps that were seen are
-- those of the system, the clauses that last are an invariant of it, and the search holds the frames and bad states that may be asked about
pub record AreSound (f : Inside) : Type 0 where
  pub fit : IsFit f.system
  pub levelled : IsLevelled f.system f.levels
  pub agreed : AreAgreed f.system f.outline.agreed.items
  pub bad : f.spent ≡ false → All (All (IsOverNow f.system)) f.bad
  pub seen : f.spent ≡ false → All (IsSeen f.system) f.seen.items
  pub lasting : f.spent ≡ false → AreLasting f.system (frames_of f.levels) f.lasting
  pub kept : f.spent ≡ false → IsKept f.system f.bad (frames_of f.levels) f.kept
