-- `Frames` as contracts see it: frames by number; that of number 0 is `first`, and its list has the clauses of all others.
use Rattle.std.specs.Prelude.{◌≡◌, ℕ, ◌-◌, Bool, true, List, length, Result, IsErr, OnErr}
use Rattle.sat_clauses.specs.Literal.{Literal}
use Rattle.sat_clauses.specs.declared.system.System.{System}

-- the system, the frames, the list of bad states that is asked about, and whether memory was wanted once
pub record FramesValue : Type 0 where
  pub system : System
  pub frames : List (List (List Literal))
  pub bad : List (List Literal)
  pub spent : Bool

-- the number of the last frame
abbrev pub frontier : FramesValue → ℕ
frontier f = length f.frames - 1

-- what a call makes of frames that want of memory spends: where they were spent it answers an error, and where it answers one they are
pub record StaysSpent {T E : Type 0} (old new : Bool) (result : Result T E) : Type 0 where
  pub answers : old ≡ true → IsErr result
  pub spends : OnErr result (new ≡ true)
