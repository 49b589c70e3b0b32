-- Parts of clauses, and what makes a clause one that may be put into the frames up to a number.
use Rattle.std.specs.Prelude.{◌≡◌, ℕ, suc, Bool, List, Option, Some, None, slice_index_or, false}
use Rattle.sat_clauses.specs.Literal.{Literal}
use Rattle.sat_clauses.specs.Hints.{HasNoOpposites}
use Rattle.sat_clauses.specs.declared.system.System.{System}
pub use Rattle.cut_frames.specs.Chain.{IsPart}
use Rattle.cut_frames.specs.Chain.{State, IsFirstState, IsStepOf, Makes, IsOverBits}
use Rattle.cut_frames.specs.FrameLists.{InNumber}
use Rattle.cut_frames.specs.OwnVariables.{IsKept}
use Rattle.cut_frames.specs.declared.guarded.Guarded.{Guarded}
use Rattle.cut_frames.specs.declared.smaller.Cores.{Cores}

module _ (system : System) where
  -- each first state makes the clause true
  abbrev pub IsOfFirst : List Literal → Type 0
  IsOfFirst c = (t : State) → IsFirstState system t → Makes system t c

  -- each step from the frame before that of a number makes the clause true
  abbrev pub IsAfter : List (List (List Literal)) → ℕ → List Literal → Type 0
  IsAfter frames level c = (m : ℕ) (r t : State) → level ≡ suc m → InNumber system frames m r → IsStepOf system r t → Makes system t c

  -- every first state gives the bit of the number this value
  abbrev pub IsAgreed : ℕ → Bool → Type 0
  IsAgreed x b = (t : State) → IsFirstState system t → slice_index_or t x false ≡ b

  -- every first state gives each bit the value that is told for it, if one is
  abbrev pub AreAgreed : List (Option Bool) → Type 0
  AreAgreed values = (x : ℕ) (b : Bool) → slice_index_or values x None ≡ Some b → IsAgreed x b

  -- a clause over state bits without a literal and its opposite
  pub record IsStateClause (c : List Literal) : Type 0 where
    pub over_bits : IsOverBits system c
    pub apart : HasNoOpposites c

  -- parts of a clause: one that each first state makes true, and one that each step from the frame before that of a number does
  pub record AreCores (frames : List (List (List Literal))) (level : ℕ) (c : List Literal) (cores : Cores) : Type 0 where
    pub first : IsPart cores.first c × IsOfFirst cores.first
    pub after : IsPart cores.after c × IsAfter frames level cores.after

  -- a part of a clause that each first state makes true, and that has all literals of another part
  pub record IsEnough (c rest d : List Literal) : Type 0 where
    pub part : IsPart d c
    pub first : IsOfFirst d
    pub after : IsPart rest d

  -- a clause that may be put into the frames up to a number
  pub record MayStand (frames : List (List (List Literal))) (level : ℕ) (c : List Literal) : Type 0 where
    pub over_bits : IsOverBits system c
    pub apart : HasNoOpposites c
    pub first : IsOfFirst c
    pub after : IsAfter frames level c

  -- the search holds the system's lists and these frames, and some list of bad states
  pub record HoldsFrames (frames : List (List (List Literal))) (g : Guarded) : Type 0 where
    pub bad : List (List Literal)
    pub kept : IsKept system bad frames g

  -- the search holds the system's lists, and some frames and bad states
  pub record IsAskable (g : Guarded) : Type 0 where
    pub frames : List (List (List Literal))
    pub holds : HoldsFrames frames g
