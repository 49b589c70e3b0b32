-- What `advance` starts from, and what its answer says.
use Rattle.std.specs.Prelude.{◌≡◌, ◌<◌, ◌+◌, ◌-◌, ℕ, List, All, drop, length}
use Rattle.sat_clauses.specs.Literal.{Literal}
use Rattle.sat_clauses.specs.declared.system.System.{System}
use Rattle.cut_frames.specs.Chain.{State, InFrame}
use Rattle.cut_frames.specs.FrameLists.{frame_at, AreStronger, ArePushed, IsInductive, HasEqualNeighbours}
use Rattle.cut_frames.specs.FrontierGrowth.{IsOpenChain}
use Rattle.cut_frames.specs.KnownSteps.{IsSeen}
use Rattle.cut_frames.specs.LastingClauses.{AreLasting}
use Rattle.cut_frames.specs.Levels.{frames_of, IsLevelled}
use Rattle.cut_frames.specs.OwnVariables.{IsKept}
use Rattle.cut_frames.specs.Problem.{IsWellPosed}
use Rattle.cut_frames.specs.declared.advance.Advanced.{Advanced}
use Rattle.cut_frames.specs.declared.advance.Advanced.TheVariants.{Further, Fixed}
use Rattle.cut_frames.specs.declared.guarded.Guarded.{Guarded}
use Rattle.cut_frames.specs.declared.lasting.Lasting.{Lasting}
use Rattle.cut_frames.specs.declared.levels.Levels.{Levels}
use Rattle.cut_frames.specs.declared.problem.Problem.{Problem}
use Rattle.cut_frames.specs.declared.shown.Seen.{Seen}

-- a frame from number 1 on, but not the last, from which clauses may go to the next
pub record IsPushable (p : Problem) (l : Levels) (i : ℕ) : Type 0 where
  pub problem : IsWellPosed p
  pub framed : IsLevelled p.system.now l
  pub some : 0 < i
  pub next : i < l.last

-- there is a frame more and all is pushed; the clauses that last, the steps that were seen and the search are those of the frames now
pub record IsAhead (p : Problem) (old now : Levels) (clauses : Lasting) (steps : List Seen) (g : Guarded) : Type 0 where
  pub lasting : AreLasting p.system.now (frames_of now) clauses
  pub frontier : now.last ≡ old.last + 1
  pub pushed : ArePushed p.system.now (frames_of now)
  pub seen : All (IsSeen p.system.now) steps
  pub kept : IsKept p.system.now p.bad.now (frames_of now) g

module _ (system : System) where
  -- they are still the frames of the system, and each implies what it was
  pub record IsStrengthened (old now : Levels) : Type 0 where
    pub framed : IsLevelled system now
    pub stronger : AreStronger system (frames_of old) (frames_of now)

  -- two neighbouring frames are now equal: an invariant that implies the last frame that stood before
  pub record IsFixed (old now : List (List (List Literal))) (clauses : List (List Literal)) : Type 0 where
    pub equal_ones : HasEqualNeighbours system now
    pub inductive : IsInductive system clauses
    pub implies : (s : State) → InFrame system clauses s → InFrame system (frame_at old (length old - 1)) s

  -- no two neighbouring frames are equal: frames 1 on are a chain but for its last property
  pub record IsFurther (now : List (List (List Literal))) : Type 0 where
    pub no_equal_ones : HasEqualNeighbours system now → ⊥
    pub chain : IsOpenChain system (drop 1 now)

  -- either answer of `advance` says this of the frames before and now
  abbrev pub IsAdvanced : List (List (List Literal)) → List (List (List Literal)) → Advanced → Type 0
  IsAdvanced old now Further = IsFurther now
  IsAdvanced old now (Fixed clauses) = IsFixed old now clauses
