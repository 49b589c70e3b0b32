-- Which derivations make a certificate accepted, and what a search is asked for them.
use Rattle.std.specs.Prelude.{◌≡◌, ℕ, ◌+◌, nat_lt, true, List, [], ◌∷◌, ◌++◌, length, if◌then◌else◌, Some, All, Any, Contains, slice_get}
use Rattle.sat_clauses.specs.Literal.{Literal, opposite}
use Rattle.sat_clauses.specs.Assignment.{Assignment, value_of}
use Rattle.sat_clauses.specs.Models.{FollowsFrom}
use Rattle.sat_clauses.specs.Derivation.{IsUpTo}
use Rattle.sat_clauses.specs.Hints.{HasNoOpposites}
use Rattle.sat_clauses.specs.Steps.{AreSteps, with_steps}
use Rattle.sat_clauses.specs.declared.step.Step.{Step}
use Rattle.sat_clauses.specs.States.{IsInvariant, IsOverBits}
use Rattle.cert_laws.specs.Certificate.{Certificate, Part, steps_in}
use Rattle.cut_text_laws.specs.Lines.{Line}
use Rattle.cert_laws.specs.Acceptance.{Subject, Covers, givens, goals, vars_of, HasNumbers, IsSetAt, IsApart, KeepsAtTrace, IsAccepted}
use Rattle.cert_laws.specs.Acceptance.{Rule}

-- What a search is asked to derive a clause: the opposites of its literals are assumed, but of those above the highest
-- variable, which no given clause speaks of.
abbrev pub asked : ℕ → List Literal → List Literal
asked vars [] = []
asked vars (l ∷ ls) = if nat_lt vars l.var then asked vars ls else opposite l ∷ asked vars ls

-- an assignment makes the clauses and the assumptions true
pub record Solves (vars : ℕ) (clauses : List (List Literal)) (assumptions : List Literal) (a : Assignment) : Type 0 where
  pub places : length a ≡ vars + 1
  pub clauses_true : All (λ c. Any (λ l. value_of a l ≡ Some true) c) clauses
  pub assumptions_true : All (λ l. value_of a l ≡ Some true) assumptions

-- steps derive, from the clauses known, a clause of opposites of assumptions alone
pub record Refutes (vars : ℕ) (known : List (List Literal)) (assumptions : List Literal) (steps : List Step) : Type 0 where
  pub core : List Literal
  pub are_steps : AreSteps vars known steps
  pub negated : All (λ l. Contains assumptions (opposite l)) core
  pub listed : Contains (with_steps known steps) core

-- what is asked may be asked: it is in range, and no literal of it stands with its opposite
pub record MayBeAsked (vars : ℕ) (goal : List Literal) : Type 0 where
  pub in_range : All (IsUpTo vars) (asked vars goal)
  pub no_opposites : HasNoOpposites (asked vars goal)

-- the steps refute the question: they come after those before, and the goal is then covered
pub record IsContinued (vars : ℕ) (clauses : List (List Literal)) (done steps : List Step) (goal : List Literal) : Type 0 where
  pub are_steps : AreSteps vars clauses (done ++ steps)
  pub known : with_steps clauses (done ++ steps) ≡ with_steps (with_steps clauses done) steps
  pub covers : Covers (with_steps clauses (done ++ steps)) goal
  pub earlier : (c : List Literal) → Covers (with_steps clauses done) c → Covers (with_steps clauses (done ++ steps)) c

-- A derivation is made goal by goal: for one that follows from the given clauses a search over these and the steps so far
-- finds no assignment, and the steps with which it refutes go on.
abbrev pub DerivationsGoOn : Type 0
DerivationsGoOn =
    (vars : ℕ) (clauses : List (List Literal)) (done : List Step) (goal : List Literal) → AreSteps vars clauses done →
    HasNoOpposites goal → FollowsFrom clauses goal →
    MayBeAsked vars goal
    × ((a : Assignment) → Solves vars (with_steps clauses done) (asked vars goal) a → ⊥)
    × ((steps : List Step) → Refutes vars (with_steps clauses done) (asked vars goal) steps → IsContinued vars clauses done steps goal)

module _ (subject : Subject) (c : Certificate) where
  -- the part's steps each follow, over variables up to the highest of its givens, and cover what it is to show
  pub record IsDerived (part : Part) : Type 0 where
    pub are_steps : AreSteps (vars_of subject c part) (givens subject c part) (steps_in c part)
    pub covered : (needed : List Literal) → Contains (goals subject c part) needed →
        Covers (with_steps (givens subject c part) (steps_in c part)) needed

-- each goal of each part follows from what is given there, where the invariant is one
abbrev pub GoalsFollow : Type 0
GoalsFollow =
    (subject : Subject) (c : Certificate) → All (IsOverBits subject.system) c.invariant →
    IsInvariant subject.system (subject.bad c.sets c.size) c.invariant →
    (part : Part) (needed : List Literal) → Contains (goals subject c part) needed → FollowsFrom (givens subject c part) needed

-- a certificate that was made: its numbers, sets and traces are right, and its parts are derived
pub record IsMade (T : Type 0) (reads : List Line → T → Type 0) (is_trace reaches : T → Type 0) (has_failed : T → ℕ →
    Type 0) (subject : Subject) (c : Certificate) : Type 0 where
  pub numbers : HasNumbers subject c
  pub sets : (k : ℕ) (set : List ℕ) → slice_get c.sets k ≡ Some set → IsSetAt subject c k set
  pub apart : (k : ℕ) (set : List ℕ) → slice_get c.sets k ≡ Some set → IsApart subject c k set
  pub traces : (k : ℕ) (set : List ℕ) (text : List Line) → slice_get c.sets k ≡ Some set → slice_get c.traces k ≡ Some text →
      (rule : Rule) → KeepsAtTrace T reads is_trace reaches has_failed subject c set text rule
  pub over_bits : All (IsOverBits subject.system) c.invariant
  pub no_opposites : All HasNoOpposites c.invariant
  pub derived : (part : Part) → IsDerived subject c part

-- is accepted
abbrev pub MadeIsAccepted : (T : Type 0) (reads : List Line → T → Type 0) (is_trace reaches : T → Type 0) (has_failed : T → ℕ → Type 0) →
    Type 0
MadeIsAccepted T reads is_trace reaches has_failed =
    (subject : Subject) (c : Certificate) → IsMade T reads is_trace reaches has_failed subject c →
    IsAccepted T reads is_trace reaches has_failed subject c
