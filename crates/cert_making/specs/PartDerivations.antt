-- A derivation of one part, goal by goal, and those of all parts.
use Rattle.std.specs.Prelude.{◌≡◌, ◌≤◌, true, false, List, [], ◌∷◌, ◌++◌, length, replicate, map, All}
use Rattle.sat_clauses.specs.Literal.{Literal}
use Rattle.sat_clauses.specs.Steps.{with_steps}
use Rattle.sat_clauses.specs.declared.step.Step.{Step}
use Rattle.sat_clauses.specs.States.{moved_on}
use Rattle.sat_clauses.specs.declared.system.System.{System}
use Rattle.sat_solver.specs.KeptRecord.{KeptValue}
use Rattle.cert_laws.specs.Acceptance.{highest}
use Rattle.cert_laws.specs.CertificateText.{AreWritable}
use Rattle.cert_making.specs.Queries.{IsSoFar}
use Rattle.cert_making.specs.declared.parts.PartDerivations.{PartDerivations}

-- The search has the clauses given as added ones and those of the steps so far as learned ones, over the variables of the former; and the
-- steps cover the goals so far.
pub record IsPartWay (givens : List (List Literal)) (search : KeptValue) (steps : List Step) (covered : List (List Literal)) : Type 0 where
  pub vars : search.vars ≡ highest givens
  pub clauses : search.clauses ≡ with_steps givens steps
  pub marks : search.marks ≡ replicate (length givens) false ++ replicate (length steps) true
  pub so_far : IsSoFar givens steps covered

-- each variable of the step's clause is positive
abbrev pub HasPositive : Step → Type 0
HasPositive s = All (λ (l : Literal). 1 ≤ l.var) s.clause

-- the steps of each part go from what is given for it to what it is to show, and can be written
pub record AreDerived (system : System) (invariant excluded : List (List Literal)) (parts : PartDerivations) : Type 0 where
  pub first : IsSoFar system.first parts.first invariant
  pub next : IsSoFar (system.step ++ invariant) parts.next (map (map (moved_on system.state_bits)) invariant)
  pub bad : IsSoFar (excluded ++ invariant) parts.bad ([] ∷ [])
  pub first_writable : AreWritable parts.first
  pub next_writable : AreWritable parts.next
  pub bad_writable : AreWritable parts.bad
