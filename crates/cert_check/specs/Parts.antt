-- Which derivation is meant, from what it starts, and what is found at its steps.
use Rattle.std.specs.Prelude.{◌≡◌, List, [], ◌∷◌}
use Rattle.sat_clauses.specs.Literal.{Literal}
use Rattle.sat_clauses.specs.Derivation.{Derivation}
use Rattle.cert_laws.specs.Certificate.{Part, part_first, part_next, part_bad, an_end, steps_in}
use Rattle.cert_laws.specs.Sites.{step_sites}
use Rattle.cert_laws.specs.Acceptance.{known_at, vars_of}
use Rattle.cert_check.specs.Matter.{Matter}
use Rattle.cert_check.specs.SiteFindings.{Finds, GoesOn}
use Rattle.cert_check.specs.declared.judged.Judged.{Judged}
use Rattle.cert_check.specs.declared.judged.Judged.TheVariants.{Yes, No}
use Rattle.cert_check.specs.declared.question.CheckedPart.{CheckedPart as Which}
use Rattle.cert_check.specs.declared.question.CheckedPart.TheVariants.{First, Next, Bad}

-- which derivation is meant
abbrev pub part_of : Which → Part
part_of First = part_first
part_of Next = part_next
part_of Bad = part_bad

module _ (a : Matter) where
  -- the list of the model that a derivation starts from
  abbrev pub list_of : Part → List (List Literal)
  list_of part_first = a.subject.system.first
  list_of part_next = a.subject.system.step
  list_of part_bad = a.subject.bad a.certificate.sets a.certificate.size

  -- the clauses that it starts from besides
  abbrev pub also_given : Part → List (List Literal)
  also_given part_first = []
  also_given part_next = a.certificate.invariant
  also_given part_bad = a.certificate.invariant

  -- a checker has the clauses that a derivation starts from, over variables up to the highest of these
  pub record IsAtStart (part : Part) (checker : Derivation) : Type 0 where
    pub vars : checker.vars ≡ vars_of a.subject a.certificate part
    pub clauses : checker.clauses ≡ known_at a.subject a.certificate part 0

  -- what is found at the steps of a derivation: its end is left, or a rule is broken
  abbrev pub FindsSteps : Part → Judged → Type 0
  FindsSteps part Yes = GoesOn a (an_end part ∷ []) (step_sites part 0 (steps_in a.certificate part))
  FindsSteps part (No line number) = Finds a (step_sites part 0 (steps_in a.certificate part)) (No line number)
