-- The sites of a certificate in the order of their lines, for the loops of code.
use Rattle.std.specs.Prelude.{◌≡◌, ℕ, suc, ◌<◌, List, [], ◌∷◌, ◌++◌, length}
use Rattle.std.specs.List.{AllByRecursion}
use Rattle.sat_clauses.specs.Literal.{Literal}
use Rattle.sat_clauses.specs.declared.step.Step.{Step}
use Rattle.cert_laws.specs.Certificate.{Certificate, Part, part_first, part_next, part_bad, Site, the_numbers, a_set, a_trace, a_clause}
use Rattle.cert_laws.specs.Certificate.{a_step, an_end, line_of}
use Rattle.cut_text_laws.specs.Lines.{Line}
use Rattle.cert_laws.specs.Acceptance.{Subject, Rule, number_of, Keeps, IsAccepted, IsObjection}

-- each set and its trace, by places from one on
abbrev pub set_sites : ℕ → List (List ℕ) → List (List Line) → List Site
set_sites k [] texts = []
set_sites k (set ∷ sets) [] = []
set_sites k (set ∷ sets) (text ∷ texts) = a_set k set ∷ a_trace k set text ∷ set_sites (suc k) sets texts

-- each clause, by places from one on
abbrev pub clause_sites : ℕ → List (List Literal) → List Site
clause_sites i [] = []
clause_sites i (clause ∷ clauses) = a_clause i clause ∷ clause_sites (suc i) clauses

-- each step, and the end after them
abbrev pub step_sites : Part → ℕ → List Step → List Site
step_sites part i [] = an_end part ∷ []
step_sites part i (s ∷ steps) = a_step part i s ∷ step_sites part (suc i) steps

-- all sites of a certificate, in the order of their lines
abbrev pub sites_of : Certificate → List Site
sites_of c =
    the_numbers ∷
    (set_sites 0 c.sets c.traces
    ++ (clause_sites 0 c.invariant
    ++ (step_sites part_first 0 c.first ++ (step_sites part_next 0 c.next ++ step_sites part_bad 0 c.bad))))

module _ (T : Type 0) (reads : List Line → T → Type 0) (is_trace reaches : T → Type 0) (has_failed : T → ℕ →
    Type 0) (subject : Subject) (c : Certificate) where
  -- every rule is kept there
  abbrev pub KeepsAll : Site → Type 0
  KeepsAll site = (rule : Rule) → Keeps T reads is_trace reaches has_failed subject c site rule

  -- the rule is broken there, and those of smaller numbers are kept
  pub record BreaksFirst (site : Site) (rule : Rule) : Type 0 where
    pub broken : Keeps T reads is_trace reaches has_failed subject c site rule → ⊥
    pub smaller : (r : Rule) → number_of r < number_of rule → Keeps T reads is_trace reaches has_failed subject c site r

  -- Where every rule is kept at every site the certificate is accepted, and where a site is the first at which one is broken, this
  -- and its line are the objection.
  abbrev pub FirstBrokenIsObjection : Type 0
  FirstBrokenIsObjection =
      length c.traces ≡ length c.sets →
      (AllByRecursion KeepsAll (sites_of c) → IsAccepted T reads is_trace reaches has_failed subject c)
      × ((before after : List Site) (site : Site) (rule : Rule) → sites_of c ≡ before ++ site ∷ after → AllByRecursion KeepsAll before →
      BreaksFirst site rule →
      IsObjection T reads is_trace reaches has_failed subject c (line_of c site) rule)
