-- When a certificate is accepted, and the objection to one that is not.
--
-- A certificate is judged about a system of clause lists with its number of faults, the clause list `bad` that sets and a
-- size have, and traces. What a trace is, which text gives it, when it reaches the top event and which faults it has failed
-- are parameters.
use Rattle.std.specs.Prelude.{◌≡◌, ◌⊎◌, ℕ, suc, ◌≤◌, ◌<◌, IsTrue, List, [], ◌∷◌, ◌++◌, length, map, take, Some, All, Any, Contains}
use Rattle.std.specs.Prelude.{slice_get, max}
use Rattle.sat_clauses.specs.Literal.{Literal}
use Rattle.sat_clauses.specs.Derivation.{IsUpTo}
use Rattle.sat_clauses.specs.Hints.{HasNoOpposites, EndsOpen, FailsAt, assumed_false}
use Rattle.sat_clauses.specs.declared.step.Step.{Step}
use Rattle.sat_clauses.specs.declared.system.System.{System}
use Rattle.sat_clauses.specs.States.{moved_on, IsOverBits}
use Rattle.cut_right_laws.specs.Sets.{IsRising, stands_before}
use Rattle.cut_right_laws.specs.Right.{IsContained, HasFailedExactly}
use Rattle.cert_laws.specs.Certificate.{Certificate, Part, part_first, part_next, part_bad, Site, the_numbers, a_set, a_trace, a_clause}
use Rattle.cert_laws.specs.Certificate.{a_step, an_end, steps_in, IsSite, line_of}
use Rattle.cut_text_laws.specs.Lines.{Line}

-- what a certificate is judged about: the system, how many faults there are, and the clauses of bad states by sets and size
pub record Subject : Type 0 where
  pub system : System
  pub faults : ℕ
  pub bad : List (List ℕ) → ℕ → List (List Literal)

-- the rules, in the order of their numbers
pub data Rule : Type 0 where
  other_numbers : Rule
  no_set : Rule
  contains_a_set : Rule
  no_text : Rule
  no_trace : Rule
  does_not_reach : Rule
  other_faults : Rule
  foreign_literal : Rule
  bad_hint : Rule
  no_conflict : Rule
  not_covered : Rule

-- the number by which a rule is told
abbrev pub number_of : Rule → ℕ
number_of other_numbers = 1
number_of no_set = 2
number_of contains_a_set = 3
number_of no_text = 4
number_of no_trace = 5
number_of does_not_reach = 6
number_of other_faults = 7
number_of foreign_literal = 8
number_of bad_hint = 9
number_of no_conflict = 10
number_of not_covered = 11

-- the greatest variable of a clause, of clauses, at least 1
abbrev pub highest_in : List Literal → ℕ
highest_in [] = 1
highest_in (l ∷ ls) = max l.var (highest_in ls)

-- the greatest variable of clauses, and 1 where there is none
abbrev pub highest : List (List Literal) → ℕ
highest [] = 1
highest (c ∷ clauses) = max (highest_in c) (highest clauses)

-- the clauses that stand before a step: those given, and those of the steps before it
abbrev pub known_before : List (List Literal) → List Step → ℕ → List (List Literal)
known_before givens steps i = givens ++ map (λ (s : Step). s.clause) (take i steps)

-- given clauses and steps cover a clause: all literals of one of them are in it
abbrev pub Covers : List (List Literal) → List Literal → Type 0
Covers clauses needed = Any (λ c. All (Contains needed) c) clauses

module _ (subject : Subject) (c : Certificate) where
  -- what the steps of a derivation start from
  abbrev pub givens : Part → List (List Literal)
  givens part_first = subject.system.first
  givens part_next = subject.system.step ++ c.invariant
  givens part_bad = subject.bad c.sets c.size ++ c.invariant

  -- what it is to show: the invariant, the invariant of the state next, and the clause without literals
  abbrev pub goals : Part → List (List Literal)
  goals part_first = c.invariant
  goals part_next = map (map (moved_on subject.system.state_bits)) c.invariant
  goals part_bad = [] ∷ []

  pub record HasNumbers : Type 0 where
    pub bits : c.bits ≡ subject.system.state_bits
    pub faults : c.faults ≡ subject.faults
    pub size : c.size ≤ c.faults

  -- the set rises, names faults, has at most as many as the size says, and stands after the one before it
  pub record IsSetAt (k : ℕ) (set : List ℕ) : Type 0 where
    pub rises : IsRising set
    pub names : (i : ℕ) → Contains set i → (1 ≤ i) × (i ≤ subject.faults)
    pub small : length set ≤ c.size
    pub after : (j : ℕ) (before : List ℕ) → k ≡ suc j → slice_get c.sets j ≡ Some before → IsTrue (stands_before before set)

  -- neither of it and any set before it contains the other
  abbrev pub IsApart : ℕ → List ℕ → Type 0
  IsApart k set = (j : ℕ) (other : List ℕ) → j < k → slice_get c.sets j ≡ Some other →
      (IsContained other set → ⊥) × (IsContained set other → ⊥)

  -- the clauses before a step, and the highest variable that it may have
  abbrev pub known_at : Part → ℕ → List (List Literal)
  known_at part i = known_before (givens part) (steps_in c part) i

  abbrev pub vars_of : Part → ℕ
  vars_of part = highest (givens part)

  abbrev pub HasLiterals : Part → Step → Type 0
  HasLiterals part s = All (IsUpTo (vars_of part)) s.clause × HasNoOpposites s.clause

  -- no hint of the step is bad, and not all are used without a false one
  abbrev pub HasGoodHints : Part → ℕ → Step → Type 0
  HasGoodHints part i s = (n : ℕ) → FailsAt (known_at part i) (assumed_false (vars_of part) s.clause) s.hints n → ⊥

  abbrev pub HasConflict : Part → ℕ → Step → Type 0
  HasConflict part i s = EndsOpen (known_at part i) (assumed_false (vars_of part) s.clause) s.hints → ⊥

  abbrev pub IsCovered : Part → Type 0
  IsCovered part = (needed : List Literal) → Contains (goals part) needed → Covers (known_at part (length (steps_in c part))) needed

module _ (T : Type 0) (reads : List Line → T → Type 0) (is_trace reaches : T → Type 0) (has_failed : T → ℕ →
    Type 0) (subject : Subject) (c : Certificate) where
  -- a rule asks of a trace, where its text gives one
  abbrev pub OfText : (T → Type 0) → List Line → Type 0
  OfText P text = (t : T) → reads text t → P t

  abbrev pub KeepsAtSet : ℕ → List ℕ → Rule → Type 0
  KeepsAtSet k set no_set = IsSetAt subject c k set
  KeepsAtSet k set contains_a_set = IsApart subject c k set
  KeepsAtSet k set _ = Unit {0}

  abbrev pub KeepsAtTrace : List ℕ → List Line → Rule → Type 0
  KeepsAtTrace set text no_text = (t : T) × reads text t
  KeepsAtTrace set text no_trace = OfText is_trace text
  KeepsAtTrace set text does_not_reach = OfText reaches text
  KeepsAtTrace set text other_faults = OfText (λ t. HasFailedExactly T is_trace reaches has_failed t set) text
  KeepsAtTrace set text _ = Unit {0}

  abbrev pub KeepsAtStep : Part → ℕ → Step → Rule → Type 0
  KeepsAtStep part i s foreign_literal = HasLiterals subject c part s
  KeepsAtStep part i s bad_hint = HasGoodHints subject c part i s
  KeepsAtStep part i s no_conflict = HasConflict subject c part i s
  KeepsAtStep part i s _ = Unit {0}

  -- what each rule asks at a site
  abbrev pub Keeps : Site → Rule → Type 0
  Keeps the_numbers other_numbers = HasNumbers subject c
  Keeps the_numbers _ = Unit {0}
  Keeps (a_set k set) rule = KeepsAtSet k set rule
  Keeps (a_trace k set text) rule = KeepsAtTrace set text rule
  Keeps (a_clause i clause) foreign_literal = IsOverBits subject.system clause × HasNoOpposites clause
  Keeps (a_clause i clause) _ = Unit {0}
  Keeps (a_step part i s) rule = KeepsAtStep part i s rule
  Keeps (an_end part) not_covered = IsCovered subject c part
  Keeps (an_end part) _ = Unit {0}

  -- no rule is broken
  abbrev pub IsAccepted : Type 0
  IsAccepted = (site : Site) → IsSite c site → (rule : Rule) → Keeps site rule

  -- a rule is broken at a line
  pub record BreaksAt (line : ℕ) (rule : Rule) : Type 0 where
    pub site : Site
    pub is_site : IsSite c site
    pub at_line : line_of c site ≡ line
    pub broken : Keeps site rule → ⊥

  -- and this is the first: at no line before it is a rule broken, nor one of a smaller number there
  pub record IsObjection (line : ℕ) (rule : Rule) : Type 0 where
    pub broken : BreaksAt line rule
    pub first : (other : ℕ) (r : Rule) → BreaksAt other r → (line < other) ⊎ ((line ≡ other) × (number_of rule ≤ number_of r))
