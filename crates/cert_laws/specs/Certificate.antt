-- A certificate, and at which lines of its text its parts stand.
use Rattle.std.specs.Prelude.{◌≡◌, ℕ, ◌+◌, List, length, take, Some, slice_get}
use Rattle.std.specs.List.{sum_by}
use Rattle.sat_clauses.specs.Literal.{Literal}
use Rattle.sat_clauses.specs.declared.step.Step.{Step}
use Rattle.cut_text_laws.specs.Lines.{Line}

-- the numbers of bits, of faults and the size, the listed sets with a trace text each, an invariant and three derivations
pub record Certificate : Type 0 where
  pub bits : ℕ
  pub faults : ℕ
  pub size : ℕ
  pub sets : List (List ℕ)
  pub traces : List (List Line)
  pub invariant : List (List Literal)
  pub first : List Step
  pub next : List Step
  pub bad : List Step

-- the derivations: that the invariant holds first, that every step keeps it, and that it excludes the bad states
pub data Part : Type 0 where
  part_first : Part
  part_next : Part
  part_bad : Part

-- how many lines sets with these trace texts have: each its own line, a line for its trace, and the text
abbrev pub lines_of_sets : List (List Line) → ℕ
lines_of_sets texts = sum_by (λ text. length text + 2) texts

-- what is judged: the numbers, each set, each trace with its set, each clause of the invariant, each step, and the end
-- of each derivation
pub data Site : Type 0 where
  the_numbers : Site
  a_set : ℕ → List ℕ → Site
  a_trace : ℕ → List ℕ → List Line → Site
  a_clause : ℕ → List Literal → Site
  a_step : Part → ℕ → Step → Site
  an_end : Part → Site

module _ (c : Certificate) where
  abbrev pub steps_in : Part → List Step
  steps_in part_first = c.first
  steps_in part_next = c.next
  steps_in part_bad = c.bad

  -- the lines that begin the invariant and the derivations
  abbrev pub invariant_line : ℕ
  invariant_line = 4 + lines_of_sets c.traces

  abbrev pub first_line : ℕ
  first_line = invariant_line + length c.invariant + 1

  abbrev pub next_line : ℕ
  next_line = first_line + length c.first + 1

  abbrev pub bad_line : ℕ
  bad_line = next_line + length c.next + 1

  abbrev pub head_line : Part → ℕ
  head_line part_first = first_line
  head_line part_next = next_line
  head_line part_bad = bad_line

  -- the site is one of the certificate's: places count from 0
  abbrev pub IsSite : Site → Type 0
  IsSite the_numbers = Unit {0}
  IsSite (a_set k set) = slice_get c.sets k ≡ Some set
  IsSite (a_trace k set text) = (slice_get c.sets k ≡ Some set) × (slice_get c.traces k ≡ Some text)
  IsSite (a_clause i clause) = slice_get c.invariant i ≡ Some clause
  IsSite (a_step part i s) = slice_get (steps_in part) i ≡ Some s
  IsSite (an_end part) = Unit {0}

  -- the line of a site; that of a derivation's end is the line after its last step
  abbrev pub line_of : Site → ℕ
  line_of the_numbers = 2
  line_of (a_set k set) = 4 + lines_of_sets (take k c.traces)
  line_of (a_trace k set text) = 5 + lines_of_sets (take k c.traces)
  line_of (a_clause i clause) = invariant_line + 1 + i
  line_of (a_step part i s) = head_line part + 1 + i
  line_of (an_end part) = head_line part + 1 + length (steps_in part)
