-- The first rule that a list of causes breaks, by the names of faults and the texts that are taken.
use Rattle.std.specs.Prelude.{◌≡◌, ◌⊎◌, ℕ, suc, ◌+◌, nat_lt, Bool, true, false, not, List, [], ◌∷◌, ◌++◌, Option, Some, None, length}
use Rattle.std.specs.List.{list_any}
use Rattle.base_values.specs.declared.limits.TheConstants.{MOST_EVENTS, LONGEST_WINDOW}
use Rattle.smv_language.specs.Language.{Text, Path, ProgramTree, same_text, is_among}
use Rattle.fault_rules.specs.KeyedLists.{with_texts}
use Rattle.fault_rules.specs.Names.{program_names}
use Rattle.fault_cause_laws.specs.CausesText.{WrittenCause}
use Rattle.fault_cause_laws.specs.CauseRules.{is_path_among, has_double, names_of_cause, own_names, CauseRule as Rule, no_such_fault}
use Rattle.fault_cause_laws.specs.CauseRules.{double_cause, double_strike, empty_window, too_wide, too_many, name_taken, first_of}
use Rattle.fault_causes_reader.specs.declared.fault.CauseRule.{CauseRule}
use Rattle.fault_causes_reader.specs.declared.fault.CauseRule.TheVariants as r
use Rattle.fault_causes_reader.specs.declared.fault.CauseFault.{CauseFault}
use Rattle.fault_causes_reader.specs.declared.fault.CauseFault.TheVariants as f

-- the code's rule as the definitions see it
abbrev pub rule_of : CauseRule → Rule
rule_of r.NoSuchFault = no_such_fault
rule_of r.DoubleCause = double_cause
rule_of r.DoubleStrike = double_strike
rule_of r.EmptyWindow = empty_window
rule_of r.TooWide = too_wide
rule_of r.TooMany = too_many
rule_of r.NameTaken = name_taken

-- some name is among the texts
abbrev pub is_any_among : List Text → List Text → Bool
is_any_among taken names = list_any (λ x. is_among taken x) names

-- the rules on a cause's window, on how many there are and on its names, after so many others
abbrev pub bound_broken : ℕ → List Text → ℕ → WrittenCause → Option Rule
bound_broken faults taken before c =
    first_of ((nat_lt c.to c.from, empty_window)
    ∷ (nat_lt LONGEST_WINDOW c.to, too_wide)
    ∷ (nat_lt MOST_EVENTS (faults + (before + 1)), too_many)
    ∷ (is_any_among taken (names_of_cause c), name_taken)
    ∷ [])

-- the rule that a cause breaks first, after these causes
abbrev pub broken_by : List Path → List Text → List WrittenCause → WrittenCause → Option Rule
broken_by paths taken before c =
    first_of ((list_any (λ p. not (is_path_among paths p)) c.strikes, no_such_fault)
    ∷ (list_any (λ (b : WrittenCause). same_text b.name c.name) before, double_cause)
    ∷ (has_double c.strikes, double_strike)
    ∷ (nat_lt c.to c.from, empty_window)
    ∷ (nat_lt LONGEST_WINDOW c.to, too_wide)
    ∷ (nat_lt MOST_EVENTS (length paths + (length before + 1)), too_many)
    ∷ (is_any_among taken (names_of_cause c), name_taken)
    ∷ [])

-- the rule with the number of its cause, or what comes of the causes after it
abbrev pub told_at : Option Rule → ℕ → Option (Rule × ℕ) → Option (Rule × ℕ)
told_at None n more = more
told_at (Some rule) n more = Some (rule, n)

-- the first rule that causes break, with the number of the cause, where others stand before them
abbrev pub first_broken : List Path → List Text → List WrittenCause → List WrittenCause → Option (Rule × ℕ)
first_broken paths taken before [] = None
first_broken paths taken before (c ∷ cs) =
    told_at (broken_by paths taken before c) (suc (length before)) (first_broken paths (with_texts taken (names_of_cause c)) (before ++ c
    ∷ []) cs)

-- some name that is added after all causes is taken
abbrev pub are_owns_among : List Text → ℕ → Bool
are_owns_among taken faults = is_any_among taken (own_names 1 faults)

-- which is told at 0
abbrev pub owns_told : Bool → Option (Rule × ℕ)
owns_told true = Some (name_taken, 0)
owns_told false = None

-- a fault tells the rule and its number
abbrev pub Tells : CauseFault → Option (Rule × ℕ) → Type 0
Tells (f.Parse fault) o = ⊥
Tells (f.Broken rule n) o = o ≡ Some (rule_of rule, n)
Tells f.OutOfMemory o = Unit {0}

-- a fault tells the first rule that a cause breaks, or else that a name which is added after all is taken
abbrev pub TellsFirst : CauseFault → Option (Rule × ℕ) → Bool → Type 0
TellsFirst (f.Parse fault) o taken = ⊥
TellsFirst (f.Broken rule n) o taken = (o ≡ Some (rule_of rule, n)) ⊎ ((o ≡ None) × (owns_told taken ≡ Some (rule_of rule, n)))
TellsFirst f.OutOfMemory o taken = Unit {0}

-- the names of a program, each once
abbrev pub taken_in : ProgramTree → List Text
taken_in w = with_texts [] (program_names w)
