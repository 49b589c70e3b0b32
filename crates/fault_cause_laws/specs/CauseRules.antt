-- The rules of causes, over the faults of an extension and the names of the woven program.
use Rattle.std.specs.Prelude.{◌≡◌, ℕ, zero, suc, ◌+◌, ◌-◌, ◌<◌, nat_lt, Bool, true, false, ◌||◌, ◌&&◌, not, List, [], ◌∷◌, ◌++◌, Option}
use Rattle.std.specs.Prelude.{Some, None, length, map, flat_map, reverse, slice_get, if◌then◌else◌}
use Rattle.std.specs.List.{list_any}
use Rattle.base_values.specs.declared.limits.TheConstants.{MOST_EVENTS, LONGEST_WINDOW}
use Rattle.smv_language.specs.Language.{Text, Path, ProgramTree, same_text, is_among, EachBoth}
use Rattle.fault_weave.specs.Faults.{Fault}
use Rattle.fault_rules.specs.Rules.{is_program_name}
use Rattle.fault_cause_laws.specs.Causes.{CommonCause}
use Rattle.fault_cause_laws.specs.CausesText.{WrittenCause}
use Rattle.fault_cause_laws.specs.StagedModel.{age_name, event_name, quiet_name, now_name, hit_name, own_name, none_name, self_name}

-- the name of a fault: the instances from `main` on, the slice, and the mode
abbrev pub fault_path : Fault → Path
fault_path f = reverse f.place ++ f.slice ∷ f.mode ∷ []

-- whether two names have the same parts
abbrev pub same_path : Path → Path → Bool
same_path [] [] = true
same_path (x ∷ xs) (y ∷ ys) = same_text x y && same_path xs ys
same_path _ _ = false

-- whether a name is one of these
abbrev pub is_path_among : List Path → Path → Bool
is_path_among paths x = list_any (λ y. same_path y x) paths

-- some path stands twice
abbrev pub has_double : List Path → Bool
has_double [] = false
has_double (x ∷ xs) = is_path_among xs x || has_double xs

-- the names that a cause adds
abbrev pub hit_names : Text → ℕ → List Path → List Text
hit_names x k [] = []
hit_names x k (p ∷ ps) = hit_name x k ∷ hit_names x (suc k) ps

-- the names that a cause adds
abbrev pub names_of_cause : WrittenCause → List Text
names_of_cause c = age_name c.name ∷ event_name c.name ∷ quiet_name c.name ∷ now_name c.name ∷ hit_names c.name 1 c.strikes

-- and those that are added after all causes, for so many faults from a number on
abbrev pub own_names : ℕ → ℕ → List Text
own_names i zero = []
own_names i (suc more) = own_name i ∷ none_name i ∷ self_name i ∷ own_names (suc i) more

-- one of the names is a name of the program, or was added before
abbrev pub is_any_taken : ProgramTree → List Text → List Text → Bool
is_any_taken w before names = list_any (λ x. is_program_name w x || is_among before x) names

-- the rules of causes, in the order in which they are tried
pub data CauseRule : Type 0 where
  no_such_fault : CauseRule
  double_cause : CauseRule
  double_strike : CauseRule
  empty_window : CauseRule
  too_wide : CauseRule
  too_many : CauseRule
  name_taken : CauseRule

-- the first rule of a list that is broken
abbrev pub first_of : List (Bool × CauseRule) → Option CauseRule
first_of [] = None
first_of (r ∷ rs) = if r.0 then Some r.1 else first_of rs

module _ (faults : List Fault) (w : ProgramTree) where
  -- the rule that a cause breaks first, after these causes
  abbrev pub broken_at : List WrittenCause → WrittenCause → Option CauseRule
  broken_at before c =
      first_of ((list_any (λ p. not (is_path_among (map fault_path faults) p)) c.strikes, no_such_fault)
      ∷ (list_any (λ (b : WrittenCause). same_text b.name c.name) before, double_cause)
      ∷ (has_double c.strikes, double_strike)
      ∷ (nat_lt c.to c.from, empty_window)
      ∷ (nat_lt LONGEST_WINDOW c.to, too_wide)
      ∷ (nat_lt MOST_EVENTS (length faults + (length before + 1)), too_many)
      ∷ (is_any_taken w (flat_map names_of_cause before) (names_of_cause c), name_taken)
      ∷ [])

  -- no cause breaks a rule, where others stand before these
  abbrev pub AllKept : List WrittenCause → List WrittenCause → Type 0
  AllKept before [] = Unit {0}
  AllKept before (c ∷ cs) = (broken_at before c ≡ None) × AllKept (before ++ c ∷ []) cs

  -- the names that are added after all causes are taken
  abbrev pub are_owns_taken : List WrittenCause → Bool
  are_owns_taken causes = is_any_taken w (flat_map names_of_cause causes) (own_names 1 (length faults))

  -- the rule is broken at the cause of this number, counted from 1, and none at a cause before it
  pub record IsBrokenAt (causes : List WrittenCause) (rule : CauseRule) (number : ℕ) : Type 0 where
    pub before : List WrittenCause
    pub cause : WrittenCause
    pub after : List WrittenCause
    pub in_order : causes ≡ before ++ cause ∷ after
    pub kept_before : AllKept [] before
    pub broken : broken_at before cause ≡ Some rule
    pub at_cause : number ≡ suc (length before)

  -- or, where no cause breaks a rule, a name that is added after them is taken, which is reported at 0
  pub record AreOwnsTaken (causes : List WrittenCause) (rule : CauseRule) (number : ℕ) : Type 0 where
    pub kept : AllKept [] causes
    pub taken : are_owns_taken causes ≡ true
    pub at_none : number ≡ 0
    pub is_taken : rule ≡ name_taken

  -- no rule is broken
  pub record AreLawful (causes : List WrittenCause) : Type 0 where
    pub kept : AllKept [] causes
    pub free : are_owns_taken causes ≡ false

  -- the number of the fault that the name means
  abbrev pub IsStrikeOf : Path → ℕ → Type 0
  IsStrikeOf p i = (f : Fault) × (0 < i) × (slice_get faults (i - 1) ≡ Some f) × (fault_path f ≡ p)

  -- the cause that is written, with the faults by their numbers
  pub record IsReadAs (written : WrittenCause) (c : CommonCause) : Type 0 where
    pub name : c.name ≡ written.name
    pub from : c.from ≡ written.from
    pub to : c.to ≡ written.to
    pub strikes : EachBoth IsStrikeOf written.strikes c.strikes

  abbrev pub AreReadAs : List WrittenCause → List CommonCause → Type 0
  AreReadAs written causes = EachBoth IsReadAs written causes
