-- The limits of faults and of modes.
use Rattle.std.specs.Prelude.{ℕ, suc, ◌+◌, ◌*◌, nat_le, nat_lt, Bool, false, ◌||◌, List, [], ◌∷◌, Option, Some, None, length, if◌then◌else◌}
use Rattle.base_values.specs.declared.limits.TheConstants.{MOST_FAULTS, MOST_MODES}
use Rattle.smv_language.specs.Language.{Text, same_text}
use Rattle.fault_rules.specs.Sites.{OwnedSlice, Site, an_extension, a_slice, a_mode}
use Rattle.fault_rules.specs.declared.fault.InstructionRule.{InstructionRule}
use Rattle.fault_rules.specs.declared.fault.InstructionRule.TheVariants.{TooManyFaults}

-- the number of instances of a module, where the modules of all instances are listed
abbrev pub instances_of : List Text → Text → ℕ
instances_of [] m = 0
instances_of (o ∷ os) m = if same_text o m then suc (instances_of os m) else instances_of os m

-- the number of faults of slices
abbrev pub faults_of : List Text → List OwnedSlice → ℕ
faults_of instances [] = 0
faults_of instances (o ∷ os) = length o.slice.modes * instances_of instances o.owner + faults_of instances os

-- with this mode there are more faults than `MOST_FAULTS`, or its slice has more modes than `MOST_MODES`
abbrev pub is_one_too_many : List Text → Site → Bool
is_one_too_many instances (an_extension m) = false
is_one_too_many instances (a_slice before o) = false
is_one_too_many instances (a_mode before o earlier m) =
    nat_le MOST_MODES (length earlier)
    || nat_lt MOST_FAULTS (faults_of instances before + (suc (length earlier) * instances_of instances o.owner))

-- the limit as a rule of the item
abbrev pub count_broken_at : List Text → Site → Option InstructionRule
count_broken_at instances site = if is_one_too_many instances site then Some TooManyFaults else None
