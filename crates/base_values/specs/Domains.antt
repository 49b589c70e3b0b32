-- The values of a domain, and how many there are.
use Rattle.std.specs.Prelude.{ℕ, ◌+ℤ◌, Bool, List, [], ◌∷◌, ◌+◌, ◌-ℤ◌, ◌≤ℤ◌, Contains, if◌then◌else◌, pos, nat_abs, nat_eq}
use Rattle.std.specs.List.{list_any}
use Rattle.std.specs.Ordering.{int_eq}
use Rattle.base_values.specs.declared.domain.Domain.{Domain}
use Rattle.base_values.specs.declared.domain.Domain.TheVariants as domain
use Rattle.base_values.specs.declared.value.Value.{Value}
use Rattle.base_values.specs.declared.value.Value.TheVariants as value
use Rattle.base_values.specs.declared.limits.TheConstants.{LEAST_NUMBER, GREATEST_NUMBER}

-- the value is one of the domain's
abbrev pub Has : Domain → Value → Type 0
Has domain.Boolean (value.Bool b) = Unit {0}
Has (domain.Range lo hi) (value.Num n) = (lo ≤ℤ n) × (n ≤ℤ hi)
Has (domain.Numbers ns) (value.Num n) = Contains ns n
Has (domain.Symbols ss) (value.Sym s) = Contains ss s
Has _ _ = ⊥

-- a range is not empty and ends within 32 bits
abbrev pub IsCountable : Domain → Type 0
IsCountable (domain.Range lo hi) = (lo ≤ℤ hi) × (LEAST_NUMBER ≤ℤ lo) × (hi ≤ℤ GREATEST_NUMBER)
IsCountable _ = Unit {0}

-- how many different items there are: each is counted where it stands last
abbrev pub different : {A : Type 0} → (A → A → Bool) → List A → ℕ
different same [] = 0
different same (x ∷ xs) = (if list_any (λ y. same y x) xs then 0 else 1) + different same xs

-- the number of the domain's values
abbrev pub count_of : Domain → ℕ
count_of domain.Boolean = 2
count_of (domain.Range lo hi) = nat_abs ((hi -ℤ lo) +ℤ pos 1)
count_of (domain.Numbers ns) = different int_eq ns
count_of (domain.Symbols ss) = different nat_eq ss
