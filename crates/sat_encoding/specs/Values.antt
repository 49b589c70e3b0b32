-- Values as the code has them beside those of the definitions, their bits in an assignment, and what is read and set.
use Rattle.std.specs.Prelude.{◌≡◌, ◌⊎◌, ℕ, zero, suc, ◌+◌, ◌≤◌, ◌<◌, nat_lt, nat_eq, not, ◌&&◌, min, ℤ, pos, negsuc, ◌+ℤ◌, Bool, true}
use Rattle.std.specs.Prelude.{false, Option, Some, None, List, [], ◌∷◌, slice_index_or, slice_set, map, sum_by, if◌then◌else◌}
use Rattle.smv_language.specs.Language.{Text, FlatModel, role_of, variable_tree}
use Rattle.smv_language.specs.Values as told
use Rattle.base_values.specs.declared.value.Value.{Value}
use Rattle.base_values.specs.declared.value.Value.TheVariants as value
use Rattle.base_values.specs.declared.domain.Domain.{Domain}
use Rattle.base_values.specs.declared.domain.Domain.TheVariants as domain
use Rattle.smv_flat_laws.specs.FlatTrace.{AreInDomains}
use Rattle.smv_types.specs.Types.{StandsFor, variable_domain}
use Rattle.smv_language.specs.declared.model.Variable.{Variable}
use Rattle.smv_type_laws.specs.Intervals.{Interval}
use Rattle.smv_type_laws.specs.Costs.{state_bits, role_width}
use Rattle.sat_clauses.specs.Assignment.{Assignment}
use Rattle.sat_clauses.specs.States.{Agrees}
use Rattle.sat_encoding_laws.specs.Inputs.{is_input}
use Rattle.sat_encoding_laws.specs.Layout.{state_width, input_width, input_bits, input_place, place_of, width_as_input}
use Rattle.sat_encoding.specs.Domains.{domain_interval, domain_width, capped}
use Rattle.sat_encoding_laws.specs.Bits.{natural_bits, number_bits, state_of, inputs_of}
use Rattle.sat_clauses.specs.Models.{values_of}

-- each value stands for that of the definitions, a symbol by its number
abbrev pub StandFor : List Text → List Value → List told.Value → Type 0
StandFor symbols [] [] = Unit {0}
StandFor symbols (v ∷ vs) (w ∷ ws) = StandsFor symbols v w × StandFor symbols vs ws
StandFor symbols _ _ = ⊥

-- the assignment has the bits of the state of these values, which lie in the domains
pub record HasState (m : FlatModel) (a : Assignment) (values : List told.Value) : Type 0 where
  pub domains : AreInDomains m.variables values
  pub state : Agrees (values_of a) 2 (state_of m values)

-- and the bits of their inputs
pub record HasMoment (m : FlatModel) (a : Assignment) (values : List told.Value) : Type 0 where
  pub domains : AreInDomains m.variables values
  pub state : Agrees (values_of a) 2 (state_of m values)
  pub inputs : Agrees (values_of a) (input_place m) (inputs_of m values)

-- each of the k variables from n on is free
abbrev pub AreFree : Assignment → ℕ → ℕ → Type 0
AreFree a n k = (x : ℕ) → n ≤ x → x < n + k → slice_index_or a x None ≡ None

-- each of the variables from n on has one of these values
abbrev pub Gives : Assignment → ℕ → List Bool → Type 0
Gives a n [] = Unit {0}
Gives a n (b ∷ bs) = (slice_index_or a n None ≡ Some b) × Gives a (n + 1) bs

-- the number is no variable of the state now or of the inputs
abbrev pub IsElsewhere : FlatModel → ℕ → Type 0
IsElsewhere m x = ((x < 2) ⊎ (2 + state_bits m ≤ x)) × ((x < input_place m) ⊎ (input_place m + input_bits m ≤ x))

-- the bits of a moment are free
pub record IsFreeMoment (m : FlatModel) (a : Assignment) : Type 0 where
  pub state : AreFree a 2 (state_bits m)
  pub inputs : AreFree a (input_place m) (input_bits m)

-- ---- values of bits

-- the values of so many variables from n on
abbrev pub bits_at : Assignment → ℕ → ℕ → List Bool
bits_at a n zero = []
bits_at a n (suc k) = values_of a n ∷ bits_at a (n + 1) k

-- the value of the last bit, which is a sign where numbers have one
abbrev pub last_digit : Bool → Bool → ℤ
last_digit signed b = if b then (if signed then negsuc 0 else pos 1) else pos 0

-- the number of bits in two's complement, or without a sign
abbrev pub bits_number : Bool → List Bool → ℤ
bits_number signed [] = pos 0
bits_number signed (b ∷ []) = last_digit signed b
bits_number signed (b ∷ c ∷ bs) = (if b then pos 1 else pos 0) +ℤ (bits_number signed (c ∷ bs) +ℤ bits_number signed (c ∷ bs))

-- the numbers of an interval go below 0
abbrev pub is_below : ℤ → Bool
is_below (pos n) = false
is_below (negsuc n) = true

-- the least number of the interval is below 0
abbrev pub has_sign : Option Interval → Bool
has_sign None = false
has_sign (Some i) = is_below i.lo

-- the number of a symbol, of which there are no more than 2 ^ 32
abbrev pub as_symbol : ℤ → ℕ
as_symbol (pos n) = if nat_lt n 4294967296 then n else 0
as_symbol (negsuc n) = 0

-- the number is not 0
abbrev pub is_nonzero : ℤ → Bool
is_nonzero (pos n) = not (nat_eq n 0)
is_nonzero (negsuc n) = true

-- the value of a domain that has this number
abbrev pub value_of : Domain → ℤ → Value
value_of domain.Boolean z = value.Bool (is_nonzero z)
value_of (domain.Symbols is) z = value.Sym (as_symbol z)
value_of d z = value.Num z

-- the value of a domain whose bits begin at n
abbrev pub domain_read : Domain → Assignment → ℕ → Value
domain_read d a n = value_of d (bits_number (has_sign (domain_interval d)) (bits_at a n (min (domain_width d) 62)))

-- the value of a domain's least number, and FALSE
abbrev pub least_in : Domain → Option Interval → Value
least_in d None = value.Bool false
least_in d (Some i) = value_of d i.lo

-- the values of variables whose bits begin at these places; those of inputs, where so asked, are the least
abbrev pub values_read : List Text → Bool → Assignment → ℕ → ℕ → List Variable → List Value
values_read symbols least a p q [] = []
values_read symbols least a p q (x ∷ xs) =
    (if least && is_input (role_of x.role) then least_in (variable_domain symbols x) (domain_interval (variable_domain symbols x)) else
    domain_read (variable_domain symbols x) a (place_of (role_of x.role) p q))
    ∷ values_read symbols least a (capped (p + role_width (role_of x.role) (domain_width (variable_domain symbols x)))) (capped (q
    + width_as_input (role_of x.role) (domain_width (variable_domain symbols x)))) xs

-- ---- bits of values

-- a value as a number: FALSE is 0, TRUE is 1, and a symbol its number
abbrev pub number_of : Value → ℤ
number_of (value.Bool b) = if b then pos 1 else pos 0
number_of (value.Num n) = n
number_of (value.Sym i) = pos i

-- the lowest binary digits of a number, or these turned over
abbrev pub turned_bits : Bool → ℕ → ℕ → List Bool
turned_bits turned k n = if turned then map not (natural_bits k n) else natural_bits k n

-- the variables from n on have these values
abbrev pub with_bits : Assignment → ℕ → List Bool → Assignment
with_bits a n [] = a
with_bits a n (b ∷ bs) = with_bits (slice_set a n (Some b)) (n + 1) bs

-- the variables of these places have the bits of the values
abbrev pub bits_set : List Text → Assignment → ℕ → ℕ → List Variable → List Value → Assignment
bits_set symbols a p q (x ∷ xs) (v ∷ vs) =
    bits_set symbols (with_bits a (place_of (role_of x.role) p q) (number_bits (domain_width (variable_domain symbols x)) (number_of v)))
    (p + role_width (role_of x.role) (domain_width (variable_domain symbols x))) (q
    + width_as_input (role_of x.role) (domain_width (variable_domain symbols x))) xs vs
bits_set symbols a p q _ _ = a

-- the bits of these variables among those of the state, and among those of the inputs
abbrev pub state_size : List Text → List Variable → ℕ
state_size symbols xs = sum_by (state_width symbols) (map variable_tree xs)

-- the same of the inputs
abbrev pub input_size : List Text → List Variable → ℕ
input_size symbols xs = sum_by (input_width symbols) (map variable_tree xs)

-- the places of the variables that are left are free, and stand where those of all end
pub record AreLeft (symbols : List Text) (a : Assignment) (p q ends_p ends_q : ℕ) (xs : List Variable) : Type 0 where
  pub state : p + state_size symbols xs ≡ ends_p
  pub inputs : q + input_size symbols xs ≡ ends_q
  pub apart : ends_p ≤ q
  pub free_state : AreFree a p (state_size symbols xs)
  pub free_inputs : AreFree a q (input_size symbols xs)
  pub least : 2 ≤ p
