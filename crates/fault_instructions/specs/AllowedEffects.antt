-- What effects demand of the type of their variable, and how a type may break it.
use Rattle.std.specs.Prelude.{ℤ, pos, ◌+ℤ◌, ◌-ℤ◌, Bool, true, false, List, [], ◌∷◌, Option, Some, None, ◌&&◌}
use Rattle.std.specs.List.{list_any}
use Rattle.base_values.specs.declared.limits.TheConstants.{LEAST_NUMBER, GREATEST_NUMBER}
use Rattle.smv_language.specs.declared.program.Member.{Member}
use Rattle.smv_language.specs.ProgramTree.{DeclaredTree, boolean, range, members, instance}
use Rattle.smv_language.specs.Values.{Value, truth, number, symbol, opposite, same_value, at_most, is_between}
use Rattle.smv_language.specs.Trace.{in_domain, value_of_member}
use Rattle.fault_instructions.specs.EffectForms.{Demand, no_demand, one_of_its, truth_values, two_values, a_range}
use Rattle.fault_instructions.specs.declared.fault.EffectFault.{EffectFault}
use Rattle.fault_instructions.specs.declared.fault.EffectFault.TheVariants.{WrongKind, Outside, OneValueOnly}

-- both are truth values, both numbers, or both symbols
abbrev pub same_kind : Value → Value → Bool
same_kind (truth a) (truth b) = true
same_kind (number a) (number b) = true
same_kind (symbol a) (symbol b) = true
same_kind _ _ = false

-- an enumeration has the kind of its first member
abbrev pub kind_of_members : List Member → Value → Bool
kind_of_members [] v = false
kind_of_members (m ∷ ms) v = same_kind (value_of_member m) v

-- the value is of the kind of the type's values
abbrev pub is_of_kind : DeclaredTree → Value → Bool
is_of_kind boolean v = same_kind (truth true) v
is_of_kind (range lo hi) v = same_kind (number lo) v
is_of_kind (members ms) v = kind_of_members ms v
is_of_kind (instance m actuals) v = false

-- some member differs from the first
abbrev pub differs : Member → Member → Bool
differs m n = opposite (same_value (value_of_member m) (value_of_member n))

-- some member is another value than the first
abbrev pub members_differ : List Member → Bool
members_differ [] = false
members_differ (m ∷ ms) = list_any (differs m) ms

-- the type has two values or more
abbrev pub has_two_values : DeclaredTree → Bool
has_two_values boolean = true
has_two_values (range lo hi) = opposite (at_most hi lo)
has_two_values (members ms) = members_differ ms
has_two_values (instance m actuals) = false

-- the number is within 32 bits
abbrev pub is_small : ℤ → Bool
is_small n = at_most LEAST_NUMBER n && at_most n GREATEST_NUMBER

-- the distance, and both ends moved by it, are within 32 bits
abbrev pub offset_fits : ℤ → ℤ → ℤ → Bool
offset_fits d lo hi = is_small d && (is_small (lo +ℤ d) && is_small (hi +ℤ d))

-- the step is at least 1, it and both ends less the step are within 32 bits, and the floor is in the range
abbrev pub ramp_fits : ℤ → ℤ → ℤ → ℤ → Bool
ramp_fits d f lo hi = (at_most (pos 1) d && is_small d) && (is_between lo hi (number f) && (is_small (lo -ℤ d) && is_small (hi -ℤ d)))

-- the fault, where the test fails
abbrev pub fault_unless : Bool → EffectFault → Option EffectFault
fault_unless true fault = None
fault_unless false fault = Some fault

-- of a constant: whether it is of the kind, and whether it is one of the values
abbrev pub constant_fault : Bool → Bool → Option EffectFault
constant_fault false within = Some WrongKind
constant_fault true within = fault_unless within Outside

-- the first part of the demand that the type breaks
abbrev pub demand_fault : Demand → DeclaredTree → Option EffectFault
demand_fault no_demand type = None
demand_fault (one_of_its c) type = constant_fault (is_of_kind type c) (in_domain type c)
demand_fault truth_values boolean = None
demand_fault truth_values _ = Some WrongKind
demand_fault two_values type = fault_unless (has_two_values type) OneValueOnly
demand_fault (a_range passes) (range lo hi) = fault_unless (passes lo hi) Outside
demand_fault (a_range passes) _ = Some WrongKind
