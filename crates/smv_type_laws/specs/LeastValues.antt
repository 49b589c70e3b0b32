-- The least value of a declared type, and valuations that take their inputs from another.
use Rattle.std.specs.Prelude.{◌≡◌, ◌<◌, nat_lt, int_lt, Bool, false, IsTrue, List, [], ◌∷◌, length, map, if◌then◌else◌}
use Rattle.smv_language.specs.declared.program.Member.{Member}
use Rattle.smv_language.specs.declared.program.Member.TheVariants as member
use Rattle.smv_language.specs.Language.{Text, DeclaredTree, boolean, range, members, instance, Value, at_most, Role, state, input}
use Rattle.smv_language.specs.Language.{frozen_role, Each, value_of_member, FlatVariable, FlatModel}
use Rattle.smv_language.specs.Values.{truth, number}
use Rattle.smv_flat_laws.specs.FlatTrace.{AreInDomains}
use Rattle.smv_type_laws.specs.Costs.{symbol_number}

-- the second member is less: a smaller number, or the symbol with the smaller number
abbrev pub is_less : List Text → Member → Member → Bool
is_less symbols (member.Number n) (member.Number k) = int_lt k n
is_less symbols (member.Symbol x) (member.Symbol y) = nat_lt (symbol_number symbols y) (symbol_number symbols x)
is_less symbols _ _ = false

-- the least of a member and others
abbrev pub least_member : List Text → Member → List Member → Member
least_member symbols m [] = m
least_member symbols m (k ∷ ks) = if is_less symbols m k then least_member symbols k ks else least_member symbols m ks

-- the least of listed members
abbrev pub least_of_members : List Text → List Member → Value
least_of_members symbols [] = truth false
least_of_members symbols (m ∷ ms) = value_of_member (least_member symbols m ms)

-- FALSE, the least number, or the symbol with the least number
abbrev pub least_value : List Text → DeclaredTree → Value
least_value symbols boolean = truth false
least_value symbols (range lo hi) = number lo
least_value symbols (members ms) = least_of_members symbols ms
least_value symbols (instance m actuals) = truth false

-- the type has values
abbrev pub HasValues : DeclaredTree → Type 0
HasValues boolean = Unit {0}
HasValues (range lo hi) = IsTrue (at_most lo hi)
HasValues (members ms) = 0 < length ms
HasValues (instance m actuals) = ⊥

-- each variable has its least value
abbrev pub least_values : List Text → List FlatVariable → List Value
least_values symbols xs = map (λ x. least_value symbols x.declared) xs

-- an input takes the second value, and others keep the first
abbrev pub by_role : Role → Value → Value → Value
by_role state a b = a
by_role frozen_role a b = a
by_role input a b = b

-- the one valuation with the inputs of the other
abbrev pub with_inputs : List FlatVariable → List Value → List Value → List Value
with_inputs (x ∷ xs) (a ∷ v) (b ∷ w) = by_role x.role a b ∷ with_inputs xs v w
with_inputs _ _ _ = []

-- the least values lie in their types
abbrev pub LeastValuesLie : Type 0
LeastValuesLie = (symbols : List Text) (xs : List FlatVariable) → Each (λ x. HasValues x.declared) xs →
    AreInDomains xs (least_values symbols xs)

-- with the inputs of another valuation, a valuation lies in its types
abbrev pub MixedValuesLie : Type 0
MixedValuesLie = (xs : List FlatVariable) (v w : List Value) → AreInDomains xs v → AreInDomains xs w → AreInDomains xs (with_inputs xs v w)

-- The bits of the state are those of state and frozen variables alone, and those of the inputs of input variables alone.
pub record AreByRole (m : FlatModel) (state_of inputs_of : List Value → List Bool) : Type 0 where
  pub state : (v w : List Value) → AreInDomains m.variables v → AreInDomains m.variables w →
      state_of (with_inputs m.variables v w) ≡ state_of v
  pub inputs : (v w : List Value) → AreInDomains m.variables v → AreInDomains m.variables w →
      inputs_of (with_inputs m.variables v w) ≡ inputs_of w

-- A state of some valuation is also that of one with the least inputs.
abbrev pub LeastInputsServe : Type 0
LeastInputsServe =
    (m : FlatModel) (state_of inputs_of : List Value → List Bool) → AreByRole m state_of inputs_of →
    Each (λ x. HasValues x.declared) m.variables → (v : List Value) → AreInDomains m.variables v →
    AreInDomains m.variables (with_inputs m.variables v (least_values m.symbols m.variables))
    × (state_of (with_inputs m.variables v (least_values m.symbols m.variables)) ≡ state_of v)
