-- The members of a declared type, one after the other, and the values of its domain.
use Rattle.std.specs.Prelude.{◌≡◌, ◌↔◌, ℕ, ℤ, Bool, true, false, not, IsTrue, Option, Some, None, List, [], ◌∷◌, map, slice_get}
use Rattle.std.specs.Prelude.{if◌then◌else◌}
use Rattle.smv_language.specs.declared.program.Member.{Member}
use Rattle.smv_language.specs.declared.program.Member.TheVariants as member
use Rattle.smv_language.specs.Language.{Text, DeclaredTree, boolean, range, members, instance, declared_tree, IsType, in_domain}
use Rattle.smv_language.specs.Values as told
use Rattle.base_values.specs.declared.domain.Domain.{Domain}
use Rattle.base_values.specs.declared.domain.Domain.TheVariants as domain
use Rattle.base_values.specs.declared.value.Value.{Value}
use Rattle.base_values.specs.declared.value.Value.TheVariants as value
use Rattle.base_values.specs.Domains.{Has}
use Rattle.smv_language.specs.declared.model.Variable.{Variable}
use Rattle.smv_language.specs.declared.model.FlatModel.{FlatModel}
use Rattle.smv_type_laws.specs.Intervals.{Interval, just, hull}
use Rattle.smv_type_laws.specs.ExpressionKinds as found
use Rattle.smv_type_laws.specs.ExpressionKinds.{number_class, symbol_class, wide}
use Rattle.smv_type_laws.specs.Costs.{symbol_number}
use Rattle.smv_types.specs.Rows.{lower, unless, one_value}
use Rattle.smv_types.specs.declared.fault.TypeRule.{TypeRule}
use Rattle.smv_types.specs.declared.fault.TypeRule.TheVariants.{MixedEnum, DoubleMember}
use Rattle.smv_types.specs.declared.sort.Class.TheVariants.{Truth}
use Rattle.smv_types.specs.declared.sort.JudgedExpr.{JudgedExpr}
use Rattle.smv_types.specs.declared.several.Several.{Several}

-- a member alone
abbrev pub member_judged : Member → found.Judged
member_judged (member.Number n) = found.one_value (wide (Some (just n))) number_class (Some (just n)) []
member_judged (member.Symbol x) = found.one_value [] symbol_class None []

-- of each
abbrev pub members_judged : List Member → List found.Judged
members_judged ms = map member_judged ms

-- members of several classes break a rule of their own
abbrev pub mixed : Option TypeRule → Option TypeRule
mixed None = None
mixed (Some r) = Some MixedEnum

-- a type of these members, some of which may be double
abbrev pub row_type : Option Several → Bool → JudgedExpr
row_type None double = one_value None Truth None None
row_type (Some s) double =
    one_value (lower (mixed s.own) (lower (unless (not double) DoubleMember) s.parts)) s.sort.class s.sort.interval None

-- the least interval around a number and those before it
abbrev pub widened : Option Interval → ℤ → Interval
widened None n = just n
widened (Some i) n = hull i (just n)

-- around all of these and those before
abbrev pub spread : Option Interval → List ℤ → Option Interval
spread i [] = i
spread i (n ∷ ns) = spread (Some (widened i n)) ns

-- the numbers of a list of members
abbrev pub numbers_in : List Member → List ℤ
numbers_in [] = []
numbers_in (member.Number n ∷ ms) = n ∷ numbers_in ms
numbers_in (member.Symbol x ∷ ms) = numbers_in ms

-- the numbers of its symbols
abbrev pub symbols_in : List Text → List Member → List ℕ
symbols_in symbols [] = []
symbols_in symbols (member.Number n ∷ ms) = symbols_in symbols ms
symbols_in symbols (member.Symbol x ∷ ms) = symbol_number symbols x ∷ symbols_in symbols ms

-- the first member is a number
abbrev pub begins_with_number : List Member → Bool
begins_with_number (member.Number n ∷ ms) = true
begins_with_number _ = false

-- the domain of a type that lists its values, by the first of them
abbrev pub members_domain : List Text → List Member → Domain
members_domain symbols ms = if begins_with_number ms then domain.Numbers (numbers_in ms) else domain.Symbols (symbols_in symbols ms)

-- the domain of a declared type
abbrev pub domain_of : List Text → DeclaredTree → Domain
domain_of symbols boolean = domain.Boolean
domain_of symbols (range lo hi) = domain.Range lo hi
domain_of symbols (members ms) = members_domain symbols ms
domain_of symbols (instance m actuals) = domain.Boolean

-- the domain of a variable
abbrev pub variable_domain : List Text → Variable → Domain
variable_domain symbols v = domain_of symbols (declared_tree v.declared)

-- A value stands for one of the definitions: a symbol by its number.
abbrev pub StandsFor : List Text → Value → told.Value → Type 0
StandsFor symbols (value.Bool b) (told.truth c) = b ≡ c
StandsFor symbols (value.Num n) (told.number k) = n ≡ k
StandsFor symbols (value.Sym i) (told.symbol x) = (slice_get symbols i ≡ Some x) × (symbol_number symbols x ≡ i)
StandsFor symbols _ _ = ⊥

-- A domain has the values of a type that is no instance, a symbol by its number.
abbrev pub HasValuesOf : List Text → DeclaredTree → Domain → Type 0
HasValuesOf symbols d domain = IsType d → (v : Value) (w : told.Value) → StandsFor symbols v w → (Has domain v ↔ IsTrue (in_domain d w))

-- the domain has the values of the model's variable of this number
abbrev pub AreValuesOf : FlatModel → ℕ → Domain → Type 0
AreValuesOf m i domain = (x : Variable) → slice_get m.variables i ≡ Some x → HasValuesOf m.symbols (declared_tree x.declared) domain
