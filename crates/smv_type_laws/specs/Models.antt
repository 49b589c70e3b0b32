-- The kinds of a model's variables and definitions, and the first rule that it breaks.
use Rattle.std.specs.Prelude.{◌≡◌, ◌⊎◌, ℕ, ◌<◌, ◌≤◌, nat_lt, Bool, true, false, ◌||◌, Option, Some, None, List, [], ◌∷◌, ◌++◌, map}
use Rattle.std.specs.Prelude.{flat_map, slice_get, if◌then◌else◌}
use Rattle.base_values.specs.declared.limits.TheConstants.{MOST_BITS, MOST_COST, MOST_TOP_COST}
use Rattle.smv_language.specs.Language.{Tree, Each, AtSome, FlatLeaf, flat_variable, flat_symbol, flat_definition, FlatVariable}
use Rattle.smv_language.specs.Language.{FlatFormula, FlatModel}
use Rattle.smv_type_laws.specs.ExpressionKinds.{Kind, truth_class, symbol_class, KindRule, not_boolean, too_large, number_of, Judged}
use Rattle.smv_type_laws.specs.ExpressionKinds.{unless_class, judge}
use Rattle.smv_type_laws.specs.DeclaredKinds.{judged_declared}
use Rattle.smv_type_laws.specs.Costs.{cost_of, model_cost, state_bits}

-- of what is not there, a kind without a number
abbrev pub kind_at : Option Judged → Kind
kind_at None = record { class = truth_class; interval = None }
kind_at (Some j) = j.kind

-- a name has the kind of what it names: a variable, a symbol, or a definition before it
abbrev pub leaf_kind : List Judged → List Judged → FlatLeaf → Kind
leaf_kind variables definitions (flat_variable i) = kind_at (slice_get variables i)
leaf_kind variables definitions (flat_symbol i) = record { class = symbol_class; interval = None }
leaf_kind variables definitions (flat_definition i) = kind_at (slice_get definitions i)

-- each variable by its declared type
abbrev pub judged_variables : List FlatVariable → List Judged
judged_variables xs = map (λ x. judged_declared x.declared) xs

-- definitions are judged in order, each over those before it, and none is a set
abbrev pub judged_after : List Judged → List Judged → List FlatFormula → List Judged
judged_after variables judged [] = judged
judged_after variables judged (d ∷ ds) = judged_after variables (judged ++ judge (leaf_kind variables judged) false d.value ∷ []) ds

-- the definitions of a model
abbrev pub judged_definitions : FlatModel → List Judged
judged_definitions m = judged_after (judged_variables m.variables) [] m.definitions

-- the kinds of a model's names
abbrev pub kind_of_leaf : FlatModel → FlatLeaf → Kind
kind_of_leaf m = leaf_kind (judged_variables m.variables) (judged_definitions m)

-- an expression of the model, where sets may stand or may not
abbrev pub judged_in : FlatModel → Bool → Tree FlatLeaf → Judged
judged_in m sets e = judge (kind_of_leaf m) sets e

-- a condition is TRUE or FALSE
abbrev pub broken_condition : Judged → List KindRule
broken_condition j = unless_class truth_class not_boolean j.kind ++ j.broken

-- a rule broken at an item of an instance
pub record Breach : Type 0 where
  pub number : ℕ
  pub item : ℕ
  pub rule : KindRule

-- each of these rules is broken at the item of the instance
abbrev pub breaches_at : ℕ → ℕ → List KindRule → List Breach
breaches_at number item rules = map (λ r. record { number = number; item = item; rule = r }) rules

-- what the variables break
abbrev pub variable_breaches : List FlatVariable → List Breach
variable_breaches xs = flat_map (λ x. breaches_at x.number x.item (judged_declared x.declared).broken) xs

-- what the definitions break, as they are judged
abbrev pub definition_breaches : List FlatFormula → List Judged → List Breach
definition_breaches (d ∷ ds) (j ∷ js) = breaches_at d.number d.item j.broken ++ definition_breaches ds js
definition_breaches _ _ = []

-- what these conditions break
abbrev pub condition_breaches : FlatModel → List FlatFormula → List Breach
condition_breaches m fs = flat_map (λ f. breaches_at f.number f.item (broken_condition (judged_in m false f.value))) fs

-- all that is broken in a model, in no order
abbrev pub breaches : FlatModel → List Breach
breaches m =
    variable_breaches m.variables
    ++ (definition_breaches m.definitions (judged_definitions m)
    ++ (condition_breaches m m.at_first ++ (condition_breaches m m.at_each ++ condition_breaches m m.at_step)))

-- by instances, then items, then numbers
abbrev pub IsNoLater : Breach → Breach → Type 0
IsNoLater a b =
    (a.number < b.number) ⊎ ((a.number ≡ b.number) × ((a.item < b.item) ⊎ ((a.item ≡ b.item) × (number_of a.rule ≤ number_of b.rule))))

-- The breach is one of these, and none comes before it.
pub record IsFirstBreach (all : List Breach) (first : Breach) : Type 0 where
  pub among : AtSome (λ b. b ≡ first) all
  pub earliest : Each (IsNoLater first) all

-- a cost above `MOST_COST`, or more state bits than `MOST_BITS`
abbrev pub is_too_large : FlatModel → Bool
is_too_large m = nat_lt MOST_COST (model_cost m) || nat_lt MOST_BITS (state_bits m)

-- The first rule that a model breaks, with its item; last of all comes its size, with item 0.
pub data IsFault (m : FlatModel) (rule : KindRule) (item : ℕ) : Type 0 where
  at_an_item : (first : Breach) → IsFirstBreach (breaches m) first → rule ≡ first.rule → item ≡ first.item → IsFault m rule item
  of_its_size : breaches m ≡ [] → is_too_large m ≡ true → rule ≡ too_large → item ≡ 0 → IsFault m rule item

-- no rule is broken
pub record IsTyped (m : FlatModel) : Type 0 where
  pub kept : breaches m ≡ []
  pub small : is_too_large m ≡ false

-- the one with the lower number
abbrev pub lesser : KindRule → KindRule → KindRule
lesser r q = if nat_lt (number_of q) (number_of r) then q else r

-- the least of a rule and, where there are, others
abbrev pub least_after : KindRule → Option KindRule → Option KindRule
least_after r None = Some r
least_after r (Some q) = Some (lesser r q)

-- the least of these, where there are any
abbrev pub least : List KindRule → Option KindRule
least [] = None
least (r ∷ rs) = least_after r (least rs)

-- the rule for which a value is refused; it may be no set
abbrev pub value_fault : FlatModel → Tree FlatLeaf → Option KindRule
value_fault m e = least (judged_in m false e).broken

-- the rule of sizes, where it is broken
abbrev pub size_fault : Bool → Option KindRule
size_fault true = Some too_large
size_fault false = None

-- the rule for which a condition apart from the model is refused; its size comes last
abbrev pub top_fault : FlatModel → Tree FlatLeaf → Option KindRule
top_fault m e =
    elim (least (broken_condition (judged_in m false e))) [ Some r ↦ Some r | None ↦ size_fault (nat_lt MOST_TOP_COST (cost_of e)) ]
