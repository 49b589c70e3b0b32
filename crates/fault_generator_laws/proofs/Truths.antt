-- A model of truth values breaks no rule of kinds: its variables are boolean, no name in it is a symbol's, and what is written in it is
-- made of names, TRUE, `!` and `&`.
use Rattle.std.proofs.Common.{◌≡◌, ℕ, zero, suc, ◌*◌, ◌≤◌, arith, Bool, true, false, List, [], ◌∷◌, ◌++◌, length, Option, Some, None, refl, sym, ◌∙◌, ap, subst, le-ltb, sum_by, suc-mul}
use Rattle.std.specs.Prelude.{slice_get}
use Rattle.std.proofs.lemmas.List.Sums.{sum_by-cons}
use Rattle.base_values.specs.declared.limits.TheConstants.{MOST_INSTANCES, MOST_BITS, MOST_COST}
use Rattle.smv_language.specs.declared.expr.Op.{Op}
use Rattle.smv_language.specs.declared.expr.Op.TheVariants as op
use Rattle.smv_language.specs.Language.{Tree, leaf, not_of, binary, Text, Path, Formula, DeclaredTree, boolean, Role, state, input, frozen_role, Each, FlatLeaf, flat_variable, flat_symbol, flat_definition, FlatVariable, FlatFormula, FlatModel}
use Rattle.smv_language.specs.Tree.{truth}
use Rattle.smv_flat_laws.specs.NameResolution.{IsResolved}
use Rattle.smv_flat_laws.proofs.Lists.{each_more}
use Rattle.smv_type_laws.specs.ExpressionKinds.{Kind, truth_class, Judged, judged_not, judged_connective, judged_same, judge}
use Rattle.smv_type_laws.specs.DeclaredKinds.{judged_declared}
use Rattle.smv_type_laws.specs.Models.{kind_at, leaf_kind, judged_variables, judged_after, judged_definitions, kind_of_leaf, judged_in, broken_condition, variable_breaches, definition_breaches, condition_breaches, breaches, IsTyped}
use Rattle.smv_type_laws.specs.Costs.{cost_of, declared_cost, formulas_cost, model_cost, role_width, declared_width, state_bits}
use Rattle.smv_type_laws.proofs.Mapped.{judge_mapped, cost_mapped}

abbrev pub IsAnd : Op → Type 0
IsAnd op.And = Unit {0}
IsAnd _ = ⊥

-- names, TRUE and FALSE, joined by `!` and `&`
abbrev pub IsLogic : Formula → Type 0
IsLogic (truth b) = Unit {0}
IsLogic (leaf name) = Unit {0}
IsLogic (not_of a) = IsLogic a
IsLogic (binary o a b) = IsAnd o × IsLogic a × IsLogic b
IsLogic _ = ⊥

-- a truth value that breaks no rule
pub record IsTruth (j : Judged) : Type 0 where
  pub class : j.kind.class ≡ truth_class
  pub kept : j.broken ≡ []

not_kept : (a : Judged) → IsTruth a → IsTruth (judged_not a)
not_kept a h = record { class = refl; kept = rw (h.class, h.kept) refl }

connective_kept : (a b : Judged) → IsTruth a → IsTruth b → IsTruth (judged_connective a b)
connective_kept a b h k = record { class = refl; kept = rw (h.class, k.class, h.kept, k.kept) refl }

same_kept : (a b : Judged) → IsTruth a → IsTruth b → broken_condition (judged_same a b) ≡ []
same_kept a b h k = rw (h.class, k.class, h.kept, k.kept) refl

logic_judged : (k : Path → Kind) → ((name : Path) → (k name).class ≡ truth_class) → (sets : Bool) (e : Formula) → IsLogic e → IsTruth (judge k sets e)
logic_judged k all sets (truth b) h = record { class = refl; kept = refl }
logic_judged k all sets (leaf name) h = record { class = all name; kept = refl }
logic_judged k all sets (not_of a) h = not_kept (judge k false a) (logic_judged k all false a h)
logic_judged k all sets (binary op.And a b) h = connective_kept (judge k false a) (judge k false b) (logic_judged k all false a h.1) (logic_judged k all false b h.2)
logic_judged k all sets (binary o a b) h = absurd h.0
logic_judged k all sets e h = absurd h

-- A resolved expression has the kind of the written one.
abbrev kind_or : (FlatLeaf → Kind) → Option FlatLeaf → Kind
kind_or k None = record { class = truth_class; interval = None }
kind_or k (Some l) = k l

-- no symbol
abbrev pub IsNoSymbol : FlatLeaf → Type 0
IsNoSymbol (flat_symbol i) = ⊥
IsNoSymbol (flat_variable i) = Unit {0}
IsNoSymbol (flat_definition i) = Unit {0}

-- a written expression with its names resolved, none to a symbol
pub record IsLogical (flat : Tree FlatLeaf) : Type 0 where
  pub resolver : Path → Option FlatLeaf
  pub sound : (name : Path) (l : FlatLeaf) → resolver name ≡ Some l → IsNoSymbol l
  pub written : Formula
  pub logic : IsLogic written
  pub cheap : cost_of written ≤ 5
  pub resolved : IsResolved resolver written flat

logical_judged : (k : FlatLeaf → Kind) → ((l : FlatLeaf) → IsNoSymbol l → (k l).class ≡ truth_class) → (sets : Bool) (flat : Tree FlatLeaf) → IsLogical flat → IsTruth (judge k sets flat)
logical_judged k all sets flat is = subst IsTruth (sym same) (logic_judged (λ name. kind_or k (is.resolver name)) (λ name. by_leaf name (is.resolver name) refl) sets is.written is.logic)
  where
    same : judge k sets flat ≡ judge (λ name. kind_or k (is.resolver name)) sets is.written
    same = sym (judge_mapped Some (kind_or k) sets flat) ∙ ap (judge (kind_or k) sets) is.resolved ∙ judge_mapped is.resolver (kind_or k) sets is.written

    by_leaf : (name : Path) (o : Option FlatLeaf) → is.resolver name ≡ o → (kind_or k o).class ≡ truth_class
    by_leaf name None e = refl
    by_leaf name (Some l) e = all l (is.sound name l e)

pub logical_cost : (flat : Tree FlatLeaf) → IsLogical flat → cost_of flat ≤ 5
logical_cost flat is = subst (λ n. n ≤ 5) (sym (sym (cost_mapped Some flat) ∙ ap cost_of is.resolved ∙ cost_mapped is.resolver is.written)) is.cheap

-- Kinds of names.
truth_at : (js : List Judged) → Each IsTruth js → (i : ℕ) → (kind_at (slice_get js i)).class ≡ truth_class
truth_at [] h i = refl
truth_at (j ∷ js) h zero = h.0.class
truth_at (j ∷ js) h (suc i) = truth_at js h.1 i

leaf_truth : (vs js : List Judged) → Each IsTruth vs → Each IsTruth js → (l : FlatLeaf) → IsNoSymbol l → (leaf_kind vs js l).class ≡ truth_class
leaf_truth vs js h k (flat_variable i) n = truth_at vs h i
leaf_truth vs js h k (flat_symbol i) n = absurd n
leaf_truth vs js h k (flat_definition i) n = truth_at js k i

abbrev pub IsBoolean : FlatVariable → Type 0
IsBoolean x = x.declared ≡ boolean

abbrev pub IsDefined : FlatFormula → Type 0
IsDefined f = IsLogical f.value

-- a variable has the value of an expression
pub record IsComparison (f : FlatFormula) : Type 0 where
  pub variable : ℕ
  pub value : Tree FlatLeaf
  pub is : f.value ≡ binary op.Within (leaf (flat_variable variable)) value
  pub logical : IsLogical value

declared_truth : (type : DeclaredTree) → type ≡ boolean → IsTruth (judged_declared type)
declared_truth type e = subst (λ t. IsTruth (judged_declared t)) (sym e) (record { class = refl; kept = refl })

variables_truth : (xs : List FlatVariable) → Each IsBoolean xs → Each IsTruth (judged_variables xs)
variables_truth [] h = tt
variables_truth (x ∷ xs) h = (declared_truth x.declared h.0, variables_truth xs h.1)

each_push : (js : List Judged) (j : Judged) → Each IsTruth js → IsTruth j → Each IsTruth (js ++ j ∷ [])
each_push [] j h k = (k, tt)
each_push (i ∷ js) j h k = (h.0, each_push js j h.1 k)

after_truth : (vs js : List Judged) (ds : List FlatFormula) → Each IsTruth vs → Each IsTruth js → Each IsDefined ds → Each IsTruth (judged_after vs js ds)
after_truth vs js [] h k g = k
after_truth vs js (d ∷ ds) h k g =
    after_truth vs (js ++ judge (leaf_kind vs js) false d.value ∷ []) ds h (each_push js (judge (leaf_kind vs js) false d.value) k (logical_judged (leaf_kind vs js) (leaf_truth vs js h k) false d.value g.0)) g.1

-- What is broken: nothing.
no_variable_breach : (xs : List FlatVariable) → Each IsBoolean xs → variable_breaches xs ≡ []
no_variable_breach [] h = refl
no_variable_breach (x ∷ xs) h = rw (h.0, no_variable_breach xs h.1) refl

no_definition_breach : (ds : List FlatFormula) (js : List Judged) → Each IsTruth js → definition_breaches ds js ≡ []
no_definition_breach [] js h = refl
no_definition_breach (d ∷ ds) [] h = refl
no_definition_breach (d ∷ ds) (j ∷ js) h = rw (h.0.kept, no_definition_breach ds js h.1) refl

-- Sizes.
pub sum_most : {A : Type 0} (g : A → ℕ) (n : ℕ) (xs : List A) → Each (λ x. g x ≤ n) xs → sum_by g xs ≤ length xs * n
sum_most g n [] h = omega arith
sum_most g n (x ∷ xs) h = omega (arith, sum_by-cons g x xs, h.0, sum_most g n xs h.1, suc-mul (length xs) n)

comparison_cost : (f : FlatFormula) → IsComparison f → cost_of f.value ≤ 7
comparison_cost f is = subst (λ n. n ≤ 7) (sym (ap cost_of is.is)) (omega (arith, logical_cost is.value is.logical))

no_cost : (x : FlatVariable) → IsBoolean x → declared_cost x.declared ≤ 0
no_cost x h = omega (arith, ap declared_cost h)

one_bit : (symbols : List Text) (x : FlatVariable) → IsBoolean x → role_width x.role (declared_width symbols x.declared) ≤ 1
one_bit symbols x h = by_role x.role (declared_width symbols x.declared) (ap (declared_width symbols) h)
  where
    by_role : (r : Role) (n : ℕ) → n ≡ 1 → role_width r n ≤ 1
    by_role state n e = omega (arith, e)
    by_role frozen_role n e = omega (arith, e)
    by_role input n e = omega arith

variables_cost : (xs : List FlatVariable) → Each IsBoolean xs → sum_by (λ (x : FlatVariable). declared_cost x.declared) xs ≤ 0
variables_cost xs h =
    omega (arith, sum_most (λ (x : FlatVariable). declared_cost x.declared) 0 xs (each_more IsBoolean (λ (x : FlatVariable). declared_cost x.declared ≤ 0) xs no_cost h))

definitions_cost : (fs : List FlatFormula) → Each IsDefined fs → formulas_cost fs ≤ length fs * 5
definitions_cost fs h = sum_most (λ (f : FlatFormula). cost_of f.value) 5 fs (each_more IsDefined (λ (f : FlatFormula). cost_of f.value ≤ 5) fs (λ f. logical_cost f.value) h)

comparisons_cost : (fs : List FlatFormula) → Each IsComparison fs → formulas_cost fs ≤ length fs * 7
comparisons_cost fs h = sum_most (λ (f : FlatFormula). cost_of f.value) 7 fs (each_more IsComparison (λ (f : FlatFormula). cost_of f.value ≤ 7) fs comparison_cost h)

few_bits : (symbols : List Text) (xs : List FlatVariable) → Each IsBoolean xs → sum_by (λ (x : FlatVariable). role_width x.role (declared_width symbols x.declared)) xs ≤ length xs * 1
few_bits symbols xs h =
    sum_most (λ (x : FlatVariable). role_width x.role (declared_width symbols x.declared)) 1 xs
    (each_more IsBoolean (λ (x : FlatVariable). role_width x.role (declared_width symbols x.declared) ≤ 1) xs (one_bit symbols) h)

-- a model of truth values, with no more variables, conditions, and definitions than instances
pub record IsOfTruths (m : FlatModel) : Type 0 where
  pub booleans : Each IsBoolean m.variables
  pub defined : Each IsDefined m.definitions
  pub at_first : m.at_first ≡ []
  pub at_each : Each IsComparison m.at_each
  pub at_step : m.at_step ≡ []
  pub variables : length m.variables ≤ MOST_INSTANCES
  pub definitions : length m.definitions ≤ MOST_INSTANCES
  pub conditions : length m.at_each ≤ MOST_INSTANCES

module _ (m : FlatModel) (is : IsOfTruths m) where
  vs_truth : Each IsTruth (judged_variables m.variables)
  vs_truth = variables_truth m.variables is.booleans

  js_truth : Each IsTruth (judged_definitions m)
  js_truth = after_truth (judged_variables m.variables) [] m.definitions vs_truth tt is.defined

  pub names_are_truths : (l : FlatLeaf) → IsNoSymbol l → (kind_of_leaf m l).class ≡ truth_class
  names_are_truths l n = leaf_truth (judged_variables m.variables) (judged_definitions m) vs_truth js_truth l n

  pub logical_kept : (flat : Tree FlatLeaf) → IsLogical flat → IsTruth (judged_in m false flat)
  logical_kept flat h = logical_judged (kind_of_leaf m) names_are_truths false flat h

  comparison_kept : (f : FlatFormula) → IsComparison f → broken_condition (judged_in m false f.value) ≡ []
  comparison_kept f c =
      ap (λ (t : Tree FlatLeaf). broken_condition (judged_in m false t)) c.is
      ∙ same_kept (judge (kind_of_leaf m) false (leaf (flat_variable c.variable))) (judge (kind_of_leaf m) true c.value)
      (record { class = names_are_truths (flat_variable c.variable) tt; kept = refl }) (logical_judged (kind_of_leaf m) names_are_truths true c.value c.logical)

  no_condition_breach : (fs : List FlatFormula) → Each IsComparison fs → condition_breaches m fs ≡ []
  no_condition_breach [] h = refl
  no_condition_breach (f ∷ fs) h = rw (comparison_kept f h.0, no_condition_breach fs h.1) refl

  no_breach : breaches m ≡ []
  no_breach =
      rw (no_variable_breach m.variables is.booleans, no_definition_breach m.definitions (judged_definitions m) js_truth, is.at_first, no_condition_breach m.at_each is.at_each, is.at_step) refl

  cost_is : model_cost m ≤ MOST_COST
  cost_is = omega (
    arith,
    variables_cost m.variables is.booleans,
    definitions_cost m.definitions is.defined,
    ap formulas_cost is.at_first,
    comparisons_cost m.at_each is.at_each,
    ap formulas_cost is.at_step,
    is.definitions,
    is.conditions,
  )

  bits_are : state_bits m ≤ MOST_BITS
  bits_are = omega (arith, few_bits m.symbols m.variables is.booleans, is.variables)

  pub truths_typed : IsTyped m
  truths_typed = record { kept = no_breach; small = rw (le-ltb MOST_COST (model_cost m) cost_is, le-ltb MOST_BITS (state_bits m) bits_are) refl }
