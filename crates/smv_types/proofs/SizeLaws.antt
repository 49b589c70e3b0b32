-- What is left of the costs of a list, one element on, and the costs and bits of a model.
use Rattle.std.proofs.Common.{◌≡◌, ℕ, ◌+◌, ◌<◌, ◌≤◌, min, Bool, true, false, nat_lt, List, [], ◌∷◌, length, get_or, drop, ap, sym, ◌∙◌, refl, arith}
use Rattle.std.proofs.lemmas.Bool.{ltb-true, ltb-false}
use Rattle.std.specs.Prelude.{map, sum_by}
use Rattle.std.proofs.lemmas.List.{drop_more}
use Rattle.std.proofs.lemmas.List.Sums.{sum_by-cons}
use Rattle.base_values.specs.declared.limits.TheConstants.{MOST_COST}
use Rattle.smv_language.specs.Language.{Text, tree_of, FlatFormula, FlatVariable, leaf_of, formula_tree, variable_tree, model_tree}
use Rattle.smv_language.specs.declared.model.Formula.{Formula}
use Rattle.smv_language.specs.declared.model.Variable.{Variable}
use Rattle.smv_language.specs.declared.model.FlatModel.{FlatModel}
use Rattle.smv_type_laws.specs.Costs.{cost_of, declared_cost, model_cost, formulas_cost as cost_of_formulas}
use Rattle.smv_type_laws.proofs.Mapped.{cost_mapped}
use Rattle.smv_types.specs.Sizes.{formula_cost, formulas_cost, variable_cost, variables_cost, variable_bits, variables_bits}

pub formulas_cost_more : (fs : List Formula) (i : ℕ) (d : Formula) → i < length fs → formulas_cost (drop i fs) ≡ formula_cost (get_or fs i d) + formulas_cost (drop (i + 1) fs)
formulas_cost_more fs i d h = ap formulas_cost (drop_more fs i d h) ∙ sum_by-cons formula_cost (get_or fs i d) (drop (i + 1) fs)

pub variables_cost_more : (vs : List Variable) (i : ℕ) (d : Variable) → i < length vs → variables_cost (drop i vs) ≡ variable_cost (get_or vs i d) + variables_cost (drop (i + 1) vs)
variables_cost_more vs i d h = ap variables_cost (drop_more vs i d h) ∙ sum_by-cons variable_cost (get_or vs i d) (drop (i + 1) vs)

pub variables_bits_more : (symbols : List Text) (vs : List Variable) (i : ℕ) (d : Variable) → i < length vs →
    variables_bits symbols (drop i vs) ≡ variable_bits symbols (get_or vs i d) + variables_bits symbols (drop (i + 1) vs)
variables_bits_more symbols vs i d h = ap (variables_bits symbols) (drop_more vs i d h) ∙ sum_by-cons (variable_bits symbols) (get_or vs i d) (drop (i + 1) vs)

formulas_same : (fs : List Formula) → cost_of_formulas (map formula_tree fs) ≡ formulas_cost fs
formulas_same [] = refl
formulas_same (f ∷ fs) =
    sum_by-cons (λ (x : FlatFormula). cost_of x.value) (formula_tree f) (map formula_tree fs) ∙ ap (λ n. n + cost_of_formulas (map formula_tree fs)) (cost_mapped leaf_of (tree_of f.value))
    ∙ ap (λ n. formula_cost f + n) (formulas_same fs) ∙ sym (sum_by-cons formula_cost f fs)

variables_same : (vs : List Variable) → sum_by (λ (x : FlatVariable). declared_cost x.declared) (map variable_tree vs) ≡ variables_cost vs
variables_same [] = refl
variables_same (v ∷ vs) =
    sum_by-cons (λ (x : FlatVariable). declared_cost x.declared) (variable_tree v) (map variable_tree vs) ∙ ap (λ n. variable_cost v + n) (variables_same vs) ∙ sym (sum_by-cons variable_cost v vs)

-- the cost of a model, by the parts of its code
pub whole_cost : (m : FlatModel) →
    model_cost (model_tree m) ≡ variables_cost m.variables + formulas_cost m.definitions + formulas_cost m.init + formulas_cost m.invar + formulas_cost m.trans
whole_cost m =
    omega (arith, variables_same m.variables, formulas_same m.definitions, formulas_same m.init, formulas_same m.invar, formulas_same m.trans)

-- a number above the limit of costs counts as one more than it
pub below_cap : (limit n : ℕ) → limit ≤ MOST_COST → nat_lt limit (min n (MOST_COST + 1)) ≡ nat_lt limit n
below_cap limit n h = by (nat_lt limit (min n (MOST_COST + 1))) (nat_lt limit n) refl refl
  where
    by : (a b : Bool) → nat_lt limit (min n (MOST_COST + 1)) ≡ a → nat_lt limit n ≡ b → a ≡ b
    by true true e f = refl
    by false false e f = refl
    by true false e f = absurd (omega (arith, ltb-true _ _ e, ltb-false _ _ f))
    by false true e f = absurd (omega (arith, ltb-false _ _ e, ltb-true _ _ f))
