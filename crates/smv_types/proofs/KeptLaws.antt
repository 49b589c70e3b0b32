-- Over the kinds that are kept, expressions are judged as the model says.
use Rattle.std.proofs.Common.{◌≡◌, ℕ, zero, suc, Bool, false, List, [], ◌∷◌, ◌++◌, refl, sym, ap, ◌∙◌}
use Rattle.std.specs.Prelude.{slice_get, map}
use Rattle.smv_language.specs.declared.expr.Expr.{Expr}
use Rattle.smv_language.specs.Language.{tree_of, FlatModel, leaf_of, flat_tree, formula_tree}
use Rattle.smv_language.specs.declared.model.Flat.{Flat}
use Rattle.smv_language.specs.declared.model.Flat.TheVariants as flat
use Rattle.smv_language.specs.declared.model.Formula.{Formula}
use Rattle.smv_type_laws.specs.ExpressionKinds.{Class, truth_class, number_class, symbol_class, Kind, Judged, judge}
use Rattle.smv_type_laws.specs.Models.{kind_at, leaf_kind, judged_in, broken_condition, breaches_at, condition_breaches}
use Rattle.smv_type_laws.proofs.Mapped.{judge_mapped}
use Rattle.smv_types.specs.Answers.{told_class, told_sort, seen_class, seen_sort}
use Rattle.smv_types.specs.Names.{sort_at, name_kind}
use Rattle.smv_types.specs.KeptKinds.{kept_sorts, AreKept, AreKindsOf, formula_breaches}
use Rattle.smv_types.specs.declared.judge.Sorts.{Sorts}

told_again : (c : Class) → seen_class (told_class c) ≡ c
told_again truth_class = refl
told_again number_class = refl
told_again symbol_class = refl

same_kind : (k : Kind) → seen_sort (told_sort k) ≡ k
same_kind k = ap (λ (c : Class). record { class = c; interval = k.interval }) (told_again k.class)

at_place : (js : List Judged) (i : ℕ) → seen_sort (sort_at (slice_get (kept_sorts js) i)) ≡ kind_at (slice_get js i)
at_place [] i = refl
at_place (j ∷ js) zero = same_kind j.kind
at_place (j ∷ js) (suc i) = at_place js i

name_law : {variables definitions : List Judged} {s : Sorts} → AreKept variables definitions s → (l : Flat) → name_kind s l ≡ leaf_kind variables definitions (leaf_of l)
name_law {variables = variables} kept (flat.Var i) = ap (λ xs. seen_sort (sort_at (slice_get xs i))) kept.of_variables ∙ at_place variables i
name_law {definitions = definitions} kept (flat.Definition i) = ap (λ xs. seen_sort (sort_at (slice_get xs i))) kept.of_definitions ∙ at_place definitions i
name_law kept (flat.Symbol i) = refl

-- an expression over kept kinds
pub judged_kept : {variables definitions : List Judged} {s : Sorts} → AreKept variables definitions s → (sets : Bool) (e : Expr Flat) →
    judge (name_kind s) sets (tree_of e) ≡ judge (leaf_kind variables definitions) sets (flat_tree e)
judged_kept {variables = variables} {definitions = definitions} {s = s} kept sets e =
    let same : name_kind s ≡ (λ l. leaf_kind variables definitions (leaf_of l)) = (λ j l. name_law kept l j) in
    ap (λ k. judge k sets (tree_of e)) same ∙ sym (judge_mapped leaf_of (leaf_kind variables definitions) sets (tree_of e))

-- and one of a model
pub judged_as_in : (m : FlatModel) {s : Sorts} → AreKindsOf m s → (sets : Bool) (e : Expr Flat) → judge (name_kind s) sets (tree_of e) ≡ judged_in m sets (flat_tree e)
judged_as_in m kept sets e = judged_kept kept sets e

-- conditions over kept kinds
pub formulas_kept : (m : FlatModel) {s : Sorts} → AreKindsOf m s → (fs : List Formula) → formula_breaches (name_kind s) fs ≡ condition_breaches m (map formula_tree fs)
formulas_kept m kept [] = refl
formulas_kept m {s = s} kept (f ∷ fs) =
    ap (λ j. breaches_at f.«instance» f.item (broken_condition j) ++ formula_breaches (name_kind s) fs) (judged_as_in m kept false f.value)
    ∙ ap (λ bs. breaches_at f.«instance» f.item (broken_condition (judged_in m false (flat_tree f.value))) ++ bs) (formulas_kept m kept fs)
