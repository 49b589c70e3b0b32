-- One variable, definition or condition more.
use Rattle.std.proofs.Common.{◌≡◌, ℕ, suc, ◌+◌, ◌<◌, false, List, [], ◌∷◌, ◌++◌, length, take, get_or, Option, refl, sym, ap, ◌∙◌, subst, append_assoc, arith}
use Rattle.std.specs.Prelude.{map}
use Rattle.std.proofs.lemmas.List.{take_more, append-nil}
use Rattle.smv_language.specs.Language.{declared_tree, tree_of, FlatFormula, variable_tree, formula_tree, flat_tree, model_tree}
use Rattle.smv_language.specs.declared.model.FlatModel.{FlatModel as AModel}
use Rattle.smv_language.specs.declared.model.Formula.{Formula}
use Rattle.smv_language.specs.declared.model.Variable.{Variable}
use Rattle.smv_type_laws.specs.ExpressionKinds.{Kind, Judged, judge}
use Rattle.smv_type_laws.specs.DeclaredKinds.{judged_declared}
use Rattle.smv_type_laws.specs.FirstBreach.{first_of}
use Rattle.smv_type_laws.specs.Models.{leaf_kind, judged_variables, judged_after, broken_condition, Breach, breaches_at, variable_breaches, definition_breaches, condition_breaches, breaches, judged_definitions}
use Rattle.smv_language.specs.declared.model.Flat.{Flat}
use Rattle.smv_types.specs.Answers.{told, told_rules}
use Rattle.smv_types.specs.Names.{name_kind}
use Rattle.smv_types.specs.Rows.{lower, class_rule}
use Rattle.smv_types.specs.Sites.{told_first_site, earlier_site, site_at}
use Rattle.smv_types.specs.KeptKinds.{kept_sort, kept_sorts, AreKindsOf, formula_breaches}
use Rattle.smv_types.specs.Parts.{AreDefined}
use Rattle.smv_types.specs.declared.definitions.JudgedDefinitions.{JudgedDefinitions}
use Rattle.smv_types.specs.declared.judge.Sorts.{Sorts}
use Rattle.smv_types.specs.declared.sort.JudgedExpr.{JudgedExpr as AJudged}
use Rattle.smv_types.specs.declared.sort.Class.TheVariants.{Truth}
use Rattle.smv_types.specs.declared.fault.TypeRule.{TypeRule}
use Rattle.smv_types.specs.declared.fault.TypeRule.TheVariants.{NotBoolean}
use Rattle.smv_types.specs.declared.site.Site.{Site}
use Rattle.smv_types.proofs.SiteLaws.{one_more, joined_sites}
use Rattle.smv_types.proofs.CallLaws.{told_condition}
use Rattle.smv_types.proofs.KeptLaws.{judged_kept, formulas_kept}

-- Variables.
kinds_push : (vs : List Variable) (v : Variable) →
    kept_sorts (judged_variables (map variable_tree (vs ++ v ∷ []))) ≡ kept_sorts (judged_variables (map variable_tree vs)) ++ kept_sort (judged_declared (declared_tree v.declared)) ∷ []
kinds_push [] v = refl
kinds_push (u ∷ vs) v = ap (λ ss. kept_sort (judged_declared (declared_tree u.declared)) ∷ ss) (kinds_push vs v)

pub kinds_more : (vs : List Variable) (i : ℕ) (d : Variable) → i < length vs →
    kept_sorts (judged_variables (map variable_tree (take (i + 1) vs))) ≡ kept_sorts (judged_variables (map variable_tree (take i vs))) ++ kept_sort (judged_declared (declared_tree (get_or vs i d).declared)) ∷ []
kinds_more vs i d h = ap (λ xs. kept_sorts (judged_variables (map variable_tree xs))) (take_more vs i d h) ∙ kinds_push (take i vs) (get_or vs i d)

abbrev at_variable : Variable → List Breach
at_variable v = breaches_at v.«instance» v.item (judged_declared (declared_tree v.declared)).broken

breaches_push : (vs : List Variable) (v : Variable) → variable_breaches (map variable_tree (vs ++ v ∷ [])) ≡ variable_breaches (map variable_tree vs) ++ at_variable v
breaches_push [] v = append-nil (at_variable v)
breaches_push (u ∷ vs) v = ap (λ bs. at_variable u ++ bs) (breaches_push vs v) ∙ sym (append_assoc (at_variable u) (variable_breaches (map variable_tree vs)) (at_variable v))

pub sites_more : (vs : List Variable) (i : ℕ) (d : Variable) → i < length vs →
    earlier_site (told_first_site (first_of (variable_breaches (map variable_tree (take i vs))))) (site_at (get_or vs i d).«instance» (get_or vs i d).item (told_rules (judged_declared (declared_tree (get_or vs i d).declared)).broken))
    ≡ told_first_site (first_of (variable_breaches (map variable_tree (take (i + 1) vs))))
sites_more vs i d h =
    let v : Variable = get_or vs i d in
    one_more (variable_breaches (map variable_tree (take i vs))) v.«instance» v.item (judged_declared (declared_tree v.declared)).broken
    ∙ sym (ap (λ bs. told_first_site (first_of bs)) (ap (λ xs. variable_breaches (map variable_tree xs)) (take_more vs i d h) ∙ breaches_push (take i vs) v))

-- Conditions.
abbrev at_formula : (Flat → Kind) → Formula → List Breach
at_formula k f = breaches_at f.«instance» f.item (broken_condition (judge k false (tree_of f.value)))

formulas_push : (k : Flat → Kind) (fs : List Formula) (f : Formula) → formula_breaches k (fs ++ f ∷ []) ≡ formula_breaches k fs ++ at_formula k f
formulas_push k [] f = append-nil (at_formula k f)
formulas_push k (g ∷ fs) f = ap (λ bs. at_formula k g ++ bs) (formulas_push k fs f) ∙ sym (append_assoc (at_formula k g) (formula_breaches k fs) (at_formula k f))

pub conditions_more : (k : Flat → Kind) (fs : List Formula) (i : ℕ) (d : Formula) → i < length fs →
    earlier_site (told_first_site (first_of (formula_breaches k (take i fs)))) (site_at (get_or fs i d).«instance» (get_or fs i d).item (told_rules (broken_condition (judge k false (tree_of (get_or fs i d).value)))))
    ≡ told_first_site (first_of (formula_breaches k (take (i + 1) fs)))
conditions_more k fs i d h =
    let f : Formula = get_or fs i d in
    one_more (formula_breaches k (take i fs)) f.«instance» f.item (broken_condition (judge k false (tree_of f.value)))
    ∙ sym (ap (λ bs. told_first_site (first_of bs)) (ap (formula_breaches k) (take_more fs i d h) ∙ formulas_push k (take i fs) f))

pub condition_step : (k : Flat → Kind) (fs : List Formula) (i : ℕ) (f : Formula) (first found next : Option Site) (judged : AJudged) (broken : Option TypeRule) → i < length fs → f ≡ get_or fs i f →
    first ≡ told_first_site (first_of (formula_breaches k (take i fs))) → judged ≡ told (judge k false (tree_of f.value)) → broken ≡ lower (class_rule Truth NotBoolean judged.sort) judged.broken →
    found ≡ site_at f.«instance» f.item broken → next ≡ earlier_site first found →
    next ≡ told_first_site (first_of (formula_breaches k (take (i + 1) fs)))
condition_step k fs i f first found next judged broken h item is_first is_judged is_broken is_found is_next =
    let rules : broken ≡ told_rules (broken_condition (judge k false (tree_of f.value))) =
    is_broken ∙ ap (λ (j : AJudged). lower (class_rule Truth NotBoolean j.sort) j.broken) is_judged ∙ told_condition (judge k false (tree_of f.value)) in
    is_next ∙ ap (λ s. earlier_site s found) is_first
    ∙ ap (earlier_site (told_first_site (first_of (formula_breaches k (take i fs)))))
    (is_found ∙ ap (site_at f.«instance» f.item) rules ∙ ap (λ (g : Formula). site_at g.«instance» g.item (told_rules (broken_condition (judge k false (tree_of g.value))))) item)
    ∙ conditions_more k fs i f h

-- Definitions.
judged_push : (variables js : List Judged) (ds : List FlatFormula) (d : FlatFormula) →
    judged_after variables js (ds ++ d ∷ []) ≡ judged_after variables js ds ++ judge (leaf_kind variables (judged_after variables js ds)) false d.value ∷ []
judged_push variables js [] d = refl
judged_push variables js (e ∷ ds) d = judged_push variables (js ++ judge (leaf_kind variables js) false e.value ∷ []) ds d

length_push : (js : List Judged) (j : Judged) → length (js ++ j ∷ []) ≡ suc (length js)
length_push [] j = refl
length_push (k ∷ js) j = ap suc (length_push js j)

length_judged : (variables js : List Judged) (ds : List FlatFormula) → length js + length ds ≡ length (judged_after variables js ds)
length_judged variables js [] = omega arith
length_judged variables js (d ∷ ds) =
    let j : Judged = judge (leaf_kind variables js) false d.value in
    omega (arith, length_judged variables (js ++ j ∷ []) ds, length_push js j)

all_judged : (variables : List Judged) (ds : List FlatFormula) → length ds ≡ length (judged_after variables [] ds)
all_judged variables ds = omega (arith, length_judged variables [] ds)

defined_push : (ds : List FlatFormula) (js : List Judged) (d : FlatFormula) (j : Judged) → length ds ≡ length js →
    definition_breaches (ds ++ d ∷ []) (js ++ j ∷ []) ≡ definition_breaches ds js ++ breaches_at d.number d.item j.broken
defined_push [] [] d j e = append-nil (breaches_at d.number d.item j.broken)
defined_push [] (k ∷ js) d j e = absurd (omega (arith, e))
defined_push (c ∷ ds) [] d j e = absurd (omega (arith, e))
defined_push (c ∷ ds) (k ∷ js) d j e =
    ap (λ bs. breaches_at c.number c.item k.broken ++ bs) (defined_push ds js d j (omega (arith, e)))
    ∙ sym (append_assoc (breaches_at c.number c.item k.broken) (definition_breaches ds js) (breaches_at d.number d.item j.broken))

map_push : (fs : List Formula) (f : Formula) → map formula_tree (fs ++ f ∷ []) ≡ map formula_tree fs ++ formula_tree f ∷ []
map_push [] f = refl
map_push (g ∷ fs) f = ap (λ xs. formula_tree g ∷ xs) (map_push fs f)

kept_push : (js : List Judged) (j : Judged) → kept_sorts (js ++ j ∷ []) ≡ kept_sorts js ++ kept_sort j ∷ []
kept_push [] j = refl
kept_push (k ∷ js) j = ap (λ ss. kept_sort k ∷ ss) (kept_push js j)

-- one definition more
defined_one : (variables : List Judged) (fs : List Formula) (f : Formula) (before after : JudgedDefinitions) → AreDefined variables fs before →
    after.sorts.variables.items ≡ before.sorts.variables.items →
    after.sorts.definitions.items ≡ before.sorts.definitions.items ++ kept_sort (judge (name_kind before.sorts) false (tree_of f.value)) ∷ [] →
    after.first ≡ earlier_site before.first (site_at f.«instance» f.item (told_rules (judge (name_kind before.sorts) false (tree_of f.value)).broken)) →
    AreDefined variables (fs ++ f ∷ []) after
defined_one variables fs f before after is same more earlier = record {
  kept = record {
    of_variables = same ∙ is.kept.of_variables;
    of_definitions =
        more ∙ ap (λ ss. ss ++ kept_sort (judge (name_kind before.sorts) false (tree_of f.value)) ∷ []) is.kept.of_definitions
        ∙ ap (λ k. kept_sorts js ++ kept_sort k ∷ []) judged ∙ sym (kept_push js j) ∙ ap kept_sorts (sym all);
  };
  first =
      earlier ∙ ap (λ s. earlier_site s (site_at f.«instance» f.item (told_rules (judge (name_kind before.sorts) false (tree_of f.value)).broken))) is.first
      ∙ ap (λ k. earlier_site (told_first_site (first_of (definition_breaches ds js))) (site_at f.«instance» f.item (told_rules k.broken))) judged
      ∙ one_more (definition_breaches ds js) f.«instance» f.item j.broken
      ∙ ap (λ bs. told_first_site (first_of bs)) (sym (defined_push ds js (formula_tree f) j (all_judged variables ds)))
      ∙ ap (λ xs. told_first_site (first_of (definition_breaches xs (js ++ j ∷ [])))) (sym (map_push fs f))
      ∙ ap (λ ks. told_first_site (first_of (definition_breaches (map formula_tree (fs ++ f ∷ [])) ks))) (sym all);
}
  where
    ds : List FlatFormula
    ds = map formula_tree fs

    js : List Judged
    js = judged_after variables [] ds

    j : Judged
    j = judge (leaf_kind variables js) false (flat_tree f.value)

    judged : judge (name_kind before.sorts) false (tree_of f.value) ≡ j
    judged = judged_kept is.kept false f.value

    all : judged_after variables [] (map formula_tree (fs ++ f ∷ [])) ≡ js ++ j ∷ []
    all = ap (judged_after variables []) (map_push fs f) ∙ judged_push variables [] ds (formula_tree f)

pub defined_more : (variables : List Judged) (fs : List Formula) (i : ℕ) (f : Formula) (before after : JudgedDefinitions) → i < length fs → f ≡ get_or fs i f → AreDefined variables (take i fs) before →
    after.sorts.variables.items ≡ before.sorts.variables.items →
    after.sorts.definitions.items ≡ before.sorts.definitions.items ++ kept_sort (judge (name_kind before.sorts) false (tree_of f.value)) ∷ [] →
    after.first ≡ earlier_site before.first (site_at f.«instance» f.item (told_rules (judge (name_kind before.sorts) false (tree_of f.value)).broken)) →
    AreDefined variables (take (i + 1) fs) after
defined_more variables fs i f before after h item is same more earlier =
    subst (λ xs. AreDefined variables xs after) (ap (λ g. take i fs ++ g ∷ []) item ∙ sym (take_more fs i f h)) (defined_one variables (take i fs) f before after is same more earlier)

-- All parts of a model.
pub all_sites : (m : AModel) (s : Sorts) → AreKindsOf (model_tree m) s →
    earlier_site (told_first_site (first_of (variable_breaches (model_tree m).variables)))
    (earlier_site (told_first_site (first_of (definition_breaches (model_tree m).definitions (judged_definitions (model_tree m)))))
    (told_first_site (first_of (formula_breaches (name_kind s) m.init ++ (formula_breaches (name_kind s) m.invar ++ formula_breaches (name_kind s) m.trans)))))
    ≡ told_first_site (first_of (breaches (model_tree m)))
all_sites m s kept =
    ap (λ bs. earlier_site (told_first_site (first_of vs)) (earlier_site (told_first_site (first_of ds)) (told_first_site (first_of bs)))) conditions
    ∙ ap (earlier_site (told_first_site (first_of vs))) (joined_sites ds _) ∙ joined_sites vs _
  where
    vs : List Breach
    vs = variable_breaches (model_tree m).variables

    ds : List Breach
    ds = definition_breaches (model_tree m).definitions (judged_definitions (model_tree m))

    conditions : formula_breaches (name_kind s) m.init ++ (formula_breaches (name_kind s) m.invar ++ formula_breaches (name_kind s) m.trans)
        ≡ condition_breaches (model_tree m) (model_tree m).at_first ++ (condition_breaches (model_tree m) (model_tree m).at_each ++ condition_breaches (model_tree m) (model_tree m).at_step)
    conditions =
        ap (λ bs. bs ++ (formula_breaches (name_kind s) m.invar ++ formula_breaches (name_kind s) m.trans)) (formulas_kept (model_tree m) kept m.init)
        ∙ ap (λ bs. condition_breaches (model_tree m) (model_tree m).at_first ++ (bs ++ formula_breaches (name_kind s) m.trans)) (formulas_kept (model_tree m) kept m.invar)
        ∙ ap (λ bs. condition_breaches (model_tree m) (model_tree m).at_first ++ (condition_breaches (model_tree m) (model_tree m).at_each ++ bs)) (formulas_kept (model_tree m) kept m.trans)
