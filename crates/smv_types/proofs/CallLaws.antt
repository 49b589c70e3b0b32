-- What is told of values and conditions.
use Rattle.std.proofs.Common.{◌+◌, ◌≡◌, ℕ, Bool, true, false, List, [], ◌∷◌, Option, Some, None, refl, sym, ap, ◌∙◌, subst, OnOk, min, arith}
use Rattle.std.specs.Prelude.{Result, Ok, Err, nat_lt}
use Rattle.base_values.specs.declared.limits.TheConstants.{MOST_COST, MOST_TOP_COST}
use Rattle.smv_language.specs.Language.{Tree, FlatLeaf, FlatModel}
use Rattle.smv_type_laws.specs.ExpressionKinds as found
use Rattle.smv_type_laws.specs.ExpressionKinds.{Judged, KindRule, truth_class, not_boolean, unless_class}
use Rattle.smv_type_laws.specs.Costs.{cost_of}
use Rattle.smv_type_laws.specs.Models.{broken_condition, judged_in, least, least_after, size_fault, top_fault, IsTyped}
use Rattle.smv_type_laws.proofs.Typed.{values_lie}
use Rattle.smv_type_laws.proofs.Parts.{none_second}
use Rattle.smv_types.specs.declared.fault.TypeRule.TheVariants.{NotBoolean}
use Rattle.smv_types.specs.declared.fault.TypeFault.{TypeFault}
use Rattle.smv_types.specs.declared.sort.Class.TheVariants.{Truth}
use Rattle.smv_types.specs.declared.calls.Kind.{Kind}
use Rattle.smv_types.specs.declared.sort.JudgedExpr.{JudgedExpr as AJudged}
use Rattle.smv_types.specs.declared.fault.TypeRule.{TypeRule}
use Rattle.smv_types.specs.Rows.{lower, class_rule}
use Rattle.smv_types.specs.Answers.{told_first, told_rules, told_sort, told}
use Rattle.smv_types.specs.Calls.{value_answer, top_answer, value_by, top_by, LiesInKind}
use Rattle.smv_types.proofs.SizeLaws.{below_cap}
use Rattle.smv_types.proofs.ToldLaws.{joins, told_class_rule}

pub told_condition : (j : Judged) → lower (class_rule Truth NotBoolean (told_sort j.kind)) (told_rules j.broken) ≡ told_rules (broken_condition j)
told_condition j = sym (joins (unless_class truth_class not_boolean j.kind) j.broken (told_class_rule truth_class not_boolean j.kind) refl)

value_of : (o : Option KindRule) (k : found.Kind) → value_by (told_first o) (told_sort k) ≡ value_answer o k
value_of None k = refl
value_of (Some r) k = refl

-- a value is told by the first rule that it breaks
pub told_value : (j : Judged) → value_by (told_rules j.broken) (told_sort j.kind) ≡ value_answer (least j.broken) j.kind
told_value j = value_of (least j.broken) j.kind

pub value_answered : (r : Result Kind TypeFault) (judged : AJudged) (j : Judged) → judged ≡ told j → r ≡ value_by judged.broken judged.sort → r ≡ value_answer (least j.broken) j.kind
value_answered r judged j is e = e ∙ ap (λ (x : AJudged). value_by x.broken x.sort) is ∙ told_value j

-- and a condition by its own, and then by its size
pub told_top : (m : FlatModel) (e : Tree FlatLeaf) → top_by (told_rules (broken_condition (judged_in m false e))) (nat_lt MOST_TOP_COST (cost_of e)) ≡ top_answer (top_fault m e)
told_top m e = by (least (broken_condition (judged_in m false e))) (nat_lt MOST_TOP_COST (cost_of e))
  where
    by : (o : Option KindRule) (large : Bool) → top_by (told_first o) large ≡ top_answer (elim o [ Some r ↦ Some r | None ↦ size_fault large ])
    by (Some r) large = refl
    by None true = refl
    by None false = refl

pub top_answered : (r : Result (Unit {0}) TypeFault) (m : FlatModel) (e : Tree FlatLeaf) (judged : AJudged) (broken : Option TypeRule) (cost : ℕ) → judged ≡ told (judged_in m false e) →
    broken ≡ lower (class_rule Truth NotBoolean judged.sort) judged.broken → cost ≡ min (cost_of e) (MOST_COST + 1) → r ≡ top_by broken (nat_lt MOST_TOP_COST cost) → r ≡ top_answer (top_fault m e)
top_answered r m e judged broken cost is is_broken is_cost is_answer =
    is_answer ∙ ap (λ b. top_by b (nat_lt MOST_TOP_COST cost)) (is_broken ∙ ap (λ (j : AJudged). lower (class_rule Truth NotBoolean j.sort) j.broken) is ∙ told_condition (judged_in m false e))
    ∙ ap (top_by (told_rules (broken_condition (judged_in m false e)))) (ap (nat_lt MOST_TOP_COST) is_cost ∙ below_cap MOST_TOP_COST (cost_of e) (omega arith)) ∙ told_top m e

-- what is not refused breaks no rule
value_right : (rs : List KindRule) (k : found.Kind) → OnOk (value_answer (least rs) k) (rs ≡ [])
value_right [] k = refl
value_right (r ∷ rs) k = by (least rs)
  where
    by : (o : Option KindRule) → OnOk (value_answer (least_after r o) k) (r ∷ rs ≡ [])
    by None = tt
    by (Some q) = tt

pub value_kept : (r : Result Kind TypeFault) (j : Judged) → r ≡ value_answer (least j.broken) j.kind → OnOk r (j.broken ≡ [])
value_kept r j e = subst (λ x. OnOk x (j.broken ≡ [])) (sym e) (value_right j.broken j.kind)

top_right : (rs : List KindRule) (large : Bool) → OnOk (top_answer (elim (least rs) [ Some r ↦ Some r | None ↦ size_fault large ])) (rs ≡ [])
top_right [] true = tt
top_right [] false = refl
top_right (r ∷ rs) large = by (least rs)
  where
    by : (o : Option KindRule) → OnOk (top_answer (elim (least_after r o) [ Some q ↦ Some q | None ↦ size_fault large ])) (r ∷ rs ≡ [])
    by None = tt
    by (Some q) = tt

pub top_kept : (r : Result (Unit {0}) TypeFault) (m : FlatModel) (e : Tree FlatLeaf) → r ≡ top_answer (top_fault m e) → OnOk r (broken_condition (judged_in m false e) ≡ [])
top_kept r m e is = subst (λ x. OnOk x (broken_condition (judged_in m false e) ≡ [])) (sym is) (top_right (broken_condition (judged_in m false e)) (nat_lt MOST_TOP_COST (cost_of e)))

-- so at values of the domains its values lie in its kind
lies : (m : FlatModel) (e : Tree FlatLeaf) → IsTyped m → (judged_in m false e).broken ≡ [] → LiesInKind m e
lies m e typed right closed own v w hv hw = values_lie m closed typed v w hv hw false e own right

on_ok : {T E : Type 0} {P Q : Type 0} → (P → Q) → (r : Result T E) → OnOk r P → OnOk r Q
on_ok f (Ok x) p = f p
on_ok f (Err e) p = tt

pub value_lies : (r : Result Kind TypeFault) (m : FlatModel) (e : Tree FlatLeaf) → IsTyped m → OnOk r ((judged_in m false e).broken ≡ []) → OnOk r (LiesInKind m e)
value_lies r m e typed kept = on_ok (lies m e typed) r kept

pub top_lies : (r : Result (Unit {0}) TypeFault) (m : FlatModel) (e : Tree FlatLeaf) → IsTyped m → OnOk r (broken_condition (judged_in m false e) ≡ []) → OnOk r (LiesInKind m e)
top_lies r m e typed kept = on_ok (λ (b : broken_condition (judged_in m false e) ≡ []). lies m e typed (none_second (unless_class truth_class not_boolean (judged_in m false e).kind) (judged_in m false e).broken b)) r kept
