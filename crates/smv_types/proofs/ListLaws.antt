-- The members of a set and the branches of a case are judged as the table of kinds says.
use Rattle.std.proofs.Common.{◌≡◌, ℕ, ◌+◌, ◌<◌, Bool, true, false, not, ◌||◌, List, [], ◌∷◌, ◌++◌, length, get_or, drop, Option, Some, None, refl, sym, ap, ◌∙◌}
use Rattle.std.specs.Prelude.{flat_map}
use Rattle.std.proofs.lemmas.List.{drop_more}
use Rattle.smv_language.specs.declared.expr.Expr.{Expr}
use Rattle.smv_language.specs.Language.{Tree, Branches, no_branch, branch_then, tree_of, trees_of, branches_of}
use Rattle.smv_type_laws.specs.Intervals.{Interval}
use Rattle.smv_type_laws.specs.ExpressionKinds.{Class, truth_class, number_class, symbol_class, Kind, Judged, KindRule, mismatch, not_boolean, case_end, joined, rule_if, unless_class, unlike_first, hull_of, hull_from, kinds_in, broken_in, some_set, judged_set, judged_case, is_word_true, ends_in_true, judge, judge_trees, judge_conditions, judge_values, same_class as same}
use Rattle.smv_types.specs.declared.fault.TypeRule.{TypeRule}
use Rattle.smv_types.specs.declared.fault.TypeRule.TheVariants.{Mismatch, NotBoolean, CaseEnd}
use Rattle.smv_types.specs.declared.sort.Class.TheVariants.{Truth}
use Rattle.smv_types.specs.declared.several.Several.{Several}
use Rattle.smv_types.specs.declared.several.Guards.{Guards}
use Rattle.smv_types.specs.Rows.{lower, unless, class_rule}
use Rattle.smv_types.specs.Answers.{told_class, told_rules, told_sort, told}
use Rattle.smv_types.specs.ListKinds.{add_to, add_all, guard_by, guard_all, no_guards, row_set, row_case}
use Rattle.smv_types.proofs.ToldLaws.{lower_again, lower_none, told_join, joins, told_class_rule, told_some}

pub or_again : (a b c : Bool) → (a || b) || c ≡ a || (b || c)
or_again true b c = refl
or_again false b c = refl

pub or_false : (a : Bool) → a || false ≡ a
or_false true = refl
or_false false = refl

abbrev unlike : Class → List Judged → List KindRule
unlike c js = flat_map (unless_class c mismatch) (kinds_in js)

abbrev after : Several → Class → List Judged → Several
after s c js =
    record {
      sort = record { class = s.sort.class; interval = hull_from s.sort.interval (kinds_in js) };
      is_set = s.is_set || some_set js;
      own = lower s.own (told_rules (unlike c js));
      parts = lower s.parts (told_rules (broken_in js));
    }

abbrev several : Several → Option Interval → Bool → Option TypeRule → Option TypeRule → Several
several s i is_set own parts = record { sort = record { class = s.sort.class; interval = i }; is_set = is_set; own = own; parts = parts }

same_several : (s : Several) (i : Option Interval) (a b : Bool) (o p q r : Option TypeRule) → a ≡ b → o ≡ p → q ≡ r → several s i a o q ≡ several s i b p r
same_several s i a b o p q r e f g = ap (λ x. several s i x o q) e ∙ ap (λ x. several s i b x q) f ∙ ap (λ x. several s i b p x) g

add_law : (s : Several) (c : Class) → told_class c ≡ s.sort.class → (js : List Judged) → add_all (Some s) js ≡ Some (after s c js)
add_law s c e [] = ap Some (same_several s s.sort.interval _ _ _ _ _ _ (sym (or_false s.is_set)) (sym (lower_none s.own)) (sym (lower_none s.parts)))
add_law s c e (j ∷ js) =
    add_law (add_to (Some s) (told j)) c e js
    ∙ ap Some (same_several s (hull_from (joined s.sort.interval j.kind.interval) (kinds_in js)) _ _ _ _ _ _ (or_again s.is_set j.is_set (some_set js))
    (sym (lower_again s.own (class_rule s.sort.class Mismatch (told_sort j.kind)) (told_rules (unlike c js)))
    ∙ ap (lower s.own) (sym (joins (unless_class c mismatch j.kind) (unlike c js) (told_class_rule c mismatch j.kind ∙ ap (λ k. class_rule k Mismatch (told_sort j.kind)) e) refl)))
    (sym (lower_again s.parts (told_rules j.broken) (told_rules (broken_in js))) ∙ ap (lower s.parts) (sym (told_join j.broken (broken_in js)))))

like_itself : (c : Class) (rs : List KindRule) → rule_if (not (same c c)) mismatch ++ rs ≡ rs
like_itself truth_class rs = refl
like_itself number_class rs = refl
like_itself symbol_class rs = refl

-- all values of a list that is not empty
pub all_of : (j : Judged) (js : List Judged) → add_all None (j ∷ js) ≡ Some (record {
  sort = record { class = told_class j.kind.class; interval = hull_of (kinds_in (j ∷ js)) };
  is_set = some_set (j ∷ js);
  own = told_rules (unlike_first mismatch (kinds_in (j ∷ js)));
  parts = told_rules (broken_in (j ∷ js));
})
all_of j js =
    add_law (add_to None (told j)) j.kind.class refl js
    ∙ ap Some (same_several (add_to None (told j)) (hull_from j.kind.interval (kinds_in js)) _ _ _ _ _ _ refl (ap told_rules (sym (like_itself j.kind.class (unlike j.kind.class js)))) (sym (told_join j.broken (broken_in js))))

pub told_set : (sets : Bool) (js : List Judged) → row_set sets (add_all None js) ≡ told (judged_set sets js)
told_set sets [] = sym (told_some sets true [] truth_class None [] refl refl)
told_set sets (j ∷ js) =
    ap (row_set sets) (all_of j js)
    ∙ sym (told_some sets true (unlike_first mismatch (kinds_in (j ∷ js))) j.kind.class (hull_of (kinds_in (j ∷ js))) (broken_in (j ∷ js)) refl refl)

abbrev no_truths : List Judged → List KindRule
no_truths js = flat_map (unless_class truth_class not_boolean) (kinds_in js)

abbrev guards_after : {L : Type 0} → (L → Kind) → Guards → Branches L → Guards
guards_after k g bs =
    record { own = lower g.own (told_rules (no_truths (judge_conditions k bs))); parts = lower g.parts (told_rules (broken_in (judge_conditions k bs))); ends = ends_in_true bs }

abbrev guards : Bool → Option TypeRule → Option TypeRule → Guards
guards ends own parts = record { own = own; parts = parts; ends = ends }

same_guards : (ends : Bool) (o p q r : Option TypeRule) → o ≡ p → q ≡ r → guards ends o q ≡ guards ends p r
same_guards ends o p q r f g = ap (λ x. guards ends x q) f ∙ ap (λ x. guards ends p x) g

guard_law : {L : Type 0} (k : L → Kind) (g : Guards) (c : Tree L) (a : Tree L) (bs : Branches L) → guard_all k g (branch_then c a bs) ≡ guards_after k g (branch_then c a bs)
guard_law k g c a no_branch =
    same_guards (is_word_true c) _ _ _ _
    (ap (lower g.own) (sym (joins (unless_class truth_class not_boolean (judge k false c).kind) [] (told_class_rule truth_class not_boolean (judge k false c).kind) refl ∙ lower_none _)))
    (ap (lower g.parts) (sym (told_join (judge k false c).broken [] ∙ lower_none _)))
guard_law k g c a (branch_then d b bs) =
    guard_law k (guard_by g (told (judge k false c)) (is_word_true c)) d b bs
    ∙ same_guards (ends_in_true (branch_then d b bs)) _ _ _ _
    (sym (lower_again g.own (class_rule Truth NotBoolean (told_sort (judge k false c).kind)) (told_rules (no_truths (judge_conditions k (branch_then d b bs)))))
    ∙ ap (lower g.own) (sym (joins (unless_class truth_class not_boolean (judge k false c).kind) (no_truths (judge_conditions k (branch_then d b bs))) (told_class_rule truth_class not_boolean (judge k false c).kind) refl)))
    (sym (lower_again g.parts (told_rules (judge k false c).broken) (told_rules (broken_in (judge_conditions k (branch_then d b bs)))))
    ∙ ap (lower g.parts) (sym (told_join (judge k false c).broken (broken_in (judge_conditions k (branch_then d b bs))))))

all_guards : {L : Type 0} (k : L → Kind) (bs : Branches L) → guard_all k no_guards bs ≡ guards_after k no_guards bs
all_guards k no_branch = refl
all_guards k (branch_then c a bs) = guard_law k no_guards c a bs

end_rule : (ends : Bool) → told_rules (rule_if (not ends) case_end) ≡ unless ends CaseEnd
end_rule true = refl
end_rule false = refl

told_branches : (sets ends : Bool) (cs js : List Judged) →
    row_case sets (record { own = told_rules (no_truths cs); parts = told_rules (broken_in cs); ends = ends }) (add_all None js) ≡ told (judged_case sets ends cs js)
told_branches sets ends cs [] =
    sym (told_some sets false (no_truths cs ++ ([] ++ rule_if (not ends) case_end)) truth_class None (broken_in cs ++ [])
    (joins (no_truths cs) (rule_if (not ends) case_end) refl (end_rule ends)) (told_join (broken_in cs) [] ∙ lower_none _))
told_branches sets ends cs (j ∷ js) =
    ap (row_case sets (record { own = told_rules (no_truths cs); parts = told_rules (broken_in cs); ends = ends })) (all_of j js)
    ∙ sym (told_some sets (some_set (j ∷ js)) (no_truths cs ++ (unlike_first mismatch (kinds_in (j ∷ js)) ++ rule_if (not ends) case_end)) j.kind.class (hull_of (kinds_in (j ∷ js))) (broken_in cs ++ broken_in (j ∷ js))
    (joins (no_truths cs) (unlike_first mismatch (kinds_in (j ∷ js)) ++ rule_if (not ends) case_end) refl (joins (unlike_first mismatch (kinds_in (j ∷ js))) (rule_if (not ends) case_end) refl (end_rule ends)))
    (told_join (broken_in cs) (broken_in (j ∷ js))))

pub told_case : {L : Type 0} (k : L → Kind) (sets : Bool) (bs : Branches L) →
    row_case sets (guard_all k no_guards bs) (add_all None (judge_values k sets bs)) ≡ told (judged_case sets (ends_in_true bs) (judge_conditions k bs) (judge_values k sets bs))
told_case k sets bs = ap (λ g. row_case sets g (add_all None (judge_values k sets bs))) (all_guards k bs) ∙ told_branches sets (ends_in_true bs) (judge_conditions k bs) (judge_values k sets bs)

pub judged_more : {L : Type 0} (k : L → Kind) (ts : List (Expr L)) (i : ℕ) (d : Expr L) → i < length ts →
    judge_trees k (trees_of (drop i ts)) ≡ judge k false (tree_of (get_or ts i d)) ∷ judge_trees k (trees_of (drop (i + 1) ts))
judged_more k ts i d h = ap (λ xs. judge_trees k (trees_of xs)) (drop_more ts i d h)

pub values_more : {L : Type 0} (k : L → Kind) (sets : Bool) (bs : List (Expr L × Expr L)) (i : ℕ) (d : Expr L × Expr L) → i < length bs →
    judge_values k sets (branches_of (drop i bs)) ≡ judge k sets (tree_of (get_or bs i d).1) ∷ judge_values k sets (branches_of (drop (i + 1) bs))
values_more k sets bs i d h = ap (λ xs. judge_values k sets (branches_of xs)) (drop_more bs i d h)

pub guards_more : {L : Type 0} (k : L → Kind) (g : Guards) (bs : List (Expr L × Expr L)) (i : ℕ) (d : Expr L × Expr L) → i < length bs →
    guard_all k g (branches_of (drop i bs)) ≡ guard_all k (guard_by g (told (judge k false (tree_of (get_or bs i d).0))) (is_word_true (tree_of (get_or bs i d).0))) (branches_of (drop (i + 1) bs))
guards_more k g bs i d h = ap (λ xs. guard_all k g (branches_of xs)) (drop_more bs i d h)
