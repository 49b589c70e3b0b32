-- Each row of the code is the row of the table of kinds.
use Rattle.std.proofs.Common.{◌≡◌, ℤ, Bool, true, false, not, cond, ◌||◌, [], ◌++◌, Option, Some, None, refl, sym, ap, ◌∙◌}
use Rattle.std.specs.Prelude.{int_lt}
use Rattle.smv_language.specs.declared.expr.Op.{Op}
use Rattle.smv_language.specs.declared.expr.Op.TheVariants as op
use Rattle.smv_type_laws.specs.Intervals.{Interval, just, has_zero, fits}
use Rattle.smv_type_laws.specs.ExpressionKinds.{Judged, truth_class, number_class, mismatch, not_boolean, may_divide_by_zero, empty_range, rule_if, unless_class, wide, joined, on_both, exact_interval, negative_interval, divisor_rule, judged_not, judged_connective, judged_negative, judged_number, judged_order, judged_same, judged_union, judged_binary, judged_choice, judged_span, one_value as one_found}
use Rattle.smv_types.specs.declared.fault.TypeRule.{TypeRule}
use Rattle.smv_types.specs.declared.fault.TypeRule.TheVariants.{MayDivideByZero, TooWide, EmptyRange, Mismatch, SetHere}
use Rattle.smv_types.specs.declared.sort.Class.{Class}
use Rattle.smv_types.specs.declared.sort.Class.TheVariants.{Truth, Number, Symbol}
use Rattle.smv_types.specs.declared.sort.Sort.{Sort}
use Rattle.smv_types.specs.Rows.{lower, unless, class_rule, where_kept, one_value, some_values, exact_of, is_divided, row_not, row_connective, row_negative, row_number, row_order, row_same, row_union, row_binary, row_choice, row_span, row_literal}
use Rattle.smv_types.specs.Answers.{told_class, told_rules, told_sort, told, seen_class, seen_sort}
use Rattle.smv_types.proofs.ToldLaws.{joins, told_rule_if, told_class_rule, told_wide, told_one, told_some}

-- an interval that passes 32 bits is not kept
kept_exact : (x : Option TypeRule) (e : Option Interval) → where_kept (lower x (exact_of e).wide) e ≡ where_kept (lower x (exact_of e).wide) (exact_of e).interval
kept_exact x None = refl
kept_exact x (Some i) = by (fits i) x
  where
    by : (b : Bool) (x : Option TypeRule) → where_kept (lower x (unless b TooWide)) (Some i) ≡ where_kept (lower x (unless b TooWide)) (cond b (Some i) None)
    by true x = refl
    by false None = refl
    by false (Some r) = refl

kept_exact_third : (a b c : Option TypeRule) (e : Option Interval) →
    where_kept (lower a (lower b (lower c (exact_of e).wide))) e ≡ where_kept (lower a (lower b (lower c (exact_of e).wide))) (exact_of e).interval
kept_exact_third a b c None = refl
kept_exact_third a b c (Some i) = by (fits i) a b c
  where
    by : (t : Bool) (a b c : Option TypeRule) →
        where_kept (lower a (lower b (lower c (unless t TooWide)))) (Some i) ≡ where_kept (lower a (lower b (lower c (unless t TooWide)))) (cond t (Some i) None)
    by true a b c = refl
    by false None None None = refl
    by false None None (Some q) = refl
    by false None (Some r) None = refl
    by false None (Some r) (Some q) = refl
    by false (Some s) None None = refl
    by false (Some s) None (Some q) = refl
    by false (Some s) (Some r) None = refl
    by false (Some s) (Some r) (Some q) = refl

with_interval : (own : Option TypeRule) (c : Class) (i j : Option Interval) (parts : Option TypeRule) → where_kept own i ≡ where_kept own j → one_value own c i parts ≡ one_value own c j parts
with_interval own c i j parts e = ap (λ x. record { sort = record { class = c; interval = x }; is_set = false; broken = lower own parts }) e

pub told_not : (a : Judged) → row_not (told a) ≡ told (judged_not a)
told_not a = sym (told_one (unless_class truth_class not_boolean a.kind) truth_class None a.broken (told_class_rule truth_class not_boolean a.kind) refl)

pub told_connective : (a b : Judged) → row_connective (told a) (told b) ≡ told (judged_connective a b)
told_connective a b =
    sym (told_one _ truth_class None (a.broken ++ b.broken)
    (joins (unless_class truth_class not_boolean a.kind) (unless_class truth_class not_boolean b.kind) (told_class_rule truth_class not_boolean a.kind) (told_class_rule truth_class not_boolean b.kind))
    (joins a.broken b.broken refl refl))

pub told_order : (a b : Judged) → row_order (told a) (told b) ≡ told (judged_order a b)
told_order a b =
    sym (told_one _ truth_class None (a.broken ++ b.broken)
    (joins (unless_class number_class mismatch a.kind) (unless_class number_class mismatch b.kind) (told_class_rule number_class mismatch a.kind) (told_class_rule number_class mismatch b.kind))
    (joins a.broken b.broken refl refl))

pub told_same : (a b : Judged) → row_same (told a) (told b) ≡ told (judged_same a b)
told_same a b =
    sym (told_one (unless_class a.kind.class mismatch b.kind) truth_class None (a.broken ++ b.broken) (told_class_rule a.kind.class mismatch b.kind) (joins a.broken b.broken refl refl))

pub told_negative : (a : Judged) → row_negative (told a) ≡ told (judged_negative a)
told_negative a =
    let exact = negative_interval a.kind.interval in
    sym (told_one (unless_class number_class mismatch a.kind ++ wide exact) number_class exact a.broken
    (joins (unless_class number_class mismatch a.kind) (wide exact) (told_class_rule number_class mismatch a.kind) (told_wide exact)) refl
    ∙ with_interval (lower (class_rule Number Mismatch (told_sort a.kind)) (exact_of exact).wide) Number exact (exact_of exact).interval (told_rules a.broken) (kept_exact (class_rule Number Mismatch (told_sort a.kind)) exact))

told_divisor : (o : Op) (j : Option Interval) → told_rules (divisor_rule o j) ≡ unless (not (is_divided o j)) MayDivideByZero
told_divisor op.Over None = refl
told_divisor op.Over (Some j) = told_rule_if (has_zero j) may_divide_by_zero
told_divisor op.Mod None = refl
told_divisor op.Mod (Some j) = told_rule_if (has_zero j) may_divide_by_zero
told_divisor op.Plus j = refl
told_divisor op.Minus j = refl
told_divisor op.Times j = refl
told_divisor op.Union j = refl
told_divisor op.Within j = refl
told_divisor op.Equal j = refl
told_divisor op.Differs j = refl
told_divisor op.Less j = refl
told_divisor op.Greater j = refl
told_divisor op.AtMost j = refl
told_divisor op.AtLeast j = refl
told_divisor op.And j = refl
told_divisor op.Or j = refl
told_divisor op.Xor j = refl
told_divisor op.Xnor j = refl
told_divisor op.Iff j = refl
told_divisor op.Implies j = refl

pub told_number : (o : Op) (a b : Judged) → row_number o (told a) (told b) ≡ told (judged_number o a b)
told_number o a b =
    let exact = on_both (exact_interval o) a.kind.interval b.kind.interval in
    sym (told_one (unless_class number_class mismatch a.kind ++ (unless_class number_class mismatch b.kind ++ (divisor_rule o b.kind.interval ++ wide exact))) number_class exact (a.broken ++ b.broken)
    (joins (unless_class number_class mismatch a.kind) (unless_class number_class mismatch b.kind ++ (divisor_rule o b.kind.interval ++ wide exact)) (told_class_rule number_class mismatch a.kind)
    (joins (unless_class number_class mismatch b.kind) (divisor_rule o b.kind.interval ++ wide exact) (told_class_rule number_class mismatch b.kind)
    (joins (divisor_rule o b.kind.interval) (wide exact) (told_divisor o b.kind.interval) (told_wide exact))))
    (joins a.broken b.broken refl refl)
    ∙ with_interval (lower (class_rule Number Mismatch (told_sort a.kind)) (lower (class_rule Number Mismatch (told_sort b.kind)) (lower (unless (not (is_divided o b.kind.interval)) MayDivideByZero) (exact_of exact).wide))) Number exact (exact_of exact).interval (lower (told_rules a.broken) (told_rules b.broken))
    (kept_exact_third (class_rule Number Mismatch (told_sort a.kind)) (class_rule Number Mismatch (told_sort b.kind)) (unless (not (is_divided o b.kind.interval)) MayDivideByZero) exact))

pub told_union : (sets : Bool) (a b : Judged) → row_union sets (told a) (told b) ≡ told (judged_union sets a b)
told_union sets a b =
    sym (told_some sets true (unless_class a.kind.class mismatch b.kind) a.kind.class (joined a.kind.interval b.kind.interval) (a.broken ++ b.broken)
    (told_class_rule a.kind.class mismatch b.kind) (joins a.broken b.broken refl refl))

pub told_binary : (sets : Bool) (o : Op) (a b : Judged) → row_binary sets o (told a) (told b) ≡ told (judged_binary sets o a b)
told_binary sets op.Times a b = told_number op.Times a b
told_binary sets op.Over a b = told_number op.Over a b
told_binary sets op.Mod a b = told_number op.Mod a b
told_binary sets op.Plus a b = told_number op.Plus a b
told_binary sets op.Minus a b = told_number op.Minus a b
told_binary sets op.Union a b = told_union sets a b
told_binary sets op.Within a b = told_same a b
told_binary sets op.Equal a b = told_same a b
told_binary sets op.Differs a b = told_same a b
told_binary sets op.Less a b = told_order a b
told_binary sets op.Greater a b = told_order a b
told_binary sets op.AtMost a b = told_order a b
told_binary sets op.AtLeast a b = told_order a b
told_binary sets op.And a b = told_connective a b
told_binary sets op.Or a b = told_connective a b
told_binary sets op.Xor a b = told_connective a b
told_binary sets op.Xnor a b = told_connective a b
told_binary sets op.Iff a b = told_connective a b
told_binary sets op.Implies a b = told_connective a b

pub told_choice : (sets : Bool) (c a b : Judged) → row_choice sets (told c) (told a) (told b) ≡ told (judged_choice sets c a b)
told_choice sets c a b =
    sym (told_some sets (a.is_set || b.is_set) (unless_class truth_class not_boolean c.kind ++ unless_class a.kind.class mismatch b.kind) a.kind.class (joined a.kind.interval b.kind.interval) (c.broken ++ (a.broken ++ b.broken))
    (joins (unless_class truth_class not_boolean c.kind) (unless_class a.kind.class mismatch b.kind) (told_class_rule truth_class not_boolean c.kind) (told_class_rule a.kind.class mismatch b.kind))
    (joins c.broken (a.broken ++ b.broken) refl (joins a.broken b.broken refl refl)))

pub told_literal : (n : ℤ) → row_literal n ≡ told (one_found (wide (Some (just n))) number_class (Some (just n)) [])
told_literal n =
    sym (told_one (wide (Some (just n))) number_class (Some (just n)) [] (told_wide (Some (just n))) refl ∙ with_interval (exact_of (Some (just n))).wide Number (Some (just n)) (exact_of (Some (just n))).interval None (kept_exact None (Some (just n))))

-- the same of what may be a set
kept_exact_set : (a c : Option TypeRule) (e : Option Interval) →
    where_kept (lower (lower a (exact_of e).wide) c) e ≡ where_kept (lower (lower a (exact_of e).wide) c) (exact_of e).interval
kept_exact_set a c None = refl
kept_exact_set a c (Some i) = by (fits i) a c
  where
    by : (t : Bool) (a c : Option TypeRule) → where_kept (lower (lower a (unless t TooWide)) c) (Some i) ≡ where_kept (lower (lower a (unless t TooWide)) c) (cond t (Some i) None)
    by true a c = refl
    by false None None = refl
    by false None (Some q) = refl
    by false (Some r) None = refl
    by false (Some r) (Some q) = refl

with_set_interval : (sets : Bool) (own : Option TypeRule) (c : Class) (i j : Option Interval) (parts : Option TypeRule) →
    where_kept (lower own (unless (sets || false) SetHere)) i ≡ where_kept (lower own (unless (sets || false) SetHere)) j →
    some_values sets true own (record { class = c; interval = i }) parts ≡ some_values sets true own (record { class = c; interval = j }) parts
with_set_interval sets own c i j parts e =
    ap (λ x. record { sort = record { class = c; interval = x }; is_set = true; broken = lower (lower own (unless (sets || false) SetHere)) parts }) e

pub told_span : (sets : Bool) (lo hi : ℤ) → row_span sets lo hi ≡ told (judged_span sets lo hi)
told_span sets lo hi =
    let exact : Option Interval = Some (record { lo = lo; hi = hi }) in
    sym (told_some sets true (rule_if (int_lt hi lo) empty_range ++ wide exact) number_class exact []
    (joins (rule_if (int_lt hi lo) empty_range) (wide exact) (told_rule_if (int_lt hi lo) empty_range) (told_wide exact)) refl
    ∙ with_set_interval sets (lower (unless (not (int_lt hi lo)) EmptyRange) (exact_of exact).wide) Number exact (exact_of exact).interval None (kept_exact_set (unless (not (int_lt hi lo)) EmptyRange) (unless (sets || false) SetHere) exact))

seen_again : (c : Class) → told_class (seen_class c) ≡ c
seen_again Truth = refl
seen_again Number = refl
seen_again Symbol = refl

pub told_name : (s : Sort) → told_sort (seen_sort s) ≡ s
told_name s = ap (λ (c : Class). record { class = c; interval = s.interval }) (seen_again s.class)
