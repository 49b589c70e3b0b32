-- Of joined rules the first is the first of both firsts.
use Rattle.std.proofs.Common.{◌≡◌, Bool, true, false, not, cond, nat_lt, ◌&&◌, ◌||◌, List, [], ◌∷◌, ◌++◌, Option, Some, None, refl, sym, ap, ◌∙◌, arith}
use Rattle.std.proofs.lemmas.Bool.{ltb-true, ltb-false}
use Rattle.smv_type_laws.specs.Intervals.{Interval, fits}
use Rattle.smv_type_laws.specs.ExpressionKinds as found
use Rattle.smv_type_laws.specs.ExpressionKinds.{Class, truth_class, number_class, symbol_class, Kind, KindRule, mismatch, not_boolean, set_here, may_divide_by_zero, too_wide, empty_range, mixed_enum, case_end, too_large, double_member, number_of, rule_if, unless_class, wide}
use Rattle.smv_type_laws.specs.Models.{least, least_after, lesser}
use Rattle.smv_type_laws.proofs.Least.{least_join, least_of_both}
use Rattle.smv_types.specs.declared.fault.TypeRule.{TypeRule}
use Rattle.smv_types.specs.declared.fault.TypeRule.TheVariants.{SetHere, TooWide}
use Rattle.smv_types.specs.Rows.{rule_number, lesser_rule, lower, unless, same_class, class_rule, where_kept, one_value, some_values, exact_of}
use Rattle.smv_types.specs.Answers.{told_class, told_rule, told_first, told_rules, told_sort, told}

second : (r q : TypeRule) → nat_lt (rule_number q) (rule_number r) ≡ true → lesser_rule r q ≡ q
second r q e = ap (λ t. cond t q r) e

first : (r q : TypeRule) → nat_lt (rule_number q) (rule_number r) ≡ false → lesser_rule r q ≡ r
first r q e = ap (λ t. cond t q r) e

lesser_again : (r q p : TypeRule) → lesser_rule r (lesser_rule q p) ≡ lesser_rule (lesser_rule r q) p
lesser_again r q p =
    by (nat_lt (rule_number q) (rule_number r)) refl (nat_lt (rule_number p) (rule_number q)) refl (nat_lt (rule_number p) (rule_number r)) refl
  where
    by : (a : Bool) → nat_lt (rule_number q) (rule_number r) ≡ a → (b : Bool) → nat_lt (rule_number p) (rule_number q) ≡ b → (c : Bool) → nat_lt (rule_number p) (rule_number r) ≡ c →
        lesser_rule r (lesser_rule q p) ≡ lesser_rule (lesser_rule r q) p
    by true e true f true g = ap (lesser_rule r) (second q p f) ∙ second r p g ∙ sym (ap (λ z. lesser_rule z p) (second r q e) ∙ second q p f)
    by true e true f false g = absurd (omega (arith, ltb-true _ _ e, ltb-true _ _ f, ltb-false _ _ g))
    by true e false f c g = ap (lesser_rule r) (first q p f) ∙ second r q e ∙ sym (ap (λ z. lesser_rule z p) (second r q e) ∙ first q p f)
    by false e true f c g = ap (lesser_rule r) (second q p f) ∙ sym (ap (λ z. lesser_rule z p) (first r q e))
    by false e false f true g = absurd (omega (arith, ltb-false _ _ e, ltb-false _ _ f, ltb-true _ _ g))
    by false e false f false g = ap (lesser_rule r) (first q p f) ∙ first r q e ∙ sym (ap (λ z. lesser_rule z p) (first r q e) ∙ first r p g)

pub lower_again : (a b c : Option TypeRule) → lower a (lower b c) ≡ lower (lower a b) c
lower_again None b c = refl
lower_again (Some r) None c = refl
lower_again (Some r) (Some q) None = refl
lower_again (Some r) (Some q) (Some p) = ap Some (lesser_again r q p)

pub lower_none : (a : Option TypeRule) → lower a None ≡ a
lower_none None = refl
lower_none (Some r) = refl

pub same_number : (r : KindRule) → rule_number (told_rule r) ≡ number_of r
same_number mismatch = refl
same_number not_boolean = refl
same_number set_here = refl
same_number may_divide_by_zero = refl
same_number too_wide = refl
same_number empty_range = refl
same_number mixed_enum = refl
same_number case_end = refl
same_number too_large = refl
same_number double_member = refl

told_lesser : (r q : KindRule) → told_rule (lesser r q) ≡ lesser_rule (told_rule r) (told_rule q)
told_lesser r q =
    by (nat_lt (number_of q) (number_of r)) ∙ ap (λ n. cond (nat_lt n (number_of r)) (told_rule q) (told_rule r)) (sym (same_number q))
    ∙ ap (λ n. cond (nat_lt (rule_number (told_rule q)) n) (told_rule q) (told_rule r)) (sym (same_number r))
  where
    by : (b : Bool) → told_rule (cond b q r) ≡ cond b (told_rule q) (told_rule r)
    by true = refl
    by false = refl

told_both : (a b : Option KindRule) → told_first (least_of_both a b) ≡ lower (told_first a) (told_first b)
told_both None b = refl
told_both (Some r) None = refl
told_both (Some r) (Some q) = ap Some (told_lesser r q)

pub told_join : (rs qs : List KindRule) → told_rules (rs ++ qs) ≡ lower (told_rules rs) (told_rules qs)
told_join rs qs = ap told_first (least_join rs qs) ∙ told_both (least rs) (least qs)

-- the same, of both parts
pub joins : {a b : Option TypeRule} (rs qs : List KindRule) → told_rules rs ≡ a → told_rules qs ≡ b → told_rules (rs ++ qs) ≡ lower a b
joins {a = a} rs qs e f = told_join rs qs ∙ ap (λ x. lower x (told_rules qs)) e ∙ ap (λ x. lower a x) f

pub told_rule_if : (b : Bool) (r : KindRule) → told_rules (rule_if b r) ≡ unless (not b) (told_rule r)
told_rule_if true r = refl
told_rule_if false r = refl

by_class : (d c : Class) (r : KindRule) → told_rules (rule_if (not (found.same_class d c)) r) ≡ unless (same_class (told_class d) (told_class c)) (told_rule r)
by_class truth_class truth_class r = refl
by_class truth_class number_class r = refl
by_class truth_class symbol_class r = refl
by_class number_class truth_class r = refl
by_class number_class number_class r = refl
by_class number_class symbol_class r = refl
by_class symbol_class truth_class r = refl
by_class symbol_class number_class r = refl
by_class symbol_class symbol_class r = refl

pub told_class_rule : (c : Class) (r : KindRule) (k : Kind) → told_rules (unless_class c r k) ≡ class_rule (told_class c) (told_rule r) (told_sort k)
told_class_rule c r k = by_class k.class c r

by_fit : (b : Bool) → told_rules (rule_if (not b) too_wide) ≡ unless b TooWide
by_fit true = refl
by_fit false = refl

pub told_wide : (e : Option Interval) → told_rules (wide e) ≡ (exact_of e).wide
told_wide None = refl
told_wide (Some i) = by_fit (fits i)

pub told_kept : (own : List KindRule) (i : Option Interval) → found.where_kept own i ≡ where_kept (told_rules own) i
told_kept [] i = refl
told_kept (r ∷ rs) i = by (least rs)
  where
    by : (o : Option KindRule) → None ≡ where_kept (told_first (least_after r o)) i
    by None = refl
    by (Some q) = refl

pub told_one : {own' parts' : Option TypeRule} (own : List KindRule) (c : Class) (i : Option Interval) (parts : List KindRule) → told_rules own ≡ own' → told_rules parts ≡ parts' →
    told (found.one_value own c i parts) ≡ one_value own' (told_class c) i parts'
told_one {own' = own'} own c i parts e f =
    ap (λ x. record { sort = record { class = told_class c; interval = x }; is_set = false; broken = told_rules (own ++ parts) }) (told_kept own i ∙ ap (λ o. where_kept o i) e)
    ∙ ap (λ y. record { sort = record { class = told_class c; interval = where_kept own' i }; is_set = false; broken = y }) (joins own parts e f)

set_rule : (sets is_set : Bool) → told_rules (rule_if (is_set && not sets) set_here) ≡ unless (sets || not is_set) SetHere
set_rule true true = refl
set_rule true false = refl
set_rule false true = refl
set_rule false false = refl

pub told_some : {own' parts' : Option TypeRule} (sets is_set : Bool) (own : List KindRule) (c : Class) (i : Option Interval) (parts : List KindRule) → told_rules own ≡ own' → told_rules parts ≡ parts' →
    told (found.some_values sets is_set own c i parts) ≡ some_values sets is_set own' (record { class = told_class c; interval = i }) parts'
told_some {own' = own'} sets is_set own c i parts e f =
    ap (λ x. record { sort = record { class = told_class c; interval = x }; is_set = is_set; broken = told_rules (all ++ parts) }) (told_kept all i ∙ ap (λ o. where_kept o i) whole)
    ∙ ap (λ y. record { sort = record { class = told_class c; interval = where_kept (lower own' (unless (sets || not is_set) SetHere)) i }; is_set = is_set; broken = y }) (joins all parts whole f)
  where
    all : List KindRule
    all = own ++ rule_if (is_set && not sets) set_here

    whole : told_rules all ≡ lower own' (unless (sets || not is_set) SetHere)
    whole = joins own (rule_if (is_set && not sets) set_here) e (set_rule sets is_set)
