-- Parts that break no rule and have a class, and what is made of them.
use Rattle.std.proofs.Common.{◌≡◌, Bool, true, false, not, ◌&&◌, ◌||◌, List, [], ◌∷◌, ◌++◌, flat_map, Option, Some, None, int_lt, ℤ, refl, ap, sym, ◌∙◌}
use Rattle.smv_language.specs.Trace.{Each}
use Rattle.smv_type_laws.specs.Intervals.{Interval, fits}
use Rattle.smv_type_laws.specs.ExpressionKinds.{Class, truth_class, number_class, symbol_class, Kind, KindRule, mismatch, not_boolean, set_here, case_end, empty_range, too_wide, same_class, rule_if, unless_class, wide, joined, one_value, some_values, Judged, judged_not, judged_connective, judged_order, judged_same, judged_union, judged_choice, judged_case, judged_set, judged_span, first_class, hull_of, unlike_first, kinds_in, broken_in, some_set}
use Rattle.smv_type_laws.specs.Models.{broken_condition}

-- it breaks no rule, and has the class
pub record Rightly (c : Class) (j : Judged) : Type 0 where
  pub kept : j.broken ≡ []
  pub class : j.kind.class ≡ c

class_itself : (c : Class) → same_class c c ≡ true
class_itself truth_class = refl
class_itself number_class = refl
class_itself symbol_class = refl

pub unless_kept : (c : Class) (r : KindRule) (k : Kind) → k.class ≡ c → unless_class c r k ≡ []
unless_kept c r k e = ap (λ d. rule_if (not (same_class d c)) r) e ∙ ap (λ b. rule_if (not b) r) (class_itself c)

-- two classes that are one
unless_same : (c : Class) (r : KindRule) (a b : Kind) → a.class ≡ c → b.class ≡ c → unless_class a.class r b ≡ []
unless_same c r a b e f = unless_kept a.class r b (f ∙ sym e)

pub none_joined : {A : Type 0} (xs ys : List A) → xs ≡ [] → ys ≡ [] → xs ++ ys ≡ []
none_joined xs ys e f = ap (λ zs. zs ++ ys) e ∙ f

one_right : (own : List KindRule) (c : Class) (i : Option Interval) (parts : List KindRule) → own ≡ [] → parts ≡ [] → Rightly c (one_value own c i parts)
one_right own c i parts e f = record { kept = none_joined own parts e f; class = refl }

no_and : (b : Bool) → (b && false) ≡ false
no_and true = refl
no_and false = refl

-- where sets may stand
some_right : (is_set : Bool) (own : List KindRule) (c : Class) (i : Option Interval) (parts : List KindRule) → own ≡ [] → parts ≡ [] → Rightly c (some_values true is_set own c i parts)
some_right is_set own c i parts e f =
    record { kept = none_joined (own ++ rule_if (is_set && false) set_here) parts (none_joined own (rule_if (is_set && false) set_here) e (ap (λ b. rule_if b set_here) (no_and is_set))) f; class = refl }

pub condition_right : (j : Judged) → Rightly truth_class j → broken_condition j ≡ []
condition_right j r = none_joined (unless_class truth_class not_boolean j.kind) j.broken (unless_kept truth_class not_boolean j.kind r.class) r.kept

pub not_right : (a : Judged) → Rightly truth_class a → Rightly truth_class (judged_not a)
not_right a r = one_right (unless_class truth_class not_boolean a.kind) truth_class None a.broken (unless_kept truth_class not_boolean a.kind r.class) r.kept

pub connective_right : (a b : Judged) → Rightly truth_class a → Rightly truth_class b → Rightly truth_class (judged_connective a b)
connective_right a b r s =
    one_right (unless_class truth_class not_boolean a.kind ++ unless_class truth_class not_boolean b.kind) truth_class None (a.broken ++ b.broken)
    (none_joined (unless_class truth_class not_boolean a.kind) (unless_class truth_class not_boolean b.kind) (unless_kept truth_class not_boolean a.kind r.class) (unless_kept truth_class not_boolean b.kind s.class))
    (none_joined a.broken b.broken r.kept s.kept)

pub order_right : (a b : Judged) → Rightly number_class a → Rightly number_class b → Rightly truth_class (judged_order a b)
order_right a b r s =
    one_right (unless_class number_class mismatch a.kind ++ unless_class number_class mismatch b.kind) truth_class None (a.broken ++ b.broken)
    (none_joined (unless_class number_class mismatch a.kind) (unless_class number_class mismatch b.kind) (unless_kept number_class mismatch a.kind r.class) (unless_kept number_class mismatch b.kind s.class))
    (none_joined a.broken b.broken r.kept s.kept)

pub same_right : (c : Class) (a b : Judged) → Rightly c a → Rightly c b → Rightly truth_class (judged_same a b)
same_right c a b r s =
    one_right (unless_class a.kind.class mismatch b.kind) truth_class None (a.broken ++ b.broken) (unless_same c mismatch a.kind b.kind r.class s.class) (none_joined a.broken b.broken r.kept s.kept)

reclassed : (c : Class) (j : Judged) (d : Class) → Rightly d j → d ≡ c → Rightly c j
reclassed c j d r e = record { kept = r.kept; class = r.class ∙ e }

pub union_right : (c : Class) (a b : Judged) → Rightly c a → Rightly c b → Rightly c (judged_union true a b)
union_right c a b r s =
    reclassed c (judged_union true a b) a.kind.class
    (some_right true (unless_class a.kind.class mismatch b.kind) a.kind.class (joined a.kind.interval b.kind.interval) (a.broken ++ b.broken)
    (unless_same c mismatch a.kind b.kind r.class s.class) (none_joined a.broken b.broken r.kept s.kept)) r.class

pub choice_right : (c : Class) (p a b : Judged) → Rightly truth_class p → Rightly c a → Rightly c b → Rightly c (judged_choice true p a b)
choice_right c p a b q r s =
    let own = unless_class truth_class not_boolean p.kind ++ unless_class a.kind.class mismatch b.kind in
    reclassed c (judged_choice true p a b) a.kind.class
    (some_right (a.is_set || b.is_set) own a.kind.class (joined a.kind.interval b.kind.interval) (p.broken ++ (a.broken ++ b.broken))
    (none_joined (unless_class truth_class not_boolean p.kind) (unless_class a.kind.class mismatch b.kind) (unless_kept truth_class not_boolean p.kind q.class) (unless_same c mismatch a.kind b.kind r.class s.class))
    (none_joined p.broken (a.broken ++ b.broken) q.kept (none_joined a.broken b.broken r.kept s.kept))) r.class

-- where no set may stand, and none does
pub choice_alone : (c : Class) (p a b : Judged) → Rightly truth_class p → Rightly c a → Rightly c b → a.is_set ≡ false → b.is_set ≡ false → Rightly c (judged_choice false p a b)
choice_alone c p a b q r s u v =
    let own = unless_class truth_class not_boolean p.kind ++ unless_class a.kind.class mismatch b.kind in
    let none : own ≡ [] =
    none_joined (unless_class truth_class not_boolean p.kind) (unless_class a.kind.class mismatch b.kind) (unless_kept truth_class not_boolean p.kind q.class) (unless_same c mismatch a.kind b.kind r.class s.class) in
    let set : (a.is_set || b.is_set) ≡ false = ap (λ t. t || b.is_set) u ∙ v in
    record {
      kept = none_joined (own ++ rule_if ((a.is_set || b.is_set) && true) set_here) (p.broken ++ (a.broken ++ b.broken))
          (none_joined own (rule_if ((a.is_set || b.is_set) && true) set_here) none (ap (λ t. rule_if (t && true) set_here) set))
          (none_joined p.broken (a.broken ++ b.broken) q.kept (none_joined a.broken b.broken r.kept s.kept));
      class = r.class;
    }

-- Lists.
pub all_kept : (c : Class) (js : List Judged) → Each (Rightly c) js → broken_in js ≡ []
all_kept c [] h = refl
all_kept c (j ∷ js) h = none_joined j.broken (broken_in js) h.0.kept (all_kept c js h.1)

pub all_of_class : (c : Class) (r : KindRule) (js : List Judged) → Each (Rightly c) js → flat_map (unless_class c r) (kinds_in js) ≡ []
all_of_class c r [] h = refl
all_of_class c r (j ∷ js) h = none_joined (unless_class c r j.kind) (flat_map (unless_class c r) (kinds_in js)) (unless_kept c r j.kind h.0.class) (all_of_class c r js h.1)

pub all_alike : (c : Class) (r : KindRule) (js : List Judged) → Each (Rightly c) js → first_class (kinds_in js) ≡ c → unlike_first r (kinds_in js) ≡ []
all_alike c r js h e = ap (λ d. flat_map (unless_class d r) (kinds_in js)) e ∙ all_of_class c r js h

pub set_right : (c : Class) (js : List Judged) → Each (Rightly c) js → first_class (kinds_in js) ≡ c → Rightly c (judged_set true js)
set_right c js h e =
    reclassed c (judged_set true js) (first_class (kinds_in js))
    (some_right true (unlike_first mismatch (kinds_in js)) (first_class (kinds_in js)) (hull_of (kinds_in js)) (broken_in js) (all_alike c mismatch js h e) (all_kept c js h)) e

pub case_right : (c : Class) (ends : Bool) (conditions values : List Judged) → ends ≡ true → Each (Rightly truth_class) conditions → Each (Rightly c) values → first_class (kinds_in values) ≡ c →
    Rightly c (judged_case true ends conditions values)
case_right c ends conditions values e g h f =
    let truths = flat_map (unless_class truth_class not_boolean) (kinds_in conditions) in
    let alike = unlike_first mismatch (kinds_in values) in
    reclassed c (judged_case true ends conditions values) (first_class (kinds_in values))
    (some_right (some_set values) (truths ++ (alike ++ rule_if (not ends) case_end)) (first_class (kinds_in values)) (hull_of (kinds_in values)) (broken_in conditions ++ broken_in values)
    (none_joined truths (alike ++ rule_if (not ends) case_end) (all_of_class truth_class not_boolean conditions g)
    (none_joined alike (rule_if (not ends) case_end) (all_alike c mismatch values h f) (ap (λ b. rule_if (not b) case_end) e)))
    (none_joined (broken_in conditions) (broken_in values) (all_kept truth_class conditions g) (all_kept c values h))) f

pub span_right : (lo hi : ℤ) → int_lt hi lo ≡ false → fits (record { lo = lo; hi = hi }) ≡ true → Rightly number_class (judged_span true lo hi)
span_right lo hi e f =
    let exact : Option Interval = Some (record { lo = lo; hi = hi }) in
    some_right true (rule_if (int_lt hi lo) empty_range ++ wide exact) number_class exact []
    (none_joined (rule_if (int_lt hi lo) empty_range) (wide exact) (ap (λ b. rule_if b empty_range) e) (ap (λ b. rule_if (not b) too_wide) f)) refl
