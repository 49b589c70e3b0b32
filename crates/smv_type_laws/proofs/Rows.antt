-- The rows of the table: where no rule is broken, an expression has values of its kind.
use Rattle.std.proofs.Common.{◌≡◌, Bool, true, false, [], ◌++◌, Option, Some, None, ℤ, pos, ◌+ℤ◌, ◌-ℤ◌, ◌*ℤ◌, int_div, int_rem, cond, refl, sym, ap, ◌∙◌, subst}
use Rattle.smv_language.specs.declared.expr.Op.{Op}
use Rattle.smv_language.specs.declared.expr.Op.TheVariants as op
use Rattle.smv_language.specs.Values.{Value, truth, number, symbol, Values, one, either, has, apply, on_numbers, on_truths, opposite}
use Rattle.smv_language.specs.Evaluate.{gives_one, gives_not, gives_negative, gives_either, gives_within, gives_applied}
use Rattle.smv_type_laws.specs.Intervals.{Interval, IsIn, has_zero, sum_of, difference_of, negative_of, product_of, quotient_of, remainder_of}
use Rattle.smv_type_laws.specs.ExpressionKinds.{Class, truth_class, number_class, symbol_class, Kind, mismatch, not_boolean, unless_class, wide, on_both, joined, Judged, judged_not, judged_connective, negative_interval, judged_negative, exact_interval, divisor_rule, judged_number, judged_order, judged_same, judged_union}
use Rattle.smv_type_laws.specs.KindValues.{IsOfClass, LiesIn, IsOfKind}
use Rattle.smv_type_laws.proofs.Products.{in_sum, in_difference, in_negative, in_product}
use Rattle.smv_type_laws.proofs.Quotients.{in_quotient, in_remainder}
use Rattle.smv_type_laws.proofs.Parts.{none_first, none_second, not_if, class_kept, Bounded, wide_bounded, joined_bounded, joined_left, joined_right, of_either, Alone, Sound, kind_as, sound_one, sound_some}

-- a value of a class
truth_of : (c : Class) (v : Value) → c ≡ truth_class → IsOfClass c v → (b : Bool) × (v ≡ truth b)
truth_of truth_class (truth b) e h = (b, refl)
truth_of truth_class (number n) e h = absurd h
truth_of truth_class (symbol x) e h = absurd h
truth_of number_class v e h = cc
truth_of symbol_class v e h = cc

number_in : (c : Class) (v : Value) → c ≡ number_class → IsOfClass c v → (n : ℤ) × (v ≡ number n)
number_in number_class (number n) e h = (n, refl)
number_in number_class (truth b) e h = absurd h
number_in number_class (symbol x) e h = absurd h
number_in truth_class v e h = cc
number_in symbol_class v e h = cc

a_truth : (b : Bool) → IsOfKind (kind_as truth_class None) (truth b)
a_truth b = record { class = tt; lies = tt }

-- one truth value
pub truth_given : {j : Judged} {given : Option Values} → Alone j given → j.kind.class ≡ truth_class → (b : Bool) × (given ≡ Some (one (truth b)))
truth_given {j} a e = let b = truth_of j.kind.class a.gives.value e a.gives.of_kind.class in (b.0, a.gives.is ∙ ap (λ v. Some (one v)) b.1)

-- one number, in its interval
pub number_given : {j : Judged} {given : Option Values} → Alone j given → j.kind.class ≡ number_class → (n : ℤ) × (given ≡ Some (one (number n))) × LiesIn j.kind.interval (number n)
number_given {j} a e =
    let n = number_in j.kind.class a.gives.value e a.gives.of_kind.class in
    (n.0, a.gives.is ∙ ap (λ v. Some (one v)) n.1, subst (LiesIn j.kind.interval) n.1 a.gives.of_kind.lies)

pub bounded_as : {j : Judged} {given : Option Values} {c : Class} → Alone j given → j.kind.class ≡ c → Bounded c j.kind.interval
bounded_as {j} a e = subst (λ c. Bounded c j.kind.interval) e a.bounded

pub not_row : (a : Judged) (ra : Option Values) → (judged_not a).broken ≡ [] → (a.broken ≡ [] → Alone a ra) → Sound (judged_not a) (gives_not ra)
not_row a ra e h =
    let own = unless_class truth_class not_boolean a.kind in
    let none = none_first own a.broken e in
    let b = truth_given (h (none_second own a.broken e)) (class_kept _ _ a.kind none) in
    sound_one own truth_class None a.broken (gives_not ra) none tt
    (record { value = truth (opposite b.0); is = ap gives_not b.1; of_kind = a_truth (opposite b.0) })

-- an operator on truth values has one
abbrev pub Connects : Op → Type 0
Connects o = (p q : Bool) → (b : Bool) × (on_truths o p q ≡ Some (truth b))

pub connective_row : (o : Op) → Connects o → (a b : Judged) (ra rb : Option Values) → (judged_connective a b).broken ≡ [] →
    (a.broken ≡ [] → Alone a ra) → (b.broken ≡ [] → Alone b rb) → Sound (judged_connective a b) (gives_applied o ra rb)
connective_row o f a b ra rb e ha hb =
    let left = unless_class truth_class not_boolean a.kind in
    let right = unless_class truth_class not_boolean b.kind in
    let none = none_first (left ++ right) (a.broken ++ b.broken) e in
    let parts = none_second (left ++ right) (a.broken ++ b.broken) e in
    let x = truth_given (ha (none_first _ _ parts)) (class_kept _ _ a.kind (none_first left right none)) in
    let y = truth_given (hb (none_second a.broken b.broken parts)) (class_kept _ _ b.kind (none_second left right none)) in
    let z = f x.0 y.0 in
    sound_one (left ++ right) truth_class None (a.broken ++ b.broken) (gives_applied o ra rb) none tt
    (record { value = truth z.0; is = (λ i. gives_applied o (x.1 i) (y.1 i)) ∙ ap gives_one z.1; of_kind = a_truth z.0 })

-- an operator on numbers has a truth value
abbrev pub Compares : Op → Type 0
Compares o = (m n : ℤ) → (b : Bool) × (on_numbers o m n ≡ Some (truth b))

pub order_row : (o : Op) → Compares o → (a b : Judged) (ra rb : Option Values) → (judged_order a b).broken ≡ [] →
    (a.broken ≡ [] → Alone a ra) → (b.broken ≡ [] → Alone b rb) → Sound (judged_order a b) (gives_applied o ra rb)
order_row o f a b ra rb e ha hb =
    let left = unless_class number_class mismatch a.kind in
    let right = unless_class number_class mismatch b.kind in
    let none = none_first (left ++ right) (a.broken ++ b.broken) e in
    let parts = none_second (left ++ right) (a.broken ++ b.broken) e in
    let x = number_given (ha (none_first _ _ parts)) (class_kept _ _ a.kind (none_first left right none)) in
    let y = number_given (hb (none_second a.broken b.broken parts)) (class_kept _ _ b.kind (none_second left right none)) in
    let z = f x.0 y.0 in
    sound_one (left ++ right) truth_class None (a.broken ++ b.broken) (gives_applied o ra rb) none tt
    (record { value = truth z.0; is = (λ i. gives_applied o (x.1 i) (y.1 i)) ∙ ap gives_one z.1; of_kind = a_truth z.0 })

-- an operator on two values of one class has a truth value
abbrev pub Matches : Op → Type 0
Matches o = (c : Class) (v w : Value) → IsOfClass c v → IsOfClass c w → (b : Bool) × (apply o v w ≡ Some (truth b))

pub same_row : (o : Op) → Matches o → (a b : Judged) (ra rb : Option Values) → (judged_same a b).broken ≡ [] →
    (a.broken ≡ [] → Alone a ra) → (b.broken ≡ [] → Alone b rb) → Sound (judged_same a b) (gives_applied o ra rb)
same_row o f a b ra rb e ha hb =
    let own = unless_class a.kind.class mismatch b.kind in
    let none = none_first own (a.broken ++ b.broken) e in
    let parts = none_second own (a.broken ++ b.broken) e in
    let x = (ha (none_first _ _ parts)).gives in
    let y = (hb (none_second a.broken b.broken parts)).gives in
    let z = f a.kind.class x.value y.value x.of_kind.class (subst (λ c. IsOfClass c y.value) (class_kept _ _ b.kind none) y.of_kind.class) in
    sound_one own truth_class None (a.broken ++ b.broken) (gives_applied o ra rb) none tt
    (record { value = truth z.0; is = (λ i. gives_applied o (x.is i) (y.is i)) ∙ ap gives_one z.1; of_kind = a_truth z.0 })

pub within_row : (a b : Judged) (ra rb : Option Values) → (judged_same a b).broken ≡ [] →
    (a.broken ≡ [] → Alone a ra) → (b.broken ≡ [] → Sound b rb) → Sound (judged_same a b) (gives_within ra rb)
within_row a b ra rb e ha hb =
    let own = unless_class a.kind.class mismatch b.kind in
    let none = none_first own (a.broken ++ b.broken) e in
    let parts = none_second own (a.broken ++ b.broken) e in
    let x = (ha (none_first _ _ parts)).gives in
    let y = (hb (none_second a.broken b.broken parts)).gives in
    sound_one own truth_class None (a.broken ++ b.broken) (gives_within ra rb) none tt
    (record { value = truth (has y.values x.value); is = λ i. gives_within (x.is i) (y.is i); of_kind = a_truth (has y.values x.value) })

-- the result of an operation on numbers, in its interval
pub record Result (o : Op) (m n : ℤ) (i : Option Interval) : Type 0 where
  pub value : ℤ
  pub is : on_numbers o m n ≡ Some (number value)
  pub lies : LiesIn i (number value)
  pub bounded : Bounded number_class i

-- an operation on numbers of two intervals has a result in the exact one
abbrev pub Works : Op → Type 0
Works o =
    (i j : Interval) (m n : ℤ) → IsIn i m → IsIn j n → divisor_rule o (Some j) ≡ [] → wide (exact_interval o i j) ≡ [] → Result o m n (exact_interval o i j)

pub plus_works : Works op.Plus
plus_works i j m n p q z w = record { value = m +ℤ n; is = refl; lies = in_sum i j m n p q; bounded = wide_bounded (sum_of i j) w }

pub minus_works : Works op.Minus
minus_works i j m n p q z w = record { value = m -ℤ n; is = refl; lies = in_difference i j m n p q; bounded = wide_bounded (difference_of i j) w }

pub times_works : Works op.Times
times_works i j m n p q z w = record { value = m *ℤ n; is = refl; lies = in_product i j m n p q; bounded = wide_bounded (product_of i j) w }

pub over_works : Works op.Over
over_works i j m n p q z w =
    let e : has_zero j ≡ false = not_if (has_zero j) _ z in
    let exact : exact_interval op.Over i j ≡ Some (quotient_of i j) = ap (λ t. cond t None (Some (quotient_of i j))) e in
    subst (Result op.Over m n) (sym exact) (record {
      value = int_div m n;
      is = refl;
      lies = in_quotient i j m n e p q;
      bounded = wide_bounded (quotient_of i j) (ap wide (sym exact) ∙ w);
    })

pub mod_works : Works op.Mod
mod_works i j m n p q z w =
    let e : has_zero j ≡ false = not_if (has_zero j) _ z in
    let exact : exact_interval op.Mod i j ≡ Some (remainder_of i j) = ap (λ t. cond t None (Some (remainder_of i j))) e in
    subst (Result op.Mod m n) (sym exact) (record {
      value = int_rem m n;
      is = refl;
      lies = in_remainder i j m n e p q;
      bounded = wide_bounded (remainder_of i j) (ap wide (sym exact) ∙ w);
    })

on_known : (o : Op) → Works o → (i j : Option Interval) (m n : ℤ) → Bounded number_class i → Bounded number_class j → LiesIn i (number m) → LiesIn j (number n) →
    divisor_rule o j ≡ [] → wide (on_both (exact_interval o) i j) ≡ [] → Result o m n (on_both (exact_interval o) i j)
on_known o f None j m n bi bj p q z w = absurd bi
on_known o f (Some i) None m n bi bj p q z w = absurd bj
on_known o f (Some i) (Some j) m n bi bj p q z w = f i j m n p q z w

pub number_row : (o : Op) → Works o → (a b : Judged) (ra rb : Option Values) → (judged_number o a b).broken ≡ [] →
    (a.broken ≡ [] → Alone a ra) → (b.broken ≡ [] → Alone b rb) → Sound (judged_number o a b) (gives_applied o ra rb)
number_row o f a b ra rb e ha hb =
    let exact = on_both (exact_interval o) a.kind.interval b.kind.interval in
    let left = unless_class number_class mismatch a.kind in
    let right = unless_class number_class mismatch b.kind in
    let rest = divisor_rule o b.kind.interval ++ wide exact in
    let own = left ++ (right ++ rest) in
    let none = none_first own (a.broken ++ b.broken) e in
    let parts = none_second own (a.broken ++ b.broken) e in
    let more = none_second left (right ++ rest) none in
    let last = none_second right rest more in
    let first = ha (none_first _ _ parts) in
    let second = hb (none_second a.broken b.broken parts) in
    let ca = class_kept _ _ a.kind (none_first left (right ++ rest) none) in
    let cb = class_kept _ _ b.kind (none_first right rest more) in
    let x = number_given first ca in
    let y = number_given second cb in
    let r = on_known o f a.kind.interval b.kind.interval x.0 y.0 (bounded_as first ca) (bounded_as second cb) x.2 y.2 (none_first _ _ last) (none_second (divisor_rule o b.kind.interval) (wide exact) last) in
    sound_one own number_class exact (a.broken ++ b.broken) (gives_applied o ra rb) none r.bounded
    (record { value = number r.value; is = (λ i. gives_applied o (x.1 i) (y.1 i)) ∙ ap gives_one r.is; of_kind = record { class = tt; lies = r.lies } })

negative_known : (i : Option Interval) (m : ℤ) → Bounded number_class i → LiesIn i (number m) → wide (negative_interval i) ≡ [] →
    LiesIn (negative_interval i) (number (pos 0 -ℤ m)) × Bounded number_class (negative_interval i)
negative_known None m b p w = absurd b
negative_known (Some i) m b p w = (in_negative i m p, wide_bounded (negative_of i) w)

pub negative_row : (a : Judged) (ra : Option Values) → (judged_negative a).broken ≡ [] → (a.broken ≡ [] → Alone a ra) → Sound (judged_negative a) (gives_negative ra)
negative_row a ra e h =
    let exact = negative_interval a.kind.interval in
    let left = unless_class number_class mismatch a.kind in
    let own = left ++ wide exact in
    let none = none_first own a.broken e in
    let first = h (none_second own a.broken e) in
    let ca = class_kept _ _ a.kind (none_first left (wide exact) none) in
    let x = number_given first ca in
    let r = negative_known a.kind.interval x.0 (bounded_as first ca) x.2 (none_second left (wide exact) none) in
    sound_one own number_class exact a.broken (gives_negative ra) none r.1
    (record { value = number (pos 0 -ℤ x.0); is = ap gives_negative x.1; of_kind = record { class = tt; lies = r.0 } })

-- a value of one side is one of the hull
pub from_left : (a b : Kind) (v : Value) → IsOfKind a v → IsOfKind (kind_as a.class (joined a.interval b.interval)) v
from_left a b v h = record { class = h.class; lies = joined_left a.interval b.interval v h.lies }

pub from_right : (a b : Kind) (v : Value) → b.class ≡ a.class → IsOfKind b v → IsOfKind (kind_as a.class (joined a.interval b.interval)) v
from_right a b v e h = record { class = subst (λ c. IsOfClass c v) e h.class; lies = joined_right a.interval b.interval v h.lies }

pub union_row : (sets : Bool) (a b : Judged) (ra rb : Option Values) → (judged_union sets a b).broken ≡ [] →
    (a.broken ≡ [] → Sound a ra) → (b.broken ≡ [] → Sound b rb) → Sound (judged_union sets a b) (gives_either ra rb)
union_row sets a b ra rb e ha hb =
    let own = unless_class a.kind.class mismatch b.kind in
    let all = own ++ _ in
    let none = none_first own _ (none_first all (a.broken ++ b.broken) e) in
    let parts = none_second all (a.broken ++ b.broken) e in
    let x = ha (none_first _ _ parts) in
    let y = hb (none_second a.broken b.broken parts) in
    let c = class_kept _ _ b.kind none in
    sound_some sets true own a.kind.class (joined a.kind.interval b.kind.interval) (a.broken ++ b.broken) (gives_either ra rb) e
    (joined_bounded a.kind.class a.kind.interval b.kind.interval x.bounded (subst (λ d. Bounded d b.kind.interval) c y.bounded))
    (record {
      values = either x.gives.values y.gives.values;
      is = λ i. gives_either (x.gives.is i) (y.gives.is i);
      of_kind = of_either (IsOfKind (kind_as a.kind.class (joined a.kind.interval b.kind.interval))) x.gives.values y.gives.values
          (λ v h. from_left a.kind b.kind v (x.gives.of_kind v h)) (λ v h. from_right a.kind b.kind v c (y.gives.of_kind v h));
    }) (λ h. cc)
