-- What follows where no rule of a table's row is broken.
use Rattle.std.proofs.Common.{◌≡◌, Bool, true, false, not, cond, ◌&&◌, ◌⊎◌, inl, inr, List, [], ◌∷◌, ◌++◌, Option, Some, None, ℤ, ◌≤ℤ◌, int_lt, IsTrue, refl, subst}
use Rattle.std.specs.Int.{int_min, int_max}
use Rattle.smv_language.specs.Trace.{Each}
use Rattle.smv_language.specs.Values.{Value, truth, number, symbol, Values, one, from_to, either, has, at_most}
use Rattle.smv_language.proofs.ValueLaws.{same_value_equal, not_less}
use Rattle.smv_type_laws.specs.Intervals.{Interval, hull, fits, fits_number}
use Rattle.smv_type_laws.specs.ExpressionKinds.{Class, truth_class, number_class, symbol_class, Kind, KindRule, set_here, same_class, rule_if, unless_class, wide, joined, where_kept, one_value, some_values, Judged, hull_from, hull_of, first_class}
use Rattle.smv_type_laws.specs.KindValues.{LiesIn, IsOfKind, GivesOne, GivesSome}
use Rattle.smv_type_laws.proofs.Products.{in_hull_left, in_hull_right}
use Rattle.smv_lexer.proofs.SignLemmas.{both_true}
use Rattle.smv_language.proofs.BoolLaws.{or_cases}

pub none_first : {A : Type 0} (xs ys : List A) → xs ++ ys ≡ [] → xs ≡ []
none_first [] ys e = refl
none_first (x ∷ xs) ys e = cc

pub none_second : {A : Type 0} (xs ys : List A) → xs ++ ys ≡ [] → ys ≡ []
none_second [] ys e = e
none_second (x ∷ xs) ys e = cc

pub not_if : (b : Bool) (r : KindRule) → rule_if b r ≡ [] → b ≡ false
not_if true r e = cc
not_if false r e = refl

pub same_class_equal : (c d : Class) → same_class c d ≡ true → c ≡ d
same_class_equal truth_class truth_class e = refl
same_class_equal truth_class number_class e = cc
same_class_equal truth_class symbol_class e = cc
same_class_equal number_class truth_class e = cc
same_class_equal number_class number_class e = refl
same_class_equal number_class symbol_class e = cc
same_class_equal symbol_class truth_class e = cc
same_class_equal symbol_class number_class e = cc
same_class_equal symbol_class symbol_class e = refl

pub not_false : (b : Bool) → not b ≡ false → b ≡ true
not_false true e = refl
not_false false e = cc

pub class_kept : (c : Class) (r : KindRule) (k : Kind) → unless_class c r k ≡ [] → k.class ≡ c
class_kept c r k e = same_class_equal k.class c (not_false _ (not_if _ r e))

-- a number's interval is known and ends within 32 bits
abbrev pub Bounded : Class → Option Interval → Type 0
Bounded number_class (Some i) = fits i ≡ true
Bounded number_class None = ⊥
Bounded truth_class i = Unit {0}
Bounded symbol_class i = Unit {0}

pub wide_bounded : (i : Interval) → wide (Some i) ≡ [] → fits i ≡ true
wide_bounded i e = not_false _ (not_if _ _ e)

pub least_fits : (a b : ℤ) → fits_number a ≡ true → fits_number b ≡ true → fits_number (int_min a b) ≡ true
least_fits a b p q = by (int_lt b a)
  where
    by : (t : Bool) → fits_number (cond t b a) ≡ true
    by true = q
    by false = p

pub greatest_fits : (a b : ℤ) → fits_number a ≡ true → fits_number b ≡ true → fits_number (int_max a b) ≡ true
greatest_fits a b p q = by (int_lt b a)
  where
    by : (t : Bool) → fits_number (cond t a b) ≡ true
    by true = p
    by false = q

pub hull_fits : (i j : Interval) → fits i ≡ true → fits j ≡ true → fits (hull i j) ≡ true
hull_fits i j p q =
    let a = both_true _ _ p in
    let b = both_true _ _ q in
    rw (least_fits i.lo j.lo a.0 b.0, greatest_fits i.hi j.hi a.1 b.1) refl

pub joined_bounded : (c : Class) (i j : Option Interval) → Bounded c i → Bounded c j → Bounded c (joined i j)
joined_bounded truth_class i j p q = tt
joined_bounded symbol_class i j p q = tt
joined_bounded number_class None j p q = absurd p
joined_bounded number_class (Some i) None p q = absurd q
joined_bounded number_class (Some i) (Some j) p q = hull_fits i j p q

pub joined_left : (i j : Option Interval) (v : Value) → LiesIn i v → LiesIn (joined i j) v
joined_left None j v h = tt
joined_left (Some i) None v h = tt
joined_left (Some i) (Some j) (number n) h = in_hull_left i j n h
joined_left (Some i) (Some j) (truth b) h = tt
joined_left (Some i) (Some j) (symbol x) h = tt

pub joined_right : (i j : Option Interval) (v : Value) → LiesIn j v → LiesIn (joined i j) v
joined_right None j v h = tt
joined_right (Some i) None v h = tt
joined_right (Some i) (Some j) (number n) h = in_hull_right i j n h
joined_right (Some i) (Some j) (truth b) h = tt
joined_right (Some i) (Some j) (symbol x) h = tt

-- all values of the first interval lie in the second
abbrev pub Within : Option Interval → Option Interval → Type 0
Within i j = (v : Value) → LiesIn i v → LiesIn j v

abbrev pub Inside : Option Interval → Kind → Type 0
Inside j k = Within k.interval j

pub hull_from_holds : (i : Option Interval) (ks : List Kind) → Within i (hull_from i ks) × Each (Inside (hull_from i ks)) ks
hull_from_holds i [] = (λ v h. h, tt)
hull_from_holds i (k ∷ ks) =
    let more = hull_from_holds (joined i k.interval) ks in
    (λ v h. more.0 v (joined_left i k.interval v h), (λ v h. more.0 v (joined_right i k.interval v h), more.1))

pub hull_of_holds : (ks : List Kind) → Each (Inside (hull_of ks)) ks
hull_of_holds [] = tt
hull_of_holds (k ∷ ks) = hull_from_holds k.interval ks

abbrev pub BoundedAs : Class → Kind → Type 0
BoundedAs c k = Bounded c k.interval

pub hull_from_bounded : (c : Class) (i : Option Interval) (ks : List Kind) → Bounded c i → Each (BoundedAs c) ks → Bounded c (hull_from i ks)
hull_from_bounded c i [] p h = p
hull_from_bounded c i (k ∷ ks) p h = hull_from_bounded c (joined i k.interval) ks (joined_bounded c i k.interval p h.0) h.1

pub hull_of_bounded : (ks : List Kind) → Each (BoundedAs (first_class ks)) ks → Bounded (first_class ks) (hull_of ks)
hull_of_bounded [] h = tt
hull_of_bounded (k ∷ ks) h = hull_from_bounded k.class k.interval ks h.0 h.1

-- Values of each form.
pub of_one : (P : Value → Type 0) (w : Value) → P w → (v : Value) → IsTrue (has (one w) v) → P v
of_one P w p v h = subst P (same_value_equal w v h) p

pub of_either : (P : Value → Type 0) (s t : Values) → ((v : Value) → IsTrue (has s v) → P v) → ((v : Value) → IsTrue (has t v) → P v) → (v : Value) → IsTrue (has (either s t) v) → P v
of_either P s t p q v h = by (or_cases (has s v) (has t v) h)
  where
    by : (has s v ≡ true) ⊎ (has t v ≡ true) → P v
    by (inl e) = p v e
    by (inr e) = q v e

pub of_span : (P : Value → Type 0) (lo hi : ℤ) → ((n : ℤ) → lo ≤ℤ n → n ≤ℤ hi → P (number n)) → (v : Value) → IsTrue (has (from_to lo hi) v) → P v
of_span P lo hi p (number n) h = let e = both_true (at_most lo n) (at_most n hi) h in p n (not_less lo n e.0) (not_less n hi e.1)
of_span P lo hi p (truth b) h = cc
of_span P lo hi p (symbol x) h = cc

-- A part that is no set has one value, of its kind.
pub record Alone (j : Judged) (given : Option Values) : Type 0 where
  pub bounded : Bounded j.kind.class j.kind.interval
  pub gives : GivesOne j.kind given

-- Any part has values of its kind, and one where it is no set.
pub record Sound (j : Judged) (given : Option Values) : Type 0 where
  pub bounded : Bounded j.kind.class j.kind.interval
  pub gives : GivesSome j.kind given
  pub alone : j.is_set ≡ false → GivesOne j.kind given

abbrev pub kind_as : Class → Option Interval → Kind
kind_as c i = record { class = c; interval = i }

pub some_of_one : (k : Kind) (given : Option Values) → GivesOne k given → GivesSome k given
some_of_one k given g = record { values = one g.value; is = g.is; of_kind = of_one (IsOfKind k) g.value g.of_kind }

pub sound_one : (own : List KindRule) (c : Class) (i : Option Interval) (parts : List KindRule) (given : Option Values) →
    own ≡ [] → Bounded c i → GivesOne (kind_as c i) given → Sound (one_value own c i parts) given
sound_one [] c i parts given e b g = record { bounded = b; gives = some_of_one _ given g; alone = λ h. g }
sound_one (r ∷ own) c i parts given e b g = cc

pub sound_some : (sets is_set : Bool) (own : List KindRule) (c : Class) (i : Option Interval) (parts : List KindRule) (given : Option Values) →
    (some_values sets is_set own c i parts).broken ≡ [] → Bounded c i → GivesSome (kind_as c i) given → (is_set ≡ false → GivesOne (kind_as c i) given) →
    Sound (some_values sets is_set own c i parts) given
sound_some sets is_set own c i parts given e b g a = by (own ++ rule_if (is_set && not sets) set_here) refl (none_first _ parts e)
  where
    by : (all : List KindRule) → own ++ rule_if (is_set && not sets) set_here ≡ all → all ≡ [] →
        Sound (record { kind = kind_as c (where_kept all i); is_set = is_set; broken = all ++ parts }) given
    by [] f h = record { bounded = b; gives = g; alone = a }
    by (r ∷ rs) f h = cc
