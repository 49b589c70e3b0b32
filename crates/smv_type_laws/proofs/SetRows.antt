-- The rows of what may be a set: choices, cases, sets and spans.
use Rattle.std.proofs.Common.{◌≡◌, Bool, true, false, not, ◌||◌, List, [], ◌∷◌, ◌++◌, flat_map, Option, Some, None, ℤ, int_lt, refl, sym, subst}
use Rattle.smv_language.specs.Language.{Each, Value, Values, no_value, one, from_to, either, gives_either, gives_choice}
use Rattle.smv_language.specs.Values.{truth, number}
use Rattle.smv_type_laws.specs.Intervals.{Interval, just}
use Rattle.smv_type_laws.specs.ExpressionKinds.{Class, truth_class, number_class, Kind, mismatch, not_boolean, empty_range, case_end, unless_class, rule_if, wide, joined, Judged, one_value, judged_choice, judged_case, judged_set, judged_span, first_class, hull_of, unlike_first, broken_in, kinds_in, some_set}
use Rattle.smv_type_laws.specs.KindValues.{IsOfClass, IsOfKind, GivesOne, GivesSome}
use Rattle.smv_type_laws.proofs.Products.{in_just}
use Rattle.smv_type_laws.proofs.Parts.{none_first, none_second, not_if, class_kept, Bounded, BoundedAs, Inside, wide_bounded, joined_bounded, hull_of_bounded, of_one, of_either, of_span, Alone, Sound, kind_as, sound_one, sound_some, not_false}
use Rattle.smv_type_laws.proofs.Rows.{truth_given, bounded_as, from_left, from_right}

pub or_false_first : (a b : Bool) → (a || b) ≡ false → a ≡ false
or_false_first true b e = cc
or_false_first false b e = refl

pub or_false_second : (a b : Bool) → (a || b) ≡ false → b ≡ false
or_false_second true b e = cc
or_false_second false b e = e

widen_some : (k l : Kind) (given : Option Values) → ((v : Value) → IsOfKind k v → IsOfKind l v) → GivesSome k given → GivesSome l given
widen_some k l given f g = record { values = g.values; is = g.is; of_kind = λ v h. f v (g.of_kind v h) }

widen_one : (k l : Kind) (given : Option Values) → ((v : Value) → IsOfKind k v → IsOfKind l v) → GivesOne k given → GivesOne l given
widen_one k l given f g = record { value = g.value; is = g.is; of_kind = f g.value g.of_kind }

pub choice_row : (sets : Bool) (c a b : Judged) (rc ra rb : Option Values) → (judged_choice sets c a b).broken ≡ [] →
    (c.broken ≡ [] → Alone c rc) → (a.broken ≡ [] → Sound a ra) → (b.broken ≡ [] → Sound b rb) → Sound (judged_choice sets c a b) (gives_choice rc ra rb)
choice_row sets c a b rc ra rb e hc ha hb =
    let left = unless_class truth_class not_boolean c.kind in
    let right = unless_class a.kind.class mismatch b.kind in
    let own = left ++ right in
    let all = own ++ _ in
    let none = none_first own _ (none_first all (c.broken ++ (a.broken ++ b.broken)) e) in
    let parts = none_second all (c.broken ++ (a.broken ++ b.broken)) e in
    let more = none_second c.broken (a.broken ++ b.broken) parts in
    let p = truth_given (hc (none_first _ _ parts)) (class_kept _ _ c.kind (none_first left right none)) in
    let x = ha (none_first _ _ more) in
    let y = hb (none_second a.broken b.broken more) in
    let same = class_kept _ _ b.kind (none_second left right none) in
    sound_some sets (a.is_set || b.is_set) own a.kind.class (joined a.kind.interval b.kind.interval) (c.broken ++ (a.broken ++ b.broken)) (gives_choice rc ra rb) e
    (joined_bounded a.kind.class a.kind.interval b.kind.interval x.bounded (subst (λ d. Bounded d b.kind.interval) same y.bounded))
    (several x y same p.0 p.1) (single x y same p.0 p.1)
  where
    several : Sound a ra → Sound b rb → b.kind.class ≡ a.kind.class → (p : Bool) → rc ≡ Some (one (truth p)) → GivesSome (kind_as a.kind.class (joined a.kind.interval b.kind.interval)) (gives_choice rc ra rb)
    several x y same true f =
        subst (λ r. GivesSome (kind_as a.kind.class (joined a.kind.interval b.kind.interval)) (gives_choice r ra rb)) (sym f)
        (widen_some a.kind _ ra (from_left a.kind b.kind) x.gives)
    several x y same false f =
        subst (λ r. GivesSome (kind_as a.kind.class (joined a.kind.interval b.kind.interval)) (gives_choice r ra rb)) (sym f)
        (widen_some b.kind _ rb (λ v. from_right a.kind b.kind v same) y.gives)

    single : Sound a ra → Sound b rb → b.kind.class ≡ a.kind.class → (p : Bool) → rc ≡ Some (one (truth p)) → (a.is_set || b.is_set) ≡ false →
        GivesOne (kind_as a.kind.class (joined a.kind.interval b.kind.interval)) (gives_choice rc ra rb)
    single x y same true f h =
        subst (λ r. GivesOne (kind_as a.kind.class (joined a.kind.interval b.kind.interval)) (gives_choice r ra rb)) (sym f)
        (widen_one a.kind _ ra (from_left a.kind b.kind) (x.alone (or_false_first a.is_set b.is_set h)))
    single x y same false f h =
        subst (λ r. GivesOne (kind_as a.kind.class (joined a.kind.interval b.kind.interval)) (gives_choice r ra rb)) (sym f)
        (widen_one b.kind _ rb (λ v. from_right a.kind b.kind v same) (y.alone (or_false_second a.is_set b.is_set h)))

into : (c : Class) (target : Option Interval) (k : Kind) → k.class ≡ c → Inside target k → (v : Value) → IsOfKind k v → IsOfKind (kind_as c target) v
into c target k e f v h = record { class = subst (λ d. IsOfClass d v) e h.class; lies = f v h.lies }

-- The members of a set: their values lie in an interval around all of theirs.
pub record Members (c : Class) (target : Option Interval) (ks : List Kind) (given : Option Values) : Type 0 where
  pub gives : GivesSome (kind_as c target) given
  pub bounded : Each (BoundedAs c) ks

pub no_members : (c : Class) (target : Option Interval) → Members c target [] (Some no_value)
no_members c target = record { gives = record { values = no_value; is = refl; of_kind = λ v h. cc }; bounded = tt }

pub one_member : (c : Class) (target : Option Interval) (j : Judged) (ks : List Kind) (r rest : Option Values) → Alone j r → j.kind.class ≡ c → Inside target j.kind →
    Members c target ks rest → Members c target (j.kind ∷ ks) (gives_either r rest)
one_member c target j ks r rest a e f m = record {
  gives = record {
    values = either (one a.gives.value) m.gives.values;
    is = λ i. gives_either (a.gives.is i) (m.gives.is i);
    of_kind = of_either (IsOfKind (kind_as c target)) (one a.gives.value) m.gives.values
        (of_one (IsOfKind (kind_as c target)) a.gives.value (into c target j.kind e f a.gives.value a.gives.of_kind)) m.gives.of_kind;
  };
  bounded = (bounded_as a e, m.bounded);
}

pub set_row : (sets : Bool) (js : List Judged) (given : Option Values) → (judged_set sets js).broken ≡ [] →
    (broken_in js ≡ [] → unlike_first mismatch (kinds_in js) ≡ [] → Members (first_class (kinds_in js)) (hull_of (kinds_in js)) (kinds_in js) given) → Sound (judged_set sets js) given
set_row sets js given e h =
    let own = unlike_first mismatch (kinds_in js) in
    let all = own ++ _ in
    let none = none_first own _ (none_first all (broken_in js) e) in
    let m = h (none_second all (broken_in js) e) none in
    sound_some sets true own (first_class (kinds_in js)) (hull_of (kinds_in js)) (broken_in js) given e (hull_of_bounded (kinds_in js) m.bounded) m.gives (λ f. cc)

-- The branches of a case: the value of one of them, in an interval around all of theirs.
pub record Branched (c : Class) (target : Option Interval) (values : List Judged) (given : Option Values) : Type 0 where
  pub gives : GivesSome (kind_as c target) given
  pub alone : some_set values ≡ false → GivesOne (kind_as c target) given
  pub bounded : Each (BoundedAs c) (kinds_in values)

pub last_branch : (c : Class) (target : Option Interval) (j : Judged) (rc r : Option Values) → rc ≡ Some (one (truth true)) → Sound j r → j.kind.class ≡ c → Inside target j.kind →
    Branched c target (j ∷ []) (gives_choice rc r None)
last_branch c target j rc r p s e f =
    subst (λ q. Branched c target (j ∷ []) (gives_choice q r None)) (sym p) (record {
      gives = widen_some j.kind (kind_as c target) r (into c target j.kind e f) s.gives;
      alone = λ h. widen_one j.kind (kind_as c target) r (into c target j.kind e f) (s.alone (or_false_first j.is_set false h));
      bounded = (subst (λ d. Bounded d j.kind.interval) e s.bounded, tt);
    })

pub one_branch : (c : Class) (target : Option Interval) (j : Judged) (js : List Judged) (rc r rest : Option Values) (p : Bool) → rc ≡ Some (one (truth p)) → Sound j r → j.kind.class ≡ c →
    Inside target j.kind → Branched c target js rest → Branched c target (j ∷ js) (gives_choice rc r rest)
one_branch c target j js rc r rest true p s e f m =
    subst (λ q. Branched c target (j ∷ js) (gives_choice q r rest)) (sym p) (record {
      gives = widen_some j.kind (kind_as c target) r (into c target j.kind e f) s.gives;
      alone = λ h. widen_one j.kind (kind_as c target) r (into c target j.kind e f) (s.alone (or_false_first j.is_set (some_set js) h));
      bounded = (subst (λ d. Bounded d j.kind.interval) e s.bounded, m.bounded);
    })
one_branch c target j js rc r rest false p s e f m =
    subst (λ q. Branched c target (j ∷ js) (gives_choice q r rest)) (sym p) (record {
      gives = m.gives;
      alone = λ h. m.alone (or_false_second j.is_set (some_set js) h);
      bounded = (subst (λ d. Bounded d j.kind.interval) e s.bounded, m.bounded);
    })

-- what is known of the branches where no rule is broken
pub record Kept (ends : Bool) (conditions values : List Judged) : Type 0 where
  pub truths : flat_map (unless_class truth_class not_boolean) (kinds_in conditions) ≡ []
  pub alike : unlike_first mismatch (kinds_in values) ≡ []
  pub ended : ends ≡ true
  pub conditions_kept : broken_in conditions ≡ []
  pub values_kept : broken_in values ≡ []

pub case_row : (sets ends : Bool) (conditions values : List Judged) (given : Option Values) → (judged_case sets ends conditions values).broken ≡ [] →
    (Kept ends conditions values → Branched (first_class (kinds_in values)) (hull_of (kinds_in values)) values given) → Sound (judged_case sets ends conditions values) given
case_row sets ends conditions values given e h =
    let truths = flat_map (unless_class truth_class not_boolean) (kinds_in conditions) in
    let alike = unlike_first mismatch (kinds_in values) in
    let own = truths ++ (alike ++ rule_if (not ends) case_end) in
    let all = own ++ _ in
    let none = none_first own _ (none_first all (broken_in conditions ++ broken_in values) e) in
    let parts = none_second all (broken_in conditions ++ broken_in values) e in
    let rest = none_second truths (alike ++ rule_if (not ends) case_end) none in
    let b = h (record {
      truths = none_first truths _ none;
      alike = none_first alike _ rest;
      ended = not_false ends (not_if _ case_end (none_second alike (rule_if (not ends) case_end) rest));
      conditions_kept = none_first (broken_in conditions) _ parts;
      values_kept = none_second (broken_in conditions) (broken_in values) parts;
    }) in
    sound_some sets (some_set values) own (first_class (kinds_in values)) (hull_of (kinds_in values)) (broken_in conditions ++ broken_in values) given e
    (hull_of_bounded (kinds_in values) b.bounded) b.gives b.alone

pub span_row : (sets : Bool) (lo hi : ℤ) → (judged_span sets lo hi).broken ≡ [] → Sound (judged_span sets lo hi) (Some (from_to lo hi))
span_row sets lo hi e =
    let here = rule_if (int_lt hi lo) empty_range in
    let own = here ++ wide (Some (record { lo = lo; hi = hi })) in
    let all = own ++ _ in
    let none = none_first own _ (none_first all [] e) in
    sound_some sets true own number_class (Some (record { lo = lo; hi = hi })) [] (Some (from_to lo hi)) e
    (wide_bounded (record { lo = lo; hi = hi }) (none_second here (wide (Some (record { lo = lo; hi = hi }))) none))
    (record {
      values = from_to lo hi;
      is = refl;
      of_kind = of_span (IsOfKind (kind_as number_class (Some (record { lo = lo; hi = hi })))) lo hi (λ n p q. record { class = tt; lies = record { above = p; below = q } });
    }) (λ h. cc)

pub number_literal : (n : ℤ) → (one_value (wide (Some (just n))) number_class (Some (just n)) []).broken ≡ [] → Sound (one_value (wide (Some (just n))) number_class (Some (just n)) []) (Some (one (number n)))
number_literal n e =
    let none = none_first (wide (Some (just n))) [] e in
    sound_one (wide (Some (just n))) number_class (Some (just n)) [] (Some (one (number n))) none (wide_bounded (just n) none)
    (record { value = number n; is = refl; of_kind = record { class = tt; lies = in_just n } })
