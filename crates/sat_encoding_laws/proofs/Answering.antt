-- What nodes give, from what their parts give.
use Rattle.std.proofs.Common.{◌≡◌, ℕ, zero, Bool, true, false, cond, ◌++◌, List, [], ◌∷◌, Option, Some, None, refl, sym, ◌∙◌, ap, subst, arith}
use Rattle.smv_language.specs.declared.expr.Op.{Op}
use Rattle.smv_language.specs.declared.expr.Op.TheVariants as op
use Rattle.smv_language.specs.Language.{Text, Value, symbol, Values, one, has, gives_one, gives_applied, gives_binary, gives_choice}
use Rattle.smv_language.specs.Values.{truth, number}
use Rattle.sat_clauses.specs.Models.{TotalAssignment}
use Rattle.smv_type_laws.specs.Intervals.{Interval}
use Rattle.smv_type_laws.specs.ExpressionKinds.{Class, truth_class, number_class, symbol_class, KindRule, Judged, where_kept, judged_binary}
use Rattle.smv_type_laws.specs.KindValues.{DividesByNoZero, IsOfClass, LiesIn}
use Rattle.smv_type_laws.proofs.Parts.{none_first, none_second, Bounded, Alone, Sound}
use Rattle.sat_encoding_laws.specs.Widths.{width_by, kind_width}
use Rattle.sat_encoding_laws.specs.Signals.{Signal}
use Rattle.sat_encoding_laws.specs.Expressions.{Asked, its_value, whether_has}
use Rattle.sat_encoding_laws.specs.Meanings.{HasValue, AreSymbols, Answers}
use Rattle.sat_encoding_laws.proofs.Fitting.{fits_width, fits_symbol}
use Rattle.sat_encoding_laws.proofs.Operators.{AreAlike, FitsValue, DividesRight}
use Rattle.sat_encoding_laws.proofs.Choices.{FitsWord}
use Rattle.sat_circuits.proofs.Orders.{Fits}
use Rattle.std.proofs.lemmas.Option.{slice_get_within as got_below}

-- ---- values that are given

pub one_same : (x y : Value) (given : Option Values) → given ≡ Some (one x) → given ≡ Some (one y) → x ≡ y
one_same x y given p q = cc

pub some_same : (a b : Values) (given : Option Values) → given ≡ Some a → given ≡ Some b → a ≡ b
some_same a b given p q = cc

pub one_and_some : (x : Value) (b : Values) (given : Option Values) → given ≡ Some (one x) → given ≡ Some b → one x ≡ b
one_and_some x b given p q = cc

pub applied : (g : Option Value) (z : Value) → gives_one g ≡ Some (one z) → g ≡ Some z
applied (Some y) z e = cc
applied None z e = cc

pub alike_from_class : (c : Class) (x y : Value) → IsOfClass c x → IsOfClass c y → AreAlike x y
alike_from_class truth_class (truth a) (truth b) p q = tt
alike_from_class truth_class (truth a) (number b) p q = absurd q
alike_from_class truth_class (truth a) (symbol b) p q = absurd q
alike_from_class truth_class (number a) y p q = absurd p
alike_from_class truth_class (symbol a) y p q = absurd p
alike_from_class number_class (number a) (number b) p q = tt
alike_from_class number_class (number a) (truth b) p q = absurd q
alike_from_class number_class (number a) (symbol b) p q = absurd q
alike_from_class number_class (truth a) y p q = absurd p
alike_from_class number_class (symbol a) y p q = absurd p
alike_from_class symbol_class (symbol a) (symbol b) p q = tt
alike_from_class symbol_class (symbol a) (truth b) p q = absurd q
alike_from_class symbol_class (symbol a) (number b) p q = absurd q
alike_from_class symbol_class (truth a) y p q = absurd p
alike_from_class symbol_class (number a) y p q = absurd p

pub kept_interval : (all : List KindRule) (i : Option Interval) → all ≡ [] → where_kept all i ≡ i
kept_interval [] i e = refl
kept_interval (r ∷ rs) i e = cc

-- ---- values fit the widths of their kinds

pub kind_value_fits : (symbols : List Text) → AreSymbols symbols → (c : Class) (i : Option Interval) (x : Value) → Bounded c i → IsOfClass c x → LiesIn i x → FitsWord symbols (width_by symbols c i) x
kind_value_fits symbols are number_class (Some i) (number n) b h l = fits_width i n b l
kind_value_fits symbols are number_class None (number n) b h l = absurd b
kind_value_fits symbols are number_class i (truth p) b h l = absurd h
kind_value_fits symbols are number_class i (symbol x) b h l = absurd h
kind_value_fits symbols are symbol_class i (symbol x) b h l = λ z is. subst (Fits _) (sym is.is) (fits_symbol symbols is.place (omega (arith, are.few)) (got_below symbols is.place x is.at))
kind_value_fits symbols are symbol_class i (truth p) b h l = absurd h
kind_value_fits symbols are symbol_class i (number n) b h l = absurd h
kind_value_fits symbols are truth_class i (truth p) b h l = tt
kind_value_fits symbols are truth_class i (number n) b h l = absurd h
kind_value_fits symbols are truth_class i (symbol x) b h l = absurd h

-- of what has one value, it fits
pub alone_fits : (symbols : List Text) → AreSymbols symbols → (j : Judged) (given : Option Values) (x : Value) → Alone j given → given ≡ Some (one x) → FitsWord symbols (kind_width symbols j.kind) x
alone_fits symbols are j given x a e =
    subst (FitsWord symbols (kind_width symbols j.kind)) (one_same a.gives.value x given a.gives.is e)
    (kind_value_fits symbols are j.kind.class j.kind.interval a.gives.value a.bounded a.gives.of_kind.class a.gives.of_kind.lies)

pub value_fits : (symbols : List Text) (n : ℕ) (x : Value) → FitsWord symbols n x → FitsValue n x
value_fits symbols n (number z) f = f
value_fits symbols n (truth b) f = tt
value_fits symbols n (symbol x) f = tt

-- ---- operators on one value of each side

-- an operator that takes one value of each side: neither `union` nor `in`
abbrev pub TakesValues : Op → Type 0
TakesValues op.Union = ⊥
TakesValues op.Within = ⊥
TakesValues _ = Unit {0}

pub plain_gives : (o : Op) → TakesValues o → (ra rb : Option Values) → gives_binary o ra rb ≡ gives_applied o ra rb
plain_gives op.Union t ra rb = absurd t
plain_gives op.Within t ra rb = absurd t
plain_gives _ t ra rb = refl

-- where no rule is broken, none is in an operand
pub plain_parts : (o : Op) → TakesValues o → (sets : Bool) (a b : Judged) → (judged_binary sets o a b).broken ≡ [] → (a.broken ≡ []) × (b.broken ≡ [])
plain_parts op.Union t sets a b e = absurd t
plain_parts op.Within t sets a b e = absurd t
plain_parts _ t sets a b e = let parts = none_second _ (a.broken ++ b.broken) e in (none_first a.broken b.broken parts, none_second a.broken b.broken parts)

-- what divides is not 0
pub divides_right : (o : Op) (given : Option Values) (y : Value) → DividesByNoZero o given → given ≡ Some (one y) → DividesRight o y
divides_right op.Over given y h e = λ zero. h (e ∙ ap (λ u. Some (one u)) zero)
divides_right op.Mod given y h e = λ zero. h (e ∙ ap (λ u. Some (one u)) zero)
divides_right _ given y h e = tt

-- ---- choices

module _ (symbols : List Text) where
  -- a side of a choice may be chosen: its value fits the width, or it has values
  abbrev pub MayChoose : Asked → Class → ℕ → Option Values → Type 0
  MayChoose its_value c n given = (x : Value) × (given ≡ Some (one x)) × IsOfClass c x × FitsWord symbols n x
  MayChoose (whether_has u) c n given = (vs : Values) × (given ≡ Some vs)

  -- the chosen signal answers for the chosen side
  pub choice_answers : (v : TotalAssignment) (m : Asked) (c : Class) (n : ℕ) (e f g : Signal) (rc ra rb : Option Values) (p : Bool) → rc ≡ Some (one (truth p))
      → ((x y : Value) → AreAlike x y → HasValue symbols v e x → HasValue symbols v f y → FitsWord symbols n (cond p x y) → HasValue symbols v g (cond p x y))
      → Answers symbols v m c ra e → Answers symbols v m c rb f → MayChoose m c n ra → MayChoose m c n rb → Answers symbols v m c (gives_choice rc ra rb) g
  choice_answers v its_value c n e f g rc ra rb true is chooses ha hb ca cb = λ z ez.
      let taken : ra ≡ Some (one z) = sym (ap (λ r. gives_choice r ra rb) is) ∙ ez in
      let same : ca.0 ≡ z = one_same ca.0 z ra ca.1 taken in
      subst (HasValue symbols v g) same (chooses ca.0 cb.0 (alike_from_class c ca.0 cb.0 ca.2 cb.2) (ha ca.0 ca.1) (hb cb.0 cb.1) ca.3)
  choice_answers v its_value c n e f g rc ra rb false is chooses ha hb ca cb = λ z ez.
      let taken : rb ≡ Some (one z) = sym (ap (λ r. gives_choice r ra rb) is) ∙ ez in
      let same : cb.0 ≡ z = one_same cb.0 z rb cb.1 taken in
      subst (HasValue symbols v g) same (chooses ca.0 cb.0 (alike_from_class c ca.0 cb.0 ca.2 cb.2) (ha ca.0 ca.1) (hb cb.0 cb.1) cb.3)
  choice_answers v (whether_has u) c n e f g rc ra rb true is chooses ha hb ca cb = λ x vs class hx es.
      let taken : ra ≡ Some vs = sym (ap (λ r. gives_choice r ra rb) is) ∙ es in
      let same : ca.0 ≡ vs = some_same ca.0 vs ra ca.1 taken in
      subst (λ (ws : Values). HasValue symbols v g (truth (has ws x))) same (chooses (truth (has ca.0 x)) (truth (has cb.0 x)) tt (ha x ca.0 class hx ca.1) (hb x cb.0 class hx cb.1) tt)
  choice_answers v (whether_has u) c n e f g rc ra rb false is chooses ha hb ca cb = λ x vs class hx es.
      let taken : rb ≡ Some vs = sym (ap (λ r. gives_choice r ra rb) is) ∙ es in
      let same : cb.0 ≡ vs = some_same cb.0 vs rb cb.1 taken in
      subst (λ (ws : Values). HasValue symbols v g (truth (has ws x))) same (chooses (truth (has ca.0 x)) (truth (has cb.0 x)) tt (ha x ca.0 class hx ca.1) (hb x cb.0 class hx cb.1) tt)

  -- a sound part of the class may be chosen where the width holds its kind
  pub may_choose : (m : Asked) (c : Class) (n : ℕ) (j : Judged) (given : Option Values) → Sound j given → j.kind.class ≡ c
      → (m ≡ its_value → (j.is_set ≡ false) × ((x : Value) → IsOfClass c x → LiesIn j.kind.interval x → FitsWord symbols n x)) → MayChoose m c n given
  may_choose its_value c n j given s e h =
      let alone = s.alone (h refl).0 in
      let class : IsOfClass c alone.value = subst (λ d. IsOfClass d alone.value) e alone.of_kind.class in
      (alone.value, alone.is, class, (h refl).1 alone.value class alone.of_kind.lies)
  may_choose (whether_has u) c n j given s e h = (s.gives.values, s.gives.is)
