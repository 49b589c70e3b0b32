-- What the code answers at each row of evaluation is what the row gives.
use Rattle.std.proofs.Common.{◌≡◌, ℕ, List, Bool, true, false, cond, Option, Some, None, ℤ, pos, refl, sym, ap, ◌∙◌, subst, eqb-true, eq-eqb}
use Rattle.std.specs.Prelude.{nat_eq, slice_get}
use Rattle.smv_language.specs.declared.expr.Op.{Op}
use Rattle.smv_language.specs.declared.expr.Op.TheVariants as op
use Rattle.smv_language.specs.Language.{Text, same_text, text_or_none, AreApart, same_int, same_value, Values, no_value, one, from_to, has, apply, is_between, gives_one as gives, gives_not, gives_negative, gives_either, gives_within, gives_applied, gives_binary, gives_choice, told_value}
use Rattle.smv_language.specs.Values as told
use Rattle.smv_language.proofs.ValueLaws.{same_text_equal, same_text_refl, same_int_equal}
use Rattle.base_values.specs.declared.value.Value.{Value}
use Rattle.base_values.specs.declared.value.Value.TheVariants.{Bool as truth, Num, Sym}
use Rattle.smv_type_laws.specs.Intervals.{fits_number}
use Rattle.smv_type_laws.specs.KindValues.{GivesSmall, DividesByNoZero}
use Rattle.smv_evaluation.specs.declared.ask.AskedValue.{AskedValue}
use Rattle.smv_evaluation.specs.declared.ask.AskedValue.TheVariants.{ItsValue, Whether}
use Rattle.smv_evaluation.specs.OperatorValues.{same, is_true, opposite, negative, either, between, on_numbers, on_truths, on_symbols, applied}
use Rattle.smv_evaluation.specs.Evaluation.{answer, on_left, on_right, operation, in_span}
use Rattle.smv_evaluation.specs.EvaluableModels.{IsPlaceOf, IsNumbered}
use Rattle.smv_type_laws.proofs.LeastLaws.{same_int_self as same_number}

small_number : (n : ℤ) → (same_int n n ≡ true → fits_number n ≡ true) → fits_number n ≡ true
small_number n f = f (same_number n)

not_zero : (b : ℤ) → (b ≡ pos 0 → ⊥) → same_int b (pos 0) ≡ false
not_zero b f = by (same_int b (pos 0)) refl
  where
    by : (t : Bool) → same_int b (pos 0) ≡ t → t ≡ false
    by true e = absurd (f (same_int_equal b (pos 0) e))
    by false e = refl

module _ (symbols : List Text) where
  -- the value is this one of the definitions
  pub record Is (r : Value) (y : told.Value) : Type 0 where
    pub numbered : IsNumbered symbols r
    pub name : told_value symbols r ≡ y

  -- the values are this one alone
  pub record IsOnly (vs : Values) (r : Value) : Type 0 where
    pub numbered : IsNumbered symbols r
    pub alone : vs ≡ one (told_value symbols r)

  -- the answer is right for what an expression gives
  abbrev pub Answers : AskedValue → Option Values → Value → Type 0
  Answers ItsValue given r = (y : told.Value) → given ≡ Some (one y) → Is r y
  Answers (Whether v) given r = (vs : Values) → given ≡ Some vs → IsNumbered symbols v → r ≡ truth (has vs (told_value symbols v))

module _ (symbols : List Text) (apart : AreApart symbols) where
  pub same_symbol : (i j : ℕ) → IsPlaceOf symbols i → IsPlaceOf symbols j → nat_eq i j ≡ same_text (text_or_none (slice_get symbols i)) (text_or_none (slice_get symbols j))
  same_symbol i j p q = by_text (same_text p.text q.text) refl ∙ sym shown
    where
      shown : same_text (text_or_none (slice_get symbols i)) (text_or_none (slice_get symbols j)) ≡ same_text p.text q.text
      shown = rw (p.there, q.there) refl

      differ : (b : Bool) → nat_eq i j ≡ b → same_text p.text q.text ≡ false → b ≡ false
      differ true e f =
          let is : i ≡ j = eqb-true i j e in
          let both : Some p.text ≡ Some q.text = sym p.there ∙ (ap (λ n. slice_get symbols n) is ∙ q.there) in
          let texts : p.text ≡ q.text = cc in
          let yes : same_text p.text q.text ≡ true = ap (λ x. same_text p.text x) (sym texts) ∙ same_text_refl p.text in cc
      differ false e f = refl

      by_text : (b : Bool) → same_text p.text q.text ≡ b → nat_eq i j ≡ b
      by_text true e =
          let texts : p.text ≡ q.text = same_text_equal p.text q.text e in
          eq-eqb i j (apart i j p.text p.there (q.there ∙ ap Some (sym texts)))
      by_text false e = differ (nat_eq i j) refl e

  pub same_named : (v w : Value) → IsNumbered symbols v → IsNumbered symbols w → same v w ≡ same_value (told_value symbols v) (told_value symbols w)
  same_named (truth a) (truth b) p q = refl
  same_named (truth a) (Num n) p q = refl
  same_named (truth a) (Sym j) p q = refl
  same_named (Num m) (truth b) p q = refl
  same_named (Num m) (Num n) p q = refl
  same_named (Num m) (Sym j) p q = refl
  same_named (Sym i) (truth b) p q = refl
  same_named (Sym i) (Num n) p q = refl
  same_named (Sym i) (Sym j) p q = same_symbol i j p q

  -- what gives one value alone
  pub answer_row : (asked : AskedValue) (given : Option Values) (r : Value) → ((vs : Values) → given ≡ Some vs → IsOnly symbols vs r) → Answers symbols asked given (answer asked r)
  answer_row ItsValue given r h = λ y e. one_named (h (one y) e)
    where
      one_named : {y : told.Value} → IsOnly symbols (one y) r → Is symbols r y
      one_named {y} o = record { numbered = o.numbered; name = let same : one y ≡ one (told_value symbols r) = o.alone in cc }
  answer_row (Whether v) given r h = λ vs e p. ap truth (same_named r v (h vs e).numbered p ∙ ap (λ us. has us (told_value symbols v)) (sym (h vs e).alone))

  -- a constant or a name
  pub value_row : (asked : AskedValue) (given : Option Values) (r : Value) → IsNumbered symbols r → given ≡ Some (one (told_value symbols r)) → Answers symbols asked given (answer asked r)
  value_row asked given r p e = answer_row asked given r (λ vs f. record { numbered = p; alone = cc (e, f) })

  not_only : (g : Option Values) (r : Value) → Answers symbols ItsValue g r → (vs : Values) → gives_not g ≡ Some vs → IsOnly symbols vs (opposite r)
  not_only None r h vs e = cc
  not_only (Some no_value) r h vs e = cc
  not_only (Some (from_to lo hi)) r h vs e = cc
  not_only (Some (told.either a b)) r h vs e = cc
  not_only (Some (one (told.number n))) r h vs e = cc
  not_only (Some (one (told.symbol x))) r h vs e = cc
  not_only (Some (one (told.truth b))) (truth c) h vs e =
      let same : told.truth c ≡ told.truth b = (h (told.truth b) refl).name in
      record { numbered = tt; alone = let is : c ≡ b = cc in rw is (cc e) }
  not_only (Some (one (told.truth b))) (Num n) h vs e = let same : told.number n ≡ told.truth b = (h (told.truth b) refl).name in cc
  not_only (Some (one (told.truth b))) (Sym i) h vs e =
      let same : told.symbol (text_or_none (slice_get symbols i)) ≡ told.truth b = (h (told.truth b) refl).name in cc

  pub not_row : (asked : AskedValue) (g : Option Values) (r : Value) → Answers symbols ItsValue g r → Answers symbols asked (gives_not g) (answer asked (opposite r))
  not_row asked g r h = answer_row asked (gives_not g) (opposite r) (not_only g r h)

  negated_only : (g : Option Values) (r : Value) → GivesSmall g → Answers symbols ItsValue g r → (vs : Values) → gives_negative g ≡ Some vs → IsOnly symbols vs (negative r)
  negated_only None r small h vs e = cc
  negated_only (Some no_value) r small h vs e = cc
  negated_only (Some (from_to lo hi)) r small h vs e = cc
  negated_only (Some (told.either a b)) r small h vs e = cc
  negated_only (Some (one (told.truth b))) r small h vs e = cc
  negated_only (Some (one (told.symbol x))) r small h vs e = cc
  negated_only (Some (one (told.number n))) (truth c) small h vs e = let same : told.truth c ≡ told.number n = (h (told.number n) refl).name in cc
  negated_only (Some (one (told.number n))) (Sym i) small h vs e =
      let same : told.symbol (text_or_none (slice_get symbols i)) ≡ told.number n = (h (told.number n) refl).name in cc
  negated_only (Some (one (told.number n))) (Num k) small h vs e =
      let same : told.number k ≡ told.number n = (h (told.number n) refl).name in
      let is : k ≡ n = cc in
      let fits : fits_number k ≡ true = ap fits_number is ∙ small_number n (small (one (told.number n)) refl n) in
      rw fits (record { numbered = tt; alone = rw is (cc e) })

  pub negative_row : (asked : AskedValue) (g : Option Values) (r : Value) → GivesSmall g → Answers symbols ItsValue g r → Answers symbols asked (gives_negative g) (answer asked (negative r))
  negative_row asked g r small h = answer_row asked (gives_negative g) (negative r) (negated_only g r small h)

  numbers_only : (o : Op) (a b : ℤ) (x : told.Value) → fits_number a ≡ true → fits_number b ≡ true → DividesByNoZero o (Some (one (told.number b))) →
      told.on_numbers o a b ≡ Some x → Is symbols (on_numbers o a b) x
  numbers_only op.Times a b x fa fb d e = record { numbered = tt; name = rw (fa, fb) (cc e) }
  numbers_only op.Over a b x fa fb d e = record { numbered = tt; name = rw (fa, fb, not_zero b (λ z. d (ap (λ n. Some (one (told.number n))) z))) (cc e) }
  numbers_only op.Mod a b x fa fb d e = record { numbered = tt; name = rw (fa, fb, not_zero b (λ z. d (ap (λ n. Some (one (told.number n))) z))) (cc e) }
  numbers_only op.Plus a b x fa fb d e = record { numbered = tt; name = rw (fa, fb) (cc e) }
  numbers_only op.Minus a b x fa fb d e = record { numbered = tt; name = rw (fa, fb) (cc e) }
  numbers_only op.Union a b x fa fb d e = cc e
  numbers_only op.Within a b x fa fb d e = cc e
  numbers_only op.Equal a b x fa fb d e = record { numbered = tt; name = cc e }
  numbers_only op.Differs a b x fa fb d e = record { numbered = tt; name = cc e }
  numbers_only op.Less a b x fa fb d e = record { numbered = tt; name = cc e }
  numbers_only op.Greater a b x fa fb d e = record { numbered = tt; name = cc e }
  numbers_only op.AtMost a b x fa fb d e = record { numbered = tt; name = cc e }
  numbers_only op.AtLeast a b x fa fb d e = record { numbered = tt; name = cc e }
  numbers_only op.And a b x fa fb d e = cc e
  numbers_only op.Or a b x fa fb d e = cc e
  numbers_only op.Xor a b x fa fb d e = cc e
  numbers_only op.Xnor a b x fa fb d e = cc e
  numbers_only op.Iff a b x fa fb d e = cc e
  numbers_only op.Implies a b x fa fb d e = cc e

  truths_only : (o : Op) (a b : Bool) (x : told.Value) → told.on_truths o a b ≡ Some x → Is symbols (truth (on_truths o a b)) x
  truths_only op.Times a b x e = cc e
  truths_only op.Over a b x e = cc e
  truths_only op.Mod a b x e = cc e
  truths_only op.Plus a b x e = cc e
  truths_only op.Minus a b x e = cc e
  truths_only op.Union a b x e = cc e
  truths_only op.Within a b x e = cc e
  truths_only op.Equal a b x e = record { numbered = tt; name = cc e }
  truths_only op.Differs a b x e = record { numbered = tt; name = cc e }
  truths_only op.Less a b x e = cc e
  truths_only op.Greater a b x e = cc e
  truths_only op.AtMost a b x e = cc e
  truths_only op.AtLeast a b x e = cc e
  truths_only op.And a b x e = record { numbered = tt; name = cc e }
  truths_only op.Or a b x e = record { numbered = tt; name = cc e }
  truths_only op.Xor a b x e = record { numbered = tt; name = cc e }
  truths_only op.Xnor a b x e = record { numbered = tt; name = cc e }
  truths_only op.Iff a b x e = record { numbered = tt; name = cc e }
  truths_only op.Implies a b x e = record { numbered = tt; name = cc e }

  symbols_only : (o : Op) (i j : ℕ) (x : told.Value) → IsPlaceOf symbols i → IsPlaceOf symbols j →
      told.on_symbols o (text_or_none (slice_get symbols i)) (text_or_none (slice_get symbols j)) ≡ Some x → Is symbols (truth (on_symbols o i j)) x
  symbols_only op.Times i j x p q e = cc e
  symbols_only op.Over i j x p q e = cc e
  symbols_only op.Mod i j x p q e = cc e
  symbols_only op.Plus i j x p q e = cc e
  symbols_only op.Minus i j x p q e = cc e
  symbols_only op.Union i j x p q e = cc e
  symbols_only op.Within i j x p q e = cc e
  symbols_only op.Equal i j x p q e = record { numbered = tt; name = rw (same_symbol i j p q) (cc e) }
  symbols_only op.Differs i j x p q e = record { numbered = tt; name = rw (same_symbol i j p q) (cc e) }
  symbols_only op.Less i j x p q e = cc e
  symbols_only op.Greater i j x p q e = cc e
  symbols_only op.AtMost i j x p q e = cc e
  symbols_only op.AtLeast i j x p q e = cc e
  symbols_only op.And i j x p q e = cc e
  symbols_only op.Or i j x p q e = cc e
  symbols_only op.Xor i j x p q e = cc e
  symbols_only op.Xnor i j x p q e = cc e
  symbols_only op.Iff i j x p q e = cc e
  symbols_only op.Implies i j x p q e = cc e

  -- a number is within 32 bits
  abbrev IsSmall : Value → Type 0
  IsSmall (Num n) = fits_number n ≡ true
  IsSmall (truth b) = Unit {0}
  IsSmall (Sym i) = Unit {0}

  small_value : (g : Option Values) (r : Value) → GivesSmall g → g ≡ Some (one (told_value symbols r)) → IsSmall r
  small_value g (Num n) small e = small_number n (small (one (told.number n)) e n)
  small_value g (truth b) small e = tt
  small_value g (Sym i) small e = tt

  values_only : (o : Op) (r s : Value) (x : told.Value) → IsNumbered symbols r → IsNumbered symbols s → IsSmall r → IsSmall s →
      DividesByNoZero o (Some (one (told_value symbols s))) → apply o (told_value symbols r) (told_value symbols s) ≡ Some x → Is symbols (applied o r s) x
  values_only o (Num a) (Num b) x p q fa fb d e = numbers_only o a b x fa fb d e
  values_only o (truth a) (truth b) x p q fa fb d e = truths_only o a b x e
  values_only o (Sym i) (Sym j) x p q fa fb d e = symbols_only o i j x p q e
  values_only o (Num a) (truth b) x p q fa fb d e = cc e
  values_only o (Num a) (Sym j) x p q fa fb d e = cc e
  values_only o (truth a) (Num b) x p q fa fb d e = cc e
  values_only o (truth a) (Sym j) x p q fa fb d e = cc e
  values_only o (Sym i) (Num b) x p q fa fb d e = cc e
  values_only o (Sym i) (truth b) x p q fa fb d e = cc e

  -- an operator on one value of each side
  record IsApplied (o : Op) (g h : Option Values) (vs : Values) : Type 0 where
    left : told.Value
    right : told.Value
    value : told.Value
    is_left : g ≡ Some (one left)
    is_right : h ≡ Some (one right)
    applies : apply o left right ≡ Some value
    is : vs ≡ one value

  one_given : (o : Op) (x y : told.Value) (r : Option told.Value) (vs : Values) → apply o x y ≡ r → gives r ≡ Some vs → IsApplied o (Some (one x)) (Some (one y)) vs
  one_given o x y None vs e f = cc f
  one_given o x y (Some z) vs e f = record { left = x; right = y; value = z; is_left = refl; is_right = refl; applies = e; is = cc f }

  is_applied : (o : Op) (g h : Option Values) (vs : Values) → gives_applied o g h ≡ Some vs → IsApplied o g h vs
  is_applied o None h vs e = cc e
  is_applied o (Some no_value) h vs e = cc e
  is_applied o (Some (from_to lo hi)) h vs e = cc e
  is_applied o (Some (told.either a b)) h vs e = cc e
  is_applied o (Some (one x)) None vs e = cc e
  is_applied o (Some (one x)) (Some no_value) vs e = cc e
  is_applied o (Some (one x)) (Some (from_to lo hi)) vs e = cc e
  is_applied o (Some (one x)) (Some (told.either a b)) vs e = cc e
  is_applied o (Some (one x)) (Some (one y)) vs e = one_given o x y (apply o x y) vs refl e

  applied_only : (o : Op) (g h : Option Values) (r s : Value) → GivesSmall g → GivesSmall h → DividesByNoZero o h → Answers symbols ItsValue g r → Answers symbols ItsValue h s →
      (vs : Values) → gives_applied o g h ≡ Some vs → IsOnly symbols vs (applied o r s)
  applied_only o g h r s sg sh d hl hr vs e =
      let a : IsApplied o g h vs = is_applied o g h vs e in
      let left : Is symbols r a.left = hl a.left a.is_left in
      let right : Is symbols s a.right = hr a.right a.is_right in
      let gives_left : g ≡ Some (one (told_value symbols r)) = a.is_left ∙ ap (λ x. Some (one x)) (sym left.name) in
      let gives_right : h ≡ Some (one (told_value symbols s)) = a.is_right ∙ ap (λ x. Some (one x)) (sym right.name) in
      let applies : apply o (told_value symbols r) (told_value symbols s) ≡ Some a.value = (λ i. apply o (left.name i) (right.name i)) ∙ a.applies in
      let v : Is symbols (applied o r s) a.value =
      values_only o r s a.value left.numbered right.numbered (small_value g r sg gives_left) (small_value h s sh gives_right) (subst (DividesByNoZero o) gives_right d) applies in
      record { numbered = v.numbered; alone = a.is ∙ ap one (sym v.name) }

  -- the values of both sides
  pub union_row : (asked : AskedValue) (g h : Option Values) (r s : Value) → Answers symbols asked g r → Answers symbols asked h s → Answers symbols asked (gives_either g h) (either r s)
  union_row ItsValue None h r s hl hr = λ y e. cc e
  union_row ItsValue (Some a) None r s hl hr = λ y e. cc e
  union_row ItsValue (Some a) (Some b) r s hl hr = λ y e. cc e
  union_row (Whether v) None h r s hl hr = λ vs e p. cc e
  union_row (Whether v) (Some a) None r s hl hr = λ vs e p. cc e
  union_row (Whether v) (Some a) (Some b) r s hl hr = λ vs e p.
      let left : r ≡ truth (has a (told_value symbols v)) = hl a refl p in
      let right : s ≡ truth (has b (told_value symbols v)) = hr b refl p in
      let is : told.either a b ≡ vs = cc e in
      (λ i. either (left i) (right i)) ∙ ap (λ us. truth (has us (told_value symbols v))) is

  -- one of the other's
  within_only : (g h : Option Values) (r s : Value) → Answers symbols ItsValue g r → Answers symbols (Whether r) h s → (vs : Values) → gives_within g h ≡ Some vs → IsOnly symbols vs s
  within_only None h r s hl hr vs e = cc e
  within_only (Some no_value) h r s hl hr vs e = cc e
  within_only (Some (from_to lo hi)) h r s hl hr vs e = cc e
  within_only (Some (told.either a b)) h r s hl hr vs e = cc e
  within_only (Some (one x)) None r s hl hr vs e = cc e
  within_only (Some (one x)) (Some w) r s hl hr vs e =
      let left : Is symbols r x = hl x refl in
      let right : s ≡ truth (has w (told_value symbols r)) = hr w refl left.numbered in
      let name : told_value symbols r ≡ x = left.name in
      rw right (record { numbered = tt; alone = cc (e, name) })

  -- an operator on what both sides answer
  pub binary_row : (o : Op) (asked : AskedValue) (g h : Option Values) (r s : Value) → GivesSmall g → GivesSmall h → DividesByNoZero o h →
      Answers symbols (on_left o asked) g r → Answers symbols (on_right o asked r) h s → Answers symbols asked (gives_binary o g h) (operation o asked r s)
  binary_row op.Times asked g h r s sg sh d hl hr = answer_row asked (gives_applied op.Times g h) (applied op.Times r s) (applied_only op.Times g h r s sg sh d hl hr)
  binary_row op.Over asked g h r s sg sh d hl hr = answer_row asked (gives_applied op.Over g h) (applied op.Over r s) (applied_only op.Over g h r s sg sh d hl hr)
  binary_row op.Mod asked g h r s sg sh d hl hr = answer_row asked (gives_applied op.Mod g h) (applied op.Mod r s) (applied_only op.Mod g h r s sg sh d hl hr)
  binary_row op.Plus asked g h r s sg sh d hl hr = answer_row asked (gives_applied op.Plus g h) (applied op.Plus r s) (applied_only op.Plus g h r s sg sh d hl hr)
  binary_row op.Minus asked g h r s sg sh d hl hr = answer_row asked (gives_applied op.Minus g h) (applied op.Minus r s) (applied_only op.Minus g h r s sg sh d hl hr)
  binary_row op.Union asked g h r s sg sh d hl hr = union_row asked g h r s hl hr
  binary_row op.Within asked g h r s sg sh d hl hr = answer_row asked (gives_within g h) s (within_only g h r s hl hr)
  binary_row op.Equal asked g h r s sg sh d hl hr = answer_row asked (gives_applied op.Equal g h) (applied op.Equal r s) (applied_only op.Equal g h r s sg sh d hl hr)
  binary_row op.Differs asked g h r s sg sh d hl hr = answer_row asked (gives_applied op.Differs g h) (applied op.Differs r s) (applied_only op.Differs g h r s sg sh d hl hr)
  binary_row op.Less asked g h r s sg sh d hl hr = answer_row asked (gives_applied op.Less g h) (applied op.Less r s) (applied_only op.Less g h r s sg sh d hl hr)
  binary_row op.Greater asked g h r s sg sh d hl hr = answer_row asked (gives_applied op.Greater g h) (applied op.Greater r s) (applied_only op.Greater g h r s sg sh d hl hr)
  binary_row op.AtMost asked g h r s sg sh d hl hr = answer_row asked (gives_applied op.AtMost g h) (applied op.AtMost r s) (applied_only op.AtMost g h r s sg sh d hl hr)
  binary_row op.AtLeast asked g h r s sg sh d hl hr = answer_row asked (gives_applied op.AtLeast g h) (applied op.AtLeast r s) (applied_only op.AtLeast g h r s sg sh d hl hr)
  binary_row op.And asked g h r s sg sh d hl hr = answer_row asked (gives_applied op.And g h) (applied op.And r s) (applied_only op.And g h r s sg sh d hl hr)
  binary_row op.Or asked g h r s sg sh d hl hr = answer_row asked (gives_applied op.Or g h) (applied op.Or r s) (applied_only op.Or g h r s sg sh d hl hr)
  binary_row op.Xor asked g h r s sg sh d hl hr = answer_row asked (gives_applied op.Xor g h) (applied op.Xor r s) (applied_only op.Xor g h r s sg sh d hl hr)
  binary_row op.Xnor asked g h r s sg sh d hl hr = answer_row asked (gives_applied op.Xnor g h) (applied op.Xnor r s) (applied_only op.Xnor g h r s sg sh d hl hr)
  binary_row op.Iff asked g h r s sg sh d hl hr = answer_row asked (gives_applied op.Iff g h) (applied op.Iff r s) (applied_only op.Iff g h r s sg sh d hl hr)
  binary_row op.Implies asked g h r s sg sh d hl hr = answer_row asked (gives_applied op.Implies g h) (applied op.Implies r s) (applied_only op.Implies g h r s sg sh d hl hr)

  nothing : (asked : AskedValue) (r : Value) → Answers symbols asked None r
  nothing ItsValue r = λ y e. cc e
  nothing (Whether v) r = λ vs e p. cc e

  pub truth_is : (r : Value) (b : Bool) → Is symbols r (told.truth b) → is_true r ≡ b
  truth_is (truth c) b i = let same : told.truth c ≡ told.truth b = i.name in cc
  truth_is (Num n) b i = let same : told.number n ≡ told.truth b = i.name in cc
  truth_is (Sym j) b i = let same : told.symbol (text_or_none (slice_get symbols j)) ≡ told.truth b = i.name in cc

  -- the branch taken
  pub choice_row : (asked : AskedValue) (g a b : Option Values) (c r s : Value) → Answers symbols ItsValue g c → Answers symbols asked a r → Answers symbols asked b s →
      Answers symbols asked (gives_choice g a b) (cond (is_true c) r s)
  choice_row asked None a b c r s hc hl hr = nothing asked _
  choice_row asked (Some no_value) a b c r s hc hl hr = nothing asked _
  choice_row asked (Some (from_to lo hi)) a b c r s hc hl hr = nothing asked _
  choice_row asked (Some (told.either x y)) a b c r s hc hl hr = nothing asked _
  choice_row asked (Some (one (told.number n))) a b c r s hc hl hr = nothing asked _
  choice_row asked (Some (one (told.symbol x))) a b c r s hc hl hr = nothing asked _
  choice_row asked (Some (one (told.truth true))) a b c r s hc hl hr = rw (truth_is c true (hc (told.truth true) refl)) hl
  choice_row asked (Some (one (told.truth false))) a b c r s hc hl hr = rw (truth_is c false (hc (told.truth false) refl)) hr

  between_named : (lo hi : ℤ) (v : Value) → between lo hi v ≡ is_between lo hi (told_value symbols v)
  between_named lo hi (truth b) = refl
  between_named lo hi (Num n) = refl
  between_named lo hi (Sym i) = refl

  pub span_row : (asked : AskedValue) (lo hi : ℤ) → Answers symbols asked (Some (from_to lo hi)) (in_span asked lo hi)
  span_row ItsValue lo hi = λ y e. cc e
  span_row (Whether v) lo hi = λ vs e p.
      let is : from_to lo hi ≡ vs = cc e in
      ap truth (between_named lo hi v ∙ ap (λ us. has us (told_value symbols v)) is)

  -- no members, and no branches
  pub no_member_row : (asked : AskedValue) → Answers symbols asked (Some no_value) (truth false)
  no_member_row ItsValue = λ y e. cc e
  no_member_row (Whether v) = λ vs e p. let is : no_value ≡ vs = cc e in ap (λ us. truth (has us (told_value symbols v))) is

  pub no_branch_row : (asked : AskedValue) → Answers symbols asked None (truth false)
  no_branch_row asked = nothing asked (truth false)
