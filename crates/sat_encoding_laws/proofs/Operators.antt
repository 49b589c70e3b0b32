-- The gates of an operator give its value.
use Rattle.std.proofs.Common.{◌≡◌, ◌≢◌, ℕ, ◌<◌, Bool, true, false, not, ◌&&◌, ◌||◌, ℤ, pos, ◌+ℤ◌, ◌-ℤ◌, ◌*ℤ◌, List, [], ◌∷◌, Some, None, Option, refl, sym, ◌∙◌, ap, subst}
use Rattle.std.specs.Prelude.{int_lt, int_div, int_rem, slice_get}
use Rattle.std.specs.Ordering.{int_eq}
use Rattle.std.proofs.lemmas.Bool.Decides.{Decides-int_eq}
use Rattle.smv_language.specs.declared.expr.Op.{Op}
use Rattle.smv_language.specs.declared.expr.Op.TheVariants as op
use Rattle.smv_language.specs.ProgramTree.{Text}
use Rattle.smv_language.specs.Values.{Value, truth, number, symbol, apply, on_numbers, on_truths, on_symbols, same_value, same_bool, at_most, opposite as other}
use Rattle.smv_language.proofs.ValueLaws.{same_value_equal, same_value_refl}
use Rattle.sat_clauses.specs.Literal.{Literal, opposite}
use Rattle.sat_clauses.specs.Models.{TotalAssignment, literal_value, IsBelow}
use Rattle.sat_clauses.proofs.ModelLemmas.{literal_value-opposite}
use Rattle.sat_circuits.specs.Circuit.{Circuit}
use Rattle.sat_circuits.specs.Gates.{differ, constant_lit, xor_gate}
use Rattle.sat_circuits.specs.Meaning.{Means}
use Rattle.sat_circuits.proofs.Extension.{Means-done, Means-weaker}
use Rattle.sat_circuits.proofs.Rows.{and_gate-gives, or_gate-gives, xor_gate-gives}
use Rattle.sat_circuits.specs.Bits.{IsCutTo}
use Rattle.sat_circuits.specs.Words.{word_value, IsWordOf, IsOfWidth}
use Rattle.sat_circuits.proofs.Orders.{Fits, exact}
use Rattle.sat_circuits.proofs.SumMeans.{add_gates-gives, subtract_gates-gives}
use Rattle.sat_circuits.proofs.TestMeans.{less_gates-gives, equal_gates-gives}
use Rattle.sat_circuits.proofs.ProductMeans.{multiply_gates-gives}
use Rattle.sat_circuits.proofs.DivideMeans.{divide_gates-gives, remainder_gates-gives}
use Rattle.sat_encoding_laws.specs.Signals.{Signal, bit, word, literal_in, word_in, as_bit, as_word, turned, same_gates, operator_gates}
use Rattle.sat_encoding_laws.specs.Meanings.{IsNumberOf, HasValue, AreSymbols, IsSignal, IsReady}
use Rattle.sat_encoding_laws.proofs.Parts.{literal_below, word_usable, number_in_word, truth_in_bit, IsLiteral, as_bit-means, as_word-means, turned-means}

-- a number fits so many bits
abbrev pub FitsValue : ℕ → Value → Type 0
FitsValue n (number z) = Fits n z
FitsValue n (truth b) = Unit {0}
FitsValue n (symbol x) = Unit {0}

-- what divides is not 0
abbrev pub DividesRight : Op → Value → Type 0
DividesRight op.Over y = y ≡ number (pos 0) → ⊥
DividesRight op.Mod y = y ≡ number (pos 0) → ⊥
DividesRight _ y = Unit {0}

-- both are of one class
abbrev pub AreAlike : Value → Value → Type 0
AreAlike (truth a) (truth b) = Unit {0}
AreAlike (number a) (number b) = Unit {0}
AreAlike (symbol a) (symbol b) = Unit {0}
AreAlike _ _ = ⊥

-- the literal says whether the two are one
pub record Tells (v : TotalAssignment) (l : Literal) (x y : Value) : Type 0 where
  pub to : literal_value v l ≡ true → x ≡ y
  pub from : x ≡ y → literal_value v l ≡ true

-- so a test that finds exactly equal values equal has the literal's value
pub tells_test : (v : TotalAssignment) (l : Literal) (x y : Value) (b : Bool) → Tells v l x y → (b ≡ true → x ≡ y) → (x ≡ y → b ≡ true) → literal_value v l ≡ b
tells_test v l x y true t f g = t.from (f refl)
tells_test v l x y false t f g = by (literal_value v l) refl
  where
    by : (c : Bool) → literal_value v l ≡ c → c ≡ false
    by true e = sym (g (t.to e))
    by false e = refl

pub other_is_not : (b : Bool) → other b ≡ not b
other_is_not true = refl
other_is_not false = refl

same_bool_is : (a b : Bool) → same_bool a b ≡ not (differ a b)
same_bool_is true true = refl
same_bool_is true false = refl
same_bool_is false true = refl
same_bool_is false false = refl

not_differ : (a b : Bool) → not (differ a b) ≡ true → a ≡ b
not_differ true true h = refl
not_differ true false h = cc
not_differ false true h = cc
not_differ false false h = refl

no_differ : (a : Bool) → not (differ a a) ≡ true
no_differ true = refl
no_differ false = refl

int_eq_true : (a b : ℤ) → int_eq a b ≡ true → a ≡ b
int_eq_true a b h = (Decides-int_eq a b).0 h

int_eq_same : (a : ℤ) → int_eq a a ≡ true
int_eq_same a = (Decides-int_eq a a).1 refl

pos_same : (i j : ℕ) → pos i ≡ pos j → i ≡ j
pos_same i j e = cc

differ_is : (a b : Bool) → differ a b ≡ other (same_bool a b)
differ_is true true = refl
differ_is true false = refl
differ_is false true = refl
differ_is false false = refl

-- ---- operators on numbers alone, and on truth values alone

by_numbers : (o : Op) (Q : Value → Value → Value → Type 0) → ((a b : Bool) → on_truths o a b ≡ None) → ((a b : Text) → on_symbols o a b ≡ None)
    → ((a b : ℤ) (z : Value) → on_numbers o a b ≡ Some z → Q (number a) (number b) z) → (x y z : Value) → apply o x y ≡ Some z → Q x y z
by_numbers o Q t s f (number a) (number b) z e = f a b z e
by_numbers o Q t s f (truth a) (truth b) z e = cc (t a b)
by_numbers o Q t s f (symbol a) (symbol b) z e = cc (s a b)
by_numbers o Q t s f (number a) (truth b) z e = cc
by_numbers o Q t s f (number a) (symbol b) z e = cc
by_numbers o Q t s f (truth a) (number b) z e = cc
by_numbers o Q t s f (truth a) (symbol b) z e = cc
by_numbers o Q t s f (symbol a) (number b) z e = cc
by_numbers o Q t s f (symbol a) (truth b) z e = cc

by_truths : (o : Op) (Q : Value → Value → Value → Type 0) → ((a b : ℤ) → on_numbers o a b ≡ None) → ((a b : Text) → on_symbols o a b ≡ None)
    → ((a b : Bool) (z : Value) → on_truths o a b ≡ Some z → Q (truth a) (truth b) z) → (x y z : Value) → apply o x y ≡ Some z → Q x y z
by_truths o Q t s f (truth a) (truth b) z e = f a b z e
by_truths o Q t s f (number a) (number b) z e = cc (t a b)
by_truths o Q t s f (symbol a) (symbol b) z e = cc (s a b)
by_truths o Q t s f (number a) (truth b) z e = cc
by_truths o Q t s f (number a) (symbol b) z e = cc
by_truths o Q t s f (truth a) (number b) z e = cc
by_truths o Q t s f (truth a) (symbol b) z e = cc
by_truths o Q t s f (symbol a) (number b) z e = cc
by_truths o Q t s f (symbol a) (truth b) z e = cc

-- what an operator is applied to is of one class
alike_applied : (o : Op) (x y z : Value) → apply o x y ≡ Some z → AreAlike x y
alike_applied o (number a) (number b) z e = tt
alike_applied o (truth a) (truth b) z e = tt
alike_applied o (symbol a) (symbol b) z e = tt
alike_applied o (number a) (truth b) z e = cc
alike_applied o (number a) (symbol b) z e = cc
alike_applied o (truth a) (number b) z e = cc
alike_applied o (truth a) (symbol b) z e = cc
alike_applied o (symbol a) (number b) z e = cc
alike_applied o (symbol a) (truth b) z e = cc

pub same_value_from : (x y : Value) → x ≡ y → same_value x y ≡ true
same_value_from x y e = ap (same_value x) (sym e) ∙ same_value_refl x

-- `union` and `in` are applied to no two values
never_union : (x y z : Value) {A : Type 0} → apply op.Union x y ≡ Some z → A
never_union (number a) (number b) z e = cc
never_union (truth a) (truth b) z e = cc
never_union (symbol a) (symbol b) z e = cc
never_union (number a) (truth b) z e = cc
never_union (number a) (symbol b) z e = cc
never_union (truth a) (number b) z e = cc
never_union (truth a) (symbol b) z e = cc
never_union (symbol a) (number b) z e = cc
never_union (symbol a) (truth b) z e = cc

never_within : (x y z : Value) {A : Type 0} → apply op.Within x y ≡ Some z → A
never_within (number a) (number b) z e = cc
never_within (truth a) (truth b) z e = cc
never_within (symbol a) (symbol b) z e = cc
never_within (number a) (truth b) z e = cc
never_within (number a) (symbol b) z e = cc
never_within (truth a) (number b) z e = cc
never_within (truth a) (symbol b) z e = cc
never_within (symbol a) (number b) z e = cc
never_within (symbol a) (truth b) z e = cc

equal_is : (x y : Value) → AreAlike x y → apply op.Equal x y ≡ Some (truth (same_value x y))
equal_is (number a) (number b) e = refl
equal_is (truth a) (truth b) e = refl
equal_is (symbol a) (symbol b) e = refl
equal_is (number a) (truth b) e = absurd e
equal_is (number a) (symbol b) e = absurd e
equal_is (truth a) (number b) e = absurd e
equal_is (truth a) (symbol b) e = absurd e
equal_is (symbol a) (number b) e = absurd e
equal_is (symbol a) (truth b) e = absurd e

differs_is : (x y : Value) → AreAlike x y → apply op.Differs x y ≡ Some (truth (other (same_value x y)))
differs_is (number a) (number b) e = refl
differs_is (truth a) (truth b) e = refl
differs_is (symbol a) (symbol b) e = refl
differs_is (number a) (truth b) e = absurd e
differs_is (number a) (symbol b) e = absurd e
differs_is (truth a) (number b) e = absurd e
differs_is (truth a) (symbol b) e = absurd e
differs_is (symbol a) (number b) e = absurd e
differs_is (symbol a) (truth b) e = absurd e

same_result : (a b z : Value) (given : Option Value) → given ≡ Some a → given ≡ Some z → a ≡ z
same_result a b z given p q = cc

module _ (symbols : List Text) (are : AreSymbols symbols) where
  -- the signal has what the operator makes of the values of the two
  abbrev pub Operates : Op → ℕ → Signal → Signal → TotalAssignment → Signal → Type 0
  Operates o n e f v g =
      (x y z : Value) → HasValue symbols v e x → HasValue symbols v f y → apply o x y ≡ Some z → FitsValue n z → DividesRight o y → HasValue symbols v g z

  module _ (s : Circuit) (ready : IsReady s) (n : ℕ) (some : 0 < n) (e f : Signal) where
    -- an operator that makes a number of two, cut to the width
    number_operator : (o : Op) (F : ℤ → ℤ → ℤ) (r : Circuit × List Literal) → ((a b : Bool) → on_truths o a b ≡ None) → ((a b : Text) → on_symbols o a b ≡ None)
        → ((a b : ℤ) → on_numbers o a b ≡ Some (number (F a b)))
        → Means s r (IsOfWidth n) (λ v w. DividesRight o (number (word_value v (word_in f))) → IsCutTo n (F (word_value v (word_in e)) (word_value v (word_in f))) (word_value v w))
        → Means s (as_word r) IsSignal (Operates o n e f)
    number_operator o F r no_truths no_symbols makes m =
        as_word-means s r n _ _ ready.truth some m (λ v t cut x y z hx hy is fits right.
        by_numbers o (λ x y z. HasValue symbols v e x → HasValue symbols v f y → FitsValue n z → DividesRight o y → HasValue symbols v (word r.1) z) no_truths no_symbols
        (λ a b z is hx hy fits right.
        let left : word_value v (word_in e) ≡ a = number_in_word symbols v e a hx in
        let under : word_value v (word_in f) ≡ b = number_in_word symbols v f b hy in
        let same : number (F a b) ≡ z = same_result (number (F a b)) z z (on_numbers o a b) (makes a b) is in
        let small : Fits n (F a b) = subst (FitsValue n) (sym same) fits in
        let divides : DividesRight o (number (word_value v (word_in f))) = subst (λ i. DividesRight o (number i)) (sym under) right in
        let at_left : IsCutTo n (F a (word_value v (word_in f))) (word_value v r.1) = subst (λ i. IsCutTo n (F i (word_value v (word_in f))) (word_value v r.1)) left (cut divides) in
        let at_both : IsCutTo n (F a b) (word_value v r.1) = subst (λ i. IsCutTo n (F a i) (word_value v r.1)) under at_left in
        subst (HasValue symbols v (word r.1)) same (exact n (F a b) (word_value v r.1) some small at_both))
        x y z is hx hy fits right)

    -- an operator that compares two numbers
    order_operator : (o : Op) (F : ℤ → ℤ → Bool) (r : Circuit × Literal) → ((a b : Bool) → on_truths o a b ≡ None) → ((a b : Text) → on_symbols o a b ≡ None)
        → ((a b : ℤ) → on_numbers o a b ≡ Some (truth (F a b)))
        → Means s r IsLiteral (λ v l. literal_value v l ≡ F (word_value v (word_in e)) (word_value v (word_in f)))
        → Means s (as_bit r) IsSignal (Operates o n e f)
    order_operator o F r no_truths no_symbols makes m =
        as_bit-means s r _ _ ready.truth m (λ v t has x y z hx hy is fits right.
        by_numbers o (λ x y z. HasValue symbols v e x → HasValue symbols v f y → HasValue symbols v (bit r.1) z) no_truths no_symbols
        (λ a b z is hx hy.
        let same : truth (F a b) ≡ z = same_result (truth (F a b)) z z (on_numbers o a b) (makes a b) is in
        subst (HasValue symbols v (bit r.1)) same (has ∙ (λ i. F (number_in_word symbols v e a hx i) (number_in_word symbols v f b hy i))))
        x y z is hx hy)

    -- an operator on two truth values
    connective : (o : Op) (F : Bool → Bool → Bool) (r : Circuit × Literal) → ((a b : ℤ) → on_numbers o a b ≡ None) → ((a b : Text) → on_symbols o a b ≡ None)
        → ((a b : Bool) → on_truths o a b ≡ Some (truth (F a b)))
        → Means s r IsLiteral (λ v l. literal_value v l ≡ F (literal_value v (literal_in e)) (literal_value v (literal_in f)))
        → Means s (as_bit r) IsSignal (Operates o n e f)
    connective o F r no_numbers no_symbols makes m =
        as_bit-means s r _ _ ready.truth m (λ v t has x y z hx hy is fits right.
        by_truths o (λ x y z. HasValue symbols v e x → HasValue symbols v f y → HasValue symbols v (bit r.1) z) no_numbers no_symbols
        (λ a b z is hx hy.
        let same : truth (F a b) ≡ z = same_result (truth (F a b)) z z (on_truths o a b) (makes a b) is in
        subst (HasValue symbols v (bit r.1)) same (has ∙ (λ i. F (truth_in_bit symbols v e a hx i) (truth_in_bit symbols v f b hy i))))
        x y z is hx hy)

  -- whether two signals have one value
  pub same_gates-means : (s : Circuit) → IsReady s → (e f : Signal) → IsSignal s e → IsSignal s f
      → Means s (same_gates e f s) IsLiteral (λ v l. (x y : Value) → AreAlike x y → HasValue symbols v e x → HasValue symbols v f y → Tells v l x y)
  same_gates-means s ready (bit a) (bit b) he hf =
      Means-weaker s _ IsLiteral IsLiteral _ _ (turned-means s _ _ (xor_gate-gives s a b he hf)) (λ h. h) (λ v h is x y alike hx hy. bits v _ x y alike hx hy is)
    where
      bits : (v : TotalAssignment) (l : Literal) (x y : Value) → AreAlike x y → HasValue symbols v (bit a) x → HasValue symbols v (bit b) y
          → literal_value v l ≡ not (differ (literal_value v a) (literal_value v b)) → Tells v l x y
      bits v l (truth p) (truth q) alike hx hy is =
          let whole : literal_value v l ≡ not (differ p q) = is ∙ (λ i. not (differ (hx i) (hy i))) in
          record { to = λ t. ap truth (not_differ p q (sym whole ∙ t)); from = λ t. let same : p ≡ q = truths p q t in whole ∙ ap (λ c. not (differ p c)) (sym same) ∙ no_differ p }
        where
          truths : (p q : Bool) → truth p ≡ truth q → p ≡ q
          truths p q t = cc
      bits v l (truth p) (number q) alike hx hy is = absurd alike
      bits v l (truth p) (symbol q) alike hx hy is = absurd alike
      bits v l (number p) y alike hx hy is = absurd hx
      bits v l (symbol p) y alike hx hy is = absurd hx
  same_gates-means s ready (bit a) (word b) he hf =
      Means-weaker s _ IsLiteral IsLiteral _ _ (equal_gates-gives (a ∷ []) b s ready.truth ready.least (word_usable s (bit a) he) hf) (λ h. h)
      (λ v h is x y alike hx hy. none v _ x y alike hx hy)
    where
      none : (v : TotalAssignment) (l : Literal) (x y : Value) → AreAlike x y → HasValue symbols v (bit a) x → HasValue symbols v (word b) y → Tells v l x y
      none v l (truth p) (truth q) alike hx hy = absurd hy
      none v l (truth p) (number q) alike hx hy = absurd alike
      none v l (truth p) (symbol q) alike hx hy = absurd alike
      none v l (number p) y alike hx hy = absurd hx
      none v l (symbol p) y alike hx hy = absurd hx
  same_gates-means s ready (word a) f he hf =
      Means-weaker s _ IsLiteral IsLiteral _ _ (equal_gates-gives a (word_in f) s ready.truth ready.least he (word_usable s f hf)) (λ h. h)
      (λ v h is x y alike hx hy. words v _ x y alike hx hy is)
    where
      words : (v : TotalAssignment) (l : Literal) (x y : Value) → AreAlike x y → HasValue symbols v (word a) x → HasValue symbols v f y
          → literal_value v l ≡ int_eq (word_value v a) (word_value v (word_in f)) → Tells v l x y
      words v l (number m) (number n) alike hx hy is =
          let whole : literal_value v l ≡ int_eq m n = is ∙ (λ i. int_eq (hx i) (number_in_word symbols v f n hy i)) in
          record { to = λ t. ap number (int_eq_true m n (sym whole ∙ t)); from = λ t. let same : m ≡ n = numbers m n t in whole ∙ ap (int_eq m) (sym same) ∙ int_eq_same m }
        where
          numbers : (m n : ℤ) → number m ≡ number n → m ≡ n
          numbers m n t = cc
      words v l (symbol x) (symbol y) alike hx hy is =
          let right : IsNumberOf symbols y (word_value v (word_in f)) = symbol_in f y hy in
          let whole : literal_value v l ≡ int_eq (pos hx.place) (pos right.place) = is ∙ (λ i. int_eq (hx.is i) (right.is i)) in
          record {
            to = λ t. ap symbol (one_text x y hx.place right.place (pos_same hx.place right.place (int_eq_true (pos hx.place) (pos right.place) (sym whole ∙ t))) hx.at right.at);
            from = λ t.
                let texts : x ≡ y = symbols_same x y t in
                let place : hx.place ≡ right.place = are.apart hx.place right.place y (hx.at ∙ ap Some texts) right.at in
                whole ∙ ap (λ i. int_eq (pos hx.place) (pos i)) (sym place) ∙ int_eq_same (pos hx.place);
          }
        where
          symbol_in : (f : Signal) (y : Text) → HasValue symbols v f (symbol y) → IsNumberOf symbols y (word_value v (word_in f))
          symbol_in (bit l) y h = absurd h
          symbol_in (word w) y h = h

          one_text : (x y : Text) (i j : ℕ) → i ≡ j → slice_get symbols i ≡ Some x → slice_get symbols j ≡ Some y → x ≡ y
          one_text x y i j e p q = some_same x y (sym p ∙ ap (slice_get symbols) e ∙ q)
            where
              some_same : (x y : Text) → Some x ≡ Some y → x ≡ y
              some_same x y t = cc

          symbols_same : (x y : Text) → symbol x ≡ symbol y → x ≡ y
          symbols_same x y t = cc
      words v l (truth p) y alike hx hy is = absurd hx
      words v l (number m) (truth q) alike hx hy is = absurd alike
      words v l (number m) (symbol q) alike hx hy is = absurd alike
      words v l (symbol m) (truth q) alike hx hy is = absurd alike
      words v l (symbol m) (number q) alike hx hy is = absurd alike

  -- an operator that says whether two values are one, or that they are not
  equality : (s : Circuit) → IsReady s → (n : ℕ) (e f : Signal) → IsSignal s e → IsSignal s f → Means s (as_bit (same_gates e f s)) IsSignal (Operates op.Equal n e f)
  equality s ready n e f he hf =
      as_bit-means s _ _ _ ready.truth (same_gates-means s ready e f he hf) (λ v t tells x y z hx hy is fits right.
      let alike = alike_applied op.Equal x y z is in
      let same : truth (same_value x y) ≡ z = same_result _ z z _ (equal_is x y alike) is in
      subst (HasValue symbols v (bit _)) same (tells_test v _ x y (same_value x y) (tells x y alike hx hy) (same_value_equal x y) (same_value_from x y)))

  difference : (s : Circuit) → IsReady s → (n : ℕ) (e f : Signal) → IsSignal s e → IsSignal s f → Means s (as_bit (turned (same_gates e f s))) IsSignal (Operates op.Differs n e f)
  difference s ready n e f he hf = record {
    extends = m.extends;
    shape = m.shape;
    means = λ v h x y z hx hy is fits right.
        let alike = alike_applied op.Differs x y z is in
        let same : truth (other (same_value x y)) ≡ z = same_result _ z z _ (differs_is x y alike) is in
        let here : literal_value v (same_gates e f s).1 ≡ same_value x y = tells_test v _ x y (same_value x y) (m.means v h x y alike hx hy) (same_value_equal x y) (same_value_from x y) in
        subst (HasValue symbols v (bit _)) same (literal_value-opposite v (same_gates e f s).1 ∙ ap not here ∙ sym (other_is_not (same_value x y)));
  }
    where
      m : Means s (same_gates e f s) IsLiteral (λ v l. (x y : Value) → AreAlike x y → HasValue symbols v e x → HasValue symbols v f y → Tells v l x y)
      m = same_gates-means s ready e f he hf

  -- the operator's gates give its value on the two operands
  pub operator_gates-means : (s : Circuit) → IsReady s → (o : Op) (n : ℕ) → 0 < n → (e f : Signal) → IsSignal s e → IsSignal s f
      → Means s (operator_gates o n e f s) IsSignal (Operates o n e f)
  operator_gates-means s ready o n some e f he hf = by o
    where
      we : IsWordOf s (word_in e)
      we = word_usable s e he

      wf : IsWordOf s (word_in f)
      wf = word_usable s f hf

      le : IsBelow s.free (literal_in e)
      le = literal_below s ready.least e he

      lf : IsBelow s.free (literal_in f)
      lf = literal_below s ready.least f hf

      cut : (o : Op) (F : ℤ → ℤ → ℤ) (r : Circuit × List Literal) → Means s r (IsOfWidth n) (λ v w. IsCutTo n (F (word_value v (word_in e)) (word_value v (word_in f))) (word_value v w))
          → Means s r (IsOfWidth n) (λ v w. DividesRight o (number (word_value v (word_in f))) → IsCutTo n (F (word_value v (word_in e)) (word_value v (word_in f))) (word_value v w))
      cut o F r m = Means-weaker s r (IsOfWidth n) (IsOfWidth n) _ _ m (λ h. h) (λ v h c right. c)

      divided : (F : ℤ → ℤ → ℤ) (r : Circuit × List Literal)
          → Means s r (IsOfWidth n) (λ v w. word_value v (word_in f) ≢ pos 0 → IsCutTo n (F (word_value v (word_in e)) (word_value v (word_in f))) (word_value v w))
          → Means s r (IsOfWidth n) (λ v w. (number (word_value v (word_in f)) ≡ number (pos 0) → ⊥) → IsCutTo n (F (word_value v (word_in e)) (word_value v (word_in f))) (word_value v w))
      divided F r m = Means-weaker s r (IsOfWidth n) (IsOfWidth n) _ _ m (λ h. h) (λ v h c right. c (λ zero. right (ap number zero)))

      turns : (F : TotalAssignment → Bool) (r : Circuit × Literal) → Means s r IsLiteral (λ v l. literal_value v l ≡ F v) → Means s (turned r) IsLiteral (λ v l. literal_value v l ≡ other (F v))
      turns F r m = Means-weaker s (turned r) IsLiteral IsLiteral _ _ (turned-means s r F m) (λ h. h) (λ v h c. c ∙ sym (other_is_not (F v)))

      agree : Means s (turned (xor_gate (literal_in e) (literal_in f) s)) IsLiteral (λ v l. literal_value v l ≡ same_bool (literal_value v (literal_in e)) (literal_value v (literal_in f)))
      agree =
          Means-weaker s _ IsLiteral IsLiteral _ _ (turned-means s _ _ (xor_gate-gives s (literal_in e) (literal_in f) le lf)) (λ h. h)
          (λ v h c. c ∙ sym (same_bool_is (literal_value v (literal_in e)) (literal_value v (literal_in f))))

      by : (o : Op) → Means s (operator_gates o n e f s) IsSignal (Operates o n e f)
      by op.Times = number_operator s ready n some e f op.Times ◌*ℤ◌ _ (λ a b. refl) (λ a b. refl) (λ a b. refl) (cut op.Times ◌*ℤ◌ _ (multiply_gates-gives (word_in e) (word_in f) n s ready.truth ready.least some we wf))
      by op.Plus = number_operator s ready n some e f op.Plus ◌+ℤ◌ _ (λ a b. refl) (λ a b. refl) (λ a b. refl) (cut op.Plus ◌+ℤ◌ _ (add_gates-gives (word_in e) (word_in f) n s ready.truth ready.least some we wf))
      by op.Minus = number_operator s ready n some e f op.Minus ◌-ℤ◌ _ (λ a b. refl) (λ a b. refl) (λ a b. refl) (cut op.Minus ◌-ℤ◌ _ (subtract_gates-gives (word_in e) (word_in f) n s ready.truth ready.least some we wf))
      by op.Over = number_operator s ready n some e f op.Over int_div _ (λ a b. refl) (λ a b. refl) (λ a b. refl) (divided int_div _ (divide_gates-gives (word_in e) (word_in f) s ready.truth ready.least we wf n some))
      by op.Mod = number_operator s ready n some e f op.Mod int_rem _ (λ a b. refl) (λ a b. refl) (λ a b. refl) (divided int_rem _ (remainder_gates-gives (word_in e) (word_in f) s ready.truth ready.least we wf n some))
      by op.Less = order_operator s ready n some e f op.Less int_lt _ (λ a b. refl) (λ a b. refl) (λ a b. refl) (less_gates-gives (word_in e) (word_in f) s ready.truth ready.least we wf)
      by op.Greater = order_operator s ready n some e f op.Greater (λ a b. int_lt b a) _ (λ a b. refl) (λ a b. refl) (λ a b. refl) (less_gates-gives (word_in f) (word_in e) s ready.truth ready.least wf we)
      by op.AtMost = order_operator s ready n some e f op.AtMost at_most _ (λ a b. refl) (λ a b. refl) (λ a b. refl)
          (turns (λ v. int_lt (word_value v (word_in f)) (word_value v (word_in e))) _ (less_gates-gives (word_in f) (word_in e) s ready.truth ready.least wf we))
      by op.AtLeast = order_operator s ready n some e f op.AtLeast (λ a b. at_most b a) _ (λ a b. refl) (λ a b. refl) (λ a b. refl)
          (turns (λ v. int_lt (word_value v (word_in e)) (word_value v (word_in f))) _ (less_gates-gives (word_in e) (word_in f) s ready.truth ready.least we wf))
      by op.And = connective s ready n some e f op.And ◌&&◌ _ (λ a b. refl) (λ a b. refl) (λ a b. refl) (and_gate-gives s (literal_in e) (literal_in f) le lf)
      by op.Or = connective s ready n some e f op.Or ◌||◌ _ (λ a b. refl) (λ a b. refl) (λ a b. refl) (or_gate-gives s (literal_in e) (literal_in f) le lf)
      by op.Xor = connective s ready n some e f op.Xor (λ a b. other (same_bool a b)) _ (λ a b. refl) (λ a b. refl) (λ a b. refl)
          (Means-weaker s _ IsLiteral IsLiteral _ _ (xor_gate-gives s (literal_in e) (literal_in f) le lf) (λ h. h) (λ v h c. c ∙ differ_is (literal_value v (literal_in e)) (literal_value v (literal_in f))))
      by op.Xnor = connective s ready n some e f op.Xnor same_bool _ (λ a b. refl) (λ a b. refl) (λ a b. refl) agree
      by op.Iff = connective s ready n some e f op.Iff same_bool _ (λ a b. refl) (λ a b. refl) (λ a b. refl) agree
      by op.Implies = connective s ready n some e f op.Implies (λ a b. other a || b) _ (λ a b. refl) (λ a b. refl) (λ a b. refl)
          (Means-weaker s _ IsLiteral IsLiteral _ _ (or_gate-gives s (opposite (literal_in e)) (literal_in f) le lf) (λ h. h)
          (λ v h c. c ∙ ap (λ b. b || literal_value v (literal_in f)) (literal_value-opposite v (literal_in e) ∙ sym (other_is_not (literal_value v (literal_in e))))))
      by op.Equal = equality s ready n e f he hf
      by op.Differs = difference s ready n e f he hf
      by op.Union = Means-done s (bit (constant_lit false)) IsSignal _ ready.least (λ v h x y z hx hy is fits right. never_union x y z is)
      by op.Within = Means-done s (bit (constant_lit false)) IsSignal _ ready.least (λ v h x y z hx hy is fits right. never_within x y z is)
