-- A variable's signal has the value that its bits spell.
use Rattle.std.proofs.Common.{◌≡◌, ◌⊎◌, inl, inr, ℕ, ◌+◌, ◌<◌, ◌≤◌, Bool, true, false, ℤ, pos, negsuc, List, [], Option, Some, None, refl, sym, ◌∙◌, ap, subst, arith}
use Rattle.std.specs.Prelude.{slice_get}
use Rattle.smv_language.specs.Language.{Text, DeclaredTree, boolean, range, members, instance, in_domain, Value, symbol, one}
use Rattle.smv_language.specs.Values.{truth, number}
use Rattle.sat_clauses.specs.States.{Agrees}
use Rattle.sat_clauses.specs.Literal.{Literal, plain}
use Rattle.sat_clauses.specs.Models.{TotalAssignment, literal_value}
use Rattle.sat_circuits.specs.Circuit.{Circuit}
use Rattle.sat_circuits.specs.Words.{word_value, fit}
use Rattle.sat_circuits.proofs.WordMeans.{length-fit, AllBelow-fit}
use Rattle.smv_type_laws.specs.ExpressionKinds.{Class, truth_class, number_class, symbol_class}
use Rattle.smv_type_laws.specs.DeclaredKinds.{judged_declared}
use Rattle.smv_type_laws.specs.Costs.{width_of, width_in, symbol_number, declared_width}
use Rattle.smv_type_laws.specs.KindValues.{IsOfClass}
use Rattle.smv_type_laws.proofs.VariableLaws.{variable_holds}
use Rattle.sat_encoding_laws.specs.Widths.{kind_width}
use Rattle.sat_encoding_laws.specs.Signals.{Signal, bit, word}
use Rattle.sat_encoding_laws.specs.Meanings.{HasValue, AreSymbols, IsSignal, IsReady}
use Rattle.sat_encoding_laws.specs.Layout.{literals_from, with_sign, number_signal, variable_signal}
use Rattle.sat_encoding_laws.specs.Bits.{number_bits, value_number, value_bits}
use Rattle.sat_encoding_laws.specs.Encodable.{IsListedType}
use Rattle.sat_encoding_laws.proofs.NumberWords.{word_from_bits, bits_from_word, bits_hold, some_bits, signed-below}
use Rattle.sat_encoding_laws.proofs.Answering.{one_same}
use Rattle.sat_encoding_laws.proofs.TypeMeans.{symbol_found, IsNumbers, numbers_of}
use Rattle.smv_language.proofs.ValueLaws.{no_truth}

-- ---- the signal of a type of numbers

abbrev pub numbers_word : (symbols : List Text) (d : DeclaredTree) → IsNumbers symbols d → ℕ → List Literal
numbers_word symbols d s n = fit (kind_width symbols (judged_declared d).kind) (with_sign s.interval.lo (literals_from (width_of s.interval) n))

pub numbers_signal : (symbols : List Text) (d : DeclaredTree) (s : IsNumbers symbols d) (n : ℕ) → variable_signal symbols d n ≡ word (numbers_word symbols d s n)
numbers_signal symbols boolean s n = cc (s.is)
numbers_signal symbols (range lo hi) s n = ap (λ i. number_signal (kind_width symbols (judged_declared (range lo hi)).kind) i n) s.is
numbers_signal symbols (members ms) s n = ap (λ i. number_signal (kind_width symbols (judged_declared (members ms)).kind) i n) s.is
numbers_signal symbols (instance m actuals) s n = cc (s.is)

pub numbers_width : (symbols : List Text) (d : DeclaredTree) (s : IsNumbers symbols d) → declared_width symbols d ≡ width_of s.interval
numbers_width symbols boolean s = cc (s.is)
numbers_width symbols (range lo hi) s = ap width_in s.is
numbers_width symbols (members ms) s = ap width_in s.is
numbers_width symbols (instance m actuals) s = cc (s.is)

no_truths : (symbols : List Text) (d : DeclaredTree) → IsNumbers symbols d → (b : Bool) → in_domain d (truth b) ≡ false
no_truths symbols boolean s b = cc (s.is)
no_truths symbols (range lo hi) s b = refl
no_truths symbols (members ms) s b = no_truth ms b
no_truths symbols (instance m actuals) s b = refl

-- ---- the value of a signal

abbrev pub symbol_or_false : Option Text → Value
symbol_or_false (Some x) = symbol x
symbol_or_false None = truth false

abbrev pub read_symbol : List Text → ℤ → Value
read_symbol symbols (pos i) = symbol_or_false (slice_get symbols i)
read_symbol symbols (negsuc i) = truth false

-- what a signal of that class says
abbrev pub read_value : List Text → Class → TotalAssignment → Signal → Value
read_value symbols class v (bit l) = truth (literal_value v l)
read_value symbols number_class v (word w) = number (word_value v w)
read_value symbols symbol_class v (word w) = read_symbol symbols (word_value v w)
read_value symbols truth_class v (word w) = truth false

abbrev pub read_as : List Text → DeclaredTree → TotalAssignment → Signal → Value
read_as symbols d v e = read_value symbols (judged_declared d).kind.class v e

pub class_of : (d : DeclaredTree) (u : Value) → (judged_declared d).broken ≡ [] → in_domain d u ≡ true → IsOfClass (judged_declared d).kind.class u
class_of d u e h =
    let g = (variable_holds d u e h).gives in
    subst (λ (x : Value). IsOfClass (judged_declared d).kind.class x) (one_same g.value u (Some (one u)) g.is refl) g.of_kind.class

module _ (symbols : List Text) (are : AreSymbols symbols) where
  -- a signal with a value of the class says that value
  read_has : (class : Class) (v : TotalAssignment) (e : Signal) (u : Value) → IsOfClass class u → HasValue symbols v e u → read_value symbols class v e ≡ u
  read_has class v (bit l) (truth b) c h = ap truth h
  read_has class v (bit l) (number n) c h = absurd h
  read_has class v (bit l) (symbol x) c h = absurd h
  read_has number_class v (word w) (number n) c h = ap number h
  read_has number_class v (word w) (truth b) c h = absurd h
  read_has number_class v (word w) (symbol x) c h = absurd c
  read_has symbol_class v (word w) (symbol x) c h = ap (read_symbol symbols) h.is ∙ ap symbol_or_false h.at
  read_has symbol_class v (word w) (truth b) c h = absurd h
  read_has symbol_class v (word w) (number n) c h = absurd c
  read_has truth_class v (word w) (truth b) c h = absurd h
  read_has truth_class v (word w) (number n) c h = absurd c
  read_has truth_class v (word w) (symbol x) c h = absurd c

  -- a symbol that is read has the word's number
  has_symbol : (v : TotalAssignment) (w : List Literal) (z : ℤ) → word_value v w ≡ z → ((b : Bool) → read_symbol symbols z ≡ truth b → ⊥) → HasValue symbols v (word w) (read_symbol symbols z)
  has_symbol v w (pos i) is never = by (slice_get symbols i) refl
    where
      by : (at : Option Text) → slice_get symbols i ≡ at → HasValue symbols v (word w) (symbol_or_false (slice_get symbols i))
      by (Some x) e = subst (λ (o : Option Text). HasValue symbols v (word w) (symbol_or_false o)) (sym e) (record { place = i; at = e; is = is })
      by None e = absurd (never false (ap symbol_or_false e))
  has_symbol v w (negsuc i) is never = absurd (never false refl)

  has_read_word : (class : Class) (v : TotalAssignment) (w : List Literal) → ((b : Bool) → read_value symbols class v (word w) ≡ truth b → ⊥) → HasValue symbols v (word w) (read_value symbols class v (word w))
  has_read_word number_class v w never = refl
  has_read_word symbol_class v w never = has_symbol v w (word_value v w) refl never
  has_read_word truth_class v w never = absurd (never false refl)

  -- the number of a value that a word has is the word's
  number_of_word : (v : TotalAssignment) (w : List Literal) (u : Value) → HasValue symbols v (word w) u → word_value v w ≡ value_number symbols u
  number_of_word v w (number n) h = h
  number_of_word v w (truth b) h = absurd h
  number_of_word v w (symbol x) h = h.is ∙ ap pos (are.apart h.place (symbol_number symbols x) x h.at (symbol_found symbols x h.place h.at))

  module _ (d : DeclaredTree) (right : (judged_declared d).broken ≡ []) (listed : IsListedType symbols d) where
    -- a value that is read, and is in the domain, is that of the signal
    pub read_holds : (v : TotalAssignment) (n : ℕ) → in_domain d (read_as symbols d v (variable_signal symbols d n)) ≡ true
        → HasValue symbols v (variable_signal symbols d n) (read_as symbols d v (variable_signal symbols d n))
    read_holds v n inside = by d (numbers_of symbols are d right listed) inside
      where
        by : (d : DeclaredTree) → (d ≡ boolean) ⊎ IsNumbers symbols d → in_domain d (read_as symbols d v (variable_signal symbols d n)) ≡ true
            → HasValue symbols v (variable_signal symbols d n) (read_as symbols d v (variable_signal symbols d n))
        by d (inl b) inside = subst (λ (t : DeclaredTree). HasValue symbols v (variable_signal symbols t n) (read_as symbols t v (variable_signal symbols t n))) (sym b) refl
        by d (inr s) inside =
            let same = numbers_signal symbols d s n in
            let here : in_domain d (read_as symbols d v (word (numbers_word symbols d s n))) ≡ true = subst (λ (e : Signal). in_domain d (read_as symbols d v e) ≡ true) same inside in
            subst (λ (e : Signal). HasValue symbols v e (read_as symbols d v e)) (sym same)
            (has_read_word (judged_declared d).kind.class v (numbers_word symbols d s n) (λ b is. cc (no_truths symbols d s b, ap (in_domain d) is, here)))

    -- a signal with a value of the domain is read as that
    pub read_is : (v : TotalAssignment) (e : Signal) (u : Value) → in_domain d u ≡ true → HasValue symbols v e u → read_as symbols d v e ≡ u
    read_is v e u inside h = read_has (judged_declared d).kind.class v e u (class_of d u right inside) h

    -- where the variables have the bits of a value of the domain, the signal has the value
    pub bits_give : (v : TotalAssignment) → v 1 ≡ true → (n : ℕ) (u : Value) → in_domain d u ≡ true → Agrees v n (value_bits symbols d u) → HasValue symbols v (variable_signal symbols d n) u
    bits_give v one_true n u inside agrees = by d (numbers_of symbols are d right listed) u inside agrees
      where
        truths : (u : Value) → in_domain boolean u ≡ true → Agrees v n (value_bits symbols boolean u) → HasValue symbols v (bit (plain n)) u
        truths (truth true) h a = a.0
        truths (truth false) h a = a.0
        truths (number k) h a = cc
        truths (symbol x) h a = cc

        by : (d : DeclaredTree) → (d ≡ boolean) ⊎ IsNumbers symbols d → (u : Value) → in_domain d u ≡ true → Agrees v n (value_bits symbols d u) → HasValue symbols v (variable_signal symbols d n) u
        by d (inl b) u inside agrees =
            subst (λ (t : DeclaredTree). HasValue symbols v (variable_signal symbols t n) u) (sym b)
            (truths u (subst (λ (t : DeclaredTree). in_domain t u ≡ true) b inside) (subst (λ (t : DeclaredTree). Agrees v n (value_bits symbols t u)) b agrees))
        by d (inr s) u inside agrees =
            let i = s.values u inside in
            let bits : Agrees v n (number_bits (width_of s.interval) (value_number symbols u)) = subst (λ (k : ℕ). Agrees v n (number_bits k (value_number symbols u))) (numbers_width symbols d s) agrees in
            let value = word_from_bits v one_true s.interval.lo s.interval.hi (value_number symbols u) (width_of s.interval) (kind_width symbols (judged_declared d).kind) n
            (some_bits s.interval s.order s.small) s.wide (bits_hold s.interval s.order s.small) i.above i.below (s.fit (value_number symbols u) i) bits in
            subst (λ (e : Signal). HasValue symbols v e u) (sym (numbers_signal symbols d s n)) (s.word_value_is v (numbers_word symbols d s n) u inside value)

    -- and where the signal has a value of the domain, the variables have its bits
    pub gives_bits : (v : TotalAssignment) → v 1 ≡ true → (n : ℕ) (u : Value) → in_domain d u ≡ true → HasValue symbols v (variable_signal symbols d n) u → Agrees v n (value_bits symbols d u)
    gives_bits v one_true n u inside h = by d (numbers_of symbols are d right listed) u inside h
      where
        truths : (u : Value) → in_domain boolean u ≡ true → HasValue symbols v (bit (plain n)) u → Agrees v n (value_bits symbols boolean u)
        truths (truth true) h a = (a, tt)
        truths (truth false) h a = (a, tt)
        truths (number k) h a = cc
        truths (symbol x) h a = cc

        by : (d : DeclaredTree) → (d ≡ boolean) ⊎ IsNumbers symbols d → (u : Value) → in_domain d u ≡ true → HasValue symbols v (variable_signal symbols d n) u → Agrees v n (value_bits symbols d u)
        by d (inl b) u inside h =
            subst (λ (t : DeclaredTree). Agrees v n (value_bits symbols t u)) (sym b)
            (truths u (subst (λ (t : DeclaredTree). in_domain t u ≡ true) b inside) (subst (λ (t : DeclaredTree). HasValue symbols v (variable_signal symbols t n) u) b h))
        by d (inr s) u inside h =
            let is = number_of_word v (numbers_word symbols d s n) u (subst (λ (e : Signal). HasValue symbols v e u) (numbers_signal symbols d s n) h) in
            let bits = bits_from_word v one_true s.interval.lo (width_of s.interval) (kind_width symbols (judged_declared d).kind) n (some_bits s.interval s.order s.small) s.within in
            subst (λ (k : ℕ). Agrees v n (number_bits k (value_number symbols u))) (sym (numbers_width symbols d s))
            (subst (λ (z : ℤ). Agrees v n (number_bits (width_of s.interval) z)) is bits)

    -- the signal's variables are those of its bits
    pub signal_below : (s : Circuit) → IsReady s → (n : ℕ) → n + declared_width symbols d ≤ s.free → IsSignal s (variable_signal symbols d n)
    signal_below s ready n below = by d (numbers_of symbols are d right listed) below
      where
        by : (d : DeclaredTree) → (d ≡ boolean) ⊎ IsNumbers symbols d → n + declared_width symbols d ≤ s.free → IsSignal s (variable_signal symbols d n)
        by d (inl b) below =
            let here : n + declared_width symbols boolean ≤ s.free = subst (λ (t : DeclaredTree). n + declared_width symbols t ≤ s.free) b below in
            let less : n < s.free = omega (arith, here) in
            subst (λ (t : DeclaredTree). IsSignal s (variable_signal symbols t n)) (sym b) less
        by d (inr k) below =
            let width = numbers_width symbols d k in
            let all = signed-below s.free k.interval.lo (width_of k.interval) n ready.least (omega (arith, width, below)) in
            let w = with_sign k.interval.lo (literals_from (width_of k.interval) n) in
            let size = kind_width symbols (judged_declared d).kind in
            subst (IsSignal s) (sym (numbers_signal symbols d k n)) (record { signed = omega (arith, length-fit size w, k.wide); below = AllBelow-fit size s.free w ready.least all })
