-- How many variables the gates of an expression take: at most 1,024 for each unit of its cost.
use Rattle.std.proofs.Common.{◌≡◌, ℕ, zero, suc, ◌+◌, ◌-◌, ◌*◌, ◌/◌, ◌%◌, eqb, cond, ◌<◌, ◌≤◌, max, Bool, true, false, ℤ, pos, negsuc, List, [], ◌∷◌, length, refl, sym, ◌∙◌, arith}
use Rattle.std.proofs.Math.Nat.{mul-le-mul_left}
use Rattle.smv_language.specs.declared.expr.Op.{Op}
use Rattle.smv_language.specs.declared.expr.Op.TheVariants as op
use Rattle.smv_language.specs.Tree.{Tree, Trees, Branches, truth as is_truth, number as is_number, leaf, not_of, negate, next_of, binary, choice, case_of, set_of, span, no_tree, tree_then, no_branch, branch_then}
use Rattle.smv_type_laws.specs.Costs.{op_cost, cost_of, trees_cost, branches_cost}
use Rattle.sat_clauses.specs.Literal.{Literal, opposite}
use Rattle.sat_clauses.specs.Models.{TotalAssignment, IsBelow}
use Rattle.sat_circuits.specs.Circuit.{Circuit, after}
use Rattle.sat_circuits.specs.Gates.{constant_lit, differ}
use Rattle.sat_circuits.specs.Meaning.{Means, Extends}
use Rattle.sat_circuits.proofs.Extension.{AllBelow-more, Means-after, Means-done, Means-weaker}
use Rattle.sat_circuits.proofs.Rows.{IsNext, and_gate-means, or_gate-means, xor_gate-means, mux_gate-means}
use Rattle.sat_circuits.specs.Words.{fit, IsWordOf, IsOfWidth, IsSized}
use Rattle.sat_circuits.specs.Numbers.{digits_from, number_word}
use Rattle.sat_circuits.specs.Sums.{less_gates}
use Rattle.sat_circuits.specs.Quotients.{choose_gates}
use Rattle.sat_circuits.proofs.WordMeans.{length-fit, AllBelow-fit}
use Rattle.sat_circuits.proofs.DigitMeans.{number_word-word}
use Rattle.sat_circuits.proofs.SumMeans.{add_gates-means, subtract_gates-means, negate_gates-means}
use Rattle.sat_circuits.proofs.TestMeans.{less_gates-means, equal_gates-means}
use Rattle.sat_circuits.proofs.ProductMeans.{multiply_gates-means}
use Rattle.sat_circuits.proofs.QuotientMeans.{choose_gates-means, divide_cost}
use Rattle.sat_circuits.proofs.DivideMeans.{divide_gates-means, remainder_gates-means}
use Rattle.sat_encoding_laws.specs.Signals.{Signal, bit, word, literal_in, word_in, as_bit, as_word, turned, fitted, same_gates, choice_gates, between_gates, operator_gates}
use Rattle.sat_encoding_laws.specs.Expressions.{Asked, its_value, whether_has, Names, at_next, answer, both_gates, encoded, encoded_branches, encoded_members}
use Rattle.sat_encoding_laws.specs.Meanings.{IsSignal, IsReady}
use Rattle.sat_encoding_laws.proofs.Parts.{ready_later, signal_later, literal_below, word_usable}
use Rattle.sat_encoding_laws.proofs.Choices.{signal_fitted}

-- a word has at most 66 bits
abbrev pub IsShort : Signal → Type 0
IsShort (bit l) = Unit {0}
IsShort (word w) = length w ≤ 66

short_word : (e : Signal) → IsShort e → length (word_in e) ≤ 66
short_word (bit l) h = omega arith
short_word (word w) h = h

-- what is built gives a short signal that may be used, and takes at most k variables
abbrev pub TakesSignal : Circuit → ℕ → Circuit → Signal → Type 0
TakesSignal s k t e = IsSignal t e × IsShort e × (t.free ≤ s.free + k)

abbrev pub Takes : Circuit → ℕ → Circuit × Signal → Type 0
Takes s k r = Means s r (TakesSignal s k) (λ v e. Unit {0})

abbrev TakesLiteral : Circuit → ℕ → Circuit × Literal → Type 0
TakesLiteral s k r = Means s r (λ t l. IsBelow t.free l × (t.free ≤ s.free + k)) (λ v l. Unit {0})

takes_after : (s : Circuit) (j k : ℕ) (r : Circuit × Signal) (f : Signal → Circuit → Circuit × Signal) → Takes s j r → ((e : Signal) (t : Circuit) → IsSignal t e → IsShort e → Extends s t → Takes t k (f e t)) → Takes s (j + k) (after r f)
takes_after s j k r f m rest =
    Means-after s r f _ _ (TakesSignal s (j + k)) _ m (λ e t h et.
    Means-weaker t _ _ (TakesSignal s (j + k)) _ _ (rest e t h.0 h.1 et) (λ g. (g.0, g.1, omega (arith, g.2, h.2))) (λ v sat u p. tt))

takes_after_literal : (s : Circuit) (j k : ℕ) (r : Circuit × Literal) (f : Literal → Circuit → Circuit × Signal) → TakesLiteral s j r → ((l : Literal) (t : Circuit) → IsBelow t.free l → Extends s t → Takes t k (f l t)) → Takes s (j + k) (after r f)
takes_after_literal s j k r f m rest =
    Means-after s r f _ _ (TakesSignal s (j + k)) _ m (λ e t h et.
    Means-weaker t _ _ (TakesSignal s (j + k)) _ _ (rest e t h.0 et) (λ g. (g.0, g.1, omega (arith, g.2, h.1))) (λ v sat u p. tt))

literal_after : (s : Circuit) (j k : ℕ) (r : Circuit × Literal) (f : Literal → Circuit → Circuit × Literal) → TakesLiteral s j r → ((l : Literal) (t : Circuit) → IsBelow t.free l → Extends s t → TakesLiteral t k (f l t)) → TakesLiteral s (j + k) (after r f)
literal_after s j k r f m rest =
    Means-after s r f _ _ (λ t l. IsBelow t.free l × (t.free ≤ s.free + (j + k))) _ m (λ e t h et.
    Means-weaker t _ _ (λ u l. IsBelow u.free l × (u.free ≤ s.free + (j + k))) _ _ (rest e t h.0 et) (λ g. (g.0, omega (arith, g.1, h.1))) (λ v sat u p. tt))

takes_more : (s : Circuit) (j k : ℕ) (r : Circuit × Signal) → j ≤ k → Takes s j r → Takes s k r
takes_more s j k r h m = Means-weaker s r (TakesSignal s j) (TakesSignal s k) _ _ m (λ g. (g.0, g.1, omega (arith, g.2, h))) (λ v sat u. tt)

takes_none : (s : Circuit) (e : Signal) → IsSignal s e → IsShort e → Takes s 0 (s, e)
takes_none s e h g = Means-done s e (TakesSignal s 0) _ (h, g, omega arith) (λ v sat. tt)

-- what gives a literal or a word, with its count
literal_takes : (s : Circuit) (k j : ℕ) (r : Circuit × Literal) (P : TotalAssignment → Literal → Type 0) → Means s r (λ t l. IsBelow t.free l × (t.free ≡ s.free + k)) P → k ≤ j → TakesLiteral s j r
literal_takes s k j r P m h = Means-weaker s r _ (λ t l. IsBelow t.free l × (t.free ≤ s.free + j)) _ _ m (λ g. (g.0, omega (arith, g.1, h))) (λ v sat p. tt)

bit_takes : (s : Circuit) (k : ℕ) (r : Circuit × Literal) → TakesLiteral s k r → Takes s k (as_bit r)
bit_takes s k r m = record { extends = m.extends; shape = (m.shape.0, tt, m.shape.1); means = λ v h. tt }

turned_takes : (s : Circuit) (k : ℕ) (r : Circuit × Literal) → TakesLiteral s k r → TakesLiteral s k (turned r)
turned_takes s k r m = record { extends = m.extends; shape = m.shape; means = λ v h. tt }

word_takes : (s : Circuit) (n k j : ℕ) (r : Circuit × List Literal) (P : TotalAssignment → List Literal → Type 0) → Means s r (IsSized n (s.free + k)) P → 0 < n → n ≤ 66 → k ≤ j → Takes s j (as_word r)
word_takes s n k j r P m some small h = record {
  extends = m.extends;
  shape = (record { signed = omega (arith, m.shape.long, some); below = m.shape.below }, omega (arith, m.shape.long, small), omega (arith, m.shape.free, h));
  means = λ v sat. tt;
}

next_takes : (s : Circuit) (r : Circuit × Literal) (P : TotalAssignment → Literal → Type 0) → Means s r (IsNext s) P → TakesLiteral s 1 r
next_takes s r P m = Means-weaker s r (IsNext s) (λ t l. IsBelow t.free l × (t.free ≤ s.free + 1)) _ _ m (λ g. (g.below, omega (arith, g.next))) (λ v sat p. tt)

same_takes : (s : Circuit) → IsReady s → (e f : Signal) → IsSignal s e → IsSignal s f → IsShort e → IsShort f → TakesLiteral s 132 (same_gates e f s)
same_takes s ready (bit a) (bit b) he hf ge gf =
    let m = next_takes s _ _ (xor_gate-means s a b he hf) in
    turned_takes s 132 _ (Means-weaker s _ _ (λ t l. IsBelow t.free l × (t.free ≤ s.free + 132)) _ _ m (λ g. (g.0, omega (arith, g.1))) (λ v sat p. tt))
same_takes s ready (bit a) (word b) he hf ge gf =
    literal_takes s _ 132 _ _ (equal_gates-means (a ∷ []) b s ready.truth ready.least (word_usable s (bit a) he) hf) (let one : length (a ∷ []) ≡ 1 = refl in omega (arith, gf, one))
same_takes s ready (word a) f he hf ge gf =
    let g = short_word f gf in
    literal_takes s _ 132 _ _ (equal_gates-means a (word_in f) s ready.truth ready.least he (word_usable s f hf)) (omega (arith, ge, g))

less_takes : (s : Circuit) → IsReady s → (a b : List Literal) → IsWordOf s a → IsWordOf s b → length a ≤ 66 → length b ≤ 66 → TakesLiteral s 335 (less_gates a b s)
less_takes s ready a b ha hb ga gb = literal_takes s _ 335 _ _ (less_gates-means a b s ready.truth ready.least ha hb) (omega (arith, ga, gb))

length_digits : (most n : ℕ) (b : Bool) → length (digits_from most n b) ≤ suc most
unfolding digits_from
length_digits zero n b = omega arith
length_digits (suc most) n b = by (eqb n 0) (length_digits most (n / 2) b)
  where
    by : (t : Bool) → length (digits_from most (n / 2) b) ≤ suc most → length (cond t (constant_lit b ∷ []) (constant_lit (differ (eqb (n % 2) 1) b) ∷ digits_from most (n / 2) b)) ≤ suc (suc most)
    by true h = omega arith
    by false h = omega (arith, h)

length_number : (z : ℤ) → length (number_word z) ≤ 66
length_number (pos n) = let h = length_digits 64 n false in omega (arith, h)
length_number (negsuc n) = let h = length_digits 64 n true in omega (arith, h)

between_takes : (s : Circuit) → IsReady s → (w : List Literal) → IsWordOf s w → length w ≤ 66 → (lo hi : ℤ) → TakesLiteral s 671 (between_gates w lo hi s)
unfolding between_gates
between_takes s ready w hw gw lo hi =
    literal_after s 335 336 _ _ (less_takes s ready w (number_word lo) hw (number_word-word lo s ready.least) gw (length_number lo)) (λ u t hu et.
    let ready1 = ready_later s t et ready in
    literal_after t 335 1 _ _
    (less_takes t ready1 (number_word hi) w (number_word-word hi t ready1.least) (record { signed = hw.signed; below = AllBelow-more s.free t.free et.counted w hw.below }) (length_number hi) gw) (λ v y hv ey.
    next_takes y _ _ (and_gate-means y (opposite u) (opposite v) (omega (arith, hu, ey.counted)) hv)))

choose_takes : (s : Circuit) → IsReady s → (n : ℕ) → 0 < n → n ≤ 66 → (c : Literal) (a b : List Literal) → IsBelow s.free c → IsWordOf s a → IsWordOf s b → Takes s 66 (as_word (choose_gates c (fit n a) (fit n b) s))
choose_takes s ready n some small c a b hc ha hb =
    let m = choose_gates-means c (fit n a) (fit n b) s (length-fit n a ∙ sym (length-fit n b)) hc (AllBelow-fit n s.free a ready.least ha.below) (AllBelow-fit n s.free b ready.least hb.below) in
    word_takes s (length (fit n a)) (length (fit n a)) 66 _ _ m (omega (arith, length-fit n a, some)) (omega (arith, length-fit n a, small)) (omega (arith, length-fit n a, small))

choice_takes : (s : Circuit) → IsReady s → (n : ℕ) → 0 < n → n ≤ 66 → (c : Literal) → IsBelow s.free c → (e f : Signal) → IsSignal s e → IsSignal s f → Takes s 66 (choice_gates n c e f s)
choice_takes s ready n some small c hc (bit a) (bit b) he hf = takes_more s 1 66 _ (omega arith) (bit_takes s 1 _ (next_takes s _ _ (mux_gate-means s c a b hc he hf)))
choice_takes s ready n some small c hc (bit a) (word b) he hf = choose_takes s ready n some small c (a ∷ []) b hc (word_usable s (bit a) he) hf
choice_takes s ready n some small c hc (word a) f he hf = choose_takes s ready n some small c a (word_in f) hc he (word_usable s f hf)

-- at most so many for an operator: less than 64 times 1,000 for a product or a quotient, and less than 336 for each other
operator_room : Op → ℕ
operator_room op.Times = 60000
operator_room op.Over = 60000
operator_room op.Mod = 60000
operator_room _ = 335

square_most : (n : ℕ) → n ≤ 66 → 6 * n * n ≤ 60000
square_most n h =
    let one : 6 * n * n ≤ 6 * n * 66 = mul-le-mul_left (6 * n) h in
    omega (arith, one, h)

divide_most : (w : ℕ) → w ≤ 67 → 18 * w + (11 * w + 5) * w + 1 ≤ 60000
divide_most w h =
    let one : (11 * w + 5) * w ≤ (11 * w + 5) * 67 = mul-le-mul_left (11 * w + 5) h in
    omega (arith, one, h)

wide_word : (s : Circuit) (n k : ℕ) (r : Circuit × List Literal) (P : TotalAssignment → List Literal → Type 0) → Means s r (λ u x. IsOfWidth n u x × (u.free ≡ s.free + k)) P → 0 < n → n ≤ 66 → k ≤ 60000 → Takes s 60000 (as_word r)
wide_word s n k r P m some small h = record {
  extends = m.extends;
  shape = (record { signed = omega (arith, m.shape.0.long, some); below = m.shape.0.below }, omega (arith, m.shape.0.long, small), omega (arith, m.shape.1, h));
  means = λ v sat. tt;
}

operator_takes : (s : Circuit) → IsReady s → (o : Op) (n : ℕ) → 0 < n → n ≤ 66 → (e f : Signal) → IsSignal s e → IsSignal s f → IsShort e → IsShort f → Takes s (operator_room o) (operator_gates o n e f s)
unfolding operator_room
operator_takes s ready o n some small e f he hf ge gf = by o
  where
    we : IsWordOf s (word_in e)
    we = word_usable s e he

    wf : IsWordOf s (word_in f)
    wf = word_usable s f hf

    le : IsBelow s.free (literal_in e)
    le = literal_below s ready.least e he

    lf : IsBelow s.free (literal_in f)
    lf = literal_below s ready.least f hf

    short_e : length (word_in e) ≤ 66
    short_e = short_word e ge

    short_f : length (word_in f) ≤ 66
    short_f = short_word f gf

    divided : 18 * (max (length (word_in e)) (length (word_in f)) + 1) + divide_cost (max (length (word_in e)) (length (word_in f)) + 1) * (max (length (word_in e)) (length (word_in f)) + 1) + 1 ≤ 60000
    divided = divide_most (max (length (word_in e)) (length (word_in f)) + 1) (omega (arith, short_e, short_f))

    one : (r : Circuit × Literal) → TakesLiteral s 1 r → Takes s 335 (as_bit r)
    one r m = takes_more s 1 335 (as_bit r) (omega arith) (bit_takes s 1 r m)

    same : (r : Circuit × Literal) → TakesLiteral s 132 r → Takes s 335 (as_bit r)
    same r m = takes_more s 132 335 (as_bit r) (omega arith) (bit_takes s 132 r m)

    by : (o : Op) → Takes s (operator_room o) (operator_gates o n e f s)
    by op.Times =
        let m = multiply_gates-means (word_in e) (word_in f) n s ready.truth ready.least some we wf in
        record {
          extends = m.extends;
          shape = (record { signed = omega (arith, m.shape.0, some); below = m.shape.1 }, omega (arith, m.shape.0, small), omega (arith, m.shape.2, square_most n small));
          means = λ v sat. tt;
        }
    by op.Over = wide_word s n _ _ _ (divide_gates-means (word_in e) (word_in f) s ready.truth ready.least we wf n some) some small divided
    by op.Mod = wide_word s n _ _ _ (remainder_gates-means (word_in e) (word_in f) s ready.truth ready.least we wf n some) some small (omega (arith, divided))
    by op.Plus = word_takes s n (5 * n) 335 _ _ (add_gates-means (word_in e) (word_in f) n s ready.truth ready.least some we wf) some small (omega (arith, small))
    by op.Minus = word_takes s n (5 * n) 335 _ _ (subtract_gates-means (word_in e) (word_in f) n s ready.truth ready.least some we wf) some small (omega (arith, small))
    by op.Equal = same _ (same_takes s ready e f he hf ge gf)
    by op.Differs = same _ (turned_takes s 132 _ (same_takes s ready e f he hf ge gf))
    by op.Less = bit_takes s 335 _ (less_takes s ready (word_in e) (word_in f) we wf short_e short_f)
    by op.Greater = bit_takes s 335 _ (less_takes s ready (word_in f) (word_in e) wf we short_f short_e)
    by op.AtMost = bit_takes s 335 _ (turned_takes s 335 _ (less_takes s ready (word_in f) (word_in e) wf we short_f short_e))
    by op.AtLeast = bit_takes s 335 _ (turned_takes s 335 _ (less_takes s ready (word_in e) (word_in f) we wf short_e short_f))
    by op.And = one _ (next_takes s _ _ (and_gate-means s (literal_in e) (literal_in f) le lf))
    by op.Or = one _ (next_takes s _ _ (or_gate-means s (literal_in e) (literal_in f) le lf))
    by op.Xor = one _ (next_takes s _ _ (xor_gate-means s (literal_in e) (literal_in f) le lf))
    by op.Xnor = one _ (turned_takes s 1 _ (next_takes s _ _ (xor_gate-means s (literal_in e) (literal_in f) le lf)))
    by op.Iff = one _ (turned_takes s 1 _ (next_takes s _ _ (xor_gate-means s (literal_in e) (literal_in f) le lf)))
    by op.Implies = one _ (next_takes s _ _ (or_gate-means s (opposite (literal_in e)) (literal_in f) le lf))
    by op.Union = takes_more s 0 335 _ (omega arith) (takes_none s (bit (constant_lit false)) ready.least tt)
    by op.Within = takes_more s 0 335 _ (omega arith) (takes_none s (bit (constant_lit false)) ready.least tt)

fitted_short : (n : ℕ) → n ≤ 66 → (e : Signal) → IsShort (fitted n e)
fitted_short n h (bit l) = tt
fitted_short n h (word w) = omega (arith, h, length-fit n w)

-- ---- expressions

op_cost_room : (o : Op) → operator_room o + 200 ≤ 1024 * op_cost o
unfolding operator_room
op_cost_room op.Times = omega arith
op_cost_room op.Over = omega arith
op_cost_room op.Mod = omega arith
op_cost_room _ = omega arith

some_op_cost : (o : Op) → 1 ≤ op_cost o
some_op_cost op.Times = omega arith
some_op_cost op.Over = omega arith
some_op_cost op.Mod = omega arith
some_op_cost _ = omega arith

some_cost : {L : Type 0} (t : Tree L) → 1 ≤ cost_of t
some_cost (is_truth b) = omega arith
some_cost (is_number n) = omega arith
some_cost (leaf l) = omega arith
some_cost (not_of a) = omega arith
some_cost (negate a) = omega arith
some_cost (next_of a) = omega arith
some_cost (binary o a b) = let h = some_op_cost o in omega (arith, h)
some_cost (choice d a b) = omega arith
some_cost (case_of bs) = omega arith
some_cost (set_of ts) = omega arith
some_cost (span lo hi) = omega arith

-- what an expression may take
abbrev pub room_of : {L : Type 0} → Tree L → ℕ
room_of t = 1024 * cost_of t - 66

abbrev IsAskedShort : Circuit → Asked → Type 0
IsAskedShort s its_value = Unit {0}
IsAskedShort s (whether_has u) = IsSignal s u × IsShort u

asked_moved : (s t : Circuit) → Extends s t → (m : Asked) → IsAskedShort s m → IsAskedShort t m
asked_moved s t e its_value h = tt
asked_moved s t e (whether_has u) h = (signal_later s t e u h.0, h.1)

answer_takes : (s : Circuit) → IsReady s → (m : Asked) → IsAskedShort s m → (k : ℕ) (r : Circuit × Signal) → Takes s k r → Takes s (k + 132) (answer m r)
answer_takes s ready its_value h k r m = takes_more s k (k + 132) r (omega arith) m
answer_takes s ready (whether_has u) h k r m =
    takes_after s k 132 r _ m (λ e t he ge et. bit_takes t 132 _ (same_takes t (ready_later s t et ready) u e (signal_later s t et u h.0) he h.1 ge))

-- names with short signals
pub record AreShortNames {L : Type 0} (s : Circuit) (c : Names L) : Type 0 where
  pub now : (l : L) → IsSignal s (c.now l) × IsShort (c.now l)
  pub next : (l : L) → IsSignal s (c.next l) × IsShort (c.next l)
  pub some : (t : Tree L) → 0 < c.width t
  pub small : (t : Tree L) → c.width t ≤ 66

names_moved : {L : Type 0} (s t : Circuit) → Extends s t → (c : Names L) → AreShortNames s c → AreShortNames t c
names_moved s t e c h = record { now = λ l. (signal_later s t e (c.now l) (h.now l).0, (h.now l).1); next = λ l. (signal_later s t e (c.next l) (h.next l).0, (h.next l).1); some = h.some; small = h.small }

module _ (L : Type 0) where
  names_next : (s : Circuit) (c : Names L) → AreShortNames s c → AreShortNames s (at_next c)
  names_next s c h = record { now = h.next; next = h.next; some = h.some; small = h.small }

  both_takes : (s : Circuit) → IsReady s → (o : Op) (n : ℕ) → 0 < n → n ≤ 66 → (j k : ℕ) (left right : Circuit → Circuit × Signal) → Takes s j (left s) → ((t : Circuit) → IsReady t → Extends s t → Takes t k (right t))
      → Takes s (j + (k + operator_room o)) (both_gates o n left right s)
  both_takes s ready o n some small j k left right ml mr =
      takes_after s j (k + operator_room o) _ _ ml (λ e t he ge et.
      takes_after t k (operator_room o) _ _ (mr t (ready_later s t et ready) et) (λ f u hf gf eu.
      operator_takes u (ready_later t u eu (ready_later s t et ready)) o n some small e f (signal_later t u eu e he) hf ge gf))

  mutual
    unfolding encoded

    pub encoded_takes : (c : Names L) (m : Asked) (t : Tree L) (s : Circuit) → IsReady s → AreShortNames s c → IsAskedShort s m → Takes s (room_of t) (encoded c m t s)
    encoded_takes c m (is_truth b) s ready names asked =
        takes_more s (0 + 132) _ _ (omega arith) (answer_takes s ready m asked 0 _ (takes_none s (bit (constant_lit b)) ready.least tt))
    encoded_takes c m (is_number z) s ready names asked =
        takes_more s (0 + 132) _ _ (omega arith) (answer_takes s ready m asked 0 _ (takes_none s (word (number_word z)) (number_word-word z s ready.least) (length_number z)))
    encoded_takes c m (leaf l) s ready names asked =
        takes_more s (0 + 132) _ _ (omega arith) (answer_takes s ready m asked 0 _ (takes_none s (c.now l) (names.now l).0 (names.now l).1))
    encoded_takes c m (not_of a) s ready names asked =
        let p = some_cost a in
        takes_more s (room_of a + 0 + 132) _ _ (omega (arith, p))
        (answer_takes s ready m asked (room_of a + 0) _ (takes_after s (room_of a) 0 _ _ (encoded_takes c its_value a s ready names tt) (λ e t he ge et.
        takes_none t (bit (opposite (literal_in e))) (literal_below t (ready_later s t et ready).least e he) tt)))
    encoded_takes c m (negate a) s ready names asked =
        let p = some_cost a in
        takes_more s (room_of a + 335 + 132) _ _ (omega (arith, p))
        (answer_takes s ready m asked (room_of a + 335) _ (takes_after s (room_of a) 335 _ _ (encoded_takes c its_value a s ready names tt) (λ e t he ge et.
        let ready1 = ready_later s t et ready in
        let small = names.small (negate a) in
        word_takes t (c.width (negate a)) (5 * c.width (negate a)) 335 _ _ (negate_gates-means (word_in e) (c.width (negate a)) t ready1.truth ready1.least (names.some (negate a)) (word_usable t e he)) (names.some (negate a)) small
        (omega (arith, small)))))
    encoded_takes c m (next_of a) s ready names asked =
        let p = some_cost a in
        takes_more s (room_of a + 132) _ _ (omega (arith, p)) (answer_takes s ready m asked (room_of a) _ (encoded_takes (at_next c) its_value a s ready (names_next s c names) tt))
    encoded_takes c m (binary op.Union a b) s ready names asked =
        let p = some_cost a in
        let q = some_cost b in
        takes_more s (room_of a + (room_of b + 1)) _ _ (omega (arith, p, q))
        (takes_after s (room_of a) (room_of b + 1) _ _ (encoded_takes c m a s ready names asked) (λ e t he ge et.
        takes_after t (room_of b) 1 _ _ (encoded_takes c m b t (ready_later s t et ready) (names_moved s t et c names) (asked_moved s t et m asked)) (λ f u hf gf eu.
        let ready2 = ready_later t u eu (ready_later s t et ready) in
        bit_takes u 1 _ (next_takes u _ _ (or_gate-means u (literal_in e) (literal_in f) (literal_below u ready2.least e (signal_later t u eu e he)) (literal_below u ready2.least f hf))))))
    encoded_takes c m (binary op.Within a b) s ready names asked =
        let p = some_cost a in
        let q = some_cost b in
        takes_more s (room_of a + room_of b + 132) _ _ (omega (arith, p, q))
        (answer_takes s ready m asked (room_of a + room_of b) _ (takes_after s (room_of a) (room_of b) _ _ (encoded_takes c its_value a s ready names tt) (λ e t he ge et.
        encoded_takes c (whether_has e) b t (ready_later s t et ready) (names_moved s t et c names) (he, ge))))
    encoded_takes c m (binary o a b) s ready names asked =
        let p = some_cost a in
        let q = some_cost b in
        let r = op_cost_room o in
        takes_more s (room_of a + (room_of b + operator_room o) + 132) _ _ (omega (arith, p, q, r))
        (answer_takes s ready m asked (room_of a + (room_of b + operator_room o)) _
        (both_takes s ready o (c.width (binary o a b)) (names.some (binary o a b)) (names.small (binary o a b)) (room_of a) (room_of b) (λ t. encoded c its_value a t) (λ t. encoded c its_value b t)
        (encoded_takes c its_value a s ready names tt) (λ t ready1 et. encoded_takes c its_value b t ready1 (names_moved s t et c names) tt)))
    encoded_takes c m (choice d a b) s ready names asked =
        let p = some_cost d in
        let q = some_cost a in
        let r = some_cost b in
        takes_more s (room_of d + (room_of a + (room_of b + 66))) _ _ (omega (arith, p, q, r))
        (takes_after s (room_of d) (room_of a + (room_of b + 66)) _ _ (encoded_takes c its_value d s ready names tt) (λ e t he ge et.
        let ready1 = ready_later s t et ready in
        let names1 = names_moved s t et c names in
        let asked1 = asked_moved s t et m asked in
        takes_after t (room_of a) (room_of b + 66) _ _ (encoded_takes c m a t ready1 names1 asked1) (λ f u hf gf eu.
        let ready2 = ready_later t u eu ready1 in
        takes_after u (room_of b) 66 _ _ (encoded_takes c m b u ready2 (names_moved t u eu c names1) (asked_moved t u eu m asked1)) (λ g w hg gg ew.
        let ready3 = ready_later u w ew ready2 in
        choice_takes w ready3 (c.width (choice d a b)) (names.some (choice d a b)) (names.small (choice d a b)) (literal_in e)
        (literal_below w ready3.least e (signal_later u w ew e (signal_later t u eu e he))) f g (signal_later u w ew f hf) hg))))
    encoded_takes c m (case_of bs) s ready names asked =
        takes_more s (1024 * branches_cost bs) _ _ (omega arith) (branches_takes c m (c.width (case_of bs)) (names.some (case_of bs)) (names.small (case_of bs)) bs s ready names asked)
    encoded_takes c m (set_of ts) s ready names asked =
        takes_more s (1024 * trees_cost ts) _ _ (omega arith) (members_takes c m ts (constant_lit false) s ready names asked ready.least)
    encoded_takes c its_value (span lo hi) s ready names asked = takes_more s 0 _ _ (omega arith) (takes_none s (bit (constant_lit false)) ready.least tt)
    encoded_takes c (whether_has u) (span lo hi) s ready names asked =
        takes_more s 671 _ _ (omega arith) (bit_takes s 671 _ (between_takes s ready (word_in u) (word_usable s u asked.0) (short_word u asked.1) lo hi))

    branches_takes : (c : Names L) (m : Asked) (n : ℕ) → 0 < n → n ≤ 66 → (bs : Branches L) (s : Circuit) → IsReady s → AreShortNames s c → IsAskedShort s m → Takes s (1024 * branches_cost bs) (encoded_branches c m n bs s)
    branches_takes c m n some small no_branch s ready names asked = takes_more s 0 _ _ (omega arith) (takes_none s (bit (constant_lit false)) ready.least tt)
    branches_takes c m n some small (branch_then d a no_branch) s ready names asked =
        let p = some_cost d in
        let q = some_cost a in
        takes_more s (room_of a + 0) _ _ (omega (arith, p, q))
        (takes_after s (room_of a) 0 _ _ (encoded_takes c m a s ready names asked) (λ e t he ge et.
        takes_none t (fitted n e) (signal_fitted t (ready_later s t et ready) n some e he) (fitted_short n small e)))
    branches_takes c m n some small (branch_then d a (branch_then d' a' bs)) s ready names asked =
        let p = some_cost d in
        let q = some_cost a in
        let k = 1024 * branches_cost (branch_then d' a' bs) in
        takes_more s (room_of d + (room_of a + (k + 66))) _ _ (omega (arith, p, q))
        (takes_after s (room_of d) (room_of a + (k + 66)) _ _ (encoded_takes c its_value d s ready names tt) (λ e t he ge et.
        let ready1 = ready_later s t et ready in
        let names1 = names_moved s t et c names in
        let asked1 = asked_moved s t et m asked in
        takes_after t (room_of a) (k + 66) _ _ (encoded_takes c m a t ready1 names1 asked1) (λ f u hf gf eu.
        let ready2 = ready_later t u eu ready1 in
        takes_after u k 66 _ _ (branches_takes c m n some small (branch_then d' a' bs) u ready2 (names_moved t u eu c names1) (asked_moved t u eu m asked1)) (λ g w hg gg ew.
        let ready3 = ready_later u w ew ready2 in
        choice_takes w ready3 n some small (literal_in e) (literal_below w ready3.least e (signal_later u w ew e (signal_later t u eu e he))) f g (signal_later u w ew f hf) hg))))

    members_takes : (c : Names L) (m : Asked) (ts : Trees L) (r : Literal) (s : Circuit) → IsReady s → AreShortNames s c → IsAskedShort s m → IsBelow s.free r → Takes s (1024 * trees_cost ts) (encoded_members c m ts r s)
    members_takes c m no_tree r s ready names asked hr = takes_more s 0 _ _ (omega arith) (takes_none s (bit r) hr tt)
    members_takes c m (tree_then t ts) r s ready names asked hr =
        let p = some_cost t in
        takes_more s (room_of t + (1 + 1024 * trees_cost ts)) _ _ (omega (arith, p))
        (takes_after s (room_of t) (1 + 1024 * trees_cost ts) _ _ (encoded_takes c m t s ready names asked) (λ e u he ge eu.
        let ready1 = ready_later s u eu ready in
        takes_after_literal u 1 (1024 * trees_cost ts) _ _ (next_takes u _ _ (or_gate-means u r (literal_in e) (omega (arith, hr, eu.counted)) (literal_below u ready1.least e he))) (λ q w hq ew.
        members_takes c m ts q w (ready_later u w ew ready1) (names_moved u w ew c (names_moved s u eu c names)) (asked_moved u w ew m (asked_moved s u eu m asked)) hq)))
