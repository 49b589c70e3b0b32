-- Literals of state bits, and the three loops over them.
use Rattle.std.proofs.Common.{◌≡◌, ◌≤◌, ◌<◌, ℕ, zero, suc, ◌+◌, ◌-◌, Bool, true, false, not, List, [], ◌∷◌, ◌++◌, refl, sym, ◌∙◌, ap, subst, arith, length, map, take}
use Rattle.std.specs.Prelude.{slice_index_or, Contains, All}
use Rattle.std.proofs.lemmas.List.Elements.{All-nil, All-cons, All-head, All-tail}
use Rattle.sat_clauses.specs.Literal.{Literal, opposite, signed}
use Rattle.sat_clauses.specs.Assignment.{Assignment}
use Rattle.sat_clauses.specs.Models.{TotalAssignment, literal_value, clause_value, values_of}
use Rattle.sat_clauses.proofs.ModelLemmas.{literal_value-opposite}
use Rattle.sat_clauses.specs.Hints.{HasNoOpposites}
use Rattle.sat_clauses.proofs.FalseLemmas.{opposite-opposite}
use Rattle.cut_frames.specs.Chain.{State, Agrees}
use Rattle.cut_frames.specs.Bits.{literal_for, literals_from, read_from, moved_back}
use Rattle.std.proofs.Math.Nat.{add-zero}
use Rattle.std.proofs.Math.Numerals.{add-one}
use Rattle.base_values.proofs.NumberLaws.{next_place}

pub literals_more : (n i : ℕ) (s : State) → i < length s → literals_from n (take (i + 1) s) ≡ literals_from n (take i s) ++ literal_for (n + i) (slice_index_or s i false) ∷ []
literals_more n i s lt = subst (λ k. literals_from n (take k s) ≡ literals_from n (take i s) ++ literal_for (n + i) (slice_index_or s i false) ∷ []) (sym (add-one i)) (go n i s lt)
  where
    go : (n i : ℕ) (s : State) → i < length s → literals_from n (take (suc i) s) ≡ literals_from n (take i s) ++ literal_for (n + i) (slice_index_or s i false) ∷ []
    go n i [] lt = absurd (omega (arith, lt))
    go n zero (b ∷ s) lt = ap (λ k. literal_for k b ∷ []) (sym (add-zero n))
    go n (suc i) (b ∷ s) lt =
        ap (λ r. literal_for n b ∷ r) (go (n + 1) i s (grind arith)
        ∙ ap (λ k. literals_from (n + 1) (take i s) ++ literal_for k (slice_index_or s i false) ∷ []) (next_place n i))

pub read_more : (n k : ℕ) (a : Assignment) → read_from n (k + 1) a ≡ read_from n k a ++ values_of a (n + k) ∷ []
read_more n k a = subst (λ m. read_from n m a ≡ read_from n k a ++ values_of a (n + k) ∷ []) (sym (add-one k)) (go n k a)
  where
    go : (n k : ℕ) (a : Assignment) → read_from n (suc k) a ≡ read_from n k a ++ values_of a (n + k) ∷ []
    go n zero a = ap (λ m. values_of a m ∷ []) (sym (add-zero n))
    go n (suc k) a =
        ap (λ r. values_of a n ∷ r) (go (n + 1) k a ∙ ap (λ m. read_from (n + 1) k a ++ values_of a m ∷ []) (next_place n k))

pub length_read : (n k : ℕ) (a : Assignment) → length (read_from n k a) ≡ k
length_read n zero a = refl
length_read n (suc k) a = let rest = length_read (n + 1) k a in grind arith

pub agrees_read : (n k : ℕ) (a : Assignment) → Agrees (values_of a) n (read_from n k a)
agrees_read n zero a = tt
agrees_read n (suc k) a = (refl, agrees_read (n + 1) k a)

pub agrees_at : (v : TotalAssignment) (n i : ℕ) (s : State) → Agrees v n s → i < length s → v (n + i) ≡ slice_index_or s i false
agrees_at v n i [] g lt = absurd (omega (arith, lt))
agrees_at v n zero (b ∷ s) g lt = ap v (add-zero n) ∙ g.0
agrees_at v n (suc i) (b ∷ s) g lt = ap v (sym (next_place n i)) ∙ agrees_at v (n + 1) i s g.1 (grind arith)

-- a literal of the state turned round, over the variables from n on
pub record IsOpposed (n : ℕ) (s : State) (l : Literal) : Type 0 where
  pub place : ℕ
  pub inside : place < length s
  pub is_it : l ≡ literal_for (n + place) (not (slice_index_or s place false))

pub literal_found : (n : ℕ) (s : State) (l : Literal) → Contains (literals_from n s) l → (i : ℕ) × (i < length s) × (l ≡ literal_for (n + i) (slice_index_or s i false))
literal_found n [] l m = absurd (omega (arith, m.1))
literal_found n (b ∷ s) l m = by_place m.0 m.1 m.2 (λ r. literal_found (n + 1) s l r)
  where
    by_place : (k : ℕ) → k < length (literals_from n (b ∷ s)) → slice_index_or (literals_from n (b ∷ s)) k l ≡ l →
        (Contains (literals_from (n + 1) s) l → (i : ℕ) × (i < length s) × (l ≡ literal_for (n + 1 + i) (slice_index_or s i false))) →
        (i : ℕ) × (i < length (b ∷ s)) × (l ≡ literal_for (n + i) (slice_index_or (b ∷ s) i false))
    by_place zero lt e more = (0, grind arith, sym e ∙ ap (λ k. literal_for k b) (sym (add-zero n)))
    by_place (suc k) lt e more =
        let rest = more (k, grind arith, e) in
        (suc rest.0, (let r = rest.1 in grind arith), rest.2 ∙ ap (λ k. literal_for k (slice_index_or s rest.0 false)) (next_place n rest.0))

pub opposed : (n : ℕ) (s : State) (l : Literal) → Contains (literals_from n s) (opposite l) → IsOpposed n s l
opposed n s l m =
    let f = literal_found n s (opposite l) m in
    record { place = f.0; inside = f.1; is_it = sym (opposite-opposite l) ∙ ap opposite f.2 }

pub all_opposed : (n : ℕ) (s : State) (c : List Literal) → All (λ l. Contains (literals_from n s) (opposite l)) c → All (IsOpposed n s) c
all_opposed n s c a = λ k d lt. opposed n s (slice_index_or c k d) (a k d lt)

-- literals of state bits next, put back
pub back_at : (bits i : ℕ) (b : Bool) → moved_back bits (literal_for (bits + 2 + i) b) ≡ literal_for (2 + i) b
back_at bits i b = ap (λ n. literal_for n b) (less bits i)
  where
    less : (bits i : ℕ) → bits + 2 + i - bits ≡ 2 + i
    less bits i = omega arith

pub put_back : (bits : ℕ) (s : State) (l : Literal) → IsOpposed (bits + 2) s l → IsOpposed 2 s (moved_back bits l)
put_back bits s l o = record { place = o.place; inside = o.inside; is_it = ap (moved_back bits) o.is_it ∙ back_at bits o.place (not (slice_index_or s o.place false)) }

pub high_enough : (bits : ℕ) (s : State) (l : Literal) → IsOpposed (bits + 2) s l → bits + 2 ≤ l.var
high_enough bits s l o = subst (λ (k : Literal). bits + 2 ≤ k.var) (sym o.is_it) (high bits o.place)
  where
    high : (bits i : ℕ) → bits + 2 ≤ bits + 2 + i
    high bits i = omega arith

pub all_back : (bits : ℕ) (s : State) (c : List Literal) → All (IsOpposed (bits + 2) s) c → All (IsOpposed 2 s) (map (moved_back bits) c)
all_back bits s [] a = All-nil (IsOpposed 2 s)
all_back bits s (l ∷ c) a =
    All-cons (IsOpposed 2 s) (moved_back bits l) (map (moved_back bits) c) (put_back bits s l (All-head (IsOpposed (bits + 2) s) l c a)) (all_back bits s c (All-tail (IsOpposed (bits + 2) s) l c a))

-- a clause of literals turned round is false in the state
less_two : (i : ℕ) → 2 + i - 2 ≡ i
less_two i = omega arith

signed_opposite : (b : Bool) → signed (not (not b)) b ≡ false
signed_opposite true = refl
signed_opposite false = refl

pub opposed_false : (s : State) (l : Literal) → IsOpposed 2 s l → literal_value (λ v. slice_index_or s (v - 2) false) l ≡ false
opposed_false s l o =
    ap (literal_value (λ v. slice_index_or s (v - 2) false)) o.is_it
    ∙ ap (λ i. signed (not (not (slice_index_or s o.place false))) (slice_index_or s i false)) (less_two o.place) ∙ signed_opposite (slice_index_or s o.place false)

pub all_false : (s : State) (c : List Literal) → All (IsOpposed 2 s) c → clause_value (λ v. slice_index_or s (v - 2) false) c ≡ false
all_false s [] a = refl
all_false s (l ∷ c) a = rw (opposed_false s l (All-head (IsOpposed 2 s) l c a), all_false s c (All-tail (IsOpposed 2 s) l c a)) refl

pub none_apart : (s : State) (c : List Literal) → All (IsOpposed 2 s) c → HasNoOpposites c
none_apart s c a = λ k d lt. record { absent = λ o. apart (slice_index_or c k d) (a k d lt) o }
  where
    apart : (l : Literal) → IsOpposed 2 s l → Contains c (opposite l) → ⊥
    apart l h o =
        let one = opposed_false s l h in
        let two = opposed_false s (opposite l) (subst (IsOpposed 2 s) o.2 (a o.0 (opposite l) o.1)) in
        let both : true ≡ false = ap not (sym one) ∙ sym (literal_value-opposite (λ v. slice_index_or s (v - 2) false) l) ∙ two in cc

-- literals over state bits have the state's values
pub over_value : (bits : ℕ) (v : TotalAssignment) (s : State) (l : Literal) → length s ≡ bits → Agrees v 2 s → 2 ≤ l.var → l.var < bits + 2 → literal_value v l ≡ literal_value (λ v. slice_index_or s (v - 2) false) l
over_value bits v s l e g low high =
    ap (signed l.negated) (ap v (around l.var low) ∙ agrees_at v 2 (l.var - 2) s g (below l.var bits (length s) e low high))
  where
    around : (n : ℕ) → 2 ≤ n → n ≡ 2 + (n - 2)
    around n le = omega arith

    below : (n b k : ℕ) → k ≡ b → 2 ≤ n → n < b + 2 → n - 2 < k
    below n b k e le lt = omega arith
