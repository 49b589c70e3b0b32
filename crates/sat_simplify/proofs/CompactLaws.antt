-- A list whose variables above the places are numbered without gaps says the same of the places.
use Rattle.std.proofs.Common.{◌≡◌, ◌⊎◌, inl, inr, ℕ, zero, suc, ◌+◌, ◌-◌, ◌<◌, ◌≤◌, Bool, true, false, IsTrue, List, [], ◌∷◌, get_or, All, nat_le, if◌then◌else◌, refl, sym, ap, ◌∙◌, subst, arith}
use Rattle.std.proofs.lemmas.Bool.{cases_lt}
use Rattle.std.proofs.lemmas.List.Elements.{All-nil, All-cons, All-head, All-tail}
use Rattle.sat_clauses.specs.Literal.{Literal}
use Rattle.sat_clauses.specs.Derivation.{IsUpTo}
use Rattle.sat_clauses.specs.Models.{TotalAssignment, clause_value, all_true}
use Rattle.sat_simplify.specs.SamePlaces.{IsMet, AreMetAlike, HasNoHigherVariable}
use Rattle.sat_simplify.specs.CompactNumbers.{IsMarked, gaps, compacted, compacted_literal, compacted_clause, compacted_list}

-- a variable of the places stays, and one above them goes down by its gap
compacted_place : (p : ℕ) (gs : List ℕ) (x : ℕ) → x ≤ p → compacted p gs x ≡ x
compacted_place p gs x le = go (nat_le x p) refl where
  go : (b : Bool) → nat_le x p ≡ b → (if b then x else p + 1 + (x - p - 1 - get_or gs (x - p - 1) 0)) ≡ x
  go true e = refl
  go false e = absurd (grind (arith, le, e))

compacted_own : (p : ℕ) (gs : List ℕ) (x : ℕ) → p < x → compacted p gs x ≡ p + 1 + (x - p - 1 - get_or gs (x - p - 1) 0)
compacted_own p gs x lt = go (nat_le x p) refl where
  go : (b : Bool) → nat_le x p ≡ b → (if b then x else p + 1 + (x - p - 1 - get_or gs (x - p - 1) 0)) ≡ p + 1 + (x - p - 1 - get_or gs (x - p - 1) 0)
  go true e = absurd (grind (arith, lt, e))
  go false e = refl

-- no variable goes up
compacted_low : (p : ℕ) (gs : List ℕ) (x : ℕ) → compacted p gs x ≤ x
compacted_low p gs x = by_place (cases_lt p x) where
  least : (g : ℕ) → p < x → p + 1 + (x - p - 1 - g) ≤ x
  least g lt = omega (arith, lt)

  by_place : (p < x) ⊎ (x ≤ p) → compacted p gs x ≤ x
  by_place (inl lt) = subst (λ n. n ≤ x) (sym (compacted_own p gs x lt)) (least (get_or gs (x - p - 1) 0) lt)
  by_place (inr le) = subst (λ n. n ≤ x) (sym (compacted_place p gs x le)) (omega arith)

clause_low : (top p : ℕ) (gs : List ℕ) (c : List Literal) → All (IsUpTo top) c → All (IsUpTo top) (compacted_clause p gs c)
clause_low top p gs [] up = All-nil (IsUpTo top)
clause_low top p gs (l ∷ c) up =
    All-cons (IsUpTo top) (compacted_literal p gs l) (compacted_clause p gs c) (below (compacted p gs l.var) l.var (compacted_low p gs l.var) (All-head (IsUpTo top) l c up)) (clause_low top p gs c (All-tail (IsUpTo top) l c up))
  where
    below : (a b : ℕ) → a ≤ b → b ≤ top → a ≤ top
    below a b e f = omega (arith, e, f)

list_low : (top p : ℕ) (gs : List ℕ) (list : List (List Literal)) → All (All (IsUpTo top)) list → All (All (IsUpTo top)) (compacted_list p gs list)
list_low top p gs [] up = All-nil (All (IsUpTo top))
list_low top p gs (c ∷ list) up =
    All-cons (All (IsUpTo top)) (compacted_clause p gs c) (compacted_list p gs list) (clause_low top p gs c (All-head (All (IsUpTo top)) c list up)) (list_low top p gs list (All-tail (All (IsUpTo top)) c list up))

pub compact_low : (places : ℕ) (list new : List (List Literal)) (gs : List ℕ) → new ≡ compacted_list places gs list → HasNoHigherVariable list new
compact_low places list new gs is = record { at = λ top up. subst (All (All (IsUpTo top))) (sym is) (list_low top places gs list up) }

-- the values of what is marked, in order
abbrev marked_values : TotalAssignment → ℕ → List Bool → List Bool
marked_values v x [] = []
marked_values v x (true ∷ marks) = v x ∷ marked_values v (suc x) marks
marked_values v x (false ∷ marks) = marked_values v (suc x) marks

-- gaps grow by at most one for each number
gaps_most : (n k : ℕ) (marks : List Bool) → get_or (gaps n marks) k 0 ≤ n + k
gaps_most n k [] = least k where
  least : (k : ℕ) → get_or [] k 0 ≤ n + k
  least zero = omega arith
  least (suc k) = omega arith
gaps_most n zero (b ∷ marks) = omega arith
gaps_most n (suc k) (true ∷ marks) = let before = gaps_most n k marks in omega (arith, before)
gaps_most n (suc k) (false ∷ marks) = let before = gaps_most (n + 1) k marks in omega (arith, before)

-- a marked number, down by its gap, is its place among those that are marked
value_at : (v : TotalAssignment) (x n k : ℕ) (marks : List Bool) → IsTrue (get_or marks k false) → get_or (marked_values v x marks) (k + n - get_or (gaps n marks) k 0) false ≡ v (x + k)
value_at v x n k [] marked = absurd (none k marked) where
  none : (k : ℕ) → get_or [] k false ≡ true → ⊥
  none zero e = cc
  none (suc k) e = cc
value_at v x n zero (true ∷ marks) marked = ap (λ i. get_or (v x ∷ marked_values v (suc x) marks) i false) (start n) ∙ ap v (same x) where
  start : (n : ℕ) → 0 + n - n ≡ 0
  start n = omega arith

  same : (x : ℕ) → x ≡ x + 0
  same x = omega arith
value_at v x n zero (false ∷ marks) marked = absurd (no marked) where
  no : false ≡ true → ⊥
  no e = cc
value_at v x n (suc k) (true ∷ marks) marked =
    ap (λ i. get_or (v x ∷ marked_values v (suc x) marks) i false) (one_more k n (get_or (gaps n marks) k 0) (gaps_most n k marks)) ∙ (value_at v (suc x) n k marks marked ∙ ap v (next x k))
  where
    one_more : (k n g : ℕ) → g ≤ n + k → suc k + n - g ≡ suc (k + n - g)
    one_more k n g le = omega (arith, le)

    next : (x k : ℕ) → suc x + k ≡ x + suc k
    next x k = omega arith
value_at v x n (suc k) (false ∷ marks) marked =
    ap (λ i. get_or (marked_values v (suc x) marks) i false) (same k n (get_or (gaps (n + 1) marks) k 0)) ∙ (value_at v (suc x) (n + 1) k marks marked ∙ ap v (next x k))
  where
    same : (k n g : ℕ) → suc k + n - g ≡ k + (n + 1) - g
    same k n g = omega arith

    next : (x k : ℕ) → suc x + k ≡ x + suc k
    next x k = omega arith

-- values of the new list that are those of the old one
abbrev brought_down : ℕ → List Bool → TotalAssignment → TotalAssignment
brought_down p marks v y = if nat_le y p then v y else get_or (marked_values v (p + 1) marks) (y - p - 1) false

down_place : (p : ℕ) (marks : List Bool) (v : TotalAssignment) (y : ℕ) → y ≤ p → brought_down p marks v y ≡ v y
down_place p marks v y le = go (nat_le y p) refl where
  go : (b : Bool) → nat_le y p ≡ b → (if b then v y else get_or (marked_values v (p + 1) marks) (y - p - 1) false) ≡ v y
  go true e = refl
  go false e = absurd (grind (arith, le, e))

down_own : (p : ℕ) (marks : List Bool) (v : TotalAssignment) (k : ℕ) → brought_down p marks v (p + 1 + k) ≡ get_or (marked_values v (p + 1) marks) k false
down_own p marks v k = go (nat_le (p + 1 + k) p) refl where
  less : (p k : ℕ) → p + 1 + k - p - 1 ≡ k
  less p k = omega arith

  go : (b : Bool) → nat_le (p + 1 + k) p ≡ b → (if b then v (p + 1 + k) else get_or (marked_values v (p + 1) marks) (p + 1 + k - p - 1) false) ≡ get_or (marked_values v (p + 1) marks) k false
  go true e = absurd (grind (arith, e))
  go false e = ap (λ i. get_or (marked_values v (p + 1) marks) i false) (less p k)

down_value : (p : ℕ) (marks : List Bool) (v : TotalAssignment) (l : Literal) → IsMarked p marks l → brought_down p marks v (compacted p (gaps 0 marks) l.var) ≡ v l.var
down_value p marks v l m = by_place (cases_lt p l.var) where
  k : ℕ
  k = l.var - p - 1

  gap : ℕ
  gap = get_or (gaps 0 marks) k 0

  whole : (x p : ℕ) → p < x → p + 1 + (x - p - 1) ≡ x
  whole x p lt = omega (arith, lt)

  none : (k g : ℕ) → k - g ≡ k + 0 - g
  none k g = omega arith

  by_place : (p < l.var) ⊎ (l.var ≤ p) → brought_down p marks v (compacted p (gaps 0 marks) l.var) ≡ v l.var
  by_place (inl lt) =
      ap (brought_down p marks v) (compacted_own p (gaps 0 marks) l.var lt)
      ∙ (down_own p marks v (k - gap)
      ∙ (ap (λ i. get_or (marked_values v (p + 1) marks) i false) (none k gap)
      ∙ (value_at v (p + 1) 0 k marks (m.at lt) ∙ ap v (whole l.var p lt))))
  by_place (inr le) = ap (brought_down p marks v) (compacted_place p (gaps 0 marks) l.var le) ∙ down_place p marks v l.var le

clause_down : (p : ℕ) (marks : List Bool) (v : TotalAssignment) (c : List Literal) → All (IsMarked p marks) c → clause_value (brought_down p marks v) (compacted_clause p (gaps 0 marks) c) ≡ clause_value v c
clause_down p marks v [] m = refl
clause_down p marks v (l ∷ c) m = let one = down_value p marks v l (All-head (IsMarked p marks) l c m) in let more = clause_down p marks v c (All-tail (IsMarked p marks) l c m) in rw (one, more) refl

list_down : (p : ℕ) (marks : List Bool) (v : TotalAssignment) (list : List (List Literal)) → All (All (IsMarked p marks)) list → all_true (brought_down p marks v) (compacted_list p (gaps 0 marks) list) ≡ all_true v list
list_down p marks v [] m = refl
list_down p marks v (c ∷ list) m =
    let one = clause_down p marks v c (All-head (All (IsMarked p marks)) c list m) in let more = list_down p marks v list (All-tail (All (IsMarked p marks)) c list m) in rw (one, more) refl

-- and values of the old list that are those of the new one
clause_up : (p : ℕ) (gs : List ℕ) (w : TotalAssignment) (c : List Literal) → clause_value w (compacted_clause p gs c) ≡ clause_value (λ x. w (compacted p gs x)) c
clause_up p gs w [] = refl
clause_up p gs w (l ∷ c) = let more = clause_up p gs w c in rw more refl

list_up : (p : ℕ) (gs : List ℕ) (w : TotalAssignment) (list : List (List Literal)) → all_true w (compacted_list p gs list) ≡ all_true (λ x. w (compacted p gs x)) list
list_up p gs w [] = refl
list_up p gs w (c ∷ list) = let one = clause_up p gs w c in let more = list_up p gs w list in rw (one, more) refl

pub compact_same : (places : ℕ) (list new : List (List Literal)) (marks : List Bool) (gs : List ℕ) → All (All (IsMarked places marks)) list → gs ≡ gaps 0 marks → new ≡ compacted_list places gs list → AreMetAlike places list new
compact_same places list new marks gs marked are is v = (there, back) where
  new_is : new ≡ compacted_list places (gaps 0 marks) list
  new_is = is ∙ ap (λ s. compacted_list places s list) are

  there : IsMet places list v → IsMet places new v
  there h = record {
    values = brought_down places marks h.values;
    agree = λ x low high. down_place places marks h.values x high ∙ h.agree x low high;
    all = ap (all_true (brought_down places marks h.values)) new_is ∙ (list_down places marks h.values list marked ∙ h.all);
  }

  back : IsMet places new v → IsMet places list v
  back h = record {
    values = λ x. h.values (compacted places gs x);
    agree = λ x low high. ap h.values (compacted_place places gs x high) ∙ h.agree x low high;
    all = sym (list_up places gs h.values list) ∙ (ap (all_true h.values) (sym is) ∙ h.all);
  }
