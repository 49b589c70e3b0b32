-- One clause after the other leaves the list of the literal that became false.
use Rattle.std.proofs.Common.{◌≡◌, ◌≢◌, ◌⊎◌, inl, inr, ⊎_elim, ℕ, ◌+◌, ◌*◌, ◌<◌, ◌≤◌, Bool, true, false, cond, eqb, List, [], ◌∷◌, ◌++◌, length, get_or, set, All, AllPairs, Contains, Some, count_by, refl, sym, ap, ◌∙◌, subst, arith}
use Rattle.std.proofs.lemmas.Bool.{cases_eq, cases_lt, cond-true, eq-eqb, ne_eqb}
use Rattle.std.proofs.lemmas.List.{length-set, get_or-set_same, get_or-set_other, get_or_append_left, get_or_push, length-append}
use Rattle.std.proofs.lemmas.List.Sums.{sum_by-set}
use Rattle.std.proofs.lemmas.List.Elements.{All-push, All-weaker, Contains-get_or, Contains-push, Contains-append_left, All-contains_itself, All-contains}
use Rattle.sat_clauses.specs.Literal.{Literal}
use Rattle.sat_clauses.specs.Code.{code_of}
use Rattle.sat_clauses.specs.Assignment.{Assignment, value_of}
use Rattle.sat_clauses.proofs.CodeLemmas.{code_of-injective}
use Rattle.sat_solver.specs.Threads.{at}
use Rattle.sat_solver.specs.Pass.{clause_of, is_hit, IsMoved, IsNewList, IsHitAt, WasHit, IsPassing, IsPassed}
use Rattle.sat_solver.proofs.ThreadLemmas.{within_from_some}

-- one fewer is in the list w
pub count_moved : (xs : List ℕ) (i w g : ℕ) → i < length xs → at xs i ≡ w → g ≢ w → count_by (eqb w) (set xs i g) + 1 ≡ count_by (eqb w) xs
count_moved xs i w g lt is ne =
    let yes : cond (eqb w (get_or xs i 0)) 1 0 ≡ 1 = ap (λ (b : Bool). cond b 1 0) (eq-eqb w (get_or xs i 0) (sym is)) in
    let nothing : cond (eqb w g) 1 0 ≡ 0 = ap (λ (b : Bool). cond b 1 0) (ne_eqb w g (λ e. ne (sym e))) in
    ap (λ n. count_by (eqb w) (set xs i g) + n) (sym yes)
    ∙ (sum_by-set (λ x. cond (eqb w x) 1 0) xs i g 0 lt ∙ (ap (λ n. count_by (eqb w) xs + n) nothing ∙ omega arith))

-- a number that is not among these comes after them
AllPairs_push : (xs : List ℕ) (x : ℕ) → AllPairs (λ x y. x ≢ y) xs → ¬ (Contains xs x) → AllPairs (λ x y. x ≢ y) (xs ++ x ∷ [])
AllPairs_push xs x apart absent i j d lt within e =
    let longer = length-append xs (x ∷ []) in
    let inside : i < length xs = omega arith in
    let at_i = get_or_append_left xs (x ∷ []) d i inside in
    ⊎_elim
    (λ less. apart i j d lt less (sym at_i ∙ (e ∙ get_or_append_left xs (x ∷ []) d j less)))
    (λ over.
    let at_j = get_or_push xs x d j (omega arith) in
    absent (subst (Contains xs) (sym at_i ∙ (e ∙ at_j)) (Contains-get_or xs i d inside)))
    (cases_lt j (length xs))

module _ (a : Assignment) (l : Literal) (cs : List (List Literal)) (others old before : List ℕ) where
  pub pass_begin : AllPairs (λ x y. x ≢ y) before → IsPassing a l cs others old old before before
  pass_begin once = record {
    places = refl;
    rest = λ i ne. refl;
    visited = λ i e ne. absurd (ne e);
    hits = λ k d lt. inl (Contains-get_or before k d lt);
    all_hits = λ i e ne h. absurd (ne e);
    kept = All-contains_itself before;
    once = once;
  }

  -- what still watches the literal did so before
  pub watched_before : (now found : List ℕ) (i : ℕ) → IsPassing a l cs others old now before found → at now i ≡ code_of l → at old i ≡ code_of l
  watched_before now found i p is = ⊎_elim (λ e. e) (λ ne. absurd (ne (sym (p.rest i ne) ∙ is))) (cases_eq (at old i) (code_of l))

  -- the new list is another one
  pub another_list : (c : List Literal) (other g : ℕ) → 2 ≤ code_of l → value_of a l ≡ Some false → IsNewList a c other 1 g → g ≢ code_of l
  another_list c other g real is_false (inl h) e = let z = h.0 in absurd (omega arith)
  another_list c other g real is_false (inr m) e = m.not_false (ap (value_of a) (code_of-injective m.literal l (m.coded ∙ e)) ∙ is_false)

  pub pass_step : (now found found' : List ℕ) (i g : ℕ) → 2 ≤ code_of l → value_of a l ≡ Some false → ((j : ℕ) → at old j ≡ code_of l → ¬ (Contains before (j + 1)))
      → IsPassing a l cs others old now before found → at now i ≡ code_of l → IsNewList a (clause_of cs i) (at others i) 1 g
      → found' ≡ cond (is_hit a (clause_of cs i)) (found ++ (i + 1) ∷ []) found → IsPassing a l cs others old (set now i g) before found'
  pass_step now found found' i g real is_false not_yet p is new noted =
      let old_is = watched_before now found i p is in
      let within : i < length now = within_from_some now i (omega arith) in
      let here : at (set now i g) i ≡ g = get_or-set_same now i g 0 within in
      let there : (j : ℕ) → j ≢ i → at (set now i g) j ≡ at now j = λ j ne. get_or-set_other now i j g 0 ne in
      let other = another_list (clause_of cs i) (at others i) g real is_false new in
      let absent : ¬ (Contains found (i + 1)) = λ has. ⊎_elim (λ b. not_yet i old_is b)
      (λ (w : WasHit a l cs old now (i + 1)). let n = w.hit.numbered in let same : w.place ≡ i = omega arith in w.visited (ap (at now) same ∙ is))
      (All-contains (λ (n : ℕ). Contains before n ⊎ WasHit a l cs old now n) found (i + 1) p.hits has) in
      let later : (n : ℕ) → Contains before n ⊎ WasHit a l cs old now n → Contains before n ⊎ WasHit a l cs old (set now i g) n = λ n. still n there in
      record {
        places = length-set now i g ∙ p.places;
        rest = λ j ne. there j (λ e. ne (ap (at old) e ∙ old_is)) ∙ p.rest j ne;
        visited = λ j e ne. ⊎_elim
            (λ same. let P : ℕ → Type 0 = λ k. IsNewList a (clause_of cs k) (at others k) 1 (at (set now i g) k) in
            subst P (sym same) (subst (λ x. IsNewList a (clause_of cs i) (at others i) 1 x) (sym here) new))
            (λ off. subst (λ x. IsNewList a (clause_of cs j) (at others j) 1 x) (sym (there j off)) (p.visited j e (λ z. ne (there j off ∙ z)))) (cases_eq j i);
        hits = subst (All (λ n. Contains before n ⊎ WasHit a l cs old (set now i g) n)) (sym noted)
            (hits_more (is_hit a (clause_of cs i)) refl later (λ e. record { place = i; hit = record { numbered = refl; watched = old_is; is_hit = e }; visited = λ z. other (sym here ∙ z) }));
        all_hits = λ j e ne h. subst (λ xs. Contains xs (j + 1)) (sym noted) (⊎_elim
            (λ same. subst (λ (xs : List ℕ). Contains xs (j + 1)) (sym (cond-true (is_hit a (clause_of cs i)) (found ++ (i + 1) ∷ []) found (ap (λ k. is_hit a (clause_of cs k)) (sym same) ∙ h)))
            (subst (λ k. Contains (found ++ (i + 1) ∷ []) (k + 1)) (sym same) (Contains-push found (i + 1))))
            (λ off. in_either (is_hit a (clause_of cs i)) (j + 1) (p.all_hits j e (λ z. ne (there j off ∙ z)) h)) (cases_eq j i));
        kept = λ k d lt. subst (λ xs. Contains xs (get_or before k d)) (sym noted) (in_either (is_hit a (clause_of cs i)) (get_or before k d) (p.kept k d lt));
        once = subst (AllPairs (λ x y. x ≢ y)) (sym noted) (once_more (is_hit a (clause_of cs i)) absent);
      }
    where
      in_either : (b : Bool) (n : ℕ) → Contains found n → Contains (cond b (found ++ (i + 1) ∷ []) found) n
      in_either true n has = Contains-append_left found ((i + 1) ∷ []) n has
      in_either false n has = has

      once_more : (b : Bool) → ¬ (Contains found (i + 1)) → AllPairs (λ x y. x ≢ y) (cond b (found ++ (i + 1) ∷ []) found)
      once_more true absent = AllPairs_push found (i + 1) p.once absent
      once_more false absent = p.once

      still : (n : ℕ) → ((j : ℕ) → j ≢ i → at (set now i g) j ≡ at now j) → Contains before n ⊎ WasHit a l cs old now n → Contains before n ⊎ WasHit a l cs old (set now i g) n
      still n there (inl b) = inl b
      still n there (inr w) = inr (record { place = w.place; hit = w.hit; visited = λ e. w.visited (sym (there w.place (λ same. w.visited (ap (at now) same ∙ is))) ∙ e) })

      hits_more : (b : Bool) → is_hit a (clause_of cs i) ≡ b → ((n : ℕ) → Contains before n ⊎ WasHit a l cs old now n → Contains before n ⊎ WasHit a l cs old (set now i g) n)
          → (b ≡ true → WasHit a l cs old (set now i g) (i + 1)) → All (λ n. Contains before n ⊎ WasHit a l cs old (set now i g) n) (cond b (found ++ (i + 1) ∷ []) found)
      hits_more true e later new = All-push (λ n. Contains before n ⊎ WasHit a l cs old (set now i g) n) found (i + 1) (λ k d lt. later (get_or found k d) (p.hits k d lt)) (inr (new refl))
      hits_more false e later new = λ k d lt. later (get_or found k d) (p.hits k d lt)

  pub pass_end : (now new found : List ℕ) → 2 ≤ code_of l → ((j : ℕ) → at old j ≢ 1) → IsPassing a l cs others old now before found → ((j : ℕ) → at now j ≢ code_of l)
      → length new ≡ length now → ((j : ℕ) → at now j ≡ 1 → at new j ≡ code_of l) → ((j : ℕ) → at now j ≢ 1 → at new j ≡ at now j) → IsPassed a l cs others old new before found
  pass_end now new found real no_spare p none places back rest = record {
    places = places ∙ p.places;
    rest = λ i ne. let z = p.rest i ne in rest i (λ e. no_spare i (sym z ∙ e)) ∙ z;
    visited = λ i e. back_home i (p.visited i e (none i));
    no_spare = λ i e. ⊎_elim (λ one. let z = back i one in absurd (omega arith)) (λ off. off (sym (rest i off) ∙ e)) (cases_eq (at now i) 1);
    hits = All-weaker (λ n. Contains before n ⊎ WasHit a l cs old now n) (λ n. Contains before n ⊎ ((i : ℕ) × IsHitAt a l cs old n i)) was found p.hits;
    all_hits = λ i e h. p.all_hits i e (none i) h;
    kept = p.kept;
    once = p.once;
  } where
    back_home : (i : ℕ) → IsNewList a (clause_of cs i) (at others i) 1 (at now i) → IsNewList a (clause_of cs i) (at others i) (code_of l) (at new i)
    back_home i (inl h) = inl (back i h.0, h.1)
    back_home i (inr m) = inr (subst (IsMoved a (clause_of cs i) (at others i)) (sym (rest i (λ e. let z = m.real in absurd (omega arith)))) m)

    was : (n : ℕ) → Contains before n ⊎ WasHit a l cs old now n → Contains before n ⊎ ((i : ℕ) × IsHitAt a l cs old n i)
    was n (inl b) = inl b
    was n (inr w) = inr (w.place, w.hit)

-- a literal in range has a code in range
pub code_within : (n : ℕ) (m : Literal) → m.var < n → code_of m < 2 * n
code_within n m lt = parts m.negated where
  parts : (b : Bool) → 2 * m.var + cond b 1 0 < 2 * n
  parts true = omega arith
  parts false = omega arith
