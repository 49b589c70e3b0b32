-- The changes of a clause base that say the same of the places, each with its law.
use Rattle.std.proofs.Common.{◌≡◌, ◌⊎◌, inl, inr, ⊎_elim, ℕ, ◌≤◌, Bool, true, false, List, [], ◌∷◌, ◌++◌, get_or, map, Some, None, All, Contains, refl, sym, ap, ◌∙◌, subst, arith}
use Rattle.std.proofs.lemmas.Bool.{cases_Bool, cond-true, cond-false, both_ways, not_from_true}
use Rattle.std.proofs.lemmas.Option.{slice_get_within}
use Rattle.std.proofs.lemmas.List.{get_or_default, get_or-map, length-map}
use Rattle.std.proofs.lemmas.List.Elements.{All-contains, All-weaker, All-push, All-append, All-map, Contains-append_left, Contains-append_right, Contains-push}
use Rattle.sat_clauses.specs.Literal.{Literal, opposite}
use Rattle.sat_clauses.specs.Code.{code_of}
use Rattle.sat_clauses.specs.Models.{TotalAssignment, literal_value, clause_value}
use Rattle.sat_clauses.proofs.ModelLemmas.{literal_value-opposite}
use Rattle.sat_clauses.proofs.FalseLemmas.{opposite-opposite}
use Rattle.sat_simplify.specs.SamePlaces.{IsOwn}
use Rattle.sat_simplify.specs.Resolution.{has_literal, without, each_once, resolvent, is_tautology}
use Rattle.sat_simplify.specs.Elimination.{unless_tautology, resolvents_with, resolvents}
use Rattle.sat_simplify.specs.Slots.{Slot, IsMade, Makes, IsOver, IsSlotOver, IsSimpler, AreNoted}
use Rattle.sat_simplify.specs.Changes.{slot_at, changed, dropped, shrunk, picked, gathered, taken_out, resolvents_in, eliminated, assigned, covered, covered_by}
use Rattle.sat_simplify.specs.OccurrenceLists.{noted_at}
use Rattle.sat_simplify.proofs.Members.{cons_cases, from_flat_map, in_flat_map, contains_from_has, has_from_contains, from_without, from_once, from_joined}
use Rattle.sat_simplify.proofs.ClauseLaws.{AreTrue, turned, turned_other, lacking_stays, HasTurn, has_turn, resolvents_follow, true_literal}
use Rattle.sat_simplify.proofs.SlotLaws.{all_after, all_before, dropped_cases, dropped_made, dropped_back, dropped_over, shrunk_made, shrunk_back, shrunk_over, covered_made, covered_back, covered_over, slot_to}
use Rattle.base_values.proofs.ListLaws.{all_from, none_contained}

-- a list is as simple as itself, and changes follow one another
pub simpler_itself : (places : ℕ) (a : List Slot) → IsSimpler places a a
simpler_itself places a = record { stays = λ v h. h; back = λ v h. h; over = λ test h. h }

pub simpler_all : (places : ℕ) (a b c : List Slot) → IsSimpler places a b → IsSimpler places b c → IsSimpler places a c
simpler_all places a b c f g = record { stays = λ v h. g.stays v (f.stays v h); back = λ v h. f.back v (g.back v h); over = λ test h. g.over test (f.over test h) }

-- a change under which the same values make both true
pub simpler_same : (places : ℕ) (old new : List Slot) → ((w : TotalAssignment) → Makes w old → Makes w new) → ((w : TotalAssignment) → Makes w new → Makes w old) → ((test : ℕ → Bool) → All (IsSlotOver test) old → All (IsSlotOver test) new) → IsSimpler places old new
simpler_same places old new to back over = record {
  stays = λ v h. record { values = h.values; agree = h.agree; all = to h.values h.all };
  back = λ v h. record { values = h.values; agree = h.agree; all = back h.values h.all };
  over = over;
}

-- a clause of one literal is true where the literal is
one_true : (v : TotalAssignment) (l : Literal) → clause_value v (l ∷ []) ≡ true → literal_value v l ≡ true
one_true v l e = let t = true_literal v (l ∷ []) e in ⊎_elim (λ same. subst (λ x. literal_value v x ≡ true) (sym same) t.2) (λ none. absurd (none_contained t.0 none)) (cons_cases l [] t.0 t.1)

-- what all slots meet the slot of a place meets
pub at_slot : (P : Slot → Type 0) (slots : List Slot) (i : ℕ) (c : List Literal) → slot_at slots i ≡ Some c → All P slots → P (Some c)
at_slot P slots i c e all = subst P e (all i None (slice_get_within slots i (Some c) (slot_to slots i c e)))

pub in_map : {X Y : Type 0} (f : X → Y) (xs : List X) (x : X) → Contains xs x → Contains (map f xs) (f x)
in_map f xs x has = (has.0, omega (arith, has.1, length-map xs f), get_or-map f xs has.0 x (f x) has.1 ∙ ap f has.2)

front : (P : Slot → Type 0) (xs ys : List Slot) → All P (xs ++ ys) → All P xs
front P xs ys all = all_from P xs (λ x has. All-contains P (xs ++ ys) x all (Contains-append_left xs ys x has))

back_of : (P : Slot → Type 0) (xs ys : List Slot) → All P (xs ++ ys) → All P ys
back_of P xs ys all = all_from P ys (λ x has. All-contains P (xs ++ ys) x all (Contains-append_right xs ys x has))

-- where a clause of one literal stands, the clauses that have the literal go, and its opposite goes out of clauses
pub unit_law : (places : ℕ) (slots : List Slot) (occurrences : List (List ℕ)) (l : Literal) (i : ℕ) → slot_at slots i ≡ Some (l ∷ []) → IsSimpler places slots (assigned occurrences l slots)
unit_law places slots occurrences l i is =
    let with = noted_at occurrences (code_of l) in
    let against = noted_at occurrences (code_of (opposite l)) in
    let fewer = changed (dropped l) slots with in
    let less = changed (shrunk (opposite l)) fewer against in
    simpler_same places slots (less ++ Some (l ∷ []) ∷ [])
    (λ w made.
    let unit : clause_value w (l ∷ []) ≡ true = at_slot (IsMade w) slots i (l ∷ []) is made in
    let off : literal_value w (opposite l) ≡ false = literal_value-opposite w l ∙ not_from_true (literal_value w l) (one_true w l unit) in
    All-push (IsMade w) less (Some (l ∷ [])) (all_after (IsMade w) (shrunk (opposite l)) tt (shrunk_made w (opposite l) off) fewer against (all_after (IsMade w) (dropped l) tt (dropped_made w l) slots with made)) unit)
    (λ w made.
    let unit : clause_value w (l ∷ []) ≡ true = All-contains (IsMade w) (less ++ Some (l ∷ []) ∷ []) (Some (l ∷ [])) made (Contains-push less (Some (l ∷ []))) in
    all_before (IsMade w) (dropped l) (dropped_back w l (one_true w l unit)) slots with (all_before (IsMade w) (shrunk (opposite l)) (shrunk_back w (opposite l)) fewer against (front (IsMade w) less (Some (l ∷ []) ∷ []) made)))
    (λ test over. All-push (IsSlotOver test) less (Some (l ∷ [])) (all_after (IsSlotOver test) (shrunk (opposite l)) tt (shrunk_over test (opposite l)) fewer against (all_after (IsSlotOver test) (dropped l) tt (dropped_over test l) slots with over)) (at_slot (IsSlotOver test) slots i (l ∷ []) is over))

-- what a clause subsumes goes
pub subsumption_law : (places : ℕ) (slots : List Slot) (occurrences : List (List ℕ)) (l : Literal) (c : List Literal) (i : ℕ) → slot_at slots i ≡ Some c → IsSimpler places slots (covered_by occurrences l c slots)
subsumption_law places slots occurrences l c i is =
    let at = noted_at occurrences (code_of l) in
    let less = changed (covered c) slots at in
    simpler_same places slots (less ++ Some c ∷ [])
    (λ w made. All-push (IsMade w) less (Some c) (all_after (IsMade w) (covered c) tt (covered_made w c) slots at made) (at_slot (IsMade w) slots i c is made))
    (λ w made.
    let on : clause_value w c ≡ true = All-contains (IsMade w) (less ++ Some c ∷ []) (Some c) made (Contains-push less (Some c)) in
    all_before (IsMade w) (covered c) (covered_back w c on) slots at (front (IsMade w) less (Some c ∷ []) made))
    (λ test over. All-push (IsSlotOver test) less (Some c) (all_after (IsSlotOver test) (covered c) tt (covered_over test c) slots at over) (at_slot (IsSlotOver test) slots i c is over))

-- the clauses that were gathered for a literal: all that have it, and no other
pub gathered_all : (l : Literal) (slots : List Slot) (at : List ℕ) (i : ℕ) (c : List Literal) → Contains at i → slot_at slots i ≡ Some c → Contains c l → Contains (gathered l slots at) c
gathered_all l slots at i c noted is has =
    in_flat_map (λ i. picked l (slot_at slots i)) at i c noted (subst (λ o. Contains (picked l o) c) (sym is) (subst (λ r. Contains r c) (sym (cond-true (has_literal l c) (c ∷ []) [] (has_from_contains l c has))) (Contains-push [] c)))

picked_is : (l : Literal) (o : Slot) (c : List Literal) → Contains (picked l o) c → (o ≡ Some c) × Contains c l
picked_is l None c has = absurd (none_contained c has)
picked_is l (Some d) c has = by_test (cases_Bool (has_literal l d)) where
  by_test : (has_literal l d ≡ true) ⊎ (has_literal l d ≡ false) → (Some d ≡ Some c) × Contains c l
  by_test (inl there) =
      let same : d ≡ c = ⊎_elim (λ e. e) (λ none. absurd (none_contained c none)) (cons_cases d [] c (subst (λ r. Contains r c) (cond-true (has_literal l d) (d ∷ []) [] there) has)) in
      (ap Some same, subst (λ x. Contains x l) same (contains_from_has l d there))
  by_test (inr lacks) = absurd (none_contained c (subst (λ r. Contains r c) (cond-false (has_literal l d) (d ∷ []) [] lacks) has))

pub gathered_is : (l : Literal) (slots : List Slot) (at : List ℕ) (c : List Literal) → Contains (gathered l slots at) c → (i : ℕ) × (slot_at slots i ≡ Some c) × Contains c l
gathered_is l slots at c has = let from = from_flat_map (λ i. picked l (slot_at slots i)) at c has in let is = picked_is l (slot_at slots from.0) c from.2 in (from.0, is.0, is.1)

pub gathered_true : (v : TotalAssignment) (l : Literal) (slots : List Slot) (at : List ℕ) → Makes v slots → AreTrue v (gathered l slots at)
gathered_true v l slots at made c has = let is = gathered_is l slots at c has in at_slot (IsMade v) slots is.0 c is.1 made

-- resolvents have variables of their clauses
resolvent_over : (test : ℕ → Bool) (l : Literal) (c d : List Literal) → IsOver test c → IsOver test d → IsOver test (resolvent l c d)
resolvent_over test l c d left right k e lt =
    let m = get_or (resolvent l c d) k e in
    ⊎_elim (λ has. All-contains (λ m. test m.var ≡ true) c m left (from_without l c m (from_once (without l c) m has)).0) (λ has. All-contains (λ m. test m.var ≡ true) d m right (from_without (opposite l) d m has).0)
    (from_joined (each_once (without l c)) (without (opposite l) d) m (k, lt, get_or_default (resolvent l c d) k m e lt))

pub unless_is : (c d : List Literal) → Contains (unless_tautology c) d → c ≡ d
unless_is c d has = by_test (cases_Bool (is_tautology c)) where
  by_test : (is_tautology c ≡ true) ⊎ (is_tautology c ≡ false) → c ≡ d
  by_test (inl always) = absurd (none_contained d (subst (λ r. Contains r d) (cond-true (is_tautology c) [] (c ∷ []) always) has))
  by_test (inr open') = ⊎_elim (λ same. same) (λ none. absurd (none_contained d none)) (cons_cases c [] d (subst (λ r. Contains r d) (cond-false (is_tautology c) [] (c ∷ []) open') has))

pub resolvents_over : (test : ℕ → Bool) (l : Literal) (cs ds : List (List Literal)) → ((c : List Literal) → Contains cs c → IsOver test c) → ((d : List Literal) → Contains ds d → IsOver test d) → (r : List Literal) → Contains (resolvents l cs ds) r → IsOver test r
resolvents_over test l cs ds left right r has =
    let c = from_flat_map (resolvents_with l ds) cs r has in
    let d = from_flat_map (λ d. unless_tautology (resolvent l c.0 d)) ds r c.2 in
    subst (IsOver test) (unless_is (resolvent l c.0 d.0) r d.2) (resolvent_over test l c.0 d.0 (left c.0 c.1) (right d.0 d.1))

-- the clause has the literal or its opposite, or is true
abbrev HasOrTrue : TotalAssignment → Literal → Slot → Type 0
HasOrTrue v l None = Unit {0}
HasOrTrue v l (Some c) = (Contains c l ⊎ Contains c (opposite l)) ⊎ (clause_value v c ≡ true)

made_or : (v : TotalAssignment) (l : Literal) (o : Slot) → IsMade v o → HasOrTrue v l o
made_or v l None made = tt
made_or v l (Some c) made = inr made

dropped_or : (v : TotalAssignment) (l m : Literal) → (m ≡ l) ⊎ (m ≡ opposite l) → (o : Slot) → HasOrTrue v l (dropped m o) → HasOrTrue v l o
dropped_or v l m is None h = tt
dropped_or v l m is (Some c) h = ⊎_elim (λ gone. inl (⊎_elim (λ e. inl (subst (Contains c) e gone.1)) (λ e. inr (subst (Contains c) e gone.1)) is)) (λ same. subst (HasOrTrue v l) same h) (dropped_cases m c)

-- a variable is eliminated: all clauses that have it go, and their resolvents come
module _ (places : ℕ) (slots : List Slot) (occurrences : List (List ℕ)) (l : Literal) where
  stays_made : (w : TotalAssignment) → Makes w slots → Makes w (eliminated occurrences l slots)
  stays_made w made =
      All-append (IsMade w) (taken_out occurrences l slots) (map Some (resolvents_in occurrences l slots))
      (all_after (IsMade w) (dropped (opposite l)) tt (dropped_made w (opposite l)) (changed (dropped l) slots (noted_at occurrences (code_of l))) (noted_at occurrences (code_of (opposite l))) (all_after (IsMade w) (dropped l) tt (dropped_made w l) slots (noted_at occurrences (code_of l)) made))
      (All-map (IsMade w) Some (resolvents_in occurrences l slots) (all_from (λ c. IsMade w (Some c)) (resolvents_in occurrences l slots) (resolvents_follow w l (gathered l slots (noted_at occurrences (code_of l))) (gathered (opposite l) slots (noted_at occurrences (code_of (opposite l)))) (gathered_true w l slots (noted_at occurrences (code_of l)) made) (gathered_true w (opposite l) slots (noted_at occurrences (code_of (opposite l))) made))))

  stays_over : (test : ℕ → Bool) → All (IsSlotOver test) slots → All (IsSlotOver test) (eliminated occurrences l slots)
  stays_over test over =
      All-append (IsSlotOver test) (taken_out occurrences l slots) (map Some (resolvents_in occurrences l slots))
      (all_after (IsSlotOver test) (dropped (opposite l)) tt (dropped_over test (opposite l)) (changed (dropped l) slots (noted_at occurrences (code_of l))) (noted_at occurrences (code_of (opposite l))) (all_after (IsSlotOver test) (dropped l) tt (dropped_over test l) slots (noted_at occurrences (code_of l)) over))
      (All-map (IsSlotOver test) Some (resolvents_in occurrences l slots) (all_from (λ c. IsSlotOver test (Some c)) (resolvents_in occurrences l slots) (resolvents_over test l (gathered l slots (noted_at occurrences (code_of l))) (gathered (opposite l) slots (noted_at occurrences (code_of (opposite l))))
      (λ c has. let is = gathered_is l slots (noted_at occurrences (code_of l)) c has in at_slot (IsSlotOver test) slots is.0 c is.1 over)
      (λ c has. let is = gathered_is (opposite l) slots (noted_at occurrences (code_of (opposite l))) c has in at_slot (IsSlotOver test) slots is.0 c is.1 over))))

  resolvents_true : (w : TotalAssignment) → Makes w (eliminated occurrences l slots) → AreTrue w (resolvents_in occurrences l slots)
  resolvents_true w made c has = All-contains (IsMade w) (map Some (resolvents_in occurrences l slots)) (Some c) (back_of (IsMade w) (taken_out occurrences l slots) (map Some (resolvents_in occurrences l slots)) made) (in_map Some (resolvents_in occurrences l slots) c has)

  or_true : (w : TotalAssignment) → Makes w (eliminated occurrences l slots) → All (HasOrTrue w l) slots
  or_true w made =
      all_before (HasOrTrue w l) (dropped l) (dropped_or w l l (inl refl)) slots (noted_at occurrences (code_of l))
      (all_before (HasOrTrue w l) (dropped (opposite l)) (dropped_or w l (opposite l) (inr refl)) (changed (dropped l) slots (noted_at occurrences (code_of l))) (noted_at occurrences (code_of (opposite l)))
      (All-weaker (IsMade w) (HasOrTrue w l) (made_or w l) (taken_out occurrences l slots) (front (IsMade w) (taken_out occurrences l slots) (map Some (resolvents_in occurrences l slots)) made)))

  turn_of : (w : TotalAssignment) → Makes w (eliminated occurrences l slots) → HasTurn w l (gathered l slots (noted_at occurrences (code_of l))) (gathered (opposite l) slots (noted_at occurrences (code_of (opposite l))))
  turn_of w made =
      has_turn w l (gathered l slots (noted_at occurrences (code_of l))) (gathered (opposite l) slots (noted_at occurrences (code_of (opposite l)))) (λ c has. (gathered_is l slots (noted_at occurrences (code_of l)) c has).2) (λ c has. (gathered_is (opposite l) slots (noted_at occurrences (code_of (opposite l))) c has).2) (resolvents_true w made)

  clause_turned : (w : TotalAssignment) (turn : HasTurn w l (gathered l slots (noted_at occurrences (code_of l))) (gathered (opposite l) slots (noted_at occurrences (code_of (opposite l))))) → AreNoted occurrences slots → (k : ℕ) (c : List Literal) → slot_at slots k ≡ Some c → HasOrTrue w l (Some c) → clause_value (turned w turn.literal) c ≡ true
  clause_turned w turn noted k c is h = by_kind h where
    by_first : Contains c l → clause_value (turned w turn.literal) c ≡ true
    by_first has = turn.left c (gathered_all l slots (noted_at occurrences (code_of l)) k c (noted.at k c l (slot_to slots k c is) has) is has)

    by_second : Contains c (opposite l) → clause_value (turned w turn.literal) c ≡ true
    by_second has = turn.right c (gathered_all (opposite l) slots (noted_at occurrences (code_of (opposite l))) k c (noted.at k c (opposite l) (slot_to slots k c is) has) is has)

    by_opposite : (turn.literal ≡ l) ⊎ (turn.literal ≡ opposite l) → Contains c (opposite turn.literal) → clause_value (turned w turn.literal) c ≡ true
    by_opposite (inl same) has = by_second (subst (λ x. Contains c (opposite x)) same has)
    by_opposite (inr other) has = by_first (subst (Contains c) (ap opposite other ∙ opposite-opposite l) has)

    by_test : clause_value w c ≡ true → (has_literal (opposite turn.literal) c ≡ true) ⊎ (has_literal (opposite turn.literal) c ≡ false) → clause_value (turned w turn.literal) c ≡ true
    by_test e (inl there) = by_opposite turn.is (contains_from_has (opposite turn.literal) c there)
    by_test e (inr lacks) = lacking_stays w turn.literal c (λ has. both_ways (has_literal (opposite turn.literal) c) lacks (has_from_contains (opposite turn.literal) c has)) e

    by_kind : (Contains c l ⊎ Contains c (opposite l)) ⊎ (clause_value w c ≡ true) → clause_value (turned w turn.literal) c ≡ true
    by_kind (inl (inl has)) = by_first has
    by_kind (inl (inr has)) = by_second has
    by_kind (inr e) = by_test e (cases_Bool (has_literal (opposite turn.literal) c))

  makes_turned : (w : TotalAssignment) (turn : HasTurn w l (gathered l slots (noted_at occurrences (code_of l))) (gathered (opposite l) slots (noted_at occurrences (code_of (opposite l))))) → AreNoted occurrences slots → All (HasOrTrue w l) slots → Makes (turned w turn.literal) slots
  makes_turned w turn noted all k d lt = by_slot (get_or slots k d) refl where
    by_slot : (o : Slot) → get_or slots k d ≡ o → IsMade (turned w turn.literal) (get_or slots k d)
    by_slot None e = subst (IsMade (turned w turn.literal)) (sym e) tt
    by_slot (Some c) e = subst (IsMade (turned w turn.literal)) (sym e) (clause_turned w turn noted k c (get_or_default slots k None d lt ∙ e) (subst (HasOrTrue w l) e (all k d lt)))

  var_of_turn : (m : Literal) → (m ≡ l) ⊎ (m ≡ opposite l) → m.var ≡ l.var
  var_of_turn m (inl e) = ap (λ (x : Literal). x.var) e
  var_of_turn m (inr e) = ap (λ (x : Literal). x.var) e

  own_is_no_place : (x : ℕ) → IsOwn places l.var → 2 ≤ x → x ≤ places → x ≡ l.var → ⊥
  own_is_no_place x (inl low) from to e = omega (arith, low, from, e)
  own_is_no_place x (inr high) from to e = omega (arith, high, to, e)

  pub elimination_law : AreNoted occurrences slots → IsOwn places l.var → IsSimpler places slots (eliminated occurrences l slots)
  elimination_law noted own = record {
    stays = λ v h. record { values = h.values; agree = h.agree; all = stays_made h.values h.all };
    back = λ v h.
        let turn = turn_of h.values h.all in
        record {
          values = turned h.values turn.literal;
          agree = λ x from to. turned_other h.values turn.literal x (λ e. own_is_no_place x own from to (e ∙ var_of_turn turn.literal turn.is)) ∙ h.agree x from to;
          all = makes_turned h.values turn noted (or_true h.values h.all);
        };
    over = stays_over;
  }
