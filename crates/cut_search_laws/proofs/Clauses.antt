-- The clause of a set, and what it says beside a list of bad states.
use Rattle.std.proofs.Common.{◌≡◌, ℕ, zero, suc, ◌+◌, ◌-◌, ◌<◌, ◌≤◌, nat_eq, Bool, true, false, not, ◌&&◌, ◌||◌, List, [], ◌∷◌, ◌++◌, length, Some, refl, sym, ap, ◌∙◌, subst, arith, inl, inr, eqb-true}
use Rattle.std.specs.Prelude.{slice_get, All}
use Rattle.std.proofs.lemmas.Bool.{and_parts, not-true}
use Rattle.std.proofs.lemmas.List.Elements.{All-nil, All-cons}
use Rattle.std.proofs.lemmas.Option.{same_Some}
use Rattle.smv_language.specs.Language.{Value, Each, AtSome}
use Rattle.smv_language.proofs.BoolLaws.{or_cases}
use Rattle.smv_flat_laws.specs.History.{with_history}
use Rattle.smv_flat_laws.specs.FlatTrace.{AreInDomains}
use Rattle.smv_flat_laws.proofs.Lists.{each_map, each_of_map}
use Rattle.sat_clauses.specs.Literal.{Literal, opposite}
use Rattle.sat_clauses.specs.Models.{TotalAssignment, literal_value, clause_value}
use Rattle.sat_clauses.proofs.ModelLemmas.{literal_value-opposite, Satisfies-front, Satisfies-back, Satisfies-append}
use Rattle.cut_frames.specs.Chain.{State, IsBad, Makes, state_values}
use Rattle.cut_frames.proofs.LookLemmas.{clause_over}
use Rattle.cut_right_laws.specs.Sets.{has_number, is_contained}
use Rattle.cut_right_laws.proofs.Places.{place_read}
use Rattle.sat_encoding_laws.specs.Encodings.{bit_of, IsBadMoment}
use Rattle.sat_encoding_laws.specs.Lists.{literal_at, unlisted_clause}
use Rattle.sat_encoding_laws.specs.FlatTraces.{IsNumbered, history_of}
use Rattle.sat_encoding_laws.proofs.SetLaws.{either_of}
use Rattle.cut_search_laws.specs.FoundSets.{Found, sets_of, without, with_found}
use Rattle.cut_search_laws.specs.FlatSearch.{IsBadFor, AreHistory, IsClauseOf, OppositesAreClause, ClauseListsSet}
use Rattle.cut_search_laws.specs.Problem.{Problem}
use Rattle.cut_search_laws.proofs.FoundLaws.{each_filtered, each_placed, still_contain, new_is_listed}
use Rattle.base_values.proofs.ListLaws.{get_within}
use Rattle.smv_language.proofs.EachLaws.{each_of}

-- ---- sets

-- what holds at some number of a set does at one of each set that contains it
at_number : (P : ℕ → Type 0) (i : ℕ) (set : List ℕ) → has_number set i ≡ true → P i → AtSome P set
at_number P i [] h p = cc
at_number P i (j ∷ set) h p = either_of (λ e. inl (subst P (sym (eqb-true j i e)) p)) (λ more. inr (at_number P i set more p)) (or_cases (nat_eq j i) (has_number set i) h)

at_container : (P : ℕ → Type 0) (set other : List ℕ) → is_contained set other ≡ true → AtSome P set → AtSome P other
at_container P [] other c h = absurd h
at_container P (i ∷ set) other c (inl p) = at_number P i other (and_parts (has_number other i) (is_contained set other) c).0 p
at_container P (i ∷ set) other c (inr h) = at_container P set other (and_parts (has_number other i) (is_contained set other) c).1 h

module _ {T : Type 0} (P : ℕ → Type 0) (new : Found T) (found : List (Found T)) where
  -- of the sets with a new one, from those before
  some_with : AtSome P new.set → Each (AtSome P) (sets_of found) → Each (AtSome P) (sets_of (with_found new found))
  some_with n h =
      each_map (AtSome P) (λ f. f.set) (with_found new found)
      (each_placed (λ f. AtSome P f.set) new (without new.set found) n
      (each_filtered (λ f. AtSome P f.set) (λ f. not (is_contained new.set f.set)) found (each_of_map (AtSome P) (λ f. f.set) found h)))

  -- and the other way round, since each set before contains one of those
  some_of_new : Each (AtSome P) (sets_of (with_found new found)) → AtSome P new.set
  some_of_new h = each_of (λ f. AtSome P f.set) new (with_found new found) (each_of_map (AtSome P) (λ f. f.set) (with_found new found) h) (new_is_listed new found)

  some_before : Each (AtSome P) (sets_of (with_found new found)) → Each (AtSome P) (sets_of found)
  some_before h = each_map (AtSome P) (λ f. f.set) found (all found (still_contain new found))
    where
      one : (f : Found T) (gs : List (Found T)) → Each (AtSome P) (sets_of gs) → AtSome (λ g. is_contained g.set f.set ≡ true) gs → AtSome P f.set
      one f [] k some = absurd some
      one f (g ∷ gs) k (inl c) = at_container P g.set f.set c k.0
      one f (g ∷ gs) k (inr some) = one f gs k.1 some

      all : (fs : List (Found T)) → Each (λ f. AtSome (λ g. is_contained g.set f.set ≡ true) (with_found new found)) fs → Each (λ f. AtSome P f.set) fs
      all [] c = tt
      all (f ∷ fs) c = (one f (with_found new found) h c.0, all fs c.1)

-- ---- literals

literal_got : (literals : List Literal) (i : ℕ) (l : Literal) → slice_get literals i ≡ Some l → literal_at literals i ≡ l
literal_got [] i l e = cc
literal_got (x ∷ literals) zero l e = same_Some x l e
literal_got (x ∷ literals) (suc i) l e = literal_got literals i l e

module _ (problem : Problem) where
  open problem use {model as m, modes as fs, top, system, state_of}

  -- the fault of the number has not failed
  abbrev IsOpen : List Value → ℕ → Type 0
  IsOpen v i = bit_of (history_of m fs) v i ≡ false

  module _ (literals : List Literal) (are : AreHistory problem literals) where
    -- the literal of a fault
    fault_literal : (n : ℕ) → (1 ≤ n) × (n ≤ length fs) → (l : Literal) × (slice_get literals (n - 1) ≡ Some l)
    fault_literal n h = get_within literals (n - 1) (below n (length fs) (length literals) are.one_each h.0 h.1)
      where
        below : (n k j : ℕ) → j ≡ k → 1 ≤ n → n ≤ k → n - 1 < j
        below n k j e low high = omega (arith, e, low, high)

    over_one : (n : ℕ) → (1 ≤ n) × (n ≤ length fs) → (2 ≤ (literal_at literals (n - 1)).var) × ((literal_at literals (n - 1)).var < system.state_bits + 2)
    over_one n h =
        let at = fault_literal n h in
        subst (λ (l : Literal). (2 ≤ l.var) × (l.var < system.state_bits + 2)) (place_read literals (n - 1) at.0 at.0 at.1 ∙ sym (literal_got literals (n - 1) at.0 at.1))
        (are.over_bits (n - 1) at.0 (below n (length fs) (length literals) are.one_each h.0 h.1))
      where
        below : (n k j : ℕ) → j ≡ k → 1 ≤ n → n ≤ k → n - 1 < j
        below n k j e low high = omega (arith, e, low, high)

    over_all : (set : List ℕ) → IsNumbered (length fs) set → All (λ l. (2 ≤ l.var) × (l.var < system.state_bits + 2)) (unlisted_clause literals set)
    over_all [] h = All-nil (λ l. (2 ≤ l.var) × (l.var < system.state_bits + 2))
    over_all (n ∷ set) h =
        All-cons (λ l. (2 ≤ l.var) × (l.var < system.state_bits + 2)) (opposite (literal_at literals (n - 1))) (unlisted_clause literals set) (over_one n h.0) (over_all set h.1)

    module _ (v : List Value) (inside : AreInDomains (with_history m fs).variables v) where
      abbrev bits : TotalAssignment
      bits = state_values system (state_of v)

      -- its opposite tells whether the fault has not failed
      one_tells : (n : ℕ) → (1 ≤ n) × (n ≤ length fs) → literal_value bits (opposite (literal_at literals (n - 1))) ≡ not (bit_of (history_of m fs) v n)
      one_tells n h =
          let at = fault_literal n h in
          literal_value-opposite bits (literal_at literals (n - 1))
          ∙ ap not (ap (literal_value bits) (literal_got literals (n - 1) at.0 at.1) ∙ are.tells v inside (n - 1) at.0 at.1 ∙ ap (bit_of (history_of m fs) v) (back n h.0))
        where
          back : (n : ℕ) → 1 ≤ n → n - 1 + 1 ≡ n
          back n low = omega (arith, low)

      set_to : (set : List ℕ) → IsNumbered (length fs) set → clause_value bits (unlisted_clause literals set) ≡ true → AtSome (IsOpen v) set
      set_to [] h t = cc
      set_to (n ∷ set) h t = by_test (literal_value bits (opposite (literal_at literals (n - 1)))) refl t (set_to set h.1)
        where
          by_test : (b : Bool) → literal_value bits (opposite (literal_at literals (n - 1))) ≡ b → (b || clause_value bits (unlisted_clause literals set)) ≡ true →
              (clause_value bits (unlisted_clause literals set) ≡ true → AtSome (IsOpen v) set) → AtSome (IsOpen v) (n ∷ set)
          by_test true e t more = inl (not-true (bit_of (history_of m fs) v n) (sym (one_tells n h.0) ∙ e))
          by_test false e t more = inr (more t)

      set_from : (set : List ℕ) → IsNumbered (length fs) set → AtSome (IsOpen v) set → clause_value bits (unlisted_clause literals set) ≡ true
      set_from [] h some = absurd some
      set_from (n ∷ set) h (inl e) = (λ i. (one_tells n h.0 ∙ ap not e) i || clause_value bits (unlisted_clause literals set))
      set_from (n ∷ set) h (inr some) = either (literal_value bits (opposite (literal_at literals (n - 1)))) (set_from set h.1 some)
        where
          either : (b : Bool) → clause_value bits (unlisted_clause literals set) ≡ true → (b || clause_value bits (unlisted_clause literals set)) ≡ true
          either true t = refl
          either false t = t

  pub opposites_are_clause : OppositesAreClause problem
  opposites_are_clause literals set are numbered = record {
    over_bits = over_all literals are set numbered;
    tells = λ v inside. ((λ t. set_to literals are v inside set numbered t), (λ some. set_from literals are v inside set numbered some));
  }

  -- ---- a list with one clause more

  module _ {T : Type 0} (size : ℕ) (new : Found T) (found : List (Found T)) (bad : List (List Literal)) (clause : List Literal) (lists : IsBadFor problem size (sets_of found) bad) (is : IsClauseOf problem new.set clause) where
    parted : (s : State) → IsBad system (bad ++ clause ∷ []) s → IsBad system bad s × Makes system s clause
    parted s b =
        let v = b.1.0 in
        let back : (clause_value v clause && true) ≡ true = Satisfies-back v bad (clause ∷ []) b.1.2 in
        let here : clause_value v clause ≡ true = (and_parts (clause_value v clause) true back).0 in (
          (b.0, (v, b.1.1, Satisfies-front v bad (clause ∷ []) b.1.2)),
          sym (clause_over system.state_bits v s b.0 b.1.1 clause is.over_bits) ∙ here,
        )

    joined : (s : State) → IsBad system bad s → Makes system s clause → IsBad system (bad ++ clause ∷ []) s
    joined s b makes =
        let v = b.1.0 in
        let here : clause_value v clause ≡ true = clause_over system.state_bits v s b.0 b.1.1 clause is.over_bits ∙ makes in
        (b.0, (v, b.1.1, Satisfies-append v bad (clause ∷ []) b.1.2 (λ i. here i && true)))

    abbrev BadBefore : List Value → Type 0
    BadBefore v = IsBadMoment (with_history m fs) top (history_of m fs) (sets_of found) size v

    abbrev BadNow : List Value → Type 0
    BadNow v = IsBadMoment (with_history m fs) top (history_of m fs) (sets_of (with_found new found)) size v

    now_bad : (v : List Value) → BadBefore v → Makes system (state_of v) clause → BadNow v
    now_bad v b makes = record {
      moment = b.moment;
      reaches = b.reaches;
      small = b.small;
      unlisted = some_with (IsOpen v) new found ((is.tells v b.moment.domains).0 makes) b.unlisted;
    }

    before_bad : (v : List Value) → BadNow v → BadBefore v
    before_bad v b = record { moment = b.moment; reaches = b.reaches; small = b.small; unlisted = some_before (IsOpen v) new found b.unlisted }

    makes_now : (v : List Value) → BadNow v → Makes system (state_of v) clause
    makes_now v b = (is.tells v b.moment.domains).1 (some_of_new (IsOpen v) new found b.unlisted)

    pub with_clause : IsBadFor problem size (sets_of (with_found new found)) (bad ++ clause ∷ [])
    with_clause = record {
      bad_means = λ s b.
          let both = parted s b in
          let found_there = lists.bad_means s both.0 in
          (found_there.0, now_bad found_there.0 found_there.1 (subst (λ t. Makes system t clause) (sym found_there.2) both.1), found_there.2);
      bad_comes = λ v b. joined (state_of v) (lists.bad_comes v (before_bad v b)) (makes_now v b);
      bad_free = λ v w inside e b. now_bad w (lists.bad_free v w inside e (before_bad v b)) (subst (λ t. Makes system t clause) e (makes_now v b));
    }

  pub clause_lists_set : ClauseListsSet problem
  clause_lists_set size new found bad clause lists is = with_clause size new found bad clause lists is
