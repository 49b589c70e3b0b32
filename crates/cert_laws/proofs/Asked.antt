-- What a search is asked: no assignment solves it, and what refutes it covers the clause.
use Rattle.std.proofs.Common.{◌≡◌, ◌⊎◌, inl, inr, ℕ, zero, suc, ◌+◌, ◌≤◌, ◌<◌, Bool, true, false, not, List, [], ◌∷◌, length, Option, Some, None, refl, sym, ◌∙◌, ap, subst, arith, nat_lt, nat_eq, ltb-true, lt-ltb, eq-eqb, eqb-true}
use Rattle.std.specs.Prelude.{Contains, All, Any, slice_index_or, unwrap_or, if◌then◌else◌}
use Rattle.std.specs.Option.{option_map}
use Rattle.std.specs.List.{list_any}
use Rattle.std.proofs.lemmas.Bool.{cases_lt}
use Rattle.std.proofs.lemmas.List.{get_or_past}
use Rattle.std.proofs.lemmas.List.Elements.{All-contains, Contains-get_or}
use Rattle.std.proofs.lemmas.List.Folds.{Any-from_list_any, list_any-from_Any}
use Rattle.sat_clauses.specs.Literal.{Literal, opposite, signed}
use Rattle.sat_clauses.specs.Assignment.{Assignment, value_of}
use Rattle.sat_clauses.specs.Models.{TotalAssignment, literal_value, clause_value, FollowsFrom}
use Rattle.sat_clauses.specs.Derivation.{IsUpTo}
use Rattle.sat_clauses.specs.Hints.{LacksOpposite, HasNoOpposites}
use Rattle.sat_clauses.specs.Steps.{with_steps}
use Rattle.sat_clauses.proofs.FalseLemmas.{opposite-opposite}
use Rattle.cert_laws.specs.Acceptance.{Covers}
use Rattle.cert_laws.specs.Derivations.{asked, Solves, MayBeAsked, DerivationsGoOn}
use Rattle.cert_laws.proofs.Steps.{steps_joined, with_joined, covers_by, covers_with, follows_with}
use Rattle.sat_clauses.proofs.ModelLemmas.{Satisfies-from_All}

module _ (vars : ℕ) where
  -- what is asked has opposites of the goal's literals, all in range
  asked_from : (c : List Literal) (l : Literal) → Contains (asked vars c) l → Contains c (opposite l) × (l.var ≤ vars)
  asked_from [] l m = absurd (omega (arith, m.1))
  asked_from (k ∷ ks) l m = by_test (nat_lt vars k.var) refl m (λ n. asked_from ks l n)
    where
      later : Contains ks (opposite l) × (l.var ≤ vars) → Contains (k ∷ ks) (opposite l) × (l.var ≤ vars)
      later h = ((suc h.0.0, omega (arith, h.0.1), h.0.2), h.1)

      by_place : (i : ℕ) → i < length (opposite k ∷ asked vars ks) → slice_index_or (opposite k ∷ asked vars ks) i l ≡ l → nat_lt vars k.var ≡ false →
          (Contains (asked vars ks) l → Contains ks (opposite l) × (l.var ≤ vars)) → Contains (k ∷ ks) (opposite l) × (l.var ≤ vars)
      by_place zero h e t rest = ((0, omega arith, sym (opposite-opposite k) ∙ ap opposite e), subst (λ (x : Literal). x.var ≤ vars) e (low (cases_lt vars k.var)))
        where
          low : (vars < k.var) ⊎ (k.var ≤ vars) → k.var ≤ vars
          low (inl a) = let bad : true ≡ false = sym (lt-ltb vars k.var a) ∙ t in cc
          low (inr a) = a
      by_place (suc i) h e t rest = later (rest (i, omega (arith, h), e))

      by_test : (b : Bool) → nat_lt vars k.var ≡ b → Contains (if b then asked vars ks else opposite k ∷ asked vars ks) l →
          (Contains (asked vars ks) l → Contains ks (opposite l) × (l.var ≤ vars)) → Contains (k ∷ ks) (opposite l) × (l.var ≤ vars)
      by_test true t m rest = later (rest m)
      by_test false t m rest = by_place m.0 m.1 m.2 t rest

  -- and the opposite of each of them in range
  asked_has : (c : List Literal) (l : Literal) → Contains c l → l.var ≤ vars → Contains (asked vars c) (opposite l)
  asked_has [] l m low = absurd (omega (arith, m.1))
  asked_has (k ∷ ks) l m low = by_place m.0 m.1 m.2 (λ n. asked_has ks l n low)
    where
      goes_on : (b : Bool) → Contains (asked vars ks) (opposite l) → Contains (if b then asked vars ks else opposite k ∷ asked vars ks) (opposite l)
      goes_on true n = n
      goes_on false n = (suc n.0, omega (arith, n.1), n.2)

      at_first : (b : Bool) → nat_lt vars k.var ≡ b → k ≡ l → Contains (if b then asked vars ks else opposite k ∷ asked vars ks) (opposite l)
      at_first true t e = let high : vars < k.var = ltb-true vars k.var t in let same : k.var ≡ l.var = ap (λ (x : Literal). x.var) e in absurd (omega (arith, high, same, low))
      at_first false t e = (0, omega arith, ap opposite e)

      by_place : (i : ℕ) → i < length (k ∷ ks) → slice_index_or (k ∷ ks) i l ≡ l → (Contains ks l → Contains (asked vars ks) (opposite l)) → Contains (asked vars (k ∷ ks)) (opposite l)
      by_place zero h e rest = at_first (nat_lt vars k.var) refl e
      by_place (suc i) h e rest = goes_on (nat_lt vars k.var) (rest (i, omega (arith, h), e))

  all_of : (P : Literal → Type 0) (c : List Literal) → ((l : Literal) → Contains c l → P l) → All P c
  all_of P c h = λ k d within. h (slice_index_or c k d) (Contains-get_or c k d within)

  may_be_asked : (goal : List Literal) → HasNoOpposites goal → MayBeAsked vars goal
  may_be_asked goal apart = record {
    in_range = all_of (IsUpTo vars) (asked vars goal) (λ l m. (asked_from goal l m).1);
    no_opposites = all_of (LacksOpposite (asked vars goal)) (asked vars goal)
        (λ l m. record { absent = λ n. (All-contains (LacksOpposite goal) goal (opposite l) apart (asked_from goal l m).0).absent (asked_from goal (opposite l) n).0 });
  }

-- a literal that says that the variable is false
abbrev is_negation : ℕ → Literal → Bool
is_negation x l = if nat_eq l.var x then l.negated else false

-- the assignment, and above it whatever makes the goal's literals false
abbrev filled : ℕ → Assignment → List Literal → TotalAssignment
filled vars a goal x = if nat_lt vars x then list_any (is_negation x) goal else unwrap_or (slice_index_or a x None) false

module _ (vars : ℕ) (a : Assignment) (goal : List Literal) (places : length a ≡ vars + 1) where
  above_not : (x : ℕ) → x ≤ vars → nat_lt vars x ≡ false
  above_not x low = go (nat_lt vars x) refl
    where
      go : (b : Bool) → nat_lt vars x ≡ b → nat_lt vars x ≡ false
      go false e = e
      go true e = let high : vars < x = ltb-true vars x e in absurd (omega (arith, high, low))

  -- what a literal is under the assignment it is under the filled one
  known_value : (l : Literal) (b : Bool) → value_of a l ≡ Some b → literal_value (filled vars a goal) l ≡ b
  known_value l b e = by_place (slice_index_or a l.var None) refl (cases_lt vars l.var)
    where
      by_place : (o : Option Bool) → slice_index_or a l.var None ≡ o → (vars < l.var) ⊎ (l.var ≤ vars) → literal_value (filled vars a goal) l ≡ b
      by_place None is h = let bad : None ≡ Some b = sym (ap (option_map (signed l.negated)) is) ∙ e in cc
      by_place (Some d) is (inl high) =
          let past : slice_index_or a l.var None ≡ None = get_or_past a l.var None (omega (arith, high, places)) in
          let bad : None ≡ Some d = sym past ∙ is in cc
      by_place (Some d) is (inr low) =
          let same : Some (signed l.negated d) ≡ Some b = sym (ap (option_map (signed l.negated)) is) ∙ e in
          ap (signed l.negated) (ap (λ t. if t then list_any (is_negation l.var) goal else unwrap_or (slice_index_or a l.var None) false) (above_not l.var low) ∙ ap (λ o. unwrap_or o false) is)
          ∙ out (signed l.negated d) b same
        where
          out : (c d : Bool) → Some c ≡ Some d → c ≡ d
          out c d e = cc

  -- a literal of the goal above the highest variable is false
  high_false : HasNoOpposites goal → (l : Literal) → Contains goal l → vars < l.var → literal_value (filled vars a goal) l ≡ false
  high_false apart l m high =
      ap (signed l.negated) (ap (λ t. if t then list_any (is_negation l.var) goal else unwrap_or (slice_index_or a l.var None) false) (lt-ltb vars l.var high)) ∙ by_sign l.negated refl
    where
      by_sign : (n : Bool) → l.negated ≡ n → signed l.negated (list_any (is_negation l.var) goal) ≡ false
      by_sign true e =
          let itself : is_negation l.var l ≡ true = ap (λ t. if t then l.negated else false) (eq-eqb l.var l.var refl) ∙ e in
          let found : list_any (is_negation l.var) goal ≡ true = list_any-from_Any (is_negation l.var) goal (m.0, l, m.1, m.2, itself) in
          ap (λ s. signed s (list_any (is_negation l.var) goal)) e ∙ ap not found
      by_sign false e = ap (λ s. signed s (list_any (is_negation l.var) goal)) e ∙ none (list_any (is_negation l.var) goal) refl
        where
          none : (b : Bool) → list_any (is_negation l.var) goal ≡ b → list_any (is_negation l.var) goal ≡ false
          none false t = t
          none true t =
              let some : Any (λ k. is_negation l.var k ≡ true) goal = Any-from_list_any (is_negation l.var) goal t in
              absurd ((All-contains (LacksOpposite goal) goal l apart m).absent (some.0, some.2, there some.0 some.1 some.3 some.4))
            where
              is_opposite : (k : Literal) → (c : Bool) → nat_eq k.var l.var ≡ c → (if c then k.negated else false) ≡ true → k ≡ opposite l
              is_opposite k false c t = cc
              is_opposite k true c t = both k.var l.var k.negated l.negated (eqb-true k.var l.var c) t e
                where
                  both : (x y : ℕ) (n o : Bool) → x ≡ y → n ≡ true → o ≡ false → (let r : Literal = record { var = x; negated = n } in r) ≡ (let r : Literal = record { var = y; negated = not o } in r)
                  both x y n o e f g = rw (e, f, g) refl

              there : (i : ℕ) (k : Literal) → slice_index_or goal i k ≡ k → is_negation l.var k ≡ true → slice_index_or goal i (opposite l) ≡ opposite l
              there i k at t = subst (λ z. slice_index_or goal i z ≡ z) (is_opposite k (nat_eq k.var l.var) refl t) at

-- an assignment that solves what is asked would make the goal false
no_solution : (vars : ℕ) (clauses : List (List Literal)) (goal : List Literal) → HasNoOpposites goal → FollowsFrom clauses goal → (a : Assignment) → Solves vars clauses (asked vars goal) a → ⊥
no_solution vars clauses goal apart follows a solves =
    let holds : clause_value (filled vars a goal) goal ≡ true = follows (filled vars a goal) (Satisfies-from_All (filled vars a goal) clauses all_hold) in
    let some : Any (λ l. literal_value (filled vars a goal) l ≡ true) goal = Any-from_list_any (literal_value (filled vars a goal)) goal holds in
    false_one some.1 (some.0, some.2, some.3) some.4 (cases_lt vars some.1.var)
  where
    one_holds : (c : List Literal) → Any (λ l. value_of a l ≡ Some true) c → clause_value (filled vars a goal) c ≡ true
    one_holds c h = list_any-from_Any (literal_value (filled vars a goal)) c (h.0, h.1, h.2, h.3, known_value vars a goal solves.places h.1 true h.4)

    all_hold : All (λ c. clause_value (filled vars a goal) c ≡ true) clauses
    all_hold = λ k d within. one_holds (slice_index_or clauses k d) (solves.clauses_true k d within)

    turned : (n b : Bool) → signed (not n) b ≡ true → signed n b ≡ true → ⊥
    turned true true e f = cc
    turned true false e f = cc
    turned false true e f = cc
    turned false false e f = cc

    false_one : (l : Literal) → Contains goal l → literal_value (filled vars a goal) l ≡ true → (vars < l.var) ⊎ (l.var ≤ vars) → ⊥
    false_one l m e (inl high) = let bad : true ≡ false = sym e ∙ high_false vars a goal solves.places apart l m high in cc
    false_one l m e (inr low) =
        let assumed : value_of a (opposite l) ≡ Some true = All-contains (λ k. value_of a k ≡ Some true) (asked vars goal) (opposite l) solves.assumptions_true (asked_has vars goal l m low) in
        turned l.negated (filled vars a goal l.var) (known_value vars a goal solves.places (opposite l) true assumed) e

pub derivations_go_on : DerivationsGoOn
derivations_go_on vars clauses done goal steps apart follows = (
  may_be_asked vars goal apart,
  no_solution vars (with_steps clauses done) goal apart (follows_with clauses done goal follows),
  λ more refutes. record {
    are_steps = steps_joined vars clauses done more steps refutes.are_steps;
    known = with_joined clauses done more;
    covers = subst (λ cs. Covers cs goal) (sym (with_joined clauses done more))
        (covers_by (with_steps (with_steps clauses done) more) goal refutes.core refutes.listed
        (all_of vars (Contains goal) refutes.core (λ l m. subst (Contains goal) (opposite-opposite l) (asked_from vars goal (opposite l) (All-contains (λ k. Contains (asked vars goal) (opposite k)) refutes.core l refutes.negated m)).0)));
    earlier = λ c h. subst (λ cs. Covers cs c) (sym (with_joined clauses done more)) (covers_with (with_steps clauses done) more c h);
  },
)
