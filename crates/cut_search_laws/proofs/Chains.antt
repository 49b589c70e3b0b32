-- Chains stay chains and grow, and two equal frames give an invariant.
use Rattle.std.proofs.Common.{◌≡◌, ℕ, zero, suc, ◌+◌, ◌-◌, ◌<◌, ◌≤◌, true, false, List, [], ◌∷◌, length, drop, Some, sym, subst, arith, inl, inr}
use Rattle.std.proofs.lemmas.List.{length-drop}
use Rattle.std.specs.Prelude.{slice_get, slice_index_or}
use Rattle.smv_language.specs.Language.{Value, Each, AtSome}
use Rattle.smv_flat_laws.specs.History.{with_history}
use Rattle.smv_flat_laws.specs.FlatTrace.{IsFlatTrace}
use Rattle.smv_flat_laws.proofs.Lists.{each_map, each_of_map}
use Rattle.sat_clauses.specs.Literal.{Literal}
use Rattle.cut_frames.specs.Chain.{State, IsBad, InFrame, IsFrame}
use Rattle.cut_frames.specs.FrameLists.{frame_at, InNumber}
use Rattle.cut_right_laws.specs.Sets.{is_contained}
use Rattle.cut_search_laws.specs.FoundSets.{Found, sets_of, IsFound}
use Rattle.sat_encoding_laws.specs.FlatTraces.{IsNumbered, ReachesTop, HasFailedNumber, history_of, failed_in}
use Rattle.sat_encoding_laws.specs.Encodings.{bit_of, IsBadMoment}
use Rattle.cut_search_laws.specs.FlatSearch.{FlatTrace, FixedIsInvariant, FewerAreBad, ChainStays, ChainGrows}
use Rattle.sat_encoding_laws.proofs.SetLaws.{contained_through}
use Rattle.cut_search_laws.proofs.FoundLaws.{each_found}
use Rattle.sat_encoding_laws.proofs.HistoryFacts.{unlisted_means, unlisted_comes}
use Rattle.cut_search_laws.proofs.Excluded.{at_frontier}
use Rattle.std.proofs.lemmas.Bool.{false_from_ne_true as refuted}
use Rattle.std.proofs.lemmas.List.FromFn.{length-range_with_len}
use Rattle.smv_type_laws.proofs.ClosedLaws.{each_both}
use Rattle.smv_language.proofs.BoolLaws.{not_both}
use Rattle.cut_search_laws.specs.Problem.{Problem}

pub no_place : {A : Type 0} (i : ℕ) (x : A) → slice_get [] i ≡ Some x → ⊥
no_place i x e = cc

pub get_place : {A : Type 0} (d x : A) (xs : List A) (i : ℕ) → slice_get xs i ≡ Some x → (slice_index_or xs i d ≡ x) × (i < length xs)
get_place d x [] i e = absurd (no_place i x e)
get_place {A = A} d x (y ∷ ys) zero e = (some_same y x e, omega arith)
  where
    some_same : (z x : A) → Some z ≡ Some x → z ≡ x
    some_same z x e = cc
get_place d x (y ∷ ys) (suc i) e = let r : (slice_index_or ys i d ≡ x) × (i < length ys) = get_place d x ys i e in (r.0, more i (length ys) r.1)
  where
    more : (i n : ℕ) → i < n → suc i < suc n
    more i n l = omega (arith, l)

-- what the list has at a place after its first
after_first : {A : Type 0} (d x : A) (xs : List A) (i : ℕ) → 0 < i → slice_get (drop 1 xs) (i - 1) ≡ Some x → (slice_index_or xs i d ≡ x) × (i < length xs)
after_first d x [] i p e = absurd (no_place (i - 1) x e)
after_first d x (y ∷ ys) zero p e = absurd (omega (arith, p))
after_first d x (y ∷ ys) (suc i) p e = get_place d x (y ∷ ys) (suc i) (subst (λ n. slice_get ys n ≡ Some x) (less i) e)
  where
    less : (i : ℕ) → suc i - 1 ≡ i
    less i = omega arith

module _ (problem : Problem) where
  open problem use {model as m, modes as fs, top, system, state_of}

  pub fixed_is_invariant : FixedIsInvariant problem
  fixed_is_invariant bad old now clauses longer clear fixed = record {
    inductive = fixed.inductive;
    excludes = λ s h b. clear s (in_number s (fixed.implies s h)) b;
  }
    where
      -- the frontier's number was not 0
      follows : (a o n : ℕ) → 0 < a → a + 1 < n → n ≡ o + 1 → o - 1 ≡ suc (o - 2)
      follows a o n p l e = omega (arith, p, l, e)

      in_number : (s : State) → InFrame system (frame_at old (length old - 1)) s → InNumber system old (length old - 1) s
      in_number s h =
          let next : length old - 1 ≡ suc (length old - 2) = follows fixed.equal_ones.at (length old) (length now) fixed.equal_ones.from_one fixed.equal_ones.within longer in
          subst (λ n. InNumber system old n s) (sym next) (subst (λ n. InFrame system (frame_at old n) s) next h)

  pub fewer_are_bad : FewerAreBad problem
  fewer_are_bad size before now bad worse searched are are' contain lists lists' s h = by_moment (lists'.bad_means s h)
    where
      long : (set : List ℕ) → IsNumbered (length fs) set → IsNumbered (length (history_of m fs)) set
      long set n = subst (λ k. IsNumbered k set) (sym (length-range_with_len (length m.variables) (length fs))) n

      Is : Found FlatTrace → Type 0
      Is f = IsFound FlatTrace (IsFlatTrace m) (ReachesTop m top) (HasFailedNumber m fs) (length fs) size f

      by_moment : ((v : List Value) × IsBadMoment (with_history m fs) top (history_of m fs) (sets_of now) size v × (state_of v ≡ s)) → IsBad system worse s
      by_moment b = subst (IsBad system worse) b.2 (lists.bad_comes b.0 (record {
        moment = b.1.moment;
        reaches = b.1.reaches;
        small = b.1.small;
        unlisted = each_map (AtSome (λ i. bit_of (history_of m fs) b.0 i ≡ false)) (λ f. f.set) before
            (each_both (λ f. IsFound FlatTrace (IsFlatTrace m) (ReachesTop m top) (HasFailedNumber m fs) (length fs) size f) (λ f. AtSome (λ g. is_contained g.set f.set ≡ true) now)
            (λ f. AtSome (λ i. bit_of (history_of m fs) b.0 i ≡ false) f.set) (λ f is some. one f is some) before
            (each_found FlatTrace (IsFlatTrace m) (ReachesTop m top) (HasFailedNumber m fs) (length fs) size before are) contain);
      }))
        where
          failed : List ℕ
          failed = failed_in (history_of m fs) b.0

          none : Each (λ g. is_contained g.set (failed_in (history_of m fs) b.0) ≡ false) now
          none =
              each_both (λ g. IsFound FlatTrace (IsFlatTrace m) (ReachesTop m top) (HasFailedNumber m fs) (length fs) size g) (λ g. AtSome (λ i. bit_of (history_of m fs) b.0 i ≡ false) g.set)
              (λ g. is_contained g.set (failed_in (history_of m fs) b.0) ≡ false)
              (λ g is some. unlisted_means (history_of m fs) b.0 g.set (subst (λ k. IsNumbered k g.set) (sym (length-range_with_len (length m.variables) (length fs))) is.numbered) some) now
              (each_found FlatTrace (IsFlatTrace m) (ReachesTop m top) (HasFailedNumber m fs) (length fs) size now are') (each_of_map (AtSome (λ i. bit_of (history_of m fs) b.0 i ≡ false)) (λ f. f.set) now b.1.unlisted)

          outside : (f : Found FlatTrace) (gs : List (Found FlatTrace)) → Each (λ g. is_contained g.set (failed_in (history_of m fs) b.0) ≡ false) gs → AtSome (λ g. is_contained g.set f.set ≡ true) gs →
              is_contained f.set (failed_in (history_of m fs) b.0) ≡ false
          outside f [] n some = absurd some
          outside f (g ∷ gs) n (inl e) =
              refuted (is_contained f.set (failed_in (history_of m fs) b.0)) (λ t. not_both (is_contained g.set (failed_in (history_of m fs) b.0)) (contained_through g.set f.set (failed_in (history_of m fs) b.0) e t) n.0)
          outside f (g ∷ gs) n (inr some) = outside f gs n.1 some

          one : (f : Found FlatTrace) → IsFound FlatTrace (IsFlatTrace m) (ReachesTop m top) (HasFailedNumber m fs) (length fs) size f → AtSome (λ g. is_contained g.set f.set ≡ true) now →
              AtSome (λ i. bit_of (history_of m fs) b.0 i ≡ false) f.set
          one f is some =
              unlisted_comes (history_of m fs) b.0 f.set (subst (λ k. IsNumbered k f.set) (sym (length-range_with_len (length m.variables) (length fs))) is.numbered) (outside f now none some)

  pub chain_stays : ChainStays problem
  chain_stays bad worse k fewer has = (
    has.0,
    has.1,
    record {
      over_bits = has.2.over_bits;
      first = has.2.first;
      after_first = has.2.after_first;
      advances = has.2.advances;
      shrinks = has.2.shrinks;
      loses = has.2.loses;
      pushed = has.2.pushed;
      clear = λ i frame next at at' s h b. has.2.clear i frame next at at' s h (fewer s b);
    },
  )

  pub chain_grows : ChainGrows problem
  chain_grows bad old now numbered clear stronger longer chain = (
    drop 1 now,
    length-drop 1 now,
    record {
      over_bits = chain.over_bits;
      first = chain.first;
      after_first = chain.after_first;
      advances = chain.advances;
      shrinks = chain.shrinks;
      loses = chain.loses;
      pushed = chain.pushed;
      clear = none_bad;
    },
  )
    where
      none_bad : (i : ℕ) (frame next : List (List Literal)) → IsFrame system (drop 1 now) i frame → IsFrame system (drop 1 now) (i + 1) next → (s : State) → InFrame system frame s → IsBad system bad s → ⊥
      none_bad i frame next at at' s h b =
          let here : (frame_at now i ≡ frame) × (i < length now) = after_first [] frame now i at.0 at.1 in
          let there : (frame_at now (i + 1) ≡ next) × (i + 1 < length now) = after_first [] next now (i + 1) at'.0 at'.1 in
          clear s (at_frontier system old numbered s i (low i (length old) (length now) there.1 longer)
          (by_number i at.0 (stronger i s (within i (length old) (length now) there.1 longer) (subst (λ f. InFrame system f s) (sym here.0) h)))) b
        where
          low : (i o n : ℕ) → i + 1 < n → n ≡ o + 1 → i ≤ o - 1
          low i o n l e = omega (arith, l, e)

          within : (i o n : ℕ) → i + 1 < n → n ≡ o + 1 → i < o
          within i o n l e = omega (arith, l, e)

          by_number : (i : ℕ) → 0 < i → InFrame system (frame_at old i) s → InNumber system old i s
          by_number zero p h = absurd (omega (arith, p))
          by_number (suc i) p h = h
