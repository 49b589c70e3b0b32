-- No trace ends in a bad moment where the frames or an invariant exclude it, and so the listed sets are right.
use Rattle.std.proofs.Common.{◌≡◌, ℕ, zero, suc, ◌+◌, ◌-◌, ◌<◌, ◌≤◌, Bool, true, false, List, [], ◌∷◌, ◌++◌, length, refl, sym, ap, ◌∙◌, subst, arith, ◌⊎◌, inl, inr}
use Rattle.std.specs.Prelude.{Contains}
use Rattle.std.proofs.lemmas.List.FromFn.{length-range_with_len}
use Rattle.smv_language.specs.Language.{Value, evaluate, Each, EachPair, AtSome, FlatModel, FlatMay, leaves_at}
use Rattle.smv_language.specs.Values.{truth}
use Rattle.smv_flat_laws.specs.History.{with_history}
use Rattle.smv_flat_laws.specs.FlatTrace.{AreInDomains, IsFlatMoment, IsFlatStep, IsFlatTrace, bits_after, told_from, IsOwnFormula}
use Rattle.smv_flat_laws.proofs.Lists.{each_map}
use Rattle.smv_flat_laws.proofs.HistoryTraces.{holds_longer, domains_length, history_exactly}
use Rattle.sat_clauses.specs.Literal.{Literal}
use Rattle.sat_clauses.specs.declared.system.System.{System}
use Rattle.cut_frames.specs.Chain.{State, IsFirstState, IsStepOf, InFrame}
use Rattle.cut_frames.specs.Path.{IsStepUnder}
use Rattle.cut_frames.specs.FrameLists.{InNumber}
use Rattle.cut_frames.specs.FramesByNumber.{AreNumbered}
use Rattle.cut_right_laws.specs.Right.{HasFailedAll}
use Rattle.cut_right_laws.specs.Sets.{is_contained}
use Rattle.cut_search_laws.specs.FoundSets.{Found, sets_of, IsFound}
use Rattle.sat_encoding_laws.specs.FlatTraces.{IsNumbered, ReachesTop, HasFailedNumber, failed_set, last_of, history_of, failed_in}
use Rattle.sat_encoding_laws.specs.Encodings.{is_true_at, bit_of, IsEncodingOf, IsBadMoment}
use Rattle.cut_search_laws.specs.FlatSearch.{FlatTrace, IsSearched, AreFoundFlat, ClearIsRight, InvariantIsRight, FirstStatesShow}
use Rattle.sat_encoding_laws.proofs.SetLaws.{contained_has, true_or_false, contains_has, has_contains}
use Rattle.cut_search_laws.proofs.FoundLaws.{each_found, found_is_right}
use Rattle.sat_encoding_laws.proofs.Numbers.{count_where}
use Rattle.sat_encoding_laws.proofs.HistoryFacts.{at_last, each_last, last_told, last_tells, unlisted_comes, failed_exactly, failed_small}
use Rattle.smv_flat_laws.proofs.HistoryLaws.{length_told}
use Rattle.smv_type_laws.proofs.ClosedLaws.{each_both}
use Rattle.smv_language.proofs.ListLaws.{contains_later}
use Rattle.cut_search_laws.specs.Problem.{Problem}
use Rattle.base_values.proofs.ListLaws.{contains_here}

-- under some inputs a step is a step
pub any_inputs : (system : System) (inputs : List Bool) (s t : State) → IsStepUnder system inputs s t → IsStepOf system s t
any_inputs system inputs s t h = (h.0, h.1, (h.2.0, h.2.1, h.2.2, h.2.4))

-- A property that steps carry from each moment to the next holds at the last.
module _ (full : FlatModel) (system : System) (state_of inputs_of : List Value → List Bool) (encoded : IsEncodingOf full system state_of inputs_of) (In : ℕ → State → Type 0) where
  walk : (bound : ℕ) → ((i : ℕ) (s t : State) → i < bound → In i s → IsStepOf system s t → In (suc i) t) → (i : ℕ) (v : List Value) (vs : List (List Value)) → i + length vs ≤ bound →
      In i (state_of v) → Each (IsFlatMoment full) (v ∷ vs) → EachPair (IsFlatStep full) (v ∷ vs) → In (i + length vs) (state_of (last_of (v ∷ vs)))
  walk bound carries i v [] short h moments steps = subst (λ n. In n (state_of v)) (none i) h
    where
      none : (i : ℕ) → i ≡ i + 0
      none i = omega arith
  walk bound carries i v (w ∷ ws) short h moments steps =
      subst (λ n. In n (state_of (last_of (w ∷ ws)))) (more i (length ws))
      (walk bound carries (suc i) w ws (within i (length ws) bound short)
      (carries i (state_of v) (state_of w) (below i (length ws) bound short) h
      (any_inputs system (inputs_of v) (state_of v) (state_of w) (encoded.step_comes v w moments.0 moments.1.0 steps.0))) moments.1 steps.1)
    where
      more : (i n : ℕ) → suc i + n ≡ i + suc n
      more i n = omega arith

      within : (i n b : ℕ) → i + suc n ≤ b → suc i + n ≤ b
      within i n b l = omega (arith, l)

      below : (i n b : ℕ) → i + suc n ≤ b → i < b
      below i n b l = omega (arith, l)

  -- at the last moment of a trace
  pub reaches_last : (bound : ℕ) → ((i : ℕ) (s t : State) → i < bound → In i s → IsStepOf system s t → In (suc i) t) → ((s : State) → IsFirstState system s → In 0 s) →
      (v : List Value) (vs : List (List Value)) → length vs ≤ bound → IsFlatTrace full (v ∷ vs) → In (length vs) (state_of (last_of (v ∷ vs)))
  reaches_last bound carries begins v vs short h =
      subst (λ n. In n (state_of (last_of (v ∷ vs)))) (plain (length vs))
      (walk bound carries 0 v vs (within (length vs) bound short) (begins (state_of v) (encoded.first_comes v h.moments.0 h.first)) h.moments h.steps)
    where
      plain : (n : ℕ) → 0 + n ≡ n
      plain n = omega arith

      within : (n b : ℕ) → n ≤ b → 0 + n ≤ b
      within n b l = omega (arith, l)

-- A state of one frame is in each later one.
lifted : (system : System) (frames : List (List (List Literal))) → AreNumbered system frames → (s : State) (d i : ℕ) → i + d < length frames → InNumber system frames i s → InNumber system frames (i + d) s
lifted system frames numbered s zero i short h = subst (λ n. InNumber system frames n s) (none i) h
  where
    none : (i : ℕ) → i ≡ i + 0
    none i = omega arith
lifted system frames numbered s (suc d) i short h =
    subst (λ n. InNumber system frames n s) (more i d) (lifted system frames numbered s d (suc i) (within i d (length frames) short) (numbered.implies i s (below i d (length frames) short) h))
  where
    more : (i d : ℕ) → suc i + d ≡ i + suc d
    more i d = omega arith

    within : (i d n : ℕ) → i + suc d < n → suc i + d < n
    within i d n l = omega (arith, l)

    below : (i d n : ℕ) → i + suc d < n → i + 1 < n
    below i d n l = omega (arith, l)

-- at the frontier
pub at_frontier : (system : System) (frames : List (List (List Literal))) → AreNumbered system frames → (s : State) (i : ℕ) → i ≤ length frames - 1 → InNumber system frames i s → InNumber system frames (length frames - 1) s
at_frontier system frames numbered s i l h =
    subst (λ n. InNumber system frames n s) (whole i (length frames) numbered.some l) (lifted system frames numbered s (length frames - 1 - i) i (short i (length frames) numbered.some l) h)
  where
    whole : (i n : ℕ) → 0 < n → i ≤ n - 1 → i + (n - 1 - i) ≡ n - 1
    whole i n p l = omega (arith, p, l)

    short : (i n : ℕ) → 0 < n → i ≤ n - 1 → i + (n - 1 - i) < n
    short i n p l = omega (arith, p, l)

module _ (problem : Problem) (searched : IsSearched problem) where
  open problem use {model as m, modes as fs, top}

  -- the top event of a valuation is that of a longer one
  pub top_longer : (v bs : List Value) → AreInDomains m.variables v → evaluate (leaves_at m (v ++ bs)) (leaves_at m (v ++ bs)) top ≡ evaluate (leaves_at m v) (leaves_at m v) top
  top_longer v bs dom =
      holds_longer m v v bs bs refl (subst (λ n. Each (IsOwnFormula n) m.definitions) (sym (domains_length m.variables v dom)) searched.own.definitions) (record { value = top; item = 0; number = 0 })
      (subst (λ n. IsOwnFormula n (record { value = top; item = 0; number = 0 })) (sym (domains_length m.variables v dom)) searched.top_own)

  pub reached_longer : (v bs : List Value) → AreInDomains m.variables v → FlatMay m v v top (truth true) → FlatMay m (v ++ bs) (v ++ bs) top (truth true)
  reached_longer v bs dom h = (h.0, top_longer v bs dom ∙ h.1, h.2)

  pub reached_shorter : (v bs : List Value) → AreInDomains m.variables v → FlatMay m (v ++ bs) (v ++ bs) top (truth true) → FlatMay m v v top (truth true)
  reached_shorter v bs dom h = (h.0, sym (top_longer v bs dom) ∙ h.1, h.2)

  -- a set is listed that has failed as a whole, or none is
  listed_or_not : (failed : List ℕ) (found : List (Found FlatTrace)) → ((set : List ℕ) × Contains (sets_of found) set × (is_contained set failed ≡ true)) ⊎ Each (λ f. is_contained f.set failed ≡ false) found
  listed_or_not failed [] = inr tt
  listed_or_not failed (f ∷ found) = by_test (true_or_false (is_contained f.set failed)) (listed_or_not failed found)
    where
      by_test : (is_contained f.set failed ≡ true) ⊎ (is_contained f.set failed ≡ false) →
          ((set : List ℕ) × Contains (sets_of found) set × (is_contained set failed ≡ true)) ⊎ Each (λ f. is_contained f.set failed ≡ false) found →
          ((set : List ℕ) × Contains (sets_of (f ∷ found)) set × (is_contained set failed ≡ true)) ⊎ Each (λ f. is_contained f.set failed ≡ false) (f ∷ found)
      by_test (inl e) rest = inl (f.set, contains_here f.set (sets_of found), e)
      by_test (inr e) (inl r) = inl (r.0, contains_later r.0 f.set (sets_of found) r.1, r.2)
      by_test (inr e) (inr r) = inr (e, r)

  module _ (size : ℕ) (found : List (Found FlatTrace)) (are : AreFoundFlat problem size found) where
    abbrev Bad : List Value → Type 0
    Bad u = IsBadMoment (with_history m fs) top (history_of m fs) (sets_of found) size u

    -- a reaching trace that has failed no listed set as a whole ends in a bad moment
    ends_bad : (v : List Value) (vs : List (List Value)) → IsFlatTrace m (v ∷ vs) → IsFlatTrace (with_history m fs) (told_from m fs [] (v ∷ vs)) → ReachesTop m top (v ∷ vs) →
        length (failed_set m fs (v ∷ vs)) ≤ size → Each (λ f. is_contained f.set (failed_set m fs (v ∷ vs)) ≡ false) found → Bad (last_of (told_from m fs [] (v ∷ vs)))
    ends_bad v vs trace long reaches small none = subst Bad (sym (last_told m fs [] v vs)) (record {
      moment = subst (IsFlatMoment (with_history m fs)) (last_told m fs [] v vs) (each_last (IsFlatMoment (with_history m fs)) (v ++ bits_after m fs (v ∷ [])) (told_from m fs (v ∷ []) vs) long.moments);
      reaches = reached_longer (last_of (v ∷ vs)) (bits_after m fs (v ∷ vs)) (moment.domains) (at_last (λ v. FlatMay m v v top (truth true)) v vs reaches);
      small = subst (λ n. n ≤ size) (sym (count_where (is_true_at last) 1 (history_of m fs) ∙ ap length tells)) small;
      unlisted = each_map (AtSome (λ i. bit_of (history_of m fs) last i ≡ false)) (λ f. f.set) found
          (each_both (IsFound FlatTrace (IsFlatTrace m) (ReachesTop m top) (HasFailedNumber m fs) (length fs) size) (λ f. is_contained f.set (failed_set m fs (v ∷ vs)) ≡ false)
          (λ f. AtSome (λ i. bit_of (history_of m fs) last i ≡ false) f.set) one found
          (each_found FlatTrace (IsFlatTrace m) (ReachesTop m top) (HasFailedNumber m fs) (length fs) size found are) none);
    })
      where
        last : List Value
        last = last_of (v ∷ vs) ++ bits_after m fs (v ∷ vs)

        moment : IsFlatMoment m (last_of (v ∷ vs))
        moment = each_last (IsFlatMoment m) v vs trace.moments

        tells : failed_in (history_of m fs) (last_of (v ∷ vs) ++ bits_after m fs (v ∷ vs)) ≡ failed_set m fs (v ∷ vs)
        tells = last_tells m fs (v ∷ vs) (last_of (v ∷ vs)) (domains_length m.variables (last_of (v ∷ vs)) (each_last (IsFlatMoment m) v vs trace.moments).domains)

        one : (f : Found FlatTrace) → IsFound FlatTrace (IsFlatTrace m) (ReachesTop m top) (HasFailedNumber m fs) (length fs) size f → is_contained f.set (failed_set m fs (v ∷ vs)) ≡ false →
            AtSome (λ i. bit_of (history_of m fs) (last_of (v ∷ vs) ++ bits_after m fs (v ∷ vs)) i ≡ false) f.set
        one f is e =
            unlisted_comes (history_of m fs) (last_of (v ∷ vs) ++ bits_after m fs (v ∷ vs)) f.set (subst (λ n. IsNumbered n f.set) (sym (length-range_with_len (length m.variables) (length fs))) is.numbered)
            (subst (λ failed. is_contained f.set failed ≡ false) (sym (last_tells m fs (v ∷ vs) (last_of (v ∷ vs)) (domains_length m.variables (last_of (v ∷ vs)) (each_last (IsFlatMoment m) v vs trace.moments).domains))) e)

    -- where no trace of a class ends in a bad moment, its reaching traces have failed a listed set
    covers : (class : FlatTrace → Type 0) → ((trace : FlatTrace) → class trace → IsFlatTrace m trace) →
        ((v : List Value) (vs : List (List Value)) → class (v ∷ vs) → IsFlatTrace (with_history m fs) (told_from m fs [] (v ∷ vs)) → Bad (last_of (told_from m fs [] (v ∷ vs))) → ⊥) →
        (trace : FlatTrace) → class trace → ReachesTop m top trace → ((numbers : List ℕ) × (length numbers ≤ size) × ((i : ℕ) → HasFailedNumber m fs trace i → Contains numbers i)) →
        (set : List ℕ) × Contains (sets_of found) set × HasFailedAll FlatTrace (IsFlatTrace m) (ReachesTop m top) (HasFailedNumber m fs) trace set
    covers class is_one excluded [] c reaches few = absurd reaches
    covers class is_one excluded (v ∷ vs) c reaches few = by_listed (listed_or_not (failed_set m fs (v ∷ vs)) found)
      where
        long : IsFlatTrace (with_history m fs) (told_from m fs [] (v ∷ vs))
        long = (history_exactly m fs searched.own searched.modes (told_from m fs [] (v ∷ vs))).1 (v ∷ vs, is_one (v ∷ vs) c, refl)

        by_listed : ((set : List ℕ) × Contains (sets_of found) set × (is_contained set (failed_set m fs (v ∷ vs)) ≡ true)) ⊎ Each (λ f. is_contained f.set (failed_set m fs (v ∷ vs)) ≡ false) found →
            (set : List ℕ) × Contains (sets_of found) set × HasFailedAll FlatTrace (IsFlatTrace m) (ReachesTop m top) (HasFailedNumber m fs) (v ∷ vs) set
        by_listed (inl l) =
            (l.0, l.1, λ i inside. (failed_exactly m fs (v ∷ vs) i).1 (has_contains (failed_set m fs (v ∷ vs)) i (contained_has l.0 (failed_set m fs (v ∷ vs)) i l.2 (contains_has l.0 i inside))))
        by_listed (inr none) = absurd (excluded v vs c long (ends_bad v vs (is_one (v ∷ vs) c) long reaches (failed_small m fs (v ∷ vs) size few) none))

module _ (problem : Problem) where
  open problem use {model as m, modes as fs, top, system, state_of, inputs_of}

  pub clear_is_right : ClearIsRight problem
  clear_is_right size found bad frames searched are lists numbered clear =
      found_is_right FlatTrace (IsFlatTrace m) (ReachesTop m top) (HasFailedNumber m fs) (length fs) size (λ trace. IsFlatTrace m trace × (length trace ≤ length frames - 1 + 1)) found are
      (covers problem searched size found are (λ trace. IsFlatTrace m trace × (length trace ≤ length frames - 1 + 1)) (λ trace c. c.0) excluded)
    where
      carries : (i : ℕ) (s t : State) → i < length frames - 1 → InNumber system frames i s → IsStepOf system s t → InNumber system frames (suc i) t
      carries i s t l h step = numbered.steps i s t (below i (length frames) l) h step
        where
          below : (i n : ℕ) → i < n - 1 → i + 1 < n
          below i n l = omega (arith, l)

      excluded : (v : List Value) (vs : List (List Value)) → (IsFlatTrace m (v ∷ vs) × (length (v ∷ vs) ≤ length frames - 1 + 1)) → IsFlatTrace (with_history m fs) (told_from m fs [] (v ∷ vs)) →
          IsBadMoment (with_history m fs) top (history_of m fs) (sets_of found) size (last_of (told_from m fs [] (v ∷ vs))) → ⊥
      excluded v vs c long ends =
          clear (state_of (last_of (told_from m fs [] (v ∷ vs))))
          (at_frontier system frames numbered (state_of (last_of (told_from m fs [] (v ∷ vs)))) (length (told_from m fs (v ∷ []) vs)) few
          (reaches_last (with_history m fs) system state_of inputs_of searched.encoded (InNumber system frames) (length frames - 1) carries (λ s h. h) (v ++ bits_after m fs (v ∷ [])) (told_from m fs (v ∷ []) vs) few long))
          (lists.bad_comes (last_of (told_from m fs [] (v ∷ vs))) ends)
        where
          few : length (told_from m fs (v ∷ []) vs) ≤ length frames - 1
          few = subst (λ n. n ≤ length frames - 1) (sym (length_told m fs (v ∷ []) vs)) (less (length vs) (length frames - 1) c.1)
            where
              less : (n k : ℕ) → suc n ≤ k + 1 → n ≤ k
              less n k l = omega (arith, l)

  pub invariant_is_right : InvariantIsRight problem
  invariant_is_right size found bad clauses searched are lists inductive excludes =
      found_is_right FlatTrace (IsFlatTrace m) (ReachesTop m top) (HasFailedNumber m fs) (length fs) size (IsFlatTrace m) found are
      (covers problem searched size found are (IsFlatTrace m) (λ trace c. c) excluded)
    where
      excluded : (v : List Value) (vs : List (List Value)) → IsFlatTrace m (v ∷ vs) → IsFlatTrace (with_history m fs) (told_from m fs [] (v ∷ vs)) →
          IsBadMoment (with_history m fs) top (history_of m fs) (sets_of found) size (last_of (told_from m fs [] (v ∷ vs))) → ⊥
      excluded v vs c long ends =
          excludes (state_of (last_of (told_from m fs [] (v ∷ vs))))
          (reaches_last (with_history m fs) system state_of inputs_of searched.encoded (λ i s. InFrame system clauses s) (length (told_from m fs (v ∷ []) vs)) (λ i s t l h step. inductive.is_kept s t h step)
          inductive.holds_first (v ++ bits_after m fs (v ∷ [])) (told_from m fs (v ∷ []) vs) (same (length (told_from m fs (v ∷ []) vs))) long)
          (lists.bad_comes (last_of (told_from m fs [] (v ∷ vs))) ends)
        where
          same : (n : ℕ) → n ≤ n
          same n = omega arith

module _ (problem : Problem) where
  open problem use {model as m, modes as fs, system, state_of}

  pub first_states_show : FirstStatesShow problem
  first_states_show searched = (forward, backward)
    where
      forward : ((s : State) × IsFirstState system s) → (trace : FlatTrace) × IsFlatTrace m trace
      forward h =
          let v = searched.encoded.first_means h.0 h.1 in
          let t = (history_exactly m fs searched.own searched.modes (v.0 ∷ [])).0 (record { first = v.2; moments = (v.1, tt); steps = tt }) in (t.0, t.1)

      backward : ((trace : FlatTrace) × IsFlatTrace m trace) → (s : State) × IsFirstState system s
      backward t = by_trace t.0 t.1
        where
          by_trace : (trace : FlatTrace) → IsFlatTrace m trace → (s : State) × IsFirstState system s
          by_trace [] h = absurd h.first
          by_trace (v ∷ vs) h =
              let long : IsFlatTrace (with_history m fs) (told_from m fs [] (v ∷ vs)) = (history_exactly m fs searched.own searched.modes (told_from m fs [] (v ∷ vs))).1 (v ∷ vs, h, refl) in
              (state_of (v ++ bits_after m fs (v ∷ [])), searched.encoded.first_comes (v ++ bits_after m fs (v ∷ [])) long.moments.0 long.first)
