-- A path of the system into bad states is a trace that shows a new set.
use Rattle.std.proofs.Common.{◌≡◌, ℕ, zero, suc, ◌+◌, ◌-◌, ◌*◌, ◌<◌, ◌≤◌, true, false, List, [], ◌∷◌, ◌++◌, length, map, take, refl, sym, ap, ◌∙◌, subst, arith, ◌⊎◌, inl, inr}
use Rattle.std.proofs.lemmas.Bool.{cases_lt}
use Rattle.std.specs.Prelude.{slice_index_or}
use Rattle.std.proofs.lemmas.List.FromFn.{length-range_with_len}
use Rattle.smv_language.specs.Language.{Value, Each, EachPair, AtSome, AtFirst, FlatModel, FlatMay}
use Rattle.smv_language.specs.Values.{truth}
use Rattle.smv_flat_laws.specs.History.{Mode, with_history}
use Rattle.smv_flat_laws.specs.FlatTrace.{AreInDomains, IsFlatMoment, IsFlatStep, IsFlatTrace, bits_after, told_from}
use Rattle.smv_flat_laws.proofs.Lists.{each_of_map}
use Rattle.smv_flat_laws.proofs.HistoryTraces.{domains_length, history_exactly}
use Rattle.sat_clauses.specs.Literal.{Literal}
use Rattle.sat_clauses.specs.Assignment.{Assignment}
use Rattle.cut_frames.specs.Path.{state_in, inputs_in, IsPath}
use Rattle.cut_right_laws.specs.Right.{Shows}
use Rattle.cut_right_laws.specs.Sets.{is_contained}
use Rattle.cut_search_laws.specs.FoundSets.{sets_of, IsFound, IsNew}
use Rattle.sat_encoding_laws.specs.FlatTraces.{IsNumbered, ReachesTop, HasFailedNumber, failed_set, last_of, history_of, failed_in}
use Rattle.sat_encoding_laws.specs.Encodings.{is_true_at, bit_of, IsFlatFirst, IsBadMoment}
use Rattle.cut_search_laws.specs.FlatSearch.{FlatTrace, AreReadFrom, IsSearched, IsBadFor, IsFoundFlat, found_of, PathIsFound, IsLawfulMoment, PathIsLawful}
use Rattle.cut_search_laws.proofs.FoundLaws.{each_found}
use Rattle.sat_encoding_laws.proofs.SetLaws.{each_kept}
use Rattle.sat_encoding_laws.proofs.Numbers.{count_where, where_within, where_rising}
use Rattle.sat_encoding_laws.proofs.HistoryFacts.{to_last, each_last, last_told, last_tells, unlisted_means, failed_exactly}
use Rattle.cut_search_laws.proofs.Excluded.{reached_shorter}
use Rattle.cut_frames.proofs.BitLemmas.{length_read as read_length}
use Rattle.smv_type_laws.proofs.ClosedLaws.{each_both}
use Rattle.smv_language.proofs.ListLaws.{take_own}
use Rattle.cut_search_laws.specs.Problem.{Problem}

-- Lists by place.
pub place_of_each : {A : Type 0} (P : A → Type 0) (xs : List A) (i : ℕ) (d : A) → Each P xs → i < length xs → P (slice_index_or xs i d)
place_of_each P [] i d h l = absurd (omega (arith, l))
place_of_each P (x ∷ xs) zero d h l = h.0
place_of_each P (x ∷ xs) (suc i) d h l = place_of_each P xs i d h.1 (omega (arith, l))

pub each_by_place : {A : Type 0} (P : A → Type 0) (d : A) (xs : List A) → ((i : ℕ) → i < length xs → P (slice_index_or xs i d)) → Each P xs
each_by_place P d [] f = tt
each_by_place P d (x ∷ xs) f = (f 0 (omega arith), each_by_place P d xs (λ i l. f (suc i) (more i (length xs) l)))
  where
    more : (i n : ℕ) → i < n → suc i < suc n
    more i n l = omega (arith, l)

pairs_by_place : {A : Type 0} (R : A → A → Type 0) (d : A) (xs : List A) → ((i : ℕ) → suc i < length xs → R (slice_index_or xs i d) (slice_index_or xs (suc i) d)) → EachPair R xs
pairs_by_place R d [] f = tt
pairs_by_place R d (x ∷ []) f = tt
pairs_by_place R d (x ∷ y ∷ xs) f = (f 0 (omega arith), pairs_by_place R d (y ∷ xs) (λ i l. f (suc i) (more i (length xs) l)))
  where
    more : (i n : ℕ) → suc i < suc n → suc (suc i) < suc (suc n)
    more i n l = omega (arith, l)

first_by_place : {A : Type 0} (P : A → Type 0) (d : A) (xs : List A) → 0 < length xs → P (slice_index_or xs 0 d) → AtFirst P xs
first_by_place P d [] l h = absurd (omega (arith, l))
first_by_place P d (x ∷ xs) l h = h

pub last_place : (xs : List (List Value)) → last_of xs ≡ slice_index_or xs (length xs - 1) []
last_place [] = refl
last_place (x ∷ []) = refl
last_place (x ∷ y ∷ xs) = last_place (y ∷ xs) ∙ ap (λ n. slice_index_or (x ∷ y ∷ xs) n []) (next (length xs))
  where
    next : (n : ℕ) → suc (suc n - 1) ≡ suc (suc n) - 1
    next n = omega arith

-- without history the trace is as it was
pub cut_told : (m : FlatModel) (fs : List Mode) (n : ℕ) (before trace : List (List Value)) → Each (λ v. length v ≡ n) trace → map (take n) (told_from m fs before trace) ≡ trace
cut_told m fs n before [] h = refl
cut_told m fs n before (v ∷ vs) h =
    both (take n (v ++ bits_after m fs (before ++ v ∷ []))) v (map (take n) (told_from m fs (before ++ v ∷ []) vs)) vs
    (subst (λ k. take k (v ++ bits_after m fs (before ++ v ∷ [])) ≡ v) h.0 (take_own v (bits_after m fs (before ++ v ∷ [])))) (cut_told m fs n (before ++ v ∷ []) vs h.1)
  where
    both : (a b : List Value) (as' bs : List (List Value)) → a ≡ b → as' ≡ bs → (a ∷ as') ≡ (b ∷ bs)
    both a b as' bs e g = cc

module _ (problem : Problem) where
  open problem use {model as m, modes as fs, top, system, state_of, inputs_of}

  module _ (searched : IsSearched problem) (size : ℕ) (sets : List (List ℕ)) (bad : List (List Literal)) (lists : IsBadFor problem size sets bad)
      (k : ℕ) (path : List Assignment) (is : IsPath system bad k path) where
    abbrev at : ℕ → Assignment
    at i = slice_index_or path i []

    -- the two valuations of a step of the path
    record AreOfStep (i : ℕ) : Type 0 where
      pub now : List Value
      pub next : List Value
      pub is_moment : IsFlatMoment (with_history m fs) now
      pub is_next : IsFlatMoment (with_history m fs) next
      pub step : IsFlatStep (with_history m fs) now next
      pub state : state_of now ≡ state_in system (at i)
      pub inputs : inputs_of now ≡ inputs_in system (at i)
      pub after : state_of next ≡ state_in system (at (suc i))

    of_step : (i : ℕ) → suc i < length path → AreOfStep i
    of_step i l =
        let leads = is.steps i (more i (length path) l) in
        let two = searched.encoded.step_means (inputs_in system (at i)) (state_in system (at i)) (state_in system (at (i + 1))) (read_length (2 * system.state_bits + 2) system.input_bits (at i)) leads.2 in
        record {
          now = two.0;
          next = two.1;
          is_moment = two.2;
          is_next = two.3;
          step = two.4;
          state = two.5;
          inputs = two.6;
          after = subst (λ n. state_of two.1 ≡ state_in system (at n)) (plus i) two.7;
        }
      where
        more : (i n : ℕ) → suc i < n → i + 1 < n
        more i n l = omega (arith, l)

        plus : (i : ℕ) → i + 1 ≡ suc i
        plus i = omega arith

    -- the last moment is that of a bad one
    of_end : (v : List Value) × IsBadMoment (with_history m fs) top (history_of m fs) sets size v × (state_of v ≡ state_in system (at (length path - 1)))
    of_end = lists.bad_means (state_in system (at (length path - 1))) is.ends_bad

    pub lawful : (i : ℕ) → i < length path → IsLawfulMoment problem path i
    lawful i l = by_place (cases_lt (suc i) (length path))
      where
        by_place : (suc i < length path) ⊎ (length path ≤ suc i) → IsLawfulMoment problem path i
        by_place (inl more) = let two : AreOfStep i = of_step i more in record { values = two.now; domains = two.is_moment.domains; state = two.state; inputs = λ h. two.inputs }
        by_place (inr none) = record {
          values = of_end.0;
          domains = of_end.1.moment.domains;
          state = of_end.2 ∙ ap (λ n. state_in system (at n)) (last i (length path) l none);
          inputs = λ h. absurd (no i (length path) none h);
        }
          where
            last : (i n : ℕ) → i < n → n ≤ suc i → n - 1 ≡ i
            last i n l h = omega (arith, l, h)

            no : (i n : ℕ) → n ≤ suc i → i + 1 < n → ⊥
            no i n h l = omega (arith, l, h)

    -- The path read as valuations.
    module _ (long : FlatTrace) (read : AreReadFrom problem path long) where
      abbrev value : ℕ → List Value
      value i = slice_index_or long i []

      in_domains : (i : ℕ) → i < length path → AreInDomains (with_history m fs).variables (value i)
      in_domains i l = place_of_each (AreInDomains (with_history m fs).variables) long i [] read.domains (subst (λ n. i < n) (sym read.one_each) l)

      same_now : (i : ℕ) (l : suc i < length path) → (of_step i l).now ≡ value i
      same_now i l =
          let two : AreOfStep i = of_step i l in
          searched.encoded.one_valuation two.now (value i) two.is_moment.domains (in_domains i (less i (length path) l)) (two.state ∙ sym (read.states i (less i (length path) l)))
          (two.inputs ∙ sym (read.inputs i (more i (length path) l)))
        where
          less : (i n : ℕ) → suc i < n → i < n
          less i n l = omega (arith, l)

          more : (i n : ℕ) → suc i < n → i + 1 < n
          more i n l = omega (arith, l)

      step_at : (i : ℕ) → suc i < length path → IsFlatStep (with_history m fs) (value i) (value (suc i))
      step_at i l =
          let two : AreOfStep i = of_step i l in
          searched.encoded.next_free (value i) two.next (value (suc i)) two.is_next.domains (in_domains (suc i) l) (two.after ∙ sym (read.states (suc i) l))
          (subst (λ v. IsFlatStep (with_history m fs) v two.next) (same_now i l) two.step)

      bad_end : IsBadMoment (with_history m fs) top (history_of m fs) sets size (value (length path - 1))
      bad_end =
          lists.bad_free of_end.0 (value (length path - 1)) (in_domains (length path - 1) (below (length path) is.some)) (of_end.2 ∙ sym (read.states (length path - 1) (below (length path) is.some))) of_end.1
        where
          below : (n : ℕ) → 0 < n → n - 1 < n
          below n l = omega (arith, l)

      moment_at : (i : ℕ) → i < length path → IsFlatMoment (with_history m fs) (value i)
      moment_at i l = by_place (cases_lt (suc i) (length path))
        where
          by_place : (suc i < length path) ⊎ (length path ≤ suc i) → IsFlatMoment (with_history m fs) (value i)
          by_place (inl more) = subst (IsFlatMoment (with_history m fs)) (same_now i more) (of_step i more).is_moment
          by_place (inr none) = subst (λ n. IsFlatMoment (with_history m fs) (value n)) (last i (length path) l none) bad_end.moment
            where
              last : (i n : ℕ) → i < n → n ≤ suc i → n - 1 ≡ i
              last i n l h = omega (arith, l, h)

      first_at : IsFlatFirst (with_history m fs) (value 0)
      first_at =
          let v = searched.encoded.first_means (state_in system (at 0)) is.starts_first in
          searched.encoded.first_free v.0 (value 0) v.1.domains (in_domains 0 is.some) (v.3 ∙ sym (read.states 0 is.some)) v.2

      pub is_long : IsFlatTrace (with_history m fs) long
      is_long = record {
        first = first_by_place (λ v. Each (Rattle.smv_language.specs.Flat.Holds (with_history m fs) v v) (with_history m fs).at_first) [] long (subst (λ n. 0 < n) (sym read.one_each) is.some) first_at;
        moments = each_by_place (IsFlatMoment (with_history m fs)) [] long (λ i l. moment_at i (subst (λ n. i < n) read.one_each l));
        steps = pairs_by_place (IsFlatStep (with_history m fs)) [] long (λ i l. step_at i (subst (λ n. suc i < n) read.one_each l));
      }

      pub ends_bad : IsBadMoment (with_history m fs) top (history_of m fs) sets size (last_of long)
      ends_bad = subst (IsBadMoment (with_history m fs) top (history_of m fs) sets size) (ap (λ n. slice_index_or long (n - 1) []) (sym read.one_each) ∙ sym (last_place long)) bad_end

  pub path_is_lawful : PathIsLawful problem
  path_is_lawful size sets bad k path searched lists is i l = lawful searched size sets bad lists k path is i l

  pub path_is_found : PathIsFound problem
  path_is_found size found bad k path long searched are lists is read =
      by_trace ((history_exactly m fs searched.own searched.modes long).0 (is_long searched size (sets_of found) bad lists k path is long read))
      (ends_bad searched size (sets_of found) bad lists k path is long read)
    where
      history : List ℕ
      history = history_of m fs

      -- from the trace without history
      by_trace : ((trace : FlatTrace) × IsFlatTrace m trace × (long ≡ told_from m fs [] trace)) → IsBadMoment (with_history m fs) top (history_of m fs) (sets_of found) size (last_of long) →
          IsFoundFlat problem size (found_of problem long) × IsNew (failed_in (history_of m fs) (last_of long)) found
      by_trace t ends = with_trace t.0 t.1 t.2
        where
          new : IsNew (failed_in (history_of m fs) (last_of long)) found
          new =
              each_both (IsFound FlatTrace (IsFlatTrace m) (ReachesTop m top) (HasFailedNumber m fs) (length fs) size) (λ f. AtSome (λ i. bit_of (history_of m fs) (last_of long) i ≡ false) f.set)
              (λ f. is_contained f.set (failed_in (history_of m fs) (last_of long)) ≡ false)
              (λ f h s. unlisted_means (history_of m fs) (last_of long) f.set (subst (λ n. IsNumbered n f.set) (sym (length-range_with_len (length m.variables) (length fs))) h.numbered) s) found
              (each_found FlatTrace (IsFlatTrace m) (ReachesTop m top) (HasFailedNumber m fs) (length fs) size found are)
              (each_of_map (AtSome (λ i. bit_of (history_of m fs) (last_of long) i ≡ false)) (λ f. f.set) found ends.unlisted)

          numbered : IsNumbered (length fs) (failed_in (history_of m fs) (last_of long))
          numbered =
              each_kept (λ i. (1 ≤ i) × (i < 1 + length (history_of m fs))) (λ i. (1 ≤ i) × (i ≤ length fs)) (λ i h. (h.0, at_most i (length (history_of m fs)) (length fs) (length-range_with_len (length m.variables) (length fs)) h.1))
              (failed_in (history_of m fs) (last_of long)) (where_within (is_true_at (last_of long)) 1 (history_of m fs))
            where
              at_most : (i a b : ℕ) → a ≡ b → i < 1 + a → i ≤ b
              at_most i a b e l = omega (arith, e, l)

          with_trace : (trace : FlatTrace) → IsFlatTrace m trace → long ≡ told_from m fs [] trace →
              IsFoundFlat problem size (found_of problem long) × IsNew (failed_in (history_of m fs) (last_of long)) found
          with_trace [] one e = absurd one.first
          with_trace (v ∷ vs) one e = (
            record {
              rising = where_rising (is_true_at (last_of long)) 1 (history_of m fs);
              numbered = numbered;
              small = subst (λ n. n ≤ size) (count_where (is_true_at (last_of long)) 1 (history_of m fs)) ends.small;
              shown = subst (λ t. Shows FlatTrace (IsFlatTrace m) (ReachesTop m top) (HasFailedNumber m fs) t (failed_in (history_of m fs) (last_of long))) (sym cut)
                  (subst (λ s. Shows FlatTrace (IsFlatTrace m) (ReachesTop m top) (HasFailedNumber m fs) (v ∷ vs) s) (sym tells)
                  (record {
                    is_one = one;
                    reaching = to_last (λ v. FlatMay m v v top (truth true)) v vs
                        (reached_shorter problem searched (last_of (v ∷ vs)) (bits_after m fs (v ∷ vs)) last_moment.domains
                        (subst (λ u. FlatMay m u u top (truth true)) (ap last_of e ∙ last_told m fs [] v vs) ends.reaches));
                    exactly = failed_exactly m fs (v ∷ vs);
                  }));
            },
            new,
          )
            where
              last_moment : IsFlatMoment m (last_of (v ∷ vs))
              last_moment = each_last (IsFlatMoment m) v vs one.moments

              tells : failed_in (history_of m fs) (last_of long) ≡ failed_set m fs (v ∷ vs)
              tells =
                  ap (λ u. failed_in (history_of m fs) u) (ap last_of e ∙ last_told m fs [] v vs)
                  ∙ last_tells m fs (v ∷ vs) (last_of (v ∷ vs)) (domains_length m.variables (last_of (v ∷ vs)) (each_last (IsFlatMoment m) v vs one.moments).domains)

              cut : map (take (length m.variables)) long ≡ (v ∷ vs)
              cut =
                  ap (map (take (length m.variables))) e
                  ∙ cut_told m fs (length m.variables) [] (v ∷ vs) (each_kept (IsFlatMoment m) (λ v. length v ≡ length m.variables) (λ v h. domains_length m.variables v h.domains) (v ∷ vs) one.moments)
