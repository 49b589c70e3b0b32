-- An invariant that excludes the bad states of listed sets shows that they cover all traces.
use Rattle.std.proofs.Common.{◌≡◌, ◌⊎◌, inl, inr, ℕ, ◌≤◌, Bool, true, false, List, [], ◌∷◌, ◌++◌, length, refl, sym, ap, ◌∙◌, subst}
use Rattle.std.specs.Prelude.{Contains, filter}
use Rattle.smv_language.specs.Language.{Tree, Value, Each, EachPair, AtSome, FlatLeaf, FlatModel, FlatMay}
use Rattle.smv_language.specs.Values.{truth}
use Rattle.smv_flat_laws.specs.History.{Mode, with_history, added}
use Rattle.smv_flat_laws.specs.FlatTrace.{IsFlatMoment, IsFlatStep, IsFlatTrace, bits_after, told_from, IsOwnFormula}
use Rattle.smv_flat_laws.proofs.HistoryTraces.{holds_longer, history_exactly, domains_length as as_many}
use Rattle.sat_clauses.specs.Literal.{Literal}
use Rattle.sat_clauses.specs.declared.system.System.{System}
use Rattle.sat_clauses.specs.States.{State, IsStepOf, IsStepUnder, InFrame, IsInvariant}
use Rattle.cut_right_laws.specs.Sets.{is_contained}
use Rattle.cut_right_laws.specs.Right.{HasFailedAll, HasFailedAtMost}
use Rattle.sat_encoding_laws.specs.Encodings.{is_true_at, bit_of, IsEncodingOf, IsBadListOf}
use Rattle.sat_encoding_laws.specs.FlatTraces.{ReachesTop, HasFailedNumber, failed_set, last_of, history_of, failed_in, IsNumbered}
use Rattle.sat_encoding_laws.specs.EncodedLaws.{AreOwn, IsEncoded, InvariantsCover}
use Rattle.sat_encoding_laws.proofs.SetLaws.{true_or_false, has_contains, contains_has, contained_has}
use Rattle.sat_encoding_laws.proofs.Numbers.{count_where}
use Rattle.sat_encoding_laws.proofs.HistoryFacts.{at_last, each_last, last_told, last_tells, range_length, unlisted_comes, failed_exactly, failed_small}
use Rattle.smv_language.proofs.ListLaws.{contains_later}
use Rattle.base_values.proofs.ListLaws.{contains_here}

-- a set is within the numbers, or none is
some_within : (numbers : List ℕ) (sets : List (List ℕ)) →
    ((set : List ℕ) × Contains sets set × (is_contained set numbers ≡ true)) ⊎ Each (λ set. is_contained set numbers ≡ false) sets
some_within numbers [] = inr tt
some_within numbers (set ∷ sets) = by_first (true_or_false (is_contained set numbers)) (some_within numbers sets)
  where
    by_first : (is_contained set numbers ≡ true) ⊎ (is_contained set numbers ≡ false) →
        ((s : List ℕ) × Contains sets s × (is_contained s numbers ≡ true)) ⊎ Each (λ s. is_contained s numbers ≡ false) sets →
        ((s : List ℕ) × Contains (set ∷ sets) s × (is_contained s numbers ≡ true)) ⊎ Each (λ s. is_contained s numbers ≡ false) (set ∷ sets)
    by_first (inl e) rest = inl (set, contains_here set sets, e)
    by_first (inr e) (inl found) = inl (found.0, contains_later found.0 set sets found.1, found.2)
    by_first (inr e) (inr none) = inr (e, none)

-- a step under some inputs is a step
step_of_under : (system : System) (inputs : List Bool) (s t : State) → IsStepUnder system inputs s t → IsStepOf system s t
step_of_under system inputs s t h = (h.0, h.1, (h.2.0, h.2.1, h.2.2, h.2.4))

-- The invariant holds along a trace of the encoded model.
module _ (made : FlatModel) (system : System) (state_of inputs_of : List Value → List Bool) (encoding : IsEncodingOf made system state_of inputs_of) (bad clauses : List (List Literal)) (invariant : IsInvariant system bad clauses) where
  along : (v : List Value) (vs : List (List Value)) → Each (IsFlatMoment made) (v ∷ vs) → EachPair (IsFlatStep made) (v ∷ vs) → InFrame system clauses (state_of v) → InFrame system clauses (state_of (last_of (v ∷ vs)))
  along v [] moments steps inside = inside
  along v (w ∷ vs) moments steps inside =
      along w vs moments.1 steps.1
      (invariant.is_kept (state_of v) (state_of w) inside (step_of_under system (inputs_of v) (state_of v) (state_of w) (encoding.step_comes v w moments.0 moments.1.0 steps.0)))

  pub at_end : (v : List Value) (vs : List (List Value)) → IsFlatTrace made (v ∷ vs) → InFrame system clauses (state_of (last_of (v ∷ vs)))
  at_end v vs trace = along v vs trace.moments trace.steps (invariant.holds_first (state_of v) (encoding.first_comes v trace.moments.0 trace.first))

module _ (m : FlatModel) (fs : List Mode) (top : Tree FlatLeaf) (own : AreOwn m fs top) (system : System) (encoded : IsEncoded m fs system) (size : ℕ) (sets : List (List ℕ)) (numbered : Each (IsNumbered (length fs)) sets)
    (bad clauses : List (List Literal)) (is_bad : IsBadListOf (with_history m fs) system encoded.state_of top (history_of m fs) sets size bad) (invariant : IsInvariant system bad clauses) where
  -- the top event at a valuation, and at that with its history
  top_longer : (v bits : List Value) → length v ≡ length m.variables → FlatMay m v v top (truth true) → FlatMay (with_history m fs) (v ++ bits) (v ++ bits) top (truth true)
  top_longer v bits long may =
      let reads_own : Each (IsOwnFormula (length v)) m.definitions = subst (λ n. Each (IsOwnFormula n) m.definitions) (sym long) own.names_own.definitions in
      let reads : IsOwnFormula (length v) (added top) = subst (λ n. IsOwnFormula n (added top)) (sym long) own.top_own in
      (may.0, holds_longer m v v bits bits refl reads_own (added top) reads ∙ may.1, may.2)

  covered : (v : List Value) (vs : List (List Value)) → IsFlatTrace m (v ∷ vs) → ReachesTop m top (v ∷ vs) →
      HasFailedAtMost (List (List Value)) (IsFlatTrace m) (ReachesTop m top) (HasFailedNumber m fs) size (v ∷ vs) →
      (set : List ℕ) × Contains sets set × HasFailedAll (List (List Value)) (IsFlatTrace m) (ReachesTop m top) (HasFailedNumber m fs) (v ∷ vs) set
  covered v vs trace reaches few = by_sets (some_within (failed_set m fs (v ∷ vs)) sets)
    where
      end : List Value
      end = last_of (v ∷ vs)

      told : List Value
      told = last_of (told_from m fs [] (v ∷ vs))

      is_told : told ≡ last_of (v ∷ vs) ++ bits_after m fs (v ∷ vs)
      is_told = last_told m fs [] v vs

      by_sets : ((set : List ℕ) × Contains sets set × (is_contained set (failed_set m fs (v ∷ vs)) ≡ true)) ⊎ Each (λ set. is_contained set (failed_set m fs (v ∷ vs)) ≡ false) sets →
          (set : List ℕ) × Contains sets set × HasFailedAll (List (List Value)) (IsFlatTrace m) (ReachesTop m top) (HasFailedNumber m fs) (v ∷ vs) set
      by_sets (inl found) = (
        found.0,
        found.1,
        λ i h. (failed_exactly m fs (v ∷ vs) i).1 (has_contains (failed_set m fs (v ∷ vs)) i (contained_has found.0 (failed_set m fs (v ∷ vs)) i found.2 (contains_has found.0 i h))),
      )
      by_sets (inr none) = absurd (invariant.excludes (encoded.state_of told) (at_end (with_history m fs) system encoded.state_of encoded.inputs_of encoded.encoding bad clauses invariant (v ++ bits_after m fs (v ∷ [])) (told_from m fs (v ∷ []) vs) with_bits)
          (is_bad.bad_comes told (record {
            moment = each_last (IsFlatMoment (with_history m fs)) (v ++ bits_after m fs (v ∷ [])) (told_from m fs (v ∷ []) vs) with_bits.moments;
            reaches = subst (λ u. FlatMay (with_history m fs) u u top (truth true)) (sym is_told)
                (top_longer end (bits_after m fs (v ∷ vs)) long (at_last (λ u. FlatMay m u u top (truth true)) v vs reaches));
            small = few_bits;
            unlisted = each_free sets numbered none;
          })))
        where
          with_bits : IsFlatTrace (with_history m fs) (told_from m fs [] (v ∷ vs))
          with_bits = (history_exactly m fs own.names_own own.modes (told_from m fs [] (v ∷ vs))).1 (v ∷ vs, trace, refl)

          long : length end ≡ length m.variables
          long = as_many m.variables end (each_last (IsFlatMoment m) v vs trace.moments).domains

          tells : failed_in (history_of m fs) told ≡ failed_set m fs (v ∷ vs)
          tells = ap (failed_in (history_of m fs)) is_told ∙ last_tells m fs (v ∷ vs) end long

          few_bits : length (filter (is_true_at told) (history_of m fs)) ≤ size
          few_bits = subst (λ n. n ≤ size) (sym (count_where (is_true_at told) 1 (history_of m fs) ∙ ap length tells)) (failed_small m fs (v ∷ vs) size few)

          each_free : (sets : List (List ℕ)) → Each (IsNumbered (length fs)) sets → Each (λ set. is_contained set (failed_set m fs (v ∷ vs)) ≡ false) sets →
              Each (AtSome (λ i. bit_of (history_of m fs) told i ≡ false)) sets
          each_free [] n h = tt
          each_free (set ∷ more) n h = (
            unlisted_comes (history_of m fs) told set (subst (λ k. IsNumbered k set) (sym (range_length (length m.variables) (length fs))) n.0) (ap (is_contained set) tells ∙ h.0),
            each_free more n.1 h.1,
          )

pub invariants_cover : InvariantsCover
invariants_cover m fs top own system encoded size sets numbered bad clauses is_bad invariant [] trace reaches few = absurd reaches
invariants_cover m fs top own system encoded size sets numbered bad clauses is_bad invariant (v ∷ vs) trace reaches few =
    covered m fs top own system encoded size sets numbered bad clauses is_bad invariant v vs trace reaches few
