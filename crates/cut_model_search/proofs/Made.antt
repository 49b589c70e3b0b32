-- The certificate of a complete analysis is accepted, and can be written.
use Rattle.std.proofs.Common.{◌≡◌, ◌≢◌, ◌⊎◌, inl, inr, ℕ, ◌+◌, ◌≤◌, ◌<◌, ◌^◌, Bool, true, false, ◌||◌, nat_lt, lt-ltb, List, [], ◌∷◌, ◌++◌, length, map, Some, refl, sym, ◌∙◌, ap, subst, arith}
use Rattle.std.specs.Prelude.{All, slice_get}
use Rattle.std.specs.List.{AllByRecursion}
use Rattle.std.proofs.lemmas.Bool.{cases_lt}
use Rattle.std.proofs.lemmas.List.{length-map}
use Rattle.std.proofs.lemmas.List.Elements.{recursion_from_All}
use Rattle.smv_language.specs.Language.{Tree, Text, Value as Told, Each, FlatLeaf, FlatModel, told_value, told_moment, told_trace}
use Rattle.base_values.specs.declared.value.Value.{Value}
use Rattle.base_values.specs.declared.limits.TheConstants.{MOST_BITS, MOST_COST}
use Rattle.smv_flat_laws.specs.FlatTrace.{AreInDomains, IsFlatMoment, IsFlatTrace}
use Rattle.smv_flat_laws.specs.History.{Mode, with_history}
use Rattle.smv_type_laws.specs.Costs.{model_cost, state_bits}
use Rattle.sat_clauses.specs.Literal.{Literal}
use Rattle.sat_clauses.specs.Hints.{HasNoOpposites}
use Rattle.sat_clauses.specs.States.{State, IsBad, InFrame, IsOverBits, IsInvariant}
use Rattle.cut_right_laws.specs.Sets.{IsRising, stands_before}
use Rattle.cut_right_laws.specs.Right.{Shows}
use Rattle.cut_right_laws.specs.Laws.{AreBoth}
use Rattle.cut_right_laws.proofs.Places.{place_within}
use Rattle.sat_encoding_laws.specs.Encodings.{IsBadListOf, IsBadMoment}
use Rattle.sat_encoding_laws.specs.FlatTraces.{ReachesTop, HasFailedNumber, IsNumbered, IsRightFlat, history_of}
use Rattle.sat_encoding_laws.specs.Bits.{state_of}
use Rattle.sat_encoding_laws.specs.Lists.{system_of, bad_list}
use Rattle.sat_encoding_laws.specs.Encodable.{IsEncodable}
use Rattle.sat_encoding_laws.proofs.EncodingLaws.{bad_states_encoded}
use Rattle.sat_encoding_laws.proofs.HistoryPlaces.{history_last}
use Rattle.cut_search_laws.specs.FoundSets.{traces_of}
use Rattle.cut_search_laws.specs.Problem.{problem_of}
use Rattle.cut_search.specs.Answer.{IsEnd}
use Rattle.cut_search.specs.Progress.{CodeFound}
use Rattle.cut_search.specs.Values.{value_of, values_of, trace_of, all_found}
use Rattle.cut_search.specs.declared.answer.Analysis.{Analysis}
use Rattle.cut_search.specs.declared.answer.End.TheVariants.{Complete}
use Rattle.cut_search.proofs.SearchLemmas.{sets_same, sets_numbered}
use Rattle.cut_text_laws.specs.TraceOfText.{GivesTrace}
use Rattle.cut_text_laws.specs.TraceText.{trace_lines}
use Rattle.cut_text_laws.proofs.Printed.{printed_gives_alone}
use Rattle.cert_laws.specs.Certificate.{Certificate, Part, part_first, part_next, part_bad, steps_in}
use Rattle.cert_laws.specs.Acceptance.{Subject, givens, goals}
use Rattle.cert_laws.specs.CertificateText.{IsLiteral, IsSmall, IsWritableText, IsWritable}
use Rattle.cert_making.specs.Queries.{IsSoFar}
use Rattle.cert_making.specs.PartDerivations.{AreDerived}
use Rattle.cert_making.specs.declared.parts.PartDerivations.{PartDerivations}
use Rattle.cert_making.proofs.Queries.{all_covered_derived}
use Rattle.cert_laws.specs.Certification.{IsCertified}
use Rattle.cert_laws.specs.AnalysisCertificates.{GivesAlone, IsOfAnalysis}
use Rattle.cert_laws.proofs.Analysed.{analysed_is_accepted}
use Rattle.cert_laws.specs.Subject.{subject_of}
use Rattle.cert_laws.proofs.Subjects.{subjects_right}
use Rattle.cut_model_search.specs.Texts.{text_lines, CanBePrinted}
use Rattle.cut_model_search.specs.Certifiable.{IsCertifiable, IsProof, certificate_of}
use Rattle.cut_model_search.specs.FaultyModels.{FaultyValue, flat_in, modes_in, event_in, whole_in, bad_in, CanBeSearched}
use Rattle.cut_model_search.proofs.Places.{all_by_place, recursion_from_each, recursion_from_all, pair_at, both_mapped}
use Rattle.cut_report_laws.proofs.Printed.{same_value, map_same as same_maps}
use Rattle.sat_encoding_laws.proofs.SetLaws.{each_kept}
use Rattle.smv_flat_laws.proofs.Conditions.{each_at}
use Rattle.smv_language.proofs.ListLaws.{get_map}
use Rattle.base_values.proofs.ListLaws.{get_within}

pub same_told : (symbols : List Text) (trace : List (List Value)) → told_trace symbols trace ≡ trace_of symbols trace
same_told symbols trace = same_maps (told_moment symbols) (values_of symbols) (λ v. same_maps (told_value symbols) (value_of symbols) (same_value symbols) v) trace

traces_same : (symbols : List Text) (found : List CodeFound) → traces_of (all_found symbols found) ≡ map (trace_of symbols) (traces_of found)
traces_same symbols [] = refl
traces_same symbols (f ∷ fs) = ap (λ more. trace_of symbols f.trace ∷ more) (traces_same symbols fs)

-- A model that can be encoded with its history has at most `MOST_BITS` bits, and as many faults.
module _ (m : FlatModel) (fs : List Mode) (is : IsEncodable (with_history m fs)) where
  pub few_bits : state_bits (with_history m fs) ≤ MOST_BITS
  few_bits = by_tests (nat_lt MOST_COST (model_cost (with_history m fs))) (nat_lt MOST_BITS (state_bits (with_history m fs))) refl is.typed.small
    where
      by_cases : (n : ℕ) → nat_lt MOST_BITS n ≡ false → (MOST_BITS < n) ⊎ (n ≤ MOST_BITS) → n ≤ MOST_BITS
      by_cases n t (inl more) = let bad : true ≡ false = sym (lt-ltb MOST_BITS n more) ∙ t in cc
      by_cases n t (inr few) = few

      by_tests : (a b : Bool) → nat_lt MOST_BITS (state_bits (with_history m fs)) ≡ b → (a || b) ≡ false → state_bits (with_history m fs) ≤ MOST_BITS
      by_tests true b t e = cc
      by_tests false true t e = cc
      by_tests false false t e = by_cases (state_bits (with_history m fs)) t (cases_lt MOST_BITS (state_bits (with_history m fs)))

  pub few_faults : length fs ≤ MOST_BITS
  few_faults = let bits : state_bits (with_history m fs) ≡ state_bits m + length fs = (history_last m fs).1 in omega (arith, few_bits, bits)

-- The analysis is complete.
module _ (v : FaultyValue) (can : CanBeSearched v) (a : Analysis) (is : IsCertifiable v a) (clauses : List (List Literal)) (complete : a.end ≡ Complete clauses) where
  abbrev m : FlatModel
  m = flat_in v

  abbrev fs : List Mode
  fs = modes_in v

  abbrev top : Tree FlatLeaf
  top = event_in v

  abbrev full : FlatModel
  full = whole_in v

  abbrev subject : Subject
  subject = subject_of full m fs top

  ends : IsEnd (problem_of m fs top) is.depth a.size is.answer.found (Complete clauses)
  ends = subst (IsEnd (problem_of m fs top) is.depth a.size is.answer.found) complete is.answer.ends

  right : IsRightFlat m fs top a.size (IsFlatTrace m) a.sets (map (trace_of m.symbols) a.traces)
  right =
      subst (λ ts. IsRightFlat m fs top a.size (IsFlatTrace m) a.sets ts) (traces_same m.symbols is.answer.found ∙ ap (map (trace_of m.symbols)) (sym is.answer.traces))
      (subst (λ ss. IsRightFlat m fs top a.size (IsFlatTrace m) ss (traces_of (all_found m.symbols is.answer.found))) (sets_same m.symbols is.answer.found ∙ sym is.answer.sets) ends.1)

  numbered : Each (IsNumbered (length fs)) a.sets
  numbered = sets_numbered (problem_of m fs top) a.size is.answer.found a.sets is.answer.sets is.answer.are

  -- Its invariant is one of the exact lists.
  exact_bad : IsBadListOf full (system_of full) (state_of full) top (history_of m fs) a.sets a.size (bad_list full top (history_of m fs) a.sets a.size)
  exact_bad = bad_states_encoded full can.encodable top can.fits (history_of m fs) (history_last m fs).0 a.sets a.size

  excluded : (s : State) → InFrame (system_of full) clauses s → ((v : List Told) × IsBadMoment full top (history_of m fs) a.sets a.size v × (state_of full v ≡ s)) → ⊥
  excluded s inside v =
      ends.0.invariant.excludes s inside
      (subst (IsBad (system_of full) ends.0.bad) v.2 (ends.0.is_bad.bad_comes v.0 (subst (λ ss. IsBadMoment full top (history_of m fs) ss a.size v.0) is.answer.sets v.1)))

  invariant : IsInvariant (system_of full) (bad_list full top (history_of m fs) a.sets a.size) clauses
  invariant = record {
    holds_first = ends.0.invariant.inductive.holds_first;
    is_kept = ends.0.invariant.inductive.is_kept;
    excludes = λ s inside here. excluded s inside (exact_bad.bad_means s here);
  }

  pub proof : IsProof v a clauses
  proof = record { over_bits = ends.0.invariant.inductive.over_bits; apart = ends.0.invariant.inductive.apart; invariant = invariant }

  -- Each of its traces shows a set.
  shown : (k : ℕ) (trace : List (List Value)) → slice_get a.traces k ≡ Some trace →
      (set : List ℕ) × (slice_get a.sets k ≡ Some set) × Shows (List (List Told)) (IsFlatTrace m) (ReachesTop m top) (HasFailedNumber m fs) (trace_of m.symbols trace) set
  shown k trace at =
      let there : slice_get (map (trace_of m.symbols) a.traces) k ≡ Some (trace_of m.symbols trace) = get_map (trace_of m.symbols) a.traces k trace at in
      let set : (set : List ℕ) × (slice_get a.sets k ≡ Some set) =
      get_within a.sets k (subst (λ n. k < n) right.one_each (place_within (map (trace_of m.symbols) a.traces) k (trace_of m.symbols trace) there)) in
      (set.0, set.1, right.shown k set.0 (trace_of m.symbols trace) set.1 there)

  some_set : (k : ℕ) (set : List ℕ) → slice_get a.sets k ≡ Some set → a.sets ≢ []
  some_set k set at none = let within : k < length a.sets = place_within a.sets k set at in let e : length a.sets ≡ 0 = ap length none in absurd (omega (arith, within, e))

  domains : (k : ℕ) (trace : List (List Value)) → slice_get a.traces k ≡ Some trace → Each (AreInDomains m.variables) (trace_of m.symbols trace)
  domains k trace at = each_kept (IsFlatMoment m) (AreInDomains m.variables) (λ v h. h.domains) (trace_of m.symbols trace) (shown k trace at).2.is_one.moments

  can_print : (k : ℕ) (trace : List (List Value)) → slice_get a.traces k ≡ Some trace → CanBePrinted v.model trace
  can_print k trace at = record {
    printable = is.printable (some_set k (shown k trace at).0 (shown k trace at).1);
    within = subst (Each (AreInDomains m.variables)) (sym (same_told m.symbols trace)) (domains k trace at);
  }

  pub all_print : All (CanBePrinted v.model) a.traces
  all_print = all_by_place (CanBePrinted v.model) a.traces can_print

  -- So its texts give its traces, and no other.
  not_empty : (trace : List (List Told)) → IsFlatTrace m trace → trace ≢ []
  not_empty [] h e = h.first
  not_empty (v ∷ vs) h e = let bad : length (v ∷ vs) ≡ 0 = ap length e in absurd (omega (arith, bad))

  gives_alone : (k : ℕ) (trace : List (List Value)) → slice_get a.traces k ≡ Some trace → GivesAlone (GivesTrace m) (text_lines v.model trace) (trace_of m.symbols trace)
  gives_alone k trace at =
      subst (λ t. GivesAlone (GivesTrace m) (trace_lines m 0 t) (trace_of m.symbols trace)) (sym (same_told m.symbols trace))
      (let printed = printed_gives_alone m (can_print k trace at).printable (trace_of m.symbols trace) (not_empty (trace_of m.symbols trace) (shown k trace at).2.is_one) (domains k trace at) in
      record { gives = printed.0; alone = printed.1 })

  texts_both : AreBoth (GivesAlone (GivesTrace m)) (map (text_lines v.model) a.traces) (map (trace_of m.symbols) a.traces)
  texts_both = both_mapped (GivesAlone (GivesTrace m)) (text_lines v.model) (trace_of m.symbols) a.traces gives_alone

  -- The certificate of clauses and their parts.
  module _ (some : List (List Literal)) (over : All (IsOverBits (system_of full)) some) (no_opposites : All HasNoOpposites some) (parts : PartDerivations)
      (derived : AreDerived (system_of full) some (bad_in v a.sets a.size) parts) where
    abbrev made : Certificate
    made = certificate_of v a (map (text_lines v.model) a.traces) some parts

    so_far : (part : Part) → IsSoFar (givens subject made part) (steps_in made part) (goals subject made part)
    so_far part_first = derived.first
    so_far part_next = derived.next
    so_far part_bad = derived.bad

    of_analysis : IsOfAnalysis (GivesTrace m) m fs top subject made
    of_analysis = record {
      numbers = record { bits = refl; faults = refl; size = is.small };
      traces = map (trace_of m.symbols) a.traces;
      right = right;
      rising = λ k set at. each_at IsRising a.sets k set is.answer.rising at;
      in_order = λ k set next at there. pair_at (λ s t. Rattle.std.specs.Prelude.IsTrue (stands_before s t)) a.sets is.answer.in_order k set next at there;
      texts = texts_both;
      over_bits = over;
      no_opposites = no_opposites;
      derived = λ part. all_covered_derived subject made part (so_far part);
    }

    pub certified : IsCertified m fs top (GivesTrace m) subject made
    certified = analysed_is_accepted (GivesTrace m) m fs top subject (subjects_right m fs top can.encodable can.fits) made of_analysis

    -- Its numbers are small.
    small_below : (n : ℕ) → n ≤ MOST_BITS → n < 2 ^ 31
    small_below n h = omega (arith, h)

    small_set : (set : List ℕ) → IsNumbered (length fs) set → AllByRecursion IsSmall set
    small_set set h = recursion_from_each (λ i. (Rattle.std.proofs.Common.◌≤◌ 1 i) × (i ≤ length fs)) IsSmall (λ i h. small_below i (below i (length fs) h.1 (few_faults m fs can.encodable))) set h
      where
        below : (i n : ℕ) → i ≤ n → n ≤ MOST_BITS → i ≤ MOST_BITS
        below i n h k = omega (arith, h, k)

    small_clause : (c : List Literal) → IsOverBits (system_of full) c → AllByRecursion IsLiteral c
    small_clause c h = recursion_from_all (λ (l : Literal). (2 ≤ l.var) × (l.var < state_bits full + 2)) IsLiteral
        (λ l k. (low l.var k.0, high l.var (state_bits full) k.1 (few_bits m fs can.encodable))) c h
      where
        low : (n : ℕ) → 2 ≤ n → 1 ≤ n
        low n h = omega (arith, h)

        high : (n k : ℕ) → n < k + 2 → k ≤ MOST_BITS → n < 2 ^ 63
        high n k h l = omega (arith, h, l)

    pub writable : length a.sets < 2 ^ 63 → length some < 2 ^ 63 → All IsWritableText (map (text_lines v.model) a.traces) → IsWritable made
    writable few_sets few_clauses texts = record {
      one_each = length-map a.traces (text_lines v.model) ∙ sym (length-map a.traces (trace_of m.symbols)) ∙ right.one_each;
      bits = small_below (state_bits full) (few_bits m fs can.encodable);
      faults = small_below (length fs) (few_faults m fs can.encodable);
      size = small_below a.size (let few : length fs ≤ MOST_BITS = few_faults m fs can.encodable in omega (arith, few, is.small));
      count_of_sets = few_sets;
      sets = recursion_from_each (IsNumbered (length fs)) (AllByRecursion IsSmall) small_set a.sets numbered;
      traces = recursion_from_All IsWritableText (map (text_lines v.model) a.traces) texts;
      count_of_clauses = few_clauses;
      clauses = recursion_from_all (IsOverBits (system_of full)) (AllByRecursion IsLiteral) small_clause some over;
      first = derived.first_writable;
      next = derived.next_writable;
      bad = derived.bad_writable;
    }
