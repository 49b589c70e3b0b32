-- Sets that are right for traces and of which there are none leave no trace that reaches.
use Rattle.std.proofs.Common.{◌≡◌, ℕ, ◌+◌, ◌<◌, ◌≤◌, true, false, List, [], ◌∷◌, length, Some, None, refl, sym, ap, ◌∙◌, subst, arith, ◌⊎◌, inl, inr}
use Rattle.std.specs.Prelude.{slice_get, Contains, nat_le}
use Rattle.std.proofs.lemmas.Bool.Decides.{leb_tells}
use Rattle.smv_language.specs.Language.{Tree, Text, Value, FlatLeaf, FlatModel}
use Rattle.base_values.specs.declared.value.Value.{Value as Numbered}
use Rattle.smv_flat_laws.specs.FlatTrace.{IsFlatTrace}
use Rattle.cut_right_laws.specs.Right.{HasFailedAtMost}
use Rattle.sat_encoding_laws.specs.FlatTraces.{ReachesTop, HasFailedNumber, IsShortTrace, IsRightFlat}
use Rattle.cut_search_laws.specs.FoundSets.{sets_of, traces_of}
use Rattle.cut_search.specs.declared.answer.End.{End}
use Rattle.cut_search.specs.declared.answer.End.TheVariants.{Complete, Bounded}
use Rattle.cut_search.specs.Answer.{IsEnd}
use Rattle.cut_search.specs.Progress.{CodeFound, AreListed}
use Rattle.cut_search.specs.Values.{trace_of, all_found}
use Rattle.cut_text_laws.specs.TraceOfText.{GivesTrace}
use Rattle.cert_laws.proofs.Certified.{certified_is_right}
use Rattle.cut_reach_laws.specs.FaultlessLaws.{class_of, NoneReaches, without_faults, EmptyAnswersRefute, FoundTracesReach, AcceptedRefute}

in_none : (set : List ℕ) → Contains {X = List ℕ} [] set → ⊥
in_none set h = let l = h.1 in omega (arith, l)

module _ (m : FlatModel) (e : Tree FlatLeaf) where
  -- of no faults none has failed
  none_failed : (size : ℕ) (trace : List (List Value)) → HasFailedAtMost (List (List Value)) (IsFlatTrace m) (ReachesTop m e) (HasFailedNumber m []) size trace
  none_failed size trace = ([], omega arith, λ i h. let bad : None ≡ Some h.0 = h.2 in cc)

  -- no set is right where no trace of the class reaches
  refuted : (class : List (List Value) → Type 0) (size : ℕ) (sets : List (List ℕ)) (traces : List (List (List Value))) → sets ≡ [] → IsRightFlat m [] e size class sets traces →
      (long : List (List Value)) → class long → ReachesTop m e long → ⊥
  refuted class size sets traces empty right long is reach =
      let covered = right.covered long is reach (none_failed size long) in in_none covered.0 (subst (λ s. Contains s covered.0) empty covered.1)

empty_found : (symbols : List Text) (found : List CodeFound) → length (traces_of found) ≡ 0 → sets_of (all_found symbols found) ≡ []
empty_found symbols [] e = refl
empty_found symbols (f ∷ found) e = absurd (omega (arith, e))

within : (n k : ℕ) → nat_le n (k + 1) ≡ true → n ≤ k + 1
within n k e = by (leb_tells n (k + 1))
  where
    by : ((nat_le n (k + 1) ≡ true) × (n ≤ k + 1)) ⊎ ((nat_le n (k + 1) ≡ false) × (k + 1 < n)) → n ≤ k + 1
    by (inl h) = h.1
    by (inr h) = let bad : true ≡ false = sym e ∙ h.0 in cc

pub empty_refute : EmptyAnswersRefute
empty_refute problem depth size a answer none = by a.end answer.ends
  where
    open problem use {model as m, top as e}

    empty : sets_of (all_found m.symbols answer.found) ≡ []
    empty = empty_found m.symbols answer.found (sym (ap length answer.traces) ∙ none)

    by : (end : End) → IsEnd (without_faults problem) depth size answer.found end → NoneReaches m e (class_of end)
    by (Complete clauses) h long is class reach = refuted m e (IsFlatTrace m) size (sets_of (all_found m.symbols answer.found)) (traces_of (all_found m.symbols answer.found)) empty h.1 long is reach
    by (Bounded k) h long is class reach =
        refuted m e (IsShortTrace m k) size (sets_of (all_found m.symbols answer.found)) (traces_of (all_found m.symbols answer.found)) empty h.2 long (is, within (length long) k class) reach

pub found_reach : FoundTracesReach
found_reach problem depth size a answer trace at = by answer.found answer.are (subst (λ ts. slice_get ts 0 ≡ Some trace) answer.traces at)
  where
    open problem use {model as m, top as e}

    same_trace : (a b : List (List Numbered)) → Some a ≡ Some b → a ≡ b
    same_trace a b e = cc

    by : (found : List CodeFound) → AreListed (without_faults problem) size found → slice_get (traces_of found) 0 ≡ Some trace → IsFlatTrace m (trace_of m.symbols trace) × ReachesTop m e (trace_of m.symbols trace)
    by [] are is = let bad : None ≡ Some trace = is in cc
    by (f ∷ found) are is =
        let same : f.trace ≡ trace = same_trace f.trace trace is in
        (subst (λ t. IsFlatTrace m (trace_of m.symbols t)) same are.0.shown.is_one, subst (λ t. ReachesTop m e (trace_of m.symbols t)) same are.0.shown.reaching)

pub accepted_refute : AcceptedRefute
accepted_refute m e own subject is_subject c certified empty long is class reach =
    let both = certified_is_right (GivesTrace m) m [] e own subject is_subject c certified in
    let traces = both.0 in
    refuted m e (IsFlatTrace m) c.size c.sets traces.0 empty (both.1 traces.0 traces.1) long is reach
