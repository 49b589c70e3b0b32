-- A staged case can be searched with what speaks against a claim, and what was searched for can be certified.
use Rattle.std.proofs.Common.{◌≡◌, ℕ, ◌+◌, ◌≤◌, List, [], ◌∷◌, length, map, refl, sym, ap, ◌∙◌, subst, arith}
use Rattle.std.specs.Prelude.{Option}
use Rattle.std.proofs.lemmas.List.{length-map}
use Rattle.base_values.specs.declared.limits.TheConstants.{MOST_FAULTS}
use Rattle.smv_language.specs.Language.{Tree, program_tree, model_tree, flat_tree, variable_tree, FlatLeaf, FlatModel}
use Rattle.smv_flat_laws.specs.FaultModes.{mode_of}
use Rattle.smv_language.specs.declared.model.Fault.{Fault}
use Rattle.smv_language.specs.declared.model.FlatModel.{FlatModel as Model}
use Rattle.smv_flat_laws.specs.History.{Mode, with_history}
use Rattle.smv_flat_laws.proofs.HistoryLaws.{no_bits}
use Rattle.smv_type_laws.specs.Models.{IsTyped}
use Rattle.cut_search_laws.specs.Problem.{problem_of}
use Rattle.cut_search_laws.specs.Searchable.{IsSearchable}
use Rattle.fault_orders.specs.declared.Relation.{Relation}
use Rattle.fault_orders.specs.Stage.{stage, against}
use Rattle.cut_reach_laws.specs.Laws.{IsFaultNumber}
use Rattle.cut_reach_laws.proofs.Staged.{staged_searchable, staged_length}
use Rattle.cut_model_search.proofs.Analysable.{case_searchable, top_fits}
use Rattle.verb_orders.specs.declared.pair.PairCase.{PairCase}
use Rattle.verb_orders.specs.Pairs.{IsStagedCase}
use Rattle.cut_search_laws.specs.FoundSets.{sets_of, traces_of}
use Rattle.cut_search.specs.Answer.{IsAnswer}
use Rattle.cut_search.specs.Progress.{CodeFound}
use Rattle.cert_check.specs.Fit.{IsProvable}
use Rattle.cut_model_search.specs.Certifiable.{IsCertifiable}
use Rattle.cut_model_search.specs.FaultyModels.{faulty_of}
use Rattle.verb_orders.specs.declared.searched.Searched.{Searched}
use Rattle.verb_orders.specs.ClaimSearch.{HasFew, SpeaksFor, IsSearchOf}

module _ (s : PairCase) (is : IsStagedCase s) where
  abbrev plain : FlatModel
  plain = model_tree s.loaded.case.limited.typed.model

  abbrev modes : List Mode
  modes = map mode_of s.loaded.case.limited.faults

  same_count : length modes ≡ length s.loaded.case.limited.faults
  same_count = length-map s.loaded.case.limited.faults mode_of

  -- the staged model has the history bits and the two booleans
  pub has_room : length s.loaded.case.limited.faults + 2 ≤ length s.typed.model.variables
  has_room =
      let own = length-map s.typed.model.variables variable_tree in
      let all = ap (λ (m : FlatModel). length m.variables) is.staged.model ∙ staged_length plain modes s.asked.first s.asked.second in
      omega (arith, own, all, same_count)

  module _ (few : HasFew s) where
    event_searchable : IsSearchable plain modes (flat_tree s.loaded.top)
    event_searchable = case_searchable (program_tree s.loaded.model.program) s.loaded.case s.asked.top.now (flat_tree s.loaded.top) is.event few.symbols

    in_modes : (i : ℕ) → IsFaultNumber (length s.loaded.case.limited.faults) i → IsFaultNumber (length modes) i
    in_modes i of = subst (λ n. IsFaultNumber n i) (sym same_count) of

    few_modes : length modes ≤ MOST_FAULTS
    few_modes = subst (λ n. n ≤ MOST_FAULTS) (sym same_count) few.faults

    stage_searchable : (claim : Option Relation) →
        IsSearchable (stage plain modes s.asked.first s.asked.second) [] (against (stage plain modes s.asked.first s.asked.second) (length modes) (flat_tree s.loaded.top) s.set.items claim)
    stage_searchable claim =
        staged_searchable plain modes (flat_tree s.loaded.top) event_searchable (top_fits (program_tree s.loaded.model.program) s.loaded.case s.asked.top.now (flat_tree s.loaded.top) is.event).small few_modes s.asked.first s.asked.second
        (in_modes s.asked.first is.staged.one) (in_modes s.asked.second is.staged.other) (subst IsTyped is.staged.model is.staged.typed) s.set.items claim

    pub claim_searchable : (claim : Option Relation) (e : Tree FlatLeaf) → SpeaksFor s claim e → IsSearchable (model_tree s.typed.model) [] e
    claim_searchable claim e speaks =
        let counted : IsSearchable (stage plain modes s.asked.first s.asked.second) [] (against (stage plain modes s.asked.first s.asked.second) (length s.loaded.case.limited.faults) (flat_tree s.loaded.top) s.set.items claim) =
        subst (λ n. IsSearchable (stage plain modes s.asked.first s.asked.second) [] (against (stage plain modes s.asked.first s.asked.second) n (flat_tree s.loaded.top) s.set.items claim)) same_count (stage_searchable claim) in
        let over : IsSearchable (model_tree s.typed.model) [] (against (model_tree s.typed.model) (length s.loaded.case.limited.faults) (flat_tree s.loaded.top) s.set.items claim) =
        subst (λ m. IsSearchable m [] (against m (length s.loaded.case.limited.faults) (flat_tree s.loaded.top) s.set.items claim)) (sym is.staged.model) counted in
        subst (IsSearchable (model_tree s.typed.model) []) (sym speaks) over

-- ---- what was searched for and not found

pub empty_sets : (found : List CodeFound) → length (traces_of found) ≡ 0 → sets_of found ≡ []
empty_sets [] e = refl
empty_sets (f ∷ found) e = absurd (omega (arith, e))

module _ (s : PairCase) (claim : Option Relation) (depth : ℕ) (r : Searched) (is : IsSearchOf s claim depth r) (none : length r.analysis.traces ≡ 0) where
  pub no_sets : r.analysis.sets ≡ []
  no_sets =
      let answer = is.answer in
      answer.sets ∙ empty_sets answer.found (sym (ap length answer.traces) ∙ none)

  pub certifiable_alone : IsCertifiable (faulty_of s.typed.model [] r.top) r.analysis
  certifiable_alone =
      let answer = is.answer in
      record {
        depth = depth;
        answer = subst (λ n. IsAnswer (problem_of (model_tree s.typed.model) [] (flat_tree r.top)) depth n r.analysis) (sym answer.size_is) answer;
        small = omega (arith, answer.size_is);
        printable = λ some. absurd (some no_sets);
      }

-- ---- a model without faults

pub alone : (m : FlatModel) (faults : List Fault) → faults ≡ [] → m ≡ with_history m (map mode_of faults)
alone m faults none = subst (λ (fs : List Fault). m ≡ with_history m (map mode_of fs)) (sym none) (sym (no_bits m))

pub searchable_alone : (m : FlatModel) (e : Tree FlatLeaf) (faults : List Fault) → faults ≡ [] → IsSearchable m [] e → IsSearchable m (map mode_of faults) e
searchable_alone m e faults none h = subst (λ (fs : List Fault). IsSearchable m (map mode_of fs) e) (sym none) h

pub provable_alone : (m : FlatModel) (e : Tree FlatLeaf) (faults : List Fault) → faults ≡ [] → IsSearchable m [] e → IsProvable m (map mode_of faults) e
provable_alone m e faults none h = subst (λ (fs : List Fault). IsProvable m (map mode_of fs) e) (sym none) (record { encodable = h.encodable; fits = h.fits })

-- what was made of a staged case speaks against the claim
pub speaks_of : (s : PairCase) (claim : Option Relation) (m : Model) (n : ℕ) (set : List ℕ) → m ≡ s.typed.model → n ≡ length s.loaded.case.limited.faults → set ≡ s.set.items → (e : Tree FlatLeaf) →
    e ≡ against (model_tree m) n (flat_tree s.loaded.top) set claim → SpeaksFor s claim e
speaks_of s claim m n set is_model is_count is_set e is =
    is ∙ ap (λ (k : Model). against (model_tree k) n (flat_tree s.loaded.top) set claim) is_model
    ∙ ap (λ k. against (model_tree s.typed.model) k (flat_tree s.loaded.top) set claim) is_count
    ∙ ap (λ k. against (model_tree s.typed.model) (length s.loaded.case.limited.faults) (flat_tree s.loaded.top) k claim) is_set
