-- A case with a top event can be searched, and what answers a search is an analysis of it.
use Rattle.std.proofs.Common.{arith, ◌≡◌, ◌<◌, ◌≤◌, ◌^◌, ℕ, List, [], length, map, subst, ◌∙◌}
use Rattle.std.proofs.lemmas.List.{length-map}
use Rattle.base_values.specs.declared.limits.TheConstants.{MOST_BITS}
use Rattle.smv_language.specs.Language.{Tree, Formula, ProgramTree, FlatLeaf}
use Rattle.smv_flat_laws.specs.FaultModes.{mode_of}
use Rattle.smv_type_laws.specs.Models.{IsTyped}
use Rattle.smv_type_laws.specs.Costs.{cost_of}
use Rattle.cut_search_laws.specs.Problem.{problem_of}
use Rattle.cut_search_laws.specs.Searchable.{IsSearchable}
use Rattle.cut_search_laws.proofs.Fitting.{few_faults}
use Rattle.cut_search.specs.Answer.{IsAnswer}
use Rattle.cut_search.specs.declared.answer.Analysis.{Analysis as Searched}
use Rattle.cut_report_laws.proofs.Searchables.{extensions_searchable}
use Rattle.cut_report_laws.specs.SearchAnswer as found
use Rattle.cut_report_laws.specs.SearchAnswer.{ending_of, analysis_of}
use Rattle.cut_report_laws.proofs.Analyses.{answers_are_analyses}
use Rattle.fault_extend.specs.WovenFaults.{fault_tree}
use Rattle.cert_laws.specs.ExtendedTraces.{IsExtensionModel}
use Rattle.fault_woven_laws.specs.Tops.{IsReadAs, IsTopOf}
use Rattle.fault_woven_laws.proofs.Fits.{tops_fit}
use Rattle.fault_woven_laws.proofs.Meanings.{tops_of_extensions}
use Rattle.cut_report_laws.specs.ExtendedTraces.{Ending, complete, bounded}
use Rattle.verb_loading.specs.declared.loaded.LoadedCase.{LoadedCase}
use Rattle.verb_loading.specs.Cases.{Case, whole_of}
use Rattle.verb_loading.specs.LoadedCases.{case_of}
use Rattle.cut_model_search.specs.CaseAnalysis.{EndsBy, IsFound}
use Rattle.verb_run.specs.Tables.{IsExtensible, IsEventOf}
use Rattle.verb_loading.proofs.FlatLimits.{flat_typed}
use Rattle.verb_loading.proofs.LoadedLaws.{same_counts}
use Rattle.verb_loading.proofs.TopLaws.{have_models}
use Rattle.sat_encoding_laws.specs.Variables.{most_asked_cost}

module _ (p : ProgramTree) (l : LoadedCase) (is : IsExtensible p l) where
  abbrev pub case_is : Case
  case_is = case_of p l

  -- it has few faults
  pub few_in_case : length l.limited.faults ≤ MOST_BITS
  few_in_case = subst (λ n. n ≤ MOST_BITS) (length-map l.limited.faults mode_of) (few_faults case_is.flat case_is.modes is.loaded.is_case.typed.small)

  pub counts_in_case : length (map fault_tree l.limited.woven.faults) ≡ length l.limited.faults
  counts_in_case = length-map l.limited.woven.faults fault_tree ∙ same_counts l.limited.typed.model l.limited.woven.faults l.limited.faults is.loaded.numbered

  module _ (e : Formula) (tree : Tree FlatLeaf) (event : IsEventOf case_is e tree) where
    read_as : IsReadAs case_is.program event.is_top.flat case_is.instructions case_is.flat [] e event.is_top.tree tree
    read_as = record { before = event.is_top.resolved; after = event.is_tree }

    -- its flat model is that of the extension, with the event
    pub model_of_event : IsExtensionModel case_is.program case_is.instructions case_is.faults e case_is.flat case_is.modes tree
    model_of_event =
        let c : Case = case_is in
        let top = event.is_top in
        tops_of_extensions c.program top.flat c.instructions c.flat (have_models c is.loaded.is_case is.flat is.lawful e top) is.loaded.is_case.within.accepted c.faults c.modes
        is.loaded.is_case.are_faults is.loaded.is_case.are_modes e top.tree tree read_as

    event_fits : IsTopOf (whole_of case_is) tree
    event_fits =
        let c : Case = case_is in
        let top = event.is_top in
        (tops_fit c.program top.flat c.instructions c.flat (have_models c is.loaded.is_case is.flat is.lawful e top) is.loaded.is_case.within.accepted [] e top.tree tree read_as top.names
        top.kinds).1 c.modes

    pub event_searchable : length case_is.flat.symbols < 2 ^ 31 → IsSearchable case_is.flat case_is.modes tree
    event_searchable few =
        let c : Case = case_is in
        let h = is.loaded.is_case in
        let typed : IsTyped c.flat = flat_typed c.program is.flat c.instructions c.faults is.lawful h.taken h.are_faults c.flat h.is_flat h.within in
        let small : cost_of tree ≤ most_asked_cost = let cost = event_fits.small in omega (arith, cost) in
        extensions_searchable c.program c.instructions c.faults e c.flat c.modes tree model_of_event is.loaded.writable few typed h.typed event_fits.fits small

    ends_by : (depth size : ℕ) (sets : List (List ℕ)) (ending : Ending) →
        found.EndsBy (problem_of case_is.flat case_is.modes tree) depth size sets ending → EndsBy case_is e size depth sets ending
    ends_by depth size sets complete h = h
    ends_by depth size sets (bounded k) h = (h.0, (tree, event.is_tree, h.1))

    pub event_found : (depth size : ℕ) (a : Searched) →
        IsAnswer (problem_of case_is.flat case_is.modes tree) depth size a →
        IsFound case_is e size depth (analysis_of l.limited.typed.model.symbols a)
    event_found depth size a answer =
        let c : Case = case_is in
        let both = answers_are_analyses c.program c.instructions c.faults e (problem_of c.flat c.modes tree) model_of_event depth size a answer in
        record { right = both.0; ends = ends_by depth size a.sets (ending_of a.end) both.1 }
