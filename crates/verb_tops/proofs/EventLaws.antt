-- From the answer of a search in kept frames to what is written and printed of the event.
use Rattle.std.proofs.Common.{arith, ◌≡◌, ◌<◌, ◌≤◌, ◌^◌, ◌++◌, ℕ, List, Option, length, map, sym, ap, subst, ◌∙◌}
use Rattle.std.proofs.lemmas.List.{length-map}
use Rattle.smv_language.specs.Language.{Text, Formula, ProgramTree, flat_tree, name_of_fault, told_trace}
use Rattle.smv_type_laws.specs.Costs.{state_bits}
use Rattle.smv_flat_laws.specs.FaultModes.{mode_of}
use Rattle.smv_language.specs.declared.expr.Expr.{Expr}
use Rattle.smv_language.specs.declared.model.Flat.{Flat}
use Rattle.fault_extend.specs.WovenFaults.{fault_tree}
use Rattle.cut_report.specs.FaultText as lines
use Rattle.cut_text_laws.specs.Analysis.{told_ending}
use Rattle.base_values.specs.declared.ending.Ending.{Ending as Printed}
use Rattle.cut_search.specs.declared.answer.Analysis.{Analysis as Searched}
use Rattle.cut_report_laws.specs.SearchAnswer.{ending_of, analysis_of}
use Rattle.cut_report_laws.proofs.Printed.{answers_printed}
use Rattle.cut_report_laws.specs.ExtendedTraces.{Analysis}
use Rattle.cut_report_laws.specs.AnalysisText.{analysis_text}
use Rattle.verb_loading.specs.declared.loaded.LoadedCase.{LoadedCase}
use Rattle.verb_loading.specs.Cases.{Case}
use Rattle.verb_loading.specs.LoadedCases.{case_of}
use Rattle.verb_loading.specs.CaseAnswers.{faults_text}
use Rattle.verb_loading.proofs.ListedLaws.{are_listed, named_lines}
use Rattle.verb_loading.proofs.LoadedLaws.{loaded_printable}
use Rattle.cut_model_search.specs.CaseAnalysis.{size_for}
use Rattle.cut_model_search.specs.FaultyModels.{FaultyValue, faulty_case, whole_in, AnswersSearch}
use Rattle.cut_model_search.specs.Reports.{IsReported}
use Rattle.cut_model_search.specs.Searches.{IsSearched}
use Rattle.verb_run.specs.Analyses.{report_of}
use Rattle.verb_run.specs.Tables.{IsExtensible, IsEventOf}
use Rattle.verb_run.proofs.Findings.{size_small, certified_as}
use Rattle.verb_run.proofs.TopEvents.{counts_in_case, event_searchable, event_found}
use Rattle.verb_tops.specs.Each.{event_line}
use Rattle.verb_tops.specs.Work.{IsEventFinding}

module _ (p : ProgramTree) (l : LoadedCase) (is : IsExtensible p l) where
  abbrev the_case : Case
  the_case = case_of p l

  abbrev symbols : List Text
  symbols = l.limited.typed.model.symbols

  lines_are : lines.faults_text (map name_of_fault l.limited.faults) ≡ faults_text (map fault_tree l.limited.woven.faults)
  lines_are = named_lines l.limited.woven.faults l.limited.faults (are_listed l.limited.typed.model l.limited.woven.faults l.limited.faults is.loaded.numbered)

  -- the search of the case for an event, by the number of faults that was counted
  module _ (given : Option ℕ) (len size : ℕ) (counted : len ≡ length l.limited.faults) (sized : size ≡ size_for given len) where
    size_is : size ≡ size_for given (length the_case.faults)
    size_is = sized ∙ ap (size_for given) (counted ∙ sym (counts_in_case p l is))

    size_in : size ≤ length the_case.modes
    size_in =
        let small : size_for given len ≤ len = size_small given len in
        let modes : length the_case.modes ≡ length l.limited.faults = length-map l.limited.faults mode_of in
        omega (arith, small, sized, counted, modes)

    module _ (e : Formula) (top : Expr Flat) (event : IsEventOf the_case e (flat_tree top)) (depth : ℕ) (a : Searched) where
      abbrev searched : FaultyValue
      searched = faulty_case l top

      pub event_searched : AnswersSearch searched depth size a → length symbols < 2 ^ 31 → IsSearched the_case.flat the_case.modes (flat_tree top) depth a.size a
      event_searched answer few =
          let able = event_searchable p l is e (flat_tree top) event few in
          subst (λ n. IsSearched the_case.flat the_case.modes (flat_tree top) depth n a) (sym answer.size_is)
          (record { own = able.own; encodable = able.encodable; fits = able.fits; printable = loaded_printable p l is.loaded; answer = answer; small = size_in })

      pub event_finding : (n : ℕ) (cert : Option (List ℕ)) (printed text : Text) (ending : Printed) → IsReported searched depth size a cert printed → told_ending ending ≡ ending_of a.end → text ≡ event_line n ++ printed →
          IsEventFinding the_case e depth (size_for given (length the_case.faults)) n (record { cert = cert; report = text; ending = ending })
      event_finding n cert printed text ending reported told headed =
          let full : ℕ = size_for given (length the_case.faults) in
          let found : IsReported searched depth full a cert printed = subst (λ k. IsReported searched depth k a cert printed) size_is reported in
          let texts : map (told_trace symbols) a.traces ≡ (analysis_of symbols a).shown = ap (λ (x : Analysis). x.shown) (answers_printed symbols a ending told) in
          let report : printed ≡ report_of the_case full (analysis_of symbols a) =
          found.reported ∙ (λ j. analysis_text (lines_are j) the_case.flat (state_bits (whole_in searched)) (sym (counts_in_case p l is) j) (found.answer.size_is j) (analysis_of symbols a)) in
          record {
            analysis = analysis_of symbols a;
            found = event_found p l is e (flat_tree top) event depth full a found.answer;
            ends = told;
            reported = headed ∙ ap (λ t. event_line n ++ t) report;
            certified = certified_as the_case e (flat_tree top) event.is_tree symbols a full (analysis_of symbols a).shown found.answer.size_is texts a.first (ending_of a.end) a.end cert found.certified;
          }
