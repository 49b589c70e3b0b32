-- From the answer of a search to the analysis of a case and its report.
use Rattle.std.proofs.Common.{arith, ◌≡◌, ◌<◌, ◌≤◌, ◌^◌, ℕ, Bool, List, Option, Some, None, length, map, sym, ap, subst, ◌∙◌}
use Rattle.std.proofs.Math.Nat.{min-le_right}
use Rattle.std.proofs.lemmas.List.{length-map}
use Rattle.smv_language.specs.Language.{Tree, Text, Formula, ProgramTree, Value, flat_tree, name_of_fault, FlatLeaf, told_trace}
use Rattle.smv_type_laws.specs.Costs.{state_bits}
use Rattle.smv_language.specs.declared.expr.Expr.{Expr}
use Rattle.smv_language.specs.declared.model.Flat.{Flat}
use Rattle.smv_flat_laws.specs.FaultModes.{mode_of}
use Rattle.cut_search_laws.specs.Problem.{problem_of}
use Rattle.cut_search_laws.specs.Searchable.{IsSearchable}
use Rattle.fault_extend.specs.WovenFaults.{fault_tree}
use Rattle.cut_report.specs.FaultText as lines
use Rattle.cut_text_laws.specs.Analysis.{told_ending}
use Rattle.base_values.specs.declared.ending.Ending.{Ending as Printed}
use Rattle.cut_search.specs.Answer.{IsAnswer}
use Rattle.cut_search.specs.declared.answer.Analysis.{Analysis as Searched}
use Rattle.cut_search.specs.declared.answer.End.{End}
use Rattle.cut_search.specs.declared.answer.End.TheVariants.{Complete, Bounded}
use Rattle.cut_report_laws.specs.SearchAnswer as found
use Rattle.cut_report_laws.specs.SearchAnswer.{ending_of, analysis_of}
use Rattle.cut_report_laws.proofs.Analyses.{answers_are_analyses}
use Rattle.cut_report_laws.proofs.Printed.{answers_printed}
use Rattle.cut_report_laws.specs.ExtendedTraces.{Ending, complete, bounded, Analysis}
use Rattle.cut_report_laws.specs.AnalysisText.{analysis_text}
use Rattle.verb_loading.specs.declared.loaded.LoadedCase.{LoadedCase}
use Rattle.verb_loading.specs.Cases.{Case}
use Rattle.verb_loading.specs.Tasks.{IsTopTree}
use Rattle.verb_loading.specs.LoadedCases.{case_of}
use Rattle.verb_loading.specs.CaseAnswers.{faults_text}
use Rattle.cut_model_search.specs.CaseAnalysis.{size_for, EndsBy, IsCertificateFor}
use Rattle.verb_run.specs.Analyses.{report_of}
use Rattle.verb_loading.specs.LoadedEvents.{IsAnalysable}
use Rattle.cut_model_search.specs.FaultyModels.{FaultyValue, faulty_case, whole_in, problem_in}
use Rattle.cut_model_search.specs.Reports.{IsReported, report_in}
use Rattle.cut_model_search.specs.Searches.{IsSearched, HasCertificate}
use Rattle.verb_run.specs.Findings.{IsCertifiedAs, IsFinding}
use Rattle.cut_model_search.proofs.Analysable.{model_of_case, case_searchable, case_counts}
use Rattle.verb_loading.proofs.ListedLaws.{are_listed, named_lines}
use Rattle.verb_loading.proofs.LoadedLaws.{loaded_printable}

-- at most as many faults are looked for as there are
pub size_small : (size : Option ℕ) (n : ℕ) → size_for size n ≤ n
size_small None n = omega arith
size_small (Some k) n = min-le_right k n

-- a search answered for the case
pub is_searched : (p : ProgramTree) (l : LoadedCase) (word : Text) (tree : Tree FlatLeaf) → IsAnalysable p l word tree → IsSearchable (case_of p l).flat (case_of p l).modes tree → (depth size : ℕ) (a : Searched) →
    size ≤ length (case_of p l).modes →
    IsAnswer (problem_of (case_of p l).flat (case_of p l).modes tree) depth size a →
    IsSearched (case_of p l).flat (case_of p l).modes tree depth size a
is_searched p l word tree is able depth size a small answer =
    record { own = able.own; encodable = able.encodable; fits = able.fits; printable = loaded_printable p l is.loaded; answer = answer; small = small }

module _ (c : Case) (e : Formula) (tree : Tree FlatLeaf) (is_tree : IsTopTree c e tree) where
  -- how it ends
  pub ends_by : (depth size : ℕ) (sets : List (List ℕ)) (ending : Ending) →
      found.EndsBy (problem_of c.flat c.modes tree) depth size sets ending → EndsBy c e size depth sets ending
  ends_by depth size sets complete h = h
  ends_by depth size sets (bounded k) h = (h.0, (tree, is_tree, h.1))

  -- the certificate is one of the analysis
  pub certified_as : (symbols : List Text) (a : Searched) (size : ℕ) (shown : List (List (List Value))) → a.size ≡ size → map (told_trace symbols) a.traces ≡ shown → (first : Bool) (ending : Ending) (end : End) (cert : Option (List ℕ)) →
      HasCertificate c.flat c.modes tree symbols a end cert →
      IsCertifiedAs c e size (record { sets = a.sets; shown = shown; first = first; ending = ending }) (ending_of end) cert
  certified_as symbols a size shown sizes texts first ending (Complete clauses) (Some bytes) h =
      (tree, is_tree, subst (λ n. IsCertificateFor c.flat c.modes tree n a.sets shown bytes) sizes (subst (λ s. IsCertificateFor c.flat c.modes tree a.size a.sets s bytes) texts h))
  certified_as symbols a size shown sizes texts first ending (Complete clauses) None h = absurd h
  certified_as symbols a size shown sizes texts first ending (Bounded k) (Some bytes) h = absurd h
  certified_as symbols a size shown sizes texts first ending (Bounded k) None h = h

module _ (p : ProgramTree) (l : LoadedCase) (word : Text) (top : Expr Flat) (is : IsAnalysable p l word (flat_tree top)) where
  abbrev tree : Tree FlatLeaf
  tree = flat_tree top

  abbrev searched : FaultyValue
  searched = faulty_case l top

  abbrev the_case : Case
  the_case = case_of p l

  abbrev symbols : List Text
  symbols = l.limited.typed.model.symbols

  fault_lines_are : lines.faults_text (map name_of_fault l.limited.faults) ≡ faults_text (map fault_tree l.limited.woven.faults)
  fault_lines_are = named_lines l.limited.woven.faults l.limited.faults (are_listed l.limited.typed.model l.limited.woven.faults l.limited.faults is.loaded.numbered)

  -- the report of what was found is that of the analysis
  report_is : (size : ℕ) (a : Searched) → a.size ≡ size → report_in searched a ≡ report_of the_case size (analysis_of symbols a)
  report_is size a sizes = λ j. analysis_text (fault_lines_are j) the_case.flat (state_bits (whole_in searched)) (sym (case_counts p l word tree is) j) (sizes j) (analysis_of symbols a)

  finding : (depth size : ℕ) (a : Searched) (cert : Option (List ℕ)) (report : Text) (ending : Printed) → IsReported searched depth size a cert report → told_ending ending ≡ ending_of a.end →
      IsFinding the_case word depth size (record { cert = cert; report = report; ending = ending })
  finding depth size a cert report ending found told =
      let c : Case = the_case in
      let both =
      answers_are_analyses c.program c.instructions c.faults is.event.top (problem_in searched) (model_of_case p l word tree is) depth size a found.answer in
      let texts : map (told_trace symbols) a.traces ≡ (analysis_of symbols a).shown = ap (λ (x : Analysis). x.shown) (answers_printed symbols a ending told) in
      record {
        event = is.event.top;
        is_event = is.event.is_word;
        analysis = analysis_of symbols a;
        found = record { right = both.0; ends = ends_by c is.event.top tree is.event.is_tree depth size a.sets (ending_of a.end) both.1 };
        ends = told;
        reported = found.reported ∙ report_is size a found.answer.size_is;
        certified = certified_as c is.event.top tree is.event.is_tree symbols a size (analysis_of symbols a).shown found.answer.size_is texts a.first (ending_of a.end) a.end cert found.certified;
      }

  -- the search of the case, by what was counted
  module _ (given : Option ℕ) (len size : ℕ) (counted : len ≡ length l.limited.faults) (sized : size ≡ size_for given len) where
    pub size_is : size ≡ size_for given (length the_case.faults)
    size_is = sized ∙ ap (size_for given) (counted ∙ sym (case_counts p l word tree is))

    size_in : size ≤ length the_case.modes
    size_in =
        let small : size_for given len ≤ len = size_small given len in
        let modes : length the_case.modes ≡ length l.limited.faults = length-map l.limited.faults mode_of in
        omega (arith, small, sized, counted, modes)

    pub case_searched : (depth : ℕ) (a : Searched) → length symbols < 2 ^ 31 →
        IsAnswer (problem_of the_case.flat the_case.modes tree) depth size a →
        IsSearched the_case.flat the_case.modes tree depth a.size a
    case_searched depth a few answer =
        subst (λ n. IsSearched the_case.flat the_case.modes tree depth n a) (sym answer.size_is) (is_searched p l word tree is (case_searchable p l word tree is few) depth size a size_in answer)

    pub case_found : (depth : ℕ) (a : Searched) (cert : Option (List ℕ)) (report : Text) (ending : Printed) → IsReported searched depth size a cert report → told_ending ending ≡ ending_of a.end →
        IsFinding the_case word depth (size_for given (length the_case.faults)) (record { cert = cert; report = report; ending = ending })
    case_found depth a cert report ending found told =
        finding depth (size_for given (length the_case.faults)) a cert report ending (subst (λ n. IsReported searched depth n a cert report) size_is found) told
