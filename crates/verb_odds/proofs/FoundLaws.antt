-- From the answer of a search to the bounds of its sets and the report of them.
use Rattle.std.proofs.Common.{arith, ◌≡◌, ◌<◌, ◌≤◌, ◌-◌, ◌+◌, ℕ, List, [], ◌∷◌, ◌++◌, length, map, refl, sym, ap, subst, ◌∙◌}
use Rattle.std.specs.Prelude.{All}
use Rattle.std.specs.List.{AllByRecursion}
use Rattle.std.proofs.lemmas.List.{length-map}
use Rattle.std.proofs.lemmas.List.Elements.{All-from_recursion}
use Rattle.smv_language.specs.Language.{Tree, Each, Text, Formula, ProgramTree, model_tree, name_of_fault, FlatLeaf}
use Rattle.smv_flat_laws.specs.FaultModes.{mode_of}
use Rattle.smv_type_laws.specs.Costs.{state_bits}
use Rattle.sat_encoding_laws.specs.FlatTraces.{IsNumbered}
use Rattle.fault_extend.specs.WovenFaults.{fault_tree}
use Rattle.fault_instructions.specs.Instructions.{InstructionTree}
use Rattle.fault_weave.specs.Faults.{Fault}
use Rattle.fault_odds.specs.Marks.{AreOdds}
use Rattle.fault_odds.specs.Bounds.{bound_of, units_in}
use Rattle.fault_odds.specs.Laws.{AreAtMostOne}
use Rattle.fault_odds.specs.OddsText.{odds_text}
use Rattle.fault_odds.proofs.OddsLemmas.{units_small}
use Rattle.fault_odds.proofs.Products.{product_bounded}
use Rattle.fault_odds.proofs.Sums.{sums_bounded}
use Rattle.fault_odds.proofs.UnitLemmas.{odds_at_most_one}
use Rattle.cut_report.specs.FaultText as lines
use Rattle.cut_text_laws.specs.Analysis.{told_ending}
use Rattle.base_values.specs.declared.ending.Ending.{Ending as Printed}
use Rattle.cut_search_laws.specs.Problem.{problem_of}
use Rattle.cut_search.specs.Answer.{IsAnswer}
use Rattle.cut_search.specs.declared.answer.Analysis.{Analysis as Searched}
use Rattle.cut_search.proofs.SearchLemmas.{sets_numbered}
use Rattle.cut_report_laws.specs.SearchAnswer as found
use Rattle.cut_report_laws.specs.SearchAnswer.{ending_of, analysis_of}
use Rattle.cut_report_laws.proofs.Analyses.{answers_are_analyses}
use Rattle.cut_report_laws.specs.ExtendedTraces.{Ending, complete, bounded}
use Rattle.verb_loading.specs.declared.loaded.LoadedCase.{LoadedCase}
use Rattle.verb_loading.specs.Cases.{Case}
use Rattle.verb_loading.specs.Tasks.{IsTopTree}
use Rattle.verb_loading.specs.LoadedCases.{case_of}
use Rattle.verb_loading.specs.CaseAnswers.{faults_text}
use Rattle.cut_model_search.specs.CaseAnalysis.{EndsBy}
use Rattle.verb_loading.specs.LoadedEvents.{IsAnalysable}
use Rattle.cut_model_search.proofs.Analysable.{model_of_case, case_counts}
use Rattle.verb_loading.proofs.ListedLaws.{are_listed, named_lines}
use Rattle.verb_odds.specs.Reports.{sets_text, ending_line}
use Rattle.verb_odds.specs.Odds.{AreBounded, IsOddsFinding}
use Rattle.sat_encoding_laws.proofs.SetLaws.{each_kept}

by_recursion : {A : Type 0} (P : A → Type 0) (xs : List A) → Each P xs → AllByRecursion P xs
by_recursion P [] h = tt
by_recursion P (x ∷ xs) h = (h.0, by_recursion P xs h.1)

each_all : {A : Type 0} (P : A → Type 0) (xs : List A) → Each P xs → All P xs
each_all P xs h = All-from_recursion P xs (by_recursion P xs h)

-- each fault has its units
odds_count : (i : InstructionTree) (faults : List Fault) (odds : List ℕ) → AreOdds i faults odds → length odds ≡ length faults
odds_count i [] [] h = refl
odds_count i [] (n ∷ ns) h = absurd h
odds_count i (f ∷ fs) [] h = absurd h
odds_count i (f ∷ fs) (n ∷ ns) h = ap (λ k. Rattle.std.proofs.Common.suc k) (odds_count i fs ns h.1)

-- numbers of faults are numbers of their units
named_set : (n m : ℕ) → n ≡ m → (set : List ℕ) → IsNumbered n set → All (λ i. (0 < i) × (i ≤ m)) set
named_set n m e set h = each_all (λ i. (0 < i) × (i ≤ m)) set (each_kept (λ i. (1 ≤ i) × (i ≤ n)) (λ i. (0 < i) × (i ≤ m)) (λ i k. within i k.0 k.1) set h)
  where
    within : (i : ℕ) → 1 ≤ i → i ≤ n → (0 < i) × (i ≤ m)
    within i a b = (omega (arith, a), omega (arith, b, e))

-- the bounds of sets are right
pub are_bounded : (odds : List ℕ) → AreAtMostOne odds → (sets : List (List ℕ)) → AreBounded odds sets
are_bounded odds small sets = record { each = each sets; sum = λ scale h. sums_bounded (map (units_in odds) sets) (smalls sets) scale (sizes scale sets h) }
  where
    each : (sets : List (List ℕ)) → Each (λ set. Rattle.fault_odds.specs.Bounds.Bounds (units_in odds set) (bound_of (units_in odds set))) sets
    each [] = tt
    each (s ∷ ss) = (product_bounded (units_in odds s) (units_small odds s small), each ss)

    smalls : (sets : List (List ℕ)) → Each AreAtMostOne (map (units_in odds) sets)
    smalls [] = tt
    smalls (s ∷ ss) = (units_small odds s small, smalls ss)

    sizes : (scale : ℕ) (sets : List (List ℕ)) → Each (λ set. length set ≤ scale + 1) sets → Each (λ ps. length ps ≤ scale + 1) (map (units_in odds) sets)
    sizes scale [] h = tt
    sizes scale (s ∷ ss) h = (subst (λ n. n ≤ scale + 1) (sym (length-map s (λ i. Rattle.std.specs.Prelude.slice_index_or odds (i - 1) 0))) h.0, sizes scale ss h.1)

-- how it ends
ends_by : (c : Case) (e : Formula) (tree : Tree FlatLeaf) → IsTopTree c e tree → (depth size : ℕ) (sets : List (List ℕ)) (ending : Ending) →
    found.EndsBy (problem_of c.flat c.modes tree) depth size sets ending → EndsBy c e size depth sets ending
ends_by c e tree is_tree depth size sets complete h = h
ends_by c e tree is_tree depth size sets (bounded k) h = (h.0, (tree, is_tree, h.1))

module _ (p : ProgramTree) (l : LoadedCase) (word : Text) (tree : Tree FlatLeaf) (is : IsAnalysable p l word tree) (odds : List ℕ) (are : AreOdds (case_of p l).instructions (case_of p l).faults odds) where
  abbrev the_case : Case
  the_case = case_of p l

  counted : length the_case.modes ≡ length odds
  counted = length-map l.limited.faults mode_of ∙ sym (case_counts p l word tree is) ∙ sym (odds_count the_case.instructions the_case.faults odds are)

  -- the sets of an answer are sets of numbers of the units
  pub sets_named : (depth size : ℕ) (a : Searched) →
      IsAnswer (problem_of the_case.flat the_case.modes tree) depth size a →
      All (All (λ i. (0 < i) × (i ≤ length odds))) a.sets
  sets_named depth size a answer =
      each_all (All (λ i. (0 < i) × (i ≤ length odds))) a.sets
      (each_kept (IsNumbered (length the_case.modes)) (All (λ i. (0 < i) × (i ≤ length odds))) (named_set (length the_case.modes) (length odds) counted) a.sets
      (sets_numbered (problem_of the_case.flat the_case.modes tree) size answer.found a.sets answer.sets answer.are))

  fault_lines_are : lines.faults_text (map name_of_fault l.limited.faults) ≡ faults_text (map fault_tree l.limited.woven.faults)
  fault_lines_are = named_lines l.limited.woven.faults l.limited.faults (are_listed l.limited.typed.model l.limited.woven.faults l.limited.faults is.loaded.numbered)

  -- an answer with the size of all faults is a finding with its bounds and its report
  pub odds_found : (depth len size : ℕ) (a : Searched) (ending : Printed) (report : Text) → len ≡ length l.limited.faults → size ≡ len →
      IsAnswer (problem_of the_case.flat the_case.modes tree) depth size a → told_ending ending ≡ ending_of a.end →
      report ≡ lines.faults_text (map name_of_fault l.limited.faults) ++ (sets_text a.sets ++ (odds_text odds a.sets ++ ending_line (told_ending ending) (state_bits (model_tree l.limited.full.model)))) →
      IsOddsFinding the_case word depth odds (record { report = report; ending = ending })
  odds_found depth len size a ending report counts sized answer told printed =
      let c : Case = the_case in
      let whole : size ≡ length c.faults = sized ∙ counts ∙ sym (case_counts p l word tree is) in
      let all = subst (λ n. IsAnswer (problem_of c.flat c.modes tree) depth n a) whole answer in
      let both =
      answers_are_analyses c.program c.instructions c.faults is.event.top (problem_of c.flat c.modes tree) (model_of_case p l word tree is) depth (length c.faults) a all in
      record {
        event = is.event.top;
        is_event = is.event.is_word;
        analysis = analysis_of l.limited.typed.model.symbols a;
        found = record { right = both.0; ends = ends_by c is.event.top tree is.event.is_tree depth (length c.faults) a.sets (ending_of a.end) both.1 };
        bounded = are_bounded odds (odds_at_most_one c.instructions c.faults odds are) a.sets;
        ends = told;
        reported = printed ∙ (λ j. fault_lines_are j ++ (sets_text a.sets ++ (odds_text odds a.sets ++ ending_line (told j) (state_bits (is.loaded.full j)))));
      }
