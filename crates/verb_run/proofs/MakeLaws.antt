-- From the texts of a generated case to the case that is read back, and from what a search found of it to what stands.
use Rattle.std.proofs.Common.{arith, ◌≡◌, ℕ, ◌≤◌, List, length, sym, ap, subst, ◌∙◌}
use Rattle.std.proofs.Math.Seq.{take-length}
use Rattle.std.proofs.lemmas.List.{length-map}
use Rattle.base_files.specs.Desk.{told_with, WritesPrefix, SaysPrefix, said_more}
use Rattle.smv_language.specs.Language.{Tree, Text, ProgramTree, program_text, BytesSpellProgram, model_tree, variable_tree, FlatLeaf}
use Rattle.fault_instructions.specs.Instructions.{InstructionTree}
use Rattle.fault_instructions.specs.InstructionText.{instructions_text}
use Rattle.fault_instructions.specs.SpellsInstructions.{BytesSpellInstructions}
use Rattle.smv_type_laws.specs.Costs.{state_bits}
use Rattle.cut_text_laws.specs.Analysis.{told_ending}
use Rattle.base_values.specs.declared.ending.Ending.{Ending as Printed}
use Rattle.cut_search_laws.specs.Problem.{problem_of}
use Rattle.cut_search.specs.Answer.{IsAnswer}
use Rattle.cut_search.specs.declared.answer.Analysis.{Analysis as Searched}
use Rattle.cut_report_laws.specs.SearchAnswer.{ending_of, analysis_of}
use Rattle.cut_report_laws.proofs.Analyses.{answers_are_analyses}
use Rattle.verb_loading.specs.declared.loaded.LoadedCase.{LoadedCase}
use Rattle.verb_run.specs.declared.make.Making.{Making}
use Rattle.verb_run.specs.declared.make.Summary.{Summary}
use Rattle.verb_loading.specs.declared.status.Status.{Status}
use Rattle.verb_loading.specs.Models.{IsModelText}
use Rattle.verb_loading.specs.Inputs.{IsInstructionText}
use Rattle.verb_loading.specs.Cases.{Case}
use Rattle.verb_loading.specs.LoadedCases.{case_of}
use Rattle.verb_loading.specs.CaseAnswers.{Told, Said, bits_of}
use Rattle.verb_run.specs.AnswerTexts.{summary_text}
use Rattle.cut_model_search.specs.CaseAnalysis.{IsFound}
use Rattle.verb_run.specs.Analyses.{ended_with}
use Rattle.verb_loading.specs.LoadedEvents.{IsAnalysable}
use Rattle.verb_run.specs.GeneratedCase.{dead_word, both_written, HasMade, MakesInPart, part_of_model, part_of_faults, part_of_summary, summary_line, made_case, IsMaking, IsSummary}
use Rattle.cut_model_search.proofs.Analysable.{model_of_case, case_counts}
use Rattle.verb_run.proofs.Concluded.{whole_prefix}
use Rattle.verb_run.proofs.Findings.{ends_by}

-- bytes that spell a program are read as no other
pub model_read : (read bytes : List ℕ) (p q : ProgramTree) → read ≡ bytes → IsModelText read p → BytesSpellProgram bytes q → p ≡ q
model_read read bytes p q same is spelled = is.only q (subst (λ b. BytesSpellProgram b q) (sym same) spelled)

-- and no other instructions
pub instructions_read : (read bytes : List ℕ) (i j : InstructionTree) → read ≡ bytes → IsInstructionText read i → BytesSpellInstructions bytes j → i ≡ j
instructions_read read bytes i j same is spelled = is.only j (subst (λ b. BytesSpellInstructions b j) (sym same) spelled)

module _ (p : ProgramTree) (l : LoadedCase) (tree : Tree FlatLeaf) (is : IsAnalysable p l dead_word tree) where
  abbrev the_case : Case
  the_case = case_of p l

  abbrev symbols : List Text
  symbols = l.limited.typed.model.symbols

  -- what answers the search is an analysis of the case
  analysis_found : (depth size : ℕ) (a : Searched) →
      IsAnswer (problem_of the_case.flat the_case.modes tree) depth size a →
      IsFound the_case is.event.top size depth (analysis_of symbols a)
  analysis_found depth size a answer =
      let c : Case = the_case in
      let both =
      answers_are_analyses c.program c.instructions c.faults is.event.top (problem_of c.flat c.modes tree) (model_of_case p l dead_word tree is) depth size a answer in
      record { right = both.0; ends = ends_by c is.event.top tree is.event.is_tree depth size a.sets (ending_of a.end) both.1 }

  module _ (variables faults bits sets : ℕ) (counted_variables : variables ≡ length l.limited.typed.model.variables) (counted : faults ≡ length l.limited.faults)
      (counted_bits : bits ≡ state_bits (model_tree l.limited.full.model)) where
    faults_are : faults ≡ length the_case.faults
    faults_are = counted ∙ sym (case_counts p l dead_word tree is)

    variables_are : variables ≡ length the_case.flat.variables
    variables_are = counted_variables ∙ sym (length-map l.limited.typed.model.variables variable_tree)

    bits_are : bits ≡ bits_of the_case
    bits_are = counted_bits ∙ ap state_bits is.loaded.full

    -- the line is the summary of the analysis
    line_is : (stages : ℕ) (a : Searched) (ending : Printed) → sets ≡ length a.sets → told_ending ending ≡ ending_of a.end →
        summary_line stages variables faults bits sets (told_ending ending) ≡ summary_text the_case stages (analysis_of symbols a)
    line_is stages a ending counted_sets told = λ j. summary_line stages (variables_are j) (faults_are j) (bits_are j) (counted_sets j) (told j)

    pub summarised : (stages depth size : ℕ) (a : Searched) (line : Text) (ending : Printed) → size ≡ length l.limited.faults → sets ≡ length a.sets →
        IsAnswer (problem_of the_case.flat the_case.modes tree) depth size a →
        told_ending ending ≡ ending_of a.end → line ≡ summary_line stages variables faults bits sets (told_ending ending) →
        IsSummary the_case stages depth (record { line = line; ending = ending })
    summarised stages depth size a line ending sized counted_sets answer told printed =
        let c : Case = the_case in
        let all : size ≡ length c.faults = sized ∙ sym (case_counts p l dead_word tree is) in
        record {
          event = is.event.top;
          is_event = is.event.is_word;
          analysis = analysis_of symbols a;
          found = subst (λ n. IsFound c is.event.top n depth (analysis_of symbols a)) all (analysis_found depth size a answer);
          ends = told;
          line = printed ∙ line_is stages a ending counted_sets told;
        }

-- a text that was said whole
whole_said : (said now : Said) (text : Text) → now ≡ said_more said text → SaysPrefix said now text
whole_said said now text is = let fits : length text ≤ length text = omega arith in (length text, fits, is ∙ ap (said_more said) (sym (take-length text)))

module _ (m : Making) (is : IsMaking m) (before mid : Told) (said now : Said) (program : Text) (same_program : program ≡ m.made.program.items) where
  abbrev case_is : Case
  case_is = made_case m

  -- a part of the model stands
  pub model_in_part : WritesPrefix before mid m.model.now program → now ≡ said → MakesInPart case_is m.stages m.depth m.model.now m.faults.now before mid said now
  model_in_part front silent = part_of_model (subst (WritesPrefix before mid m.model.now) (same_program ∙ is.model_text) front) silent

  module _ (after : Told) (instructions : Text) (same_instructions : instructions ≡ m.made.instructions.items) (first : mid ≡ told_with before m.model.now program) where
    -- the model is written
    model_written : mid ≡ told_with before m.model.now (program_text case_is.program)
    model_written = first ∙ ap (told_with before m.model.now) (same_program ∙ is.model_text)

    -- and a part of the instructions
    pub faults_in_part : WritesPrefix mid after m.faults.now instructions → now ≡ said → MakesInPart case_is m.stages m.depth m.model.now m.faults.now before after said now
    faults_in_part front silent =
        part_of_faults
        (subst (λ t. WritesPrefix t after m.faults.now (instructions_text case_is.instructions)) model_written (subst (WritesPrefix mid after m.faults.now) (same_instructions ∙ is.faults_text) front)) silent

    module _ (second : after ≡ told_with mid m.faults.now instructions) where
      -- or all of them
      both_are_written : after ≡ both_written case_is m.model.now m.faults.now before
      both_are_written =
          second ∙ ap (told_with mid m.faults.now) (same_instructions ∙ is.faults_text)
          ∙ ap (λ t. told_with t m.faults.now (instructions_text case_is.instructions)) model_written

      pub files_in_part : now ≡ said → MakesInPart case_is m.stages m.depth m.model.now m.faults.now before after said now
      files_in_part silent =
          part_of_faults (whole_prefix (told_with before m.model.now (program_text case_is.program)) after m.faults.now (instructions_text case_is.instructions) both_are_written) silent

      module _ (s : Summary) (found : IsSummary case_is m.stages m.depth s) (line : Text) (same_line : line ≡ s.line) (last : Said) (silent : last ≡ said) where
        line_told : line ≡ summary_text case_is m.stages found.analysis
        line_told = same_line ∙ found.line

        -- a part of the summary was said, or the whole
        pub summary_in_part : SaysPrefix last now line → MakesInPart case_is m.stages m.depth m.model.now m.faults.now before after said now
        summary_in_part front =
            part_of_summary found.event found.analysis found.is_event found.found both_are_written
            (subst (λ t. SaysPrefix t now (summary_text case_is m.stages found.analysis)) silent (subst (SaysPrefix last now) line_told front))

        pub summary_whole : now ≡ said_more last line → MakesInPart case_is m.stages m.depth m.model.now m.faults.now before after said now
        summary_whole is_said = summary_in_part (whole_said last now line is_said)

        -- all of it
        pub has_made : (ended : Status) → ended ≡ ended_with (told_ending s.ending) → now ≡ said_more last line →
            HasMade case_is m.stages m.depth m.model.now m.faults.now ended before after said now
        has_made ended ends is_said =
            record {
              event = found.event;
              is_event = found.is_event;
              analysis = found.analysis;
              found = found.found;
              ends = ends ∙ ap ended_with found.ends;
              written = both_are_written;
              reported = is_said ∙ ap (λ t. said_more t line) silent ∙ ap (said_more said) line_told;
            }
