-- What bounds on probabilities come to: the refusals, and what is said of an analysis.
use Rattle.std.specs.Prelude.{◌≡◌, ◌≤◌, ℕ, ◌+◌, ◌*◌, ◌^◌, List, ◌++◌, length, map}
use Rattle.base_files.specs.declared.files.NamedFile.{NamedFile}
use Rattle.base_files.specs.Desk.{said_more, SaysPrefix}
use Rattle.smv_language.specs.Language.{Text, Formula, ProgramTree, Each}
use Rattle.fault_odds.specs.declared.mode_marks.MarkFault.{MarkFault}
use Rattle.fault_odds.specs.declared.mode_marks.MarkFault.TheVariants as wrong
use Rattle.fault_odds.specs.Units.{one_in_units}
use Rattle.fault_odds.specs.Marks.{IsFirstMarkFault, HasProbabilities, AreOdds}
use Rattle.fault_odds.specs.Bounds.{Bounds, bound_of, bound_sum, slack_of, exact_sum, units_in}
use Rattle.fault_odds.specs.OddsText.{odds_text}
use Rattle.cut_text_laws.specs.Analysis.{told_ending}
use Rattle.cut_report_laws.specs.ExtendedTraces.{Analysis}
use Rattle.verb_loading.specs.declared.status.InputFault.{InputFault}
use Rattle.verb_loading.specs.declared.status.Refusal.{Refusal}
use Rattle.verb_loading.specs.declared.status.Refusal.TheVariants as refusal
use Rattle.verb_loading.specs.Inputs.{RefusesModel, HoldsModel, RefusesFaults}
use Rattle.verb_loading.specs.Cases.{Case, HoldsCase, IsTopWord, IsWrongWord}
use Rattle.verb_loading.specs.CaseAnswers.{Said, faults_text, bits_of}
use Rattle.cut_model_search.specs.CaseAnalysis.{IsFound}
use Rattle.verb_loading.specs.LoadedEvents.{case_in, IsEvent}
use Rattle.verb_loading.specs.declared.status.Part.TheVariants as part
use Rattle.verb_loading.specs.declared.status.Status.{Status}
use Rattle.verb_odds.specs.declared.odds.MarkedCase.{MarkedCase}
use Rattle.verb_odds.specs.declared.odds.FoundOdds.{FoundOdds}
use Rattle.verb_odds.specs.Reports.{sets_text, ending_line}
use Rattle.verb_loading.specs.Statuses.{ended_with}

-- the number of the rule that a mark breaks
abbrev pub mark_rule : MarkFault → ℕ
mark_rule wrong.NoMark = 1
mark_rule wrong.BadMark = 2

-- the mark of the mode at an item is absent, or no probability
abbrev pub mark_refusal : MarkFault → ℕ → Refusal
mark_refusal fault item = refusal.Faults (record { part = part.Mark; number = mark_rule fault; place = item })

-- The model is refused; or it holds, and the instructions are; or these hold too, and the first mode whose mark is no probability
-- is told; or all marks are probabilities, and the top event is refused.
pub data RefusesOdds (files : List NamedFile) (model faults top : Text) (r : Refusal) : Type 0 where
  at_model : RefusesModel files model r → RefusesOdds files model faults top r
  at_faults : (p : ProgramTree) → HoldsModel files model p → RefusesFaults files faults p r → RefusesOdds files model faults top r
  at_mark : (c : Case) (fault : MarkFault) (item : ℕ) → r ≡ mark_refusal fault item → HoldsCase files model faults c →
      IsFirstMarkFault c.instructions fault item →
      RefusesOdds files model faults top r
  at_top : (c : Case) (fault : InputFault) → r ≡ (refusal.Top fault) → HoldsCase files model faults c → HasProbabilities c.instructions →
      IsWrongWord c.program top fault →
      RefusesOdds files model faults top r

-- the files hold a case whose modes all have probabilities, and the word spells an event of it: nothing is to be refused
pub record HoldsMarked (files : List NamedFile) (model faults top : Text) : Type 0 where
  pub c : Case
  pub holds : HoldsCase files model faults c
  pub all : HasProbabilities c.instructions
  pub event : Formula
  pub is_event : IsTopWord c.program top event

-- the mark of the first mode that has no probability is told
abbrev pub RefusesMark : Case → Refusal → Type 0
RefusesMark c r = (fault : MarkFault) × (item : ℕ) × (r ≡ mark_refusal fault item) × IsFirstMarkFault c.instructions fault item

-- what was loaded is a case with a top event that the word spells, and with the units of its faults
pub record IsMarked (l : MarkedCase) : Type 0 where
  pub event : IsEvent l.word.now l.loaded
  pub odds : AreOdds (case_in l.loaded).instructions (case_in l.loaded).faults l.odds
  pub all : HasProbabilities (case_in l.loaded).instructions

-- Each listed set's bound bounds its exact product, and the sum of the bounds is not below the sum of the exact products, in parts
-- of a unit as small as the largest set needs, and above it by at most the slack.
pub record AreBounded (odds : List ℕ) (sets : List (List ℕ)) : Type 0 where
  pub each : Each (λ set. Bounds (units_in odds set) (bound_of (units_in odds set))) sets
  pub sum : (scale : ℕ) → Each (λ set. length set ≤ scale + 1) sets →
      (exact_sum scale (map (units_in odds) sets) ≤ bound_sum (map (units_in odds) sets) * one_in_units ^ scale)
      × (bound_sum (map (units_in odds) sets) * one_in_units ^ scale ≤ exact_sum scale (map (units_in odds) sets)
      + slack_of (map (units_in odds) sets) * one_in_units ^ scale)

-- what is said of an analysis by the units of its faults
abbrev pub odds_report : Case → List ℕ → Analysis → Text
odds_report c odds a = faults_text c.faults ++ (sets_text a.sets ++ (odds_text odds a.sets ++ ending_line a.ending (bits_of c)))

-- what a search found of a case: an analysis with the size of all faults, its ending, and its report, whose bounds are right
pub record IsOddsFinding (c : Case) (word : Text) (depth : ℕ) (odds : List ℕ) (f : FoundOdds) : Type 0 where
  pub event : Formula
  pub is_event : IsTopWord c.program word event
  pub analysis : Analysis
  pub found : IsFound c event (length c.faults) depth analysis
  pub bounded : AreBounded odds analysis.sets
  pub ends : told_ending f.ending ≡ analysis.ending
  pub reported : f.report ≡ odds_report c odds analysis

-- The files hold a case whose modes all have probabilities, and the word spells an event of it. The analysis of it is right with the
-- size of all faults, for all traces or for those of at most as many steps as the depth, and the report tells it with the bounds of
-- its sets by the units of the faults.
pub record IsOddsAnswer (files : List NamedFile) (model faults top : Text) (depth : ℕ) (analysis : Analysis) (report : Text) : Type 0 where
  pub c : Case
  pub holds : HoldsCase files model faults c
  pub all : HasProbabilities c.instructions
  pub event : Formula
  pub is_event : IsTopWord c.program top event
  pub odds : List ℕ
  pub are_odds : AreOdds c.instructions c.faults odds
  pub found : IsFound c event (length c.faults) depth analysis
  pub bounded : AreBounded odds analysis.sets
  pub reports : report ≡ odds_report c odds analysis

-- this was found of them
pub record FindsOdds (files : List NamedFile) (model faults top : Text) (depth : ℕ) (f : FoundOdds) : Type 0 where
  pub analysis : Analysis
  pub answer : IsOddsAnswer files model faults top depth analysis f.report
  pub ends : told_ending f.ending ≡ analysis.ending

-- such an analysis was said
pub record HasOdds (files : List NamedFile) (model faults top : Text) (depth : ℕ) (s : Status) (said now : Said) : Type 0 where
  pub analysis : Analysis
  pub report : Text
  pub answer : IsOddsAnswer files model faults top depth analysis report
  pub ends : s ≡ ended_with analysis.ending
  pub reported : now ≡ said_more said report

-- a beginning of the report of such an analysis was said
pub record SaysOddsInPart (files : List NamedFile) (model faults top : Text) (depth : ℕ) (said now : Said) : Type 0 where
  pub analysis : Analysis
  pub report : Text
  pub answer : IsOddsAnswer files model faults top depth analysis report
  pub part : SaysPrefix said now report
