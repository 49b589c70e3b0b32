-- The file of top events, and the table of their analyses. As the shown traces of an analysis are free, what answers is a relation
-- between a case with its events and what stands; its text is one all the same, since a table tells sets and endings alone.
use Rattle.std.specs.Prelude.{◌≡◌, ◌⊎◌, ℕ, ◌+◌, ◌≤◌, ◌<◌, List, [], ◌∷◌, Some, All, Contains, length, map, slice_get}
use Rattle.base_values.specs.declared.limits.TheConstants.{MOST_TOPS}
use Rattle.base_files.specs.declared.files.NamedFile.{NamedFile}
use Rattle.base_files.specs.Desk.{said_more, SaysPrefix}
use Rattle.smv_language.specs.Language.{Tree, Text, Formula, ProgramTree, program_tree, tree_of, FlatLeaf, FlatModel, flat_tree, EachBoth}
use Rattle.smv_expression_reader.specs.declared.fault.ParseFault.{ParseFault}
use Rattle.smv_expression_reader.specs.Stops.{FaultMeans}
use Rattle.smv_expression_reader.specs.Lists.{IsExpressions, BytesSpellExpressions}
use Rattle.smv_expression_reader.specs.ExpressionDepths.{HaveDepths, AreTooDeep}
use Rattle.cut_tables.specs.Tables.{table_text, rows_of, entry_of}
use Rattle.cut_tables.specs.Columns.{AreTold, NamesFaults}
use Rattle.cut_text_laws.specs.Analysis.{told_ending}
use Rattle.cut_tables.specs.declared.columns.Column.{Column}
use Rattle.cut_report_laws.specs.ExtendedTraces.{Ending, complete, bounded, Analysis}
use Rattle.cut_report_laws.specs.Tables.{IsEntry}
use Rattle.verb_loading.specs.declared.status.InputFault.{InputFault}
use Rattle.verb_loading.specs.declared.status.Part.TheVariants as part
use Rattle.verb_loading.specs.declared.status.Refusal.{Refusal}
use Rattle.verb_loading.specs.declared.status.Refusal.TheVariants as refusal
use Rattle.verb_loading.specs.declared.status.Status.{Status}
use Rattle.verb_loading.specs.declared.status.Status.TheVariants as status
use Rattle.verb_loading.specs.declared.wrong.Wrong.{Wrong}
use Rattle.verb_loading.specs.declared.wrong.Wrong.TheVariants as wrong
use Rattle.verb_loading.specs.declared.loaded.LoadedCase.{LoadedCase}
use Rattle.verb_run.specs.declared.tops.Tabulating.{Tabulating}
use Rattle.verb_loading.specs.Wrongs.{parse_wrong}
use Rattle.verb_loading.specs.Models.{IsLawful}
use Rattle.verb_loading.specs.Inputs.{IsRefusedFile, HasBytes, RefusesModel, HoldsModel, RefusesFaults}
use Rattle.verb_loading.specs.Cases.{Case, HoldsCase, IsTop, IsWrongTop, HoldsTops}
use Rattle.verb_loading.specs.Tasks.{IsTopTree}
use Rattle.verb_loading.specs.LoadedCases.{case_of, IsLoaded}
use Rattle.verb_loading.specs.CaseAnswers.{Told, Said, faults_text, bits_of}
use Rattle.cut_model_search.specs.CaseAnalysis.{IsFound}

-- there are more than `MOST_TOPS`
abbrev pub too_many_tops : InputFault
too_many_tops = record { part = part.Count; number = 1; place = MOST_TOPS + 1 }

-- the bytes spell these expressions and no others, within the depths
pub record IsListText (bytes : List ℕ) (es : List Formula) : Type 0 where
  pub spelled : BytesSpellExpressions bytes es
  pub only : (fs : List Formula) → BytesSpellExpressions bytes fs → es ≡ fs
  pub depths : HaveDepths bytes es

-- and at most `MOST_TOPS`
pub record AreTopTexts (bytes : List ℕ) (es : List Formula) : Type 0 where
  pub text : IsListText bytes es
  pub few : length es ≤ MOST_TOPS

-- the bytes spell no expressions within the depths, or too many
pub data IsWrongList (bytes : List ℕ) (fault : InputFault) : Type 0 where
  no_list : (f : ParseFault) → FaultMeans IsExpressions (AreTooDeep bytes) bytes f → wrong.Refused fault ≡ parse_wrong f →
      IsWrongList bytes fault
  long_list : (es : List Formula) → IsListText bytes es → MOST_TOPS < length es → fault ≡ too_many_tops → IsWrongList bytes fault

-- the first that is no top event of the program, told at its number, from 1 on
pub record IsFirstNoTop (p : ProgramTree) (es : List Formula) (fault : InputFault) : Type 0 where
  pub place : ℕ
  pub event : Formula
  pub is_there : slice_get es place ≡ Some event
  pub before : (j : ℕ) (e : Formula) → j < place → slice_get es j ≡ Some e → IsTop p e
  pub wrong : IsWrongTop p event (place + 1) fault

-- what is wrong with the bytes of a file of top events: what they spell, or the first that is none
pub data IsWrongTops (p : ProgramTree) (bytes : List ℕ) (fault : InputFault) : Type 0 where
  wrong_list : IsWrongList bytes fault → IsWrongTops p bytes fault
  wrong_event : (es : List Formula) → AreTopTexts bytes es → IsFirstNoTop p es fault → IsWrongTops p bytes fault

-- the file of top events is refused
pub data RefusesTops (files : List NamedFile) (name : Text) (p : ProgramTree) (r : Refusal) : Type 0 where
  tops_file : (fault : InputFault) → r ≡ refusal.Top fault → IsRefusedFile files name fault → RefusesTops files name p r
  tops_bytes : (bytes : List ℕ) (fault : InputFault) → r ≡ refusal.Top fault → HasBytes files name bytes → IsWrongTops p bytes fault →
      RefusesTops files name p r

-- What the three files of a table come to, in the order of the work: the model is refused; or it holds, and the instructions are;
-- or these hold too, and the top events are.
pub data RefusesTable (files : List NamedFile) (model faults tops : Text) (r : Refusal) : Type 0 where
  table_no_model : RefusesModel files model r → RefusesTable files model faults tops r
  table_no_faults : (p : ProgramTree) → HoldsModel files model p → RefusesFaults files faults p r → RefusesTable files model faults tops r
  table_no_tops : (c : Case) → HoldsCase files model faults c → RefusesTops files tops c.program r → RefusesTable files model faults tops r

-- where some column is bounded, the run is
abbrev pub after_column : Ending → Status → Status
after_column complete rest = rest
after_column (bounded k) rest = status.Bounded k

-- the status after the columns' endings: bounded where one of them is
abbrev pub ended_with_all : List Ending → Status
ended_with_all [] = status.Done
ended_with_all (e ∷ es) = after_column e (ended_with_all es)

-- the text of a table of these analyses
abbrev pub table_of : Case → ℕ → List Analysis → Text
table_of c size columns = table_text (faults_text c.faults) (bits_of c) (length c.faults) size columns

-- an analysis for each event, with the size of all faults
abbrev pub AreFound : Case → ℕ → List Formula → List Analysis → Type 0
AreFound c depth events columns = EachBoth (λ e a. IsFound c e (length c.faults) depth a) events columns

-- a table was said, with a column for each event
pub record HasTabulated (c : Case) (events : List Formula) (size depth : ℕ) (s : Status) (before after : Told) (said now : Said) : Type 0
  where
    pub columns : List Analysis
    pub found : AreFound c depth events columns
    pub ends : s ≡ ended_with_all (map (λ a. a.ending) columns)
    pub kept : after ≡ before
    pub reported : now ≡ said_more said (table_of c size columns)

-- a part of a table: nothing, or the beginning of one
abbrev pub TabulatesInPart : Case → List Formula → ℕ → ℕ → Told → Told → Said → Said → Type 0
TabulatesInPart c events size depth before after said now =
    (after ≡ before) × ((now ≡ said)
    ⊎ ((columns : List Analysis) × AreFound c depth events columns × SaysPrefix said now (table_of c size columns)))

-- Each entry of a column means what it says of the extended traces: some reaches the event and fails no fault outside the row, or
-- none does, or none of at most so many steps.
abbrev pub MeansColumn : Case → ℕ → Formula → Analysis → Type 0
MeansColumn c size e a = (row : List ℕ) → Contains (rows_of size (length c.faults)) row →
    IsEntry c.program c.instructions c.faults e a.ending row (entry_of row a)

-- What a table has done that was said: the files hold a case with top events, each entry that is said means what it says, and the
-- run is bounded where some column is, by the depth.
pub record IsTabulated (files : List NamedFile) (said now : Said) (model faults tops : Text) (size depth : ℕ) (s : Status) : Type 0 where
  pub c : Case
  pub events : List Formula
  pub holds : HoldsCase files model faults c
  pub are_tops : HoldsTops files tops c.program events
  pub columns : List Analysis
  pub found : AreFound c depth events columns
  pub means : EachBoth (MeansColumn c size) events columns
  pub ends : s ≡ ended_with_all (map (λ a. a.ending) columns)
  pub reported : now ≡ said_more said (table_of c size columns)

-- In memory.
-- the same wrong, told at this place
abbrev pub told_at : ℕ → Wrong → Wrong
told_at place (wrong.Refused fault) = wrong.Refused (record { part = fault.part; number = fault.number; place = place })
told_at place wrong.Memory = wrong.Memory

-- the extension of a lawful program
pub record IsExtensible (p : ProgramTree) (l : LoadedCase) : Type 0 where
  pub flat : FlatModel
  pub lawful : IsLawful p flat
  pub loaded : IsLoaded p l

-- a top event of the case's program, with its expression over the flat model of the extension
pub record IsEventOf (c : Case) (e : Formula) (tree : Tree FlatLeaf) : Type 0 where
  pub is_top : IsTop c.program e
  pub is_tree : IsTopTree c e tree

-- what an analysis of the event found, as a column
pub record IsColumn (c : Case) (depth : ℕ) (e : Formula) (column : Column) : Type 0 where
  pub analysis : Analysis
  pub found : IsFound c e (length c.faults) depth analysis
  pub sets : analysis.sets ≡ column.sets
  pub ending : analysis.ending ≡ told_ending column.ending

-- columns of all events
pub record AreColumns (c : Case) (depth : ℕ) (events : List Formula) (columns : List Column) : Type 0 where
  pub analyses : List Analysis
  pub found : AreFound c depth events analyses
  pub told : AreTold analyses columns
  pub named : All (NamesFaults (length c.faults)) columns

-- the case of a table
abbrev pub tabulated_case : Tabulating → Case
tabulated_case a = case_of (program_tree a.model.program) a.case

-- the top events of a table
abbrev pub tabulated_events : Tabulating → List Formula
tabulated_events a = map tree_of a.tops.written

-- the case is the extension of a lawful program, the expressions are top events of it, and rows have at most two faults
pub record IsTabulable (a : Tabulating) : Type 0 where
  pub extensible : IsExtensible (program_tree a.model.program) a.case
  pub events : EachBoth (IsEventOf (tabulated_case a)) (tabulated_events a) (map flat_tree a.tops.over)
  pub small : a.size ≤ 2
