-- What a run comes to, and what it leaves behind.
use Rattle.std.specs.Prelude.{◌≡◌, ◌⊎◌, ℕ, List, Option, IfSome, length, codes}
use Rattle.base_files.specs.declared.files.NamedFile.{NamedFile}
use Rattle.base_files.specs.Desk.{told_with, said_more, SaysPrefix, WritesPrefix}
use Rattle.smv_language.specs.Language.{Text, Formula, ProgramTree, Tree, Value, FlatLeaf}
use Rattle.smv_evaluation.specs.Replay.{IsReaching}
use Rattle.verb_command_line.specs.Commands.{Command, extend, replay, analyse, check, fmea, make, causes, check_causes, orders}
use Rattle.verb_command_line.specs.Commands.{check_orders, odds}
use Rattle.verb_command_line.specs.Sets.{numbers_of}
use Rattle.verb_command_line.specs.Meaning.{Means as WordsMean}
use Rattle.verb_command_line.specs.declared.fault.WordFault.{WordFault}
use Rattle.verb_loading.specs.declared.status.Refusal.{Refusal}
use Rattle.verb_loading.specs.declared.status.Refusal.TheVariants as refusal
use Rattle.verb_loading.specs.declared.status.Status.{Status}
use Rattle.verb_loading.specs.declared.status.Status.TheVariants as status
use Rattle.verb_loading.specs.declared.status.InputFault.{InputFault}
pub use Rattle.verb_loading.specs.Statuses.{IsAnswer, IsFinished}
use Rattle.verb_loading.specs.Statuses.{status_of, refusal_text, words_text}
use Rattle.verb_run.specs.Requests.{RefusesWords}
use Rattle.verb_loading.specs.Inputs.{RefusesModel, HoldsModel, RefusesFaults, HoldsFaults}
use Rattle.verb_loading.specs.Cases.{Case, HoldsCase, HoldsTops, IsTopWord, IsWrongWord}
use Rattle.verb_loading.specs.Tasks.{IsTopTree}
use Rattle.verb_loading.specs.CaseAnswers.{Told, Said}
use Rattle.verb_run.specs.AnswerTexts.{replay_text}
use Rattle.verb_loading.specs.Events.{RefusesEvent}
use Rattle.cut_model_search.specs.CaseAnalysis.{size_for}
use Rattle.verb_run.specs.Analyses.{HasAnalysed, AnalysesInPart}
use Rattle.verb_run.specs.Certificates.{CheckRefuses, CheckSays}
use Rattle.verb_run.specs.Tables.{RefusesTable, HasTabulated, TabulatesInPart}
use Rattle.verb_run.specs.GeneratedCase.{IsGenerated, HasMade, MakesInPart}
use Rattle.verb_run.specs.Replays.{RefusesTrace, HoldsTrace, RefusesMoment}
use Rattle.verb_causes.specs.Causes.{AcceptsCauses, HasFoundCauses, FindsCausesInPart, HasCheckedCauses, ChecksCausesInPart}
use Rattle.verb_causes.specs.Refusals.{RefusesStaged, HoldsCaused, RefusesCauseCheck}
use Rattle.verb_orders.specs.Pairs.{RefusesPair, HoldsPairEvent}
use Rattle.verb_orders.specs.Orders.{HasOrder, OrdersInPart, RefusesCheck, AcceptsOrder, HasCheckedOrder}
use Rattle.verb_odds.specs.Odds.{RefusesOdds, HoldsMarked, HasOdds, SaysOddsInPart}

-- A run refuses its words or something that they name, it writes a text to a file and says a report, it says a report alone, it
-- analyses a case for the top event that a word spells, it makes a table of a case for some top events, or it makes a generated case.
-- Or it does with the files what words ask for: it searches faults and common causes, or accepts a certificate of them; it finds the
-- order of two faults, or accepts a certificate of one; or it bounds the probabilities of cut sets.
pub data Outcome : Type 0 where
  rejects : WordFault → Outcome
  refuses : Refusal → Outcome
  extends : Text → Text → Text → Outcome
  says : Text → Outcome
  analyses : (c : Case) (word : Text) (depth size : ℕ) (extended cert : Text) → Outcome
  tabulates : (c : Case) (events : List Formula) (size depth : ℕ) → Outcome
  makes : (c : Case) (stages depth : ℕ) (model faults : Text) → Outcome
  finds_causes : (files : List NamedFile) (model faults file top : Text) (depth : ℕ) (cert : Text) → Outcome
  accepts_causes : (files : List NamedFile) (model faults file top cert : Text) → Outcome
  finds_order : (files : List NamedFile) (model faults top : Text) (set : List ℕ) (first second depth : ℕ) (cert : Text) → Outcome
  accepts_order : (files : List NamedFile) (model faults top : Text) (set : List ℕ) (first second : ℕ) (claim cert : Text) → Outcome
  finds_odds : (files : List NamedFile) (model faults top : Text) (depth : ℕ) → Outcome

-- what the two files come to, with the file for the extension, in the order of the work
pub data ComesTo (files : List NamedFile) (model faults extended : Text) : Outcome → Type 0 where
  refuses_model : (r : Refusal) → RefusesModel files model r → ComesTo files model faults extended (refuses r)
  refuses_faults : (p : ProgramTree) (r : Refusal) → HoldsModel files model p → RefusesFaults files faults p r →
      ComesTo files model faults extended (refuses r)
  is_extended : (p : ProgramTree) (text report : Text) → HoldsModel files model p → HoldsFaults files faults p text report →
      ComesTo files model faults extended (extends extended text report)

-- what the file of a trace comes to over the extension, where the event is this expression there: it is refused, its moments are
-- no trace that reaches the event, or they are one, and the names of the faults that it has failed are said
pub data TraceComesTo (files : List NamedFile) (c : Case) (tree : Tree FlatLeaf) (trace : Text) : Outcome → Type 0 where
  refuses_trace : (r : Refusal) → RefusesTrace files trace c.flat r → TraceComesTo files c tree trace (refuses r)
  refuses_moment : (moments : List (List Value)) (r : Refusal) → HoldsTrace files trace c.flat moments →
      RefusesMoment c.flat tree moments r → TraceComesTo files c tree trace (refuses r)
  is_reached : (moments : List (List Value)) → HoldsTrace files trace c.flat moments → IsReaching c.flat tree moments →
      TraceComesTo files c tree trace (says (replay_text c moments))

-- what the files and the word of a replay come to, in the order of the work
pub data ReplayComesTo (files : List NamedFile) (model faults trace top : Text) : Outcome → Type 0 where
  refuses_its_model : (r : Refusal) → RefusesModel files model r → ReplayComesTo files model faults trace top (refuses r)
  refuses_its_faults : (p : ProgramTree) (r : Refusal) → HoldsModel files model p → RefusesFaults files faults p r →
      ReplayComesTo files model faults trace top (refuses r)
  refuses_its_top : (c : Case) (fault : InputFault) → HoldsCase files model faults c → IsWrongWord c.program top fault →
      ReplayComesTo files model faults trace top (refuses (refusal.Top fault))
  reads_its_trace : (c : Case) (e : Formula) (tree : Tree FlatLeaf) (o : Outcome) → HoldsCase files model faults c →
      IsTopWord c.program top e → IsTopTree c e tree →
      TraceComesTo files c tree trace o → ReplayComesTo files model faults trace top o

-- what the files and the word of an analysis come to
pub data AnalysisComesTo (files : List NamedFile) (model faults top : Text) (depth : ℕ) (extended cert : Text)
    (size : Option ℕ) : Outcome → Type 0 where
  refuses_event : (r : Refusal) → RefusesEvent files model faults top r →
      AnalysisComesTo files model faults top depth extended cert size (refuses r)
  is_analysed : (c : Case) (e : Formula) → HoldsCase files model faults c → IsTopWord c.program top e →
      AnalysisComesTo files model faults top depth extended cert size (analyses c top depth (size_for size (length c.faults)) extended cert)

-- what the files and the word of a check come to
pub data CheckComesTo (files : List NamedFile) (model faults top cert : Text) : Outcome → Type 0 where
  refuses_check : (r : Refusal) → CheckRefuses files model faults top cert r → CheckComesTo files model faults top cert (refuses r)
  is_checked : (report : Text) → CheckSays files model faults top cert report → CheckComesTo files model faults top cert (says report)

-- what the three files of a table come to
pub data TableComesTo (files : List NamedFile) (model faults tops : Text) (size depth : ℕ) : Outcome → Type 0 where
  refuses_table : (r : Refusal) → RefusesTable files model faults tops r → TableComesTo files model faults tops size depth (refuses r)
  is_tabulated : (c : Case) (events : List Formula) → HoldsCase files model faults c → HoldsTops files tops c.program events →
      TableComesTo files model faults tops size depth (tabulates c events size depth)

-- what a number and stages come to, whatever the files hold
pub data MakeComesTo (number stages depth : ℕ) (model faults : Text) : Outcome → Type 0 where
  is_made : (c : Case) → IsGenerated number stages c → MakeComesTo number stages depth model faults (makes c stages depth model faults)

-- what is refused so, or where nothing is to be refused comes to this
pub data RefusedOr (Refuses : Refusal → Type 0) (Holds : Type 0) (work : Outcome) : Outcome → Type 0 where
  is_refused : (r : Refusal) → Refuses r → RefusedOr Refuses Holds work (refuses r)
  is_done : Holds → RefusedOr Refuses Holds work work

-- what a command comes to
abbrev pub CommandComesTo : List NamedFile → Command → Outcome → Type 0
CommandComesTo files (extend model faults extended) o = ComesTo files model faults extended o
CommandComesTo files (replay model faults trace top) o = ReplayComesTo files model faults trace top o
CommandComesTo files (analyse model faults top depth extended cert size) o =
    AnalysisComesTo files model faults top depth extended cert size o
CommandComesTo files (check model faults top cert) o = CheckComesTo files model faults top cert o
CommandComesTo files (fmea model faults tops size depth) o = TableComesTo files model faults tops size depth o
CommandComesTo files (make number stages depth model faults) o = MakeComesTo number stages depth model faults o
CommandComesTo files (causes model faults file top depth cert) o =
    RefusedOr (RefusesStaged files model faults file top) (HoldsCaused files model faults file top)
    (finds_causes files model faults file top depth cert) o
CommandComesTo files (check_causes model faults file top cert) o =
    RefusedOr (RefusesCauseCheck files model faults file top cert) ((report : Text)
    × AcceptsCauses files model faults file top cert report) (accepts_causes files model faults file top cert) o
CommandComesTo files (orders model faults top set first second depth cert) o =
    RefusedOr (RefusesPair files model faults top (numbers_of set) first second)
    (HoldsPairEvent files model faults top (numbers_of set) first second)
    (finds_order files model faults top (numbers_of set) first second depth cert) o
CommandComesTo files (check_orders model faults top set first second claim cert) o =
    RefusedOr (RefusesCheck files model faults top (numbers_of set) first second claim cert)
    (AcceptsOrder files model faults top (numbers_of set) first second claim cert)
    (accepts_order files model faults top (numbers_of set) first second claim cert) o
CommandComesTo files (odds model faults top depth) o =
    RefusedOr (RefusesOdds files model faults top) (HoldsMarked files model faults top) (finds_odds files model faults top depth) o

-- what a run over these files with these words comes to
pub data Means (files : List NamedFile) (words : List Text) : Outcome → Type 0 where
  refuses_words : (f : WordFault) → RefusesWords words f → Means files words (rejects f)
  asked : (c : Command) (o : Outcome) → WordsMean words c → CommandComesTo files c o → Means files words o

-- The outcome stands in full, and the run has its status: a refusal has changed no file and said its one line; an extension has
-- written its whole text to its one file and said its report; a report alone has changed no file; an analysis has written the
-- extension, and for a complete answer a certificate, and said its report; a table has changed no file and was said; a generated case
-- has written its two files, and its summary was said. The other verbs have written and said what is their own.
abbrev pub IsDelivered : Outcome → Status → Told → Told → Said → Said → Type 0
IsDelivered (rejects f) ended before after said now = (ended ≡ status.Words f) × (after ≡ before) × (now ≡ said_more said (words_text f))
IsDelivered (refuses r) ended before after said now = (ended ≡ status_of r) × (after ≡ before) × (now ≡ said_more said (refusal_text r))
IsDelivered (extends file text report) ended before after said now = (ended ≡ status.Done) × (after ≡ told_with before file text)
    × (now ≡ said_more said report)
IsDelivered (says report) ended before after said now = (ended ≡ status.Done) × (after ≡ before) × (now ≡ said_more said report)
IsDelivered (analyses c word depth size extended cert) ended before after said now =
    HasAnalysed c word depth size extended cert ended before after said now
IsDelivered (tabulates c events size depth) ended before after said now = HasTabulated c events size depth ended before after said now
IsDelivered (makes c stages depth model faults) ended before after said now =
    HasMade c stages depth model faults ended before after said now
IsDelivered (finds_causes files model faults file top depth cert) ended before after said now =
    HasFoundCauses files model faults file top cert depth ended before after said now
IsDelivered (accepts_causes files model faults file top cert) ended before after said now =
    (ended ≡ status.Done) × (after ≡ before) × HasCheckedCauses files model faults file top cert said now
IsDelivered (finds_order files model faults top set first second depth cert) ended before after said now =
    HasOrder files model faults top set first second depth cert ended before after said now
IsDelivered (accepts_order files model faults top set first second claim cert) ended before after said now =
    (ended ≡ status.Done) × (after ≡ before) × HasCheckedOrder files model faults top set first second claim cert ended said now
IsDelivered (finds_odds files model faults top depth) ended before after said now = (after ≡ before)
    × HasOdds files model faults top depth ended said now

-- A part of the outcome stands: at most a prefix of what would be written and said. Nothing of a report is said before each file is
-- whole.
abbrev pub IsDeliveredInPart : Outcome → Told → Told → Said → Said → Type 0
IsDeliveredInPart (rejects f) before after said now = (after ≡ before) × SaysPrefix said now (words_text f)
IsDeliveredInPart (refuses r) before after said now = (after ≡ before) × SaysPrefix said now (refusal_text r)
IsDeliveredInPart (extends file text report) before after said now =
    (WritesPrefix before after file text × (now ≡ said)) ⊎ ((after ≡ told_with before file text) × SaysPrefix said now report)
IsDeliveredInPart (says report) before after said now = (after ≡ before) × SaysPrefix said now report
IsDeliveredInPart (analyses c word depth size extended cert) before after said now =
    AnalysesInPart c word depth size extended cert before after said now
IsDeliveredInPart (tabulates c events size depth) before after said now = TabulatesInPart c events size depth before after said now
IsDeliveredInPart (makes c stages depth model faults) before after said now = MakesInPart c stages depth model faults before after said now
IsDeliveredInPart (finds_causes files model faults file top depth cert) before after said now =
    FindsCausesInPart files model faults file top cert depth before after said now
IsDeliveredInPart (accepts_causes files model faults file top cert) before after said now = (after ≡ before)
    × ChecksCausesInPart files model faults file top cert said now
IsDeliveredInPart (finds_order files model faults top set first second depth cert) before after said now =
    OrdersInPart files model faults top set first second depth cert before after said now
IsDeliveredInPart (accepts_order files model faults top set first second claim cert) before after said now =
    (after ≡ before) × AcceptsOrder files model faults top set first second claim cert × SaysPrefix said now (codes "accepted\n")
IsDeliveredInPart (finds_odds files model faults top depth) before after said now = (after ≡ before)
    × SaysOddsInPart files model faults top depth said now

-- what stands is the whole of an outcome that something comes to
pub record Stands (Comes : Outcome → Type 0) (answer : Status) (before after : Told) (said now : Said) : Type 0 where
  pub outcome : Outcome
  pub means : Comes outcome
  pub delivered : IsDelivered outcome answer before after said now

-- what stands is a part of it
pub record StandsInPart (Comes : Outcome → Type 0) (before after : Told) (said now : Said) : Type 0 where
  pub outcome : Outcome
  pub means : Comes outcome
  pub in_part : IsDeliveredInPart outcome before after said now

-- the run has answered: what stands is the whole outcome of the words and files at entry
abbrev pub HasAnswered : List NamedFile → List Text → Status → Told → Told → Said → Said → Type 0
HasAnswered files words answer before after said now = Stands (Means files words) answer before after said now

-- the run has stopped on the way: what stands is a part of that outcome
abbrev pub HasStopped : List NamedFile → List Text → Told → Told → Said → Said → Type 0
HasStopped files words before after said now = StandsInPart (Means files words) before after said now

-- a command was carried out, over the files as they were: where there is an answer, the whole outcome stands
abbrev pub IsCarriedOut : Command → Status → Told → Told → Said → Said → Type 0
IsCarriedOut command answer before after said now = IsAnswer answer →
    IfSome before (λ files. Stands (CommandComesTo files command) answer before after said now)

-- and however it ended, nothing was done, or a part of the outcome stands
abbrev pub IsLeftInPart : Command → Told → Told → Said → Said → Type 0
IsLeftInPart command before after said now = ((after ≡ before) × (now ≡ said))
    ⊎ IfSome before (λ files. StandsInPart (CommandComesTo files command) before after said now)
