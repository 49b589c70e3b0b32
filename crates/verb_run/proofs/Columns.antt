-- From the searches of all events to the table of their analyses, and what its entries mean.
use Rattle.std.proofs.Common.{arith, ◌≡◌, inr, ℕ, zero, suc, ◌+◌, ◌-◌, ◌<◌, ◌≤◌, ◌++◌, List, [], ◌∷◌, All, Some, length, map, drop, get_or, refl, sym, ap, subst, ◌∙◌}
use Rattle.std.specs.Prelude.{Contains}
use Rattle.std.specs.List.{range_with_len}
use Rattle.std.proofs.lemmas.Option.{slice_get_within}
use Rattle.std.proofs.Math.Seq.{take-length}
use Rattle.std.proofs.lemmas.List.{at_drop_more, at_drop_all}
use Rattle.std.proofs.lemmas.List.Elements.{All-nil, All-cons, All-weaker, All-contains, All-contains_itself, All-append}
use Rattle.base_files.specs.declared.files.NamedFile.{NamedFile}
use Rattle.base_files.specs.Desk.{said_more, SaysPrefix}
use Rattle.smv_language.specs.Language.{Text, Formula, ProgramTree, Tree, FlatLeaf, model_tree, name_of_fault, EachBoth}
use Rattle.cut_search_laws.specs.Problem.{problem_of}
use Rattle.cut_search.specs.Answer.{IsAnswer}
use Rattle.cut_search.specs.declared.answer.Analysis.{Analysis as Searched}
use Rattle.cut_report_laws.specs.SearchAnswer.{ending_of, analysis_of}
use Rattle.base_values.specs.declared.ending.Ending.{Ending as Ended}
use Rattle.verb_loading.specs.declared.loaded.LoadedCase.{LoadedCase}
use Rattle.verb_loading.specs.LoadedCases.{case_of}
use Rattle.verb_loading.specs.Cases.{Case, HoldsCase, HoldsTops}
use Rattle.verb_run.specs.Tables.{IsExtensible, IsEventOf, IsColumn, AreColumns, AreFound, HasTabulated, TabulatesInPart, MeansColumn, IsTabulated, table_of, after_column, ended_with_all}
use Rattle.verb_run.proofs.TopEvents.{counts_in_case, event_found}
use Rattle.smv_type_laws.specs.Costs.{state_bits}
use Rattle.fault_extend.specs.WovenFaults.{fault_tree}
use Rattle.cut_report.specs.FaultText as lines
use Rattle.cut_tables.specs.Columns.{AreTold, NamesFaults, IsTableOf}
use Rattle.cut_text_laws.specs.Analysis.{told_ending}
use Rattle.cut_tables.specs.declared.columns.FmeaTable.{FmeaTable}
use Rattle.cut_tables.specs.declared.columns.Column.{Column}
use Rattle.base_values.specs.declared.ending.Ending.TheVariants as ended
use Rattle.cut_tables.specs.Tables.{rows_of, pairs_after, pairs_from, table_text}
use Rattle.cut_report_laws.specs.ExtendedTraces.{Analysis}
use Rattle.cut_report_laws.proofs.EntryLaws.{entries_are_right, at_place as there_too}
use Rattle.verb_loading.specs.declared.status.Status.{Status}
use Rattle.verb_loading.specs.declared.status.Status.TheVariants as status
use Rattle.verb_loading.specs.CaseAnswers.{Told, Said, faults_text}
use Rattle.verb_loading.proofs.ListedLaws.{are_listed, named_lines}
use Rattle.verb_run.proofs.TableLemmas.{both_over, both_back}
use Rattle.cut_model_search.specs.CaseAnalysis.{IsFound}
use Rattle.cut_model_search.proofs.Places.{all_by_place}

-- the sets of an analysis name the case's faults
pub names_faults : (c : Case) (e : Formula) (size depth : ℕ) (a : Analysis) → IsFound c e size depth a → All (All (λ i. (0 < i) × (i ≤ length c.faults))) a.sets
names_faults c e size depth a found =
    all_by_place (All (λ i. (0 < i) × (i ≤ length c.faults))) a.sets
    (λ k set there.
    let right = found.right.right in
    let trace = there_too a.sets found.right.traces k set there right.one_each in
    let shows = right.shown k set trace.0 there trace.1 in
    All-weaker (Contains set) (λ i. (0 < i) × (i ≤ length c.faults))
    (λ i member.
    let failed = (shows.exactly i).1 member in
    let within = slice_get_within c.faults (i - 1) failed.0 failed.2 in
    let above = failed.1 in
    (above, omega (arith, within, above))) set (All-contains_itself set))

-- what a search of an event found, as a column
pub column_found : (p : ProgramTree) (l : LoadedCase) (is : IsExtensible p l) (e : Formula) (tree : Tree FlatLeaf) → IsEventOf (case_of p l) e tree → (depth : ℕ) (a : Searched) (len size : ℕ) →
    len ≡ length l.limited.faults → size ≡ len →
    IsAnswer (problem_of (case_of p l).flat (case_of p l).modes tree) depth size a →
    (ending : Ended) → told_ending ending ≡ ending_of a.end → IsColumn (case_of p l) depth e (record { sets = a.sets; ending = ending })
column_found p l is e tree event depth a len size counted sized answer ending told =
    let c : Case = case_of p l in
    let symbols = l.limited.typed.model.symbols in
    record {
      analysis = analysis_of symbols a;
      found = subst (λ n. IsFound c e n depth (analysis_of symbols a)) (sized ∙ counted ∙ sym (counts_in_case p l is)) (event_found p l is e tree event depth size a answer);
      sets = refl;
      ending = sym told;
    }

-- columns of all events, one for each
pub are_columns : (c : Case) (depth : ℕ) (es : List Formula) (columns : List Column) → EachBoth (IsColumn c depth) es columns → AreColumns c depth es columns
are_columns c depth [] [] h = record { analyses = []; found = tt; told = (refl, refl); named = All-nil (NamesFaults (length c.faults)) }
are_columns c depth [] (b ∷ bs) h = absurd h
are_columns c depth (e ∷ es) [] h = absurd h
are_columns c depth (e ∷ es) (b ∷ bs) h =
    let more = are_columns c depth es bs h.1 in
    let one = h.0 in
    record {
      analyses = one.analysis ∷ more.analyses;
      found = (one.found, more.found);
      told = ((λ j. one.sets j ∷ more.told.0 j), (λ j. one.ending j ∷ more.told.1 j));
      named = All-cons (NamesFaults (length c.faults)) b bs (subst (All (All (λ i. (0 < i) × (i ≤ length c.faults)))) one.sets (names_faults c e (length c.faults) depth one.analysis one.found)) more.named;
    }

-- what was found of each event, with the events of the expressions
pub columns_of_events : (c : Case) (depth : ℕ) {A : Type 0} (g : A → Tree FlatLeaf) (es : List Formula) (trees : List A) (columns : List Column) → EachBoth (IsEventOf c) es (map g trees) →
    EachBoth (λ tree column. (e : Formula) → IsEventOf c e (g tree) → IsColumn c depth e column) trees columns → AreColumns c depth es columns
columns_of_events c depth g es trees columns events found =
    are_columns c depth es columns
    (both_over (λ e tree. IsEventOf c e (g tree)) (λ tree column. (e : Formula) → IsEventOf c e (g tree) → IsColumn c depth e column) (IsColumn c depth) (λ e tree column is so. so e is) es trees columns
    (both_back (IsEventOf c) g es trees events) found)

-- The text of a table of the case.
module _ (p : ProgramTree) (l : LoadedCase) (is : IsExtensible p l) (len count : ℕ) (counted : len ≡ length l.limited.faults) (sized : count ≡ len) where
  counts_as : count ≡ length (case_of p l).faults
  counts_as = sized ∙ counted ∙ sym (counts_in_case p l is)

  pub named_in_case : (columns : List Column) → All (NamesFaults (length (case_of p l).faults)) columns → All (NamesFaults count) columns
  named_in_case columns named = subst (λ n. All (NamesFaults n) columns) (sym counts_as) named

  lines_in_case : lines.faults_text (map name_of_fault l.limited.faults) ≡ faults_text (map fault_tree l.limited.woven.faults)
  lines_in_case = named_lines l.limited.woven.faults l.limited.faults (are_listed l.limited.typed.model l.limited.woven.faults l.limited.faults is.loaded.numbered)

  pub text_in_case : (size bits : ℕ) (front shown : Text) (columns : List Column) (t : FmeaTable) (text : Text) → bits ≡ state_bits (model_tree l.limited.full.model) →
      front ≡ lines.faults_text (map name_of_fault l.limited.faults) → shown ≡ front → ((found : List Analysis) → AreTold found columns → IsTableOf count size found t) →
      ((faults most : ℕ) (found : List Analysis) → IsTableOf faults most found t → text ≡ table_text shown bits faults most found) →
      (found : List Analysis) → AreTold found columns → text ≡ table_of (case_of p l) size found
  text_in_case size bits front shown columns t text counts printed same made told found are =
      told count size found (made found are)
      ∙ (λ j. table_text ((same ∙ printed ∙ lines_in_case) j) ((counts ∙ ap state_bits is.loaded.full) j) (counts_as j) size found)

-- a text that was said whole
pub whole_said : (said now : Said) (bytes text : Text) → now ≡ said_more said bytes → bytes ≡ text → SaysPrefix said now text
whole_said said now bytes text is same = let fits : length text ≤ length text = omega arith in (length text, fits, is ∙ ap (said_more said) (same ∙ sym (take-length text)))

-- how a run ends, from a column on
ends_here : (columns : List Column) (i : ℕ) (column : Column) → i < length columns → column ≡ get_or columns i column →
    ended_with_all (map (λ x. told_ending x.ending) (drop i columns)) ≡ after_column (told_ending column.ending) (ended_with_all (map (λ x. told_ending x.ending) (drop (i + 1) columns)))
ends_here columns i column below here =
    at_drop_more (λ xs. ended_with_all (map (λ x. told_ending x.ending) xs)) columns i column below
    ∙ ap (λ (x : Column). after_column (told_ending x.ending) (ended_with_all (map (λ x. told_ending x.ending) (drop (i + 1) columns)))) (sym here)

pub ends_bounded : (columns : List Column) (i : ℕ) (column : Column) (k : ℕ) → i < length columns → column ≡ get_or columns i column → column.ending ≡ ended.Bounded k → (whole : Status) →
    ended_with_all (map (λ x. told_ending x.ending) (drop i columns)) ≡ whole → status.Bounded k ≡ whole
ends_bounded columns i column k below here is whole so =
    sym (ap (λ (e : Ended). after_column (told_ending e) (ended_with_all (map (λ x. told_ending x.ending) (drop (i + 1) columns)))) is) ∙ sym (ends_here columns i column below here) ∙ so

pub ends_on : (columns : List Column) (i : ℕ) (column : Column) → i < length columns → column ≡ get_or columns i column → column.ending ≡ ended.Complete → (whole : Status) →
    ended_with_all (map (λ x. told_ending x.ending) (drop i columns)) ≡ whole → ended_with_all (map (λ x. told_ending x.ending) (drop (i + 1) columns)) ≡ whole
ends_on columns i column below here is whole so =
    sym (ap (λ (e : Ended). after_column (told_ending e) (ended_with_all (map (λ x. told_ending x.ending) (drop (i + 1) columns)))) is) ∙ sym (ends_here columns i column below here) ∙ so

pub ends_after : (columns : List Column) (i : ℕ) → length columns ≤ i → ended_with_all (map (λ x. told_ending x.ending) (drop i columns)) ≡ status.Done
ends_after columns i past = at_drop_all (λ xs. ended_with_all (map (λ x. told_ending x.ending) xs)) columns i past

-- a table that was said, and its parts
pub has_tabulated : (c : Case) (es : List Formula) (size depth : ℕ) (columns : List Column) (is : AreColumns c depth es columns) (text : Text) →
    ((found : List Analysis) → AreTold found columns → text ≡ table_of c size found) → (s : Status) → s ≡ ended_with_all (map (λ column. told_ending column.ending) columns) →
    (before after : Told) (said now : Said) → after ≡ before → now ≡ said_more said text → HasTabulated c es size depth s before after said now
has_tabulated c es size depth columns is text printed s ends before after said now kept line =
    record {
      columns = is.analyses;
      found = is.found;
      ends = ends ∙ ap ended_with_all (sym is.told.1);
      kept = kept;
      reported = line ∙ ap (said_more said) (printed is.analyses is.told);
    }

pub tabulates_begun : (c : Case) (es : List Formula) (size depth : ℕ) (columns : List Column) (is : AreColumns c depth es columns) (text : Text) →
    ((found : List Analysis) → AreTold found columns → text ≡ table_of c size found) → (before after : Told) (said now : Said) → after ≡ before → SaysPrefix said now text →
    TabulatesInPart c es size depth before after said now
tabulates_begun c es size depth columns is text printed before after said now kept front =
    (kept, inr (is.analyses, is.found, subst (SaysPrefix said now) (printed is.analyses is.told) front))

-- What the entries mean.
-- rows have at most as many faults as there are
abbrev IsSmall : ℕ → List ℕ → Type 0
IsSmall n row = length row ≤ n

small_singles : (n a k : ℕ) → 1 ≤ n → All (IsSmall n) (map (λ i. i ∷ []) (range_with_len a k))
small_singles n a zero some = All-nil (IsSmall n)
small_singles n a (suc k) some = All-cons (IsSmall n) (a ∷ []) (map (λ i. i ∷ []) (range_with_len (a + 1) k)) some (small_singles n (a + 1) k some)

small_after : (n i a k : ℕ) → 2 ≤ n → All (IsSmall n) (map (λ j. i ∷ j ∷ []) (range_with_len a k))
small_after n i a zero two = All-nil (IsSmall n)
small_after n i a (suc k) two = All-cons (IsSmall n) (i ∷ a ∷ []) (map (λ j. i ∷ j ∷ []) (range_with_len (a + 1) k)) two (small_after n i (a + 1) k two)

small_pairs : (n i k : ℕ) → k ≤ n → All (IsSmall n) (pairs_from i k)
small_pairs n i zero fits = All-nil (IsSmall n)
small_pairs n i (suc zero) fits = All-nil (IsSmall n)
small_pairs n i (suc (suc k)) fits =
    All-append (IsSmall n) (pairs_after i (suc k)) (pairs_from (suc i) (suc k)) (small_after n i (suc i) (suc k) (omega (arith, fits))) (small_pairs n (suc i) (suc k) (omega (arith, fits)))

all_singles : (n : ℕ) → All (IsSmall n) (map (λ i. i ∷ []) (range_with_len 1 n))
all_singles zero = All-nil (IsSmall zero)
all_singles (suc n) = small_singles (suc n) 1 (suc n) (omega arith)

all_small : (size n : ℕ) → All (IsSmall n) (rows_of size n)
all_small zero n = All-cons (IsSmall n) [] [] (omega arith) (All-nil (IsSmall n))
all_small (suc zero) n = All-cons (IsSmall n) [] (map (λ i. i ∷ []) (range_with_len 1 n)) (omega arith) (all_singles n)
all_small (suc (suc more)) n =
    All-cons (IsSmall n) [] (map (λ i. i ∷ []) (range_with_len 1 n) ++ pairs_from 1 n) (omega arith)
    (All-append (IsSmall n) (map (λ i. i ∷ []) (range_with_len 1 n)) (pairs_from 1 n) (all_singles n) (small_pairs n 1 n (omega arith)))

module _ (c : Case) (size : ℕ) where
  small_rows : (row : List ℕ) → Contains (rows_of size (length c.faults)) row → length row ≤ length c.faults
  small_rows row member = All-contains (IsSmall (length c.faults)) (rows_of size (length c.faults)) row (all_small size (length c.faults)) member

  means_column : (depth : ℕ) (e : Formula) (a : Analysis) → IsFound c e (length c.faults) depth a → MeansColumn c size e a
  means_column depth e a found row member =
      entries_are_right c.program c.instructions c.faults e (length c.faults) a found.right.traces row found.right.right (small_rows row member)

  pub mean_columns : (depth : ℕ) (es : List Formula) (columns : List Analysis) → AreFound c depth es columns → EachBoth (MeansColumn c size) es columns
  mean_columns depth [] [] h = tt
  mean_columns depth [] (a ∷ as') h = absurd h
  mean_columns depth (e ∷ es) [] h = absurd h
  mean_columns depth (e ∷ es) (a ∷ as') h = (means_column depth e a h.0, mean_columns depth es as' h.1)

-- a table that was said means what it says
pub table_means : (files : List NamedFile) (after : Told) (said now : Said) (model faults tops : Text) (size depth : ℕ) (s : Status) (c : Case) (es : List Formula) →
    HoldsCase files model faults c → HoldsTops files tops c.program es → HasTabulated c es size depth s (Some files) after said now → IsTabulated files said now model faults tops size depth s
table_means files after said now model faults tops size depth s c es holds are did =
    record {
      c = c;
      events = es;
      holds = holds;
      are_tops = are;
      columns = did.columns;
      found = did.found;
      means = mean_columns c size depth es did.columns did.found;
      ends = did.ends;
      reported = did.reported;
    }
