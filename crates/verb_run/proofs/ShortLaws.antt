-- A bounded answer has a depth below two more than the number of states.
use Rattle.std.proofs.Common.{◌≡◌, ℕ, ◌+◌, ◌^◌, ◌<◌, List, [], ◌∷◌, length, map, Option, Some, None, IfSome, refl, sym, ◌∙◌, subst, ap}
use Rattle.base_files.specs.declared.files.NamedFile.{NamedFile}
use Rattle.smv_language.specs.Language.{Tree, Text, Formula, flat_tree, FlatLeaf}
use Rattle.smv_flat_laws.specs.History.{with_history}
use Rattle.smv_type_laws.specs.Costs.{state_bits}
use Rattle.cut_text_laws.specs.Analysis.{Ending, complete, bounded}
use Rattle.cut_search_laws.specs.Problem.{problem_of}
use Rattle.cut_search.specs.Progress.{CodeFound}
use Rattle.cut_search.specs.Answer.{IsEnd}
use Rattle.cut_search.specs.declared.answer.End.{End}
use Rattle.cut_search.specs.declared.answer.End.TheVariants.{Complete, Bounded}
use Rattle.cut_report_laws.specs.SearchAnswer.{ending_of}
use Rattle.cut_report_laws.specs.ExtendedTraces.{Analysis}
use Rattle.verb_command_line.specs.Commands.{Command, extend, replay, analyse, check, fmea, make, causes, check_causes, orders, check_orders, odds}
use Rattle.verb_command_line.specs.Sets.{numbers_of}
use Rattle.verb_command_line.specs.Meaning.{Means as WordsMean}
use Rattle.verb_loading.specs.declared.status.Status.{Status}
use Rattle.verb_loading.specs.declared.status.Status.TheVariants as status
use Rattle.verb_loading.specs.declared.status.Refusal.TheVariants as refusal
use Rattle.verb_loading.specs.Statuses.{ended_with, IsFinished}
use Rattle.verb_loading.specs.CaseAnswers.{Told, Said, bits_of}
use Rattle.verb_loading.specs.Cases.{Case}
use Rattle.cut_model_search.specs.CaseAnalysis.{EndsBy}
use Rattle.verb_causes.specs.declared.staged.StagedEvent.{StagedEvent}
use Rattle.verb_causes.specs.Causes.{staged_in, events_in, HasFoundCauses}
use Rattle.verb_orders.specs.Orders.{Order, claimed, either, staged_of, EndsOrder, HasOrder}
use Rattle.verb_odds.specs.Odds.{HasOdds}
use Rattle.verb_run.specs.BoundedAnswers.{IsBelow, IsShort}
use Rattle.verb_run.specs.Tables.{ended_with_all, AreFound}
use Rattle.verb_run.specs.Runs.{Outcome, ComesTo, refuses_model, refuses_faults, is_extended, TraceComesTo, refuses_trace, refuses_moment, is_reached, ReplayComesTo, refuses_its_model, refuses_its_faults, refuses_its_top, reads_its_trace, AnalysisComesTo, refuses_event, is_analysed, CheckComesTo, refuses_check, is_checked, TableComesTo, refuses_table, is_tabulated, MakeComesTo, is_made, CommandComesTo, IsAnswer, IsDelivered, HasAnswered}
use Rattle.verb_run.proofs.TabulatedLaws.{never_finished}
use Rattle.verb_run.proofs.FurtherLaws.{finished_or, finished_work}

never : {A : Type 0} {s : Status} {k : ℕ} → s ≡ status.Done → s ≡ status.Bounded k → A
never done is = absurd (apart (sym done ∙ is))
  where
    apart : {k : ℕ} → status.Done ≡ status.Bounded k → ⊥
    apart e = cc

same_depth : (j k : ℕ) → status.Bounded j ≡ status.Bounded k → j ≡ k
same_depth j k e = cc

same_end : {d e : Ending} → d ≡ e → ended_with d ≡ ended_with e
same_end e = cc

module _ (l : StagedEvent) (depth : ℕ) (s : Status) (k : ℕ) where
  staged_short : (found : List CodeFound) (end : End) → s ≡ ended_with (ending_of end) →
      IsEnd (problem_of (staged_in l) (events_in l) (flat_tree l.loaded.top)) depth (length (events_in l)) found end →
      s ≡ status.Bounded k → IsBelow (state_bits (with_history (staged_in l) (events_in l))) depth k
  staged_short found (Complete clauses) e ends is = never e is
  staged_short found (Bounded j) e ends is = subst (IsBelow (state_bits (with_history (staged_in l) (events_in l))) depth) (same_depth j k (sym e ∙ is)) (ends.0, ends.1.short)

module _ (c : Case) (depth : ℕ) (s : Status) (k : ℕ) where
  analysis_short : (event : Formula) (size : ℕ) (sets : List (List ℕ)) (ending : Ending) → s ≡ ended_with ending → EndsBy c event size depth sets ending → s ≡ status.Bounded k → IsBelow (bits_of c) depth k
  analysis_short event size sets complete e ends is = never e is
  analysis_short event size sets (bounded j) e ends is = subst (IsBelow (bits_of c) depth) (same_depth j k (sym e ∙ is)) (ends.0, ends.1.2.short)

  -- a table is bounded where one of its columns is
  columns_short : (events : List Formula) (columns : List Analysis) → AreFound c depth events columns → s ≡ ended_with_all (map (λ a. a.ending) columns) → s ≡ status.Bounded k → IsBelow (bits_of c) depth k
  columns_short [] [] found e is = never e is
  columns_short [] (a ∷ rest) found e is = absurd found
  columns_short (x ∷ xs) [] found e is = absurd found
  columns_short (x ∷ xs) (a ∷ rest) found e is = by_ending (columns_short xs rest found.1) a.ending refl e
    where
      by_ending : (s ≡ ended_with_all (map (λ b. b.ending) rest) → s ≡ status.Bounded k → IsBelow (bits_of c) depth k) → (ending : Ending) → a.ending ≡ ending →
          s ≡ ended_with_all (ending ∷ map (λ b. b.ending) rest) → IsBelow (bits_of c) depth k
      by_ending others complete same ends = others ends is
      by_ending others (bounded j) same ends = analysis_short x (length c.faults) a.sets (bounded j) ends (subst (EndsBy c x (length c.faults) depth a.sets) same found.0.ends) is

  order_short : (set : List ℕ) (first second : ℕ) (tree : Tree FlatLeaf) (order : Order) (ending : Ending) → s ≡ ended_with ending → EndsOrder c set first second tree depth order ending → s ≡ status.Bounded k →
      IsBelow (state_bits (with_history (staged_of c first second) [])) depth k
  order_short set first second tree order complete e ends is = never e is
  order_short set first second tree (claimed claim) (bounded j) e ends is =
      subst (IsBelow (state_bits (with_history (staged_of c first second) [])) depth) (same_depth j k (sym e ∙ is)) (ends.0, ends.1.short)
  order_short set first second tree (either values others) (bounded j) e ends is = absurd ends

-- what was found is short
module _ (files : List NamedFile) (model faults top : Text) (depth : ℕ) (s : Status) (before after : Told) (said now : Said) (k : ℕ) (is : s ≡ status.Bounded k) where
  causes_short : (file cert : Text) → HasFoundCauses files model faults file top cert depth s before after said now → IsShort (causes model faults file top depth cert) files k
  causes_short file cert h =
      let l = h.finds.loaded in
      let finding = h.finds.finding in
      (l, h.finds.holds, staged_short l depth s k finding.searched.answer.found finding.analysis.end (h.ends ∙ same_end finding.ends) finding.searched.answer.ends is)

  orders_short : (set cert : Text) (first second : ℕ) → HasOrder files model faults top (numbers_of set) first second depth cert s before after said now → IsShort (orders model faults top set first second depth cert) files k
  orders_short set cert first second h = (h.c, h.holds, order_short h.c depth s k (numbers_of set) first second h.found.tree h.found.order h.found.ending h.ends h.found.ends_by is)

  odds_short : HasOdds files model faults top depth s said now → IsShort (odds model faults top depth) files k
  odds_short h = (h.answer.c, h.answer.holds, analysis_short h.answer.c depth s k h.answer.event (length h.answer.c.faults) h.analysis.sets h.analysis.ending h.ends h.answer.found.ends is)

module _ (files : List NamedFile) (s : Status) (before after : Told) (said now : Said) (k : ℕ) (is : s ≡ status.Bounded k) where
  finished : IsFinished s
  finished = subst IsFinished (sym is) tt

  extension_short : (model faults extended : Text) (o : Outcome) → ComesTo files model faults extended o → IsDelivered o s before after said now → ⊥
  extension_short model faults extended o (refuses_model r bad) stands = never_finished r s finished stands.0
  extension_short model faults extended o (refuses_faults p r holds bad) stands = never_finished r s finished stands.0
  extension_short model faults extended o (is_extended p text report holds have) stands = never stands.0 is

  replay_short : (model faults trace top : Text) (o : Outcome) → ReplayComesTo files model faults trace top o → IsDelivered o s before after said now → ⊥
  replay_short model faults trace top o (refuses_its_model r bad) stands = never_finished r s finished stands.0
  replay_short model faults trace top o (refuses_its_faults p r holds bad) stands = never_finished r s finished stands.0
  replay_short model faults trace top o (refuses_its_top c fault holds bad) stands = never_finished (refusal.Top fault) s finished stands.0
  replay_short model faults trace top o (reads_its_trace c e tree q holds word resolved comes) stands = by_trace q comes stands
    where
      by_trace : (q : Outcome) → TraceComesTo files c tree trace q → IsDelivered q s before after said now → ⊥
      by_trace q (refuses_trace r bad) stands = never_finished r s finished stands.0
      by_trace q (refuses_moment moments r held bad) stands = never_finished r s finished stands.0
      by_trace q (is_reached moments held reaching) stands = never stands.0 is

  check_short : (model faults top cert : Text) (o : Outcome) → CheckComesTo files model faults top cert o → IsDelivered o s before after said now → ⊥
  check_short model faults top cert o (refuses_check r bad) stands = never_finished r s finished stands.0
  check_short model faults top cert o (is_checked report h) stands = never stands.0 is

  analysis_is_short : (model faults top : Text) (depth : ℕ) (extended cert : Text) (size : Option ℕ) (o : Outcome) → AnalysisComesTo files model faults top depth extended cert size o →
      IsDelivered o s before after said now → IsShort (analyse model faults top depth extended cert size) files k
  analysis_is_short model faults top depth extended cert size o (refuses_event r bad) stands = absurd (never_finished r s finished stands.0)
  analysis_is_short model faults top depth extended cert size o (is_analysed c e holds word) stands =
      (c, holds, analysis_short c depth s k stands.event _ stands.analysis.sets stands.analysis.ending stands.ends stands.found.ends is)

  table_is_short : (model faults tops : Text) (size depth : ℕ) (o : Outcome) → TableComesTo files model faults tops size depth o → IsDelivered o s before after said now → IsShort (fmea model faults tops size depth) files k
  table_is_short model faults tops size depth o (refuses_table r bad) stands = absurd (never_finished r s finished stands.0)
  table_is_short model faults tops size depth o (is_tabulated c events holds are) stands = (c, holds, columns_short c depth s k events stands.columns stands.found stands.ends is)

  made_is_short : (number stages depth : ℕ) (model faults : Text) (o : Outcome) → MakeComesTo number stages depth model faults o → IsDelivered o s before after said now → IsShort (make number stages depth model faults) files k
  made_is_short number stages depth model faults o (is_made c generated) stands =
      (c, generated, analysis_short c depth s k stands.event _ stands.analysis.sets stands.analysis.ending stands.ends stands.found.ends is)

  pub command_short : (c : Command) (o : Outcome) → CommandComesTo files c o → IsDelivered o s before after said now → IsShort c files k
  command_short (extend model faults extended) o comes stands = extension_short model faults extended o comes stands
  command_short (replay model faults trace top) o comes stands = replay_short model faults trace top o comes stands
  command_short (analyse model faults top depth extended cert size) o comes stands = analysis_is_short model faults top depth extended cert size o comes stands
  command_short (check model faults top cert) o comes stands = check_short model faults top cert o comes stands
  command_short (fmea model faults tops size depth) o comes stands = table_is_short model faults tops size depth o comes stands
  command_short (make number stages depth model faults) o comes stands = made_is_short number stages depth model faults o comes stands
  command_short (causes model faults file top depth cert) o comes stands =
      causes_short files model faults top depth s before after said now k is file cert (finished_or _ _ _ o s before after said now finished comes stands)
  command_short (check_causes model faults file top cert) o comes stands = let done = finished_or _ _ _ o s before after said now finished comes stands in never done.0 is
  command_short (orders model faults top set first second depth cert) o comes stands =
      orders_short files model faults top depth s before after said now k is set cert first second (finished_or _ _ _ o s before after said now finished comes stands)
  command_short (check_orders model faults top set first second claim cert) o comes stands = let done = finished_or _ _ _ o s before after said now finished comes stands in never done.0 is
  command_short (odds model faults top depth) o comes stands =
      let done = finished_or _ _ _ o s before after said now finished comes stands in odds_short files model faults top depth s before after said now k is done.1

-- so is a run that answers that it is bounded
pub bounded_is_short : (told after : Told) (said now : Said) (words : List Text) (s : Status) (c : Command) (k : ℕ) → (IsAnswer s → IfSome told (λ files. HasAnswered files words s told after said now)) →
    WordsMean words c → s ≡ status.Bounded k → IfSome told (λ files. IsShort c files k)
bounded_is_short told after said now words s c k answered means is =
    finished_work told after said now words s c (λ files. IsShort c files k) answered (subst IsFinished (sym is) tt) means (λ files o comes stands. command_short files s told after said now k is c o comes stands)
