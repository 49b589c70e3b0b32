-- From what was loaded to what a table comes to, and from an answered run to the table that it has said.
use Rattle.std.proofs.Common.{◌≡◌, ℕ, List, Option, Some, None, IfSome, Result, Ok, Err, IfOk, sym, subst}
use Rattle.base_files.specs.declared.files.NamedFile.{NamedFile}
use Rattle.smv_language.specs.ProgramTree.{Text, program_tree}
use Rattle.verb_command_line.specs.Commands.{fmea}
use Rattle.verb_command_line.proofs.ReadingLaws.{one_command}
use Rattle.verb_loading.specs.declared.input.Stop.{Stop}
use Rattle.verb_run.specs.declared.tops.Tabulating.{Tabulating}
use Rattle.verb_loading.specs.declared.status.Refusal.{Refusal}
use Rattle.verb_loading.specs.declared.status.Refusal.TheVariants as refusal
use Rattle.verb_loading.specs.declared.status.Status.{Status}
use Rattle.verb_loading.specs.declared.status.Status.TheVariants as status
use Rattle.verb_loading.specs.Statuses.{status_of}
use Rattle.verb_run.specs.Requests.{AsksToTabulate}
use Rattle.verb_loading.specs.Cases.{HoldsCase, HoldsTops}
use Rattle.verb_run.specs.Tables.{RefusesTable, IsTabulated, tabulated_case, tabulated_events}
use Rattle.verb_run.specs.Runs.{Outcome, refuses, tabulates, TableComesTo, refuses_table, is_tabulated, CommandComesTo, Means, refuses_words, asked, IsAnswer, IsFinished, IsDelivered, HasAnswered}
use Rattle.verb_run.proofs.ExtensionLemmas.{refused_not_asked}
use Rattle.verb_run.proofs.Columns.{table_means}

-- no refusal is finished work
pub never_finished : (r : Refusal) (s : Status) → IsFinished s → s ≡ status_of r → ⊥
never_finished r s done is = refused r (subst IsFinished is done)
  where
    refused : (r : Refusal) → IsFinished (status_of r) → ⊥
    refused (refusal.Model fault) e = e
    refused (refusal.Faults fault) e = e
    refused (refusal.Top fault) e = e
    refused (refusal.NotAccepted o) e = e
    refused (refusal.Causes fault) e = e
    refused (refusal.Set fault) e = e

-- and it is an answer
pub finished_answers : (s : Status) → IsFinished s → IsAnswer s
finished_answers status.Done h = tt
finished_answers (status.Bounded k) h = tt
finished_answers (status.Words fault) h = tt
finished_answers (status.Model fault) h = tt
finished_answers (status.Faults fault) h = tt
finished_answers (status.Top fault) h = tt
finished_answers (status.NotAccepted o) h = tt
finished_answers status.Desk h = h
finished_answers status.Memory h = h
finished_answers (status.Causes fault) h = tt
finished_answers (status.Set fault) h = tt

module _ (model faults tops : Text) (size depth : ℕ) where
  pub no_table : (told : Option (List NamedFile)) (r : Refusal) → IfSome told (λ files. RefusesTable files model faults tops r) →
      IfSome told (λ files. TableComesTo files model faults tops size depth (refuses r))
  no_table None r bad = tt
  no_table (Some files) r bad = refuses_table r bad

  pub a_table : (told : Option (List NamedFile)) (a : Tabulating) → a.size ≡ size → a.depth ≡ depth → IfSome told (λ files. HoldsCase files model faults (tabulated_case a)) →
      IfSome told (λ files. HoldsTops files tops (program_tree a.model.program) (tabulated_events a)) →
      IfSome told (λ files. TableComesTo files model faults tops size depth (tabulates (tabulated_case a) (tabulated_events a) a.size a.depth))
  a_table None a same_size same_depth holds are = tt
  a_table (Some files) a same_size same_depth holds are =
      subst (λ n. TableComesTo files model faults tops size depth (tabulates (tabulated_case a) (tabulated_events a) n a.depth)) (sym same_size)
      (subst (λ d. TableComesTo files model faults tops size depth (tabulates (tabulated_case a) (tabulated_events a) size d)) (sym same_depth)
      (is_tabulated (tabulated_case a) (tabulated_events a) holds are))

  pub a_table_if : (told : Option (List NamedFile)) (done : Result Tabulating Stop) → IfOk done (λ a. (a.size ≡ size) × (a.depth ≡ depth)) →
      IfOk done (λ a. IfSome told (λ files. HoldsCase files model faults (tabulated_case a))) →
      IfOk done (λ a. IfSome told (λ files. HoldsTops files tops (program_tree a.model.program) (tabulated_events a))) →
      IfOk done (λ a. IfSome told (λ files. TableComesTo files model faults tops size depth (tabulates (tabulated_case a) (tabulated_events a) a.size a.depth)))
  a_table_if told (Ok a) same holds are = a_table told a same.0 same.1 holds are
  a_table_if told (Err stop) same holds are = tt

module _ (files : List NamedFile) (model faults tops : Text) (size depth : ℕ) (s : Status) (after : Option (List NamedFile)) (said now : Option (List ℕ)) (done : IsFinished s) where
  comes_tabulated : (o : Outcome) → TableComesTo files model faults tops size depth o → IsDelivered o s (Some files) after said now →
      IsTabulated files said now model faults tops size depth s × (after ≡ Some files)
  comes_tabulated o (refuses_table r bad) stands = absurd (never_finished r s done stands.0)
  comes_tabulated o (is_tabulated c es holds are) stands = (table_means files after said now model faults tops size depth s c es holds are stands, stands.kept)

  means_tabulated : (words : List Text) (o : Outcome) → Means files words o → AsksToTabulate words model faults tops size depth → IsDelivered o s (Some files) after said now →
      IsTabulated files said now model faults tops size depth s × (after ≡ Some files)
  means_tabulated words o (refuses_words f refused) asks stands = absurd (refused_not_asked words f (fmea model faults tops size depth) refused asks)
  means_tabulated words o (asked c o' named comes) asks stands =
      comes_tabulated o' (subst (λ d. CommandComesTo files d o') (one_command words c (fmea model faults tops size depth) named asks) comes) stands

-- a run that answers that it has finished has said the table
pub finished_tabulates : (told after : Option (List NamedFile)) (said now : Option (List ℕ)) (words : List Text) (s : Status) (model faults tops : Text) (size depth : ℕ) →
    (IsAnswer s → IfSome told (λ files. HasAnswered files words s told after said now)) → IsFinished s → AsksToTabulate words model faults tops size depth →
    IfSome told (λ files. IsTabulated files said now model faults tops size depth s × (after ≡ told))
finished_tabulates None after said now words s model faults tops size depth answered done asks = tt
finished_tabulates (Some files) after said now words s model faults tops size depth answered done asks =
    let answer = answered (finished_answers s done) in
    means_tabulated files model faults tops size depth s after said now done words answer.outcome answer.means asks answer.delivered
