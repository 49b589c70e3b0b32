-- What words and files come to is one.
use Rattle.std.proofs.Common.{◌≡◌, ℕ, List, Option, Some, None, IfSome, sym, ap, subst, ◌∙◌}
use Rattle.base_files.specs.declared.files.NamedFile.{NamedFile}
use Rattle.smv_language.specs.ProgramTree.{Text}
use Rattle.verb_command_line.specs.Commands.{Command, extend, replay, analyse, check, fmea, make, causes, check_causes, orders, check_orders, odds}
use Rattle.verb_command_line.specs.Sets.{numbers_of}
use Rattle.verb_command_line.proofs.ReadingLaws.{one_command}
use Rattle.verb_loading.specs.declared.status.Status.{Status}
use Rattle.verb_loading.specs.Inputs.{HoldsFaults, RefusesFaults}
use Rattle.verb_loading.specs.Cases.{HoldsTops}
use Rattle.verb_run.specs.Runs.{Outcome, rejects, refuses, extends, tabulates, makes, TableComesTo, refuses_table, is_tabulated, MakeComesTo, is_made, ComesTo, refuses_model, refuses_faults, is_extended, CommandComesTo, Means, refuses_words, asked, IsAnswer, IsDelivered, HasAnswered}
use Rattle.verb_run.proofs.ExtensionLemmas.{refused_not_asked, one_refused_words}
use Rattle.verb_loading.proofs.OneExtending.{one_refused_faults, taken_not_refused, one_taken}
use Rattle.verb_loading.proofs.OneModelFault.{one_refused_model, held_not_refused, one_held_model}
use Rattle.verb_run.proofs.OneReplay.{replay_comes_to_one}
use Rattle.verb_run.proofs.OneEvent.{analysis_comes_to_one}
use Rattle.verb_run.proofs.OneCheck.{check_comes_to_one}
use Rattle.verb_loading.proofs.OneCase.{one_case}
use Rattle.verb_run.proofs.OneTables.{one_refused_table, table_not_refused, one_held_tops}
use Rattle.verb_run.proofs.OneMade.{one_generated}
use Rattle.verb_odds.proofs.OneRefusal.{one_refused_odds, marked_not_refused}
use Rattle.verb_causes.proofs.OneRefusal.{one_refused_staged, caused_not_refused, one_cause_check, accepted_cause_check}
use Rattle.verb_orders.proofs.OneRefusal.{one_refused_pair, event_not_refused, one_refused_check, accepts_not_refused}
use Rattle.verb_run.proofs.WorkLaws.{one_or}

module _ (files : List NamedFile) (model faults extended : Text) where
  comes_to_one : (o q : Outcome) → ComesTo files model faults extended o → ComesTo files model faults extended q → o ≡ q
  comes_to_one o q (refuses_model r bad) (refuses_model s also) = ap refuses (one_refused_model files model r s bad also)
  comes_to_one o q (refuses_model r bad) (refuses_faults p s holds wrong) = absurd (held_not_refused files model p r holds bad)
  comes_to_one o q (refuses_model r bad) (is_extended p text report holds have) = absurd (held_not_refused files model p r holds bad)
  comes_to_one o q (refuses_faults p r holds wrong) (refuses_model s bad) = absurd (held_not_refused files model p s holds bad)
  comes_to_one o q (refuses_faults p r holds wrong) (refuses_faults t s other also) =
      ap refuses (one_refused_faults files faults p holds.flat holds.lawful r s wrong (subst (λ u. RefusesFaults files faults u s) (one_held_model files model p t holds other) also))
  comes_to_one o q (refuses_faults p r holds wrong) (is_extended t text report other have) =
      absurd (taken_not_refused files faults p holds.flat holds.lawful text report r (subst (λ u. HoldsFaults files faults u text report) (one_held_model files model p t holds other) have) wrong)
  comes_to_one o q (is_extended p text report holds have) (refuses_model s bad) = absurd (held_not_refused files model p s holds bad)
  comes_to_one o q (is_extended p text report holds have) (refuses_faults t s other wrong) =
      absurd (taken_not_refused files faults p holds.flat holds.lawful text report s have (subst (λ u. RefusesFaults files faults u s) (one_held_model files model p t holds other) wrong))
  comes_to_one o q (is_extended p text report holds have) (is_extended t text' report' other have') =
      let same = one_taken files faults p holds.flat holds.lawful text report text' report' have (subst (λ u. HoldsFaults files faults u text' report') (one_held_model files model p t holds other) have') in
      ap (λ t. extends extended t report) same.0 ∙ ap (extends extended text') same.1

table_comes_to_one : (files : List NamedFile) (model faults tops : Text) (size depth : ℕ) (o q : Outcome) → TableComesTo files model faults tops size depth o → TableComesTo files model faults tops size depth q → o ≡ q
table_comes_to_one files model faults tops size depth o q (refuses_table r bad) (refuses_table s also) = ap refuses (one_refused_table files model faults tops r s bad also)
table_comes_to_one files model faults tops size depth o q (refuses_table r bad) (is_tabulated c es holds are) = absurd (table_not_refused files model faults tops c es r holds are bad)
table_comes_to_one files model faults tops size depth o q (is_tabulated c es holds are) (refuses_table r bad) = absurd (table_not_refused files model faults tops c es r holds are bad)
table_comes_to_one files model faults tops size depth o q (is_tabulated c es holds are) (is_tabulated d fs other also) =
    let same : d ≡ c = sym (one_case files model faults c d holds other) in
    let events : es ≡ fs = one_held_tops c.program holds.program.lawful.accepted files tops es fs are (subst (λ e. HoldsTops files tops e.program fs) same also) in
    ap (λ e. tabulates e es size depth) (sym same) ∙ ap (λ xs. tabulates d xs size depth) events

made_comes_to_one : (number stages depth : ℕ) (model faults : Text) (o q : Outcome) → MakeComesTo number stages depth model faults o → MakeComesTo number stages depth model faults q → o ≡ q
made_comes_to_one number stages depth model faults o q (is_made c h) (is_made d g) = ap (λ e. makes e stages depth model faults) (one_generated number stages c d h g)

-- what a command comes to is one
command_comes_to_one : (files : List NamedFile) (c : Command) (o q : Outcome) → CommandComesTo files c o → CommandComesTo files c q → o ≡ q
command_comes_to_one files (extend model faults extended) o q h g = comes_to_one files model faults extended o q h g
command_comes_to_one files (replay model faults trace top) o q h g = replay_comes_to_one files model faults trace top o q h g
command_comes_to_one files (analyse model faults top depth extended cert size) o q h g = analysis_comes_to_one files model faults top depth extended cert size o q h g
command_comes_to_one files (check model faults top cert) o q h g = check_comes_to_one files model faults top cert o q h g
command_comes_to_one files (fmea model faults tops size depth) o q h g = table_comes_to_one files model faults tops size depth o q h g
command_comes_to_one files (make number stages depth model faults) o q h g = made_comes_to_one number stages depth model faults o q h g
command_comes_to_one files (causes model faults file top depth cert) o q h g =
    one_or _ _ _ o q (one_refused_staged files model faults file top) (λ r holds. caused_not_refused files model faults file top r holds) h g
command_comes_to_one files (check_causes model faults file top cert) o q h g =
    one_or _ _ _ o q (one_cause_check files model faults file top cert) (λ r holds. accepted_cause_check files model faults file top cert holds.0 r holds.1) h g
command_comes_to_one files (orders model faults top set first second depth cert) o q h g =
    one_or _ _ _ o q (one_refused_pair files model faults top (numbers_of set) first second) (λ r holds. event_not_refused files model faults top (numbers_of set) first second r holds) h g
command_comes_to_one files (check_orders model faults top set first second claim cert) o q h g =
    one_or _ _ _ o q (one_refused_check files model faults top (numbers_of set) first second claim cert) (λ r holds. accepts_not_refused files model faults top (numbers_of set) first second claim cert r holds) h g
command_comes_to_one files (odds model faults top depth) o q h g =
    one_or _ _ _ o q (one_refused_odds files model faults top) (λ r holds. marked_not_refused files model faults top r holds) h g

-- two outcomes of the same words and files are one: the same refusal, the same text and report, or the same report
pub one_outcome : (files : List NamedFile) (words : List Text) (o q : Outcome) → Means files words o → Means files words q → o ≡ q
one_outcome files words o q (refuses_words f refused) (refuses_words g also) = ap rejects (one_refused_words words f g refused also)
one_outcome files words o q (refuses_words f refused) (asked c q' means comes) = absurd (refused_not_asked words f c refused means)
one_outcome files words o q (asked c o' means comes) (refuses_words f refused) = absurd (refused_not_asked words f c refused means)
one_outcome files words o q (asked c o' means comes) (asked d q' means' comes') =
    command_comes_to_one files c o' q' comes (subst (λ e. CommandComesTo files e q') (one_command words d c means' means) comes')

-- so that a run that has answered stands by whatever its words and files come to
pub answers_exactly : (told after : Option (List NamedFile)) (said now : Option (List ℕ)) (words : List Text) (s : Status) →
    (IsAnswer s → IfSome told (λ files. HasAnswered files words s told after said now)) → IsAnswer s →
    IfSome told (λ files. (o : Outcome) → Means files words o → IsDelivered o s told after said now)
answers_exactly None after said now words s answered answer = tt
answers_exactly (Some files) after said now words s answered answer =
    let given = answered answer in
    λ o means. subst (λ q. IsDelivered q s (Some files) after said now) (one_outcome files words given.outcome o given.means means) given.delivered
