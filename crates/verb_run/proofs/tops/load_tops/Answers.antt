use Rattle.std.proofs.Common.{Err, IsErrOf, map, sym, ap, subst, ◌∙◌}
use Rattle.std.proofs.lemmas.Result.{err_from_is_err_and}
use Rattle.smv_language.specs.Language.{program_tree, tree_of}
use Rattle.verb_loading.specs.declared.input.Stop.TheVariants as stop
use Rattle.verb_loading.specs.Wrongs.{IfRefused}
use Rattle.verb_run.specs.Tables.{AreTopTexts, IsWrongTops}
use Rattle.verb_run.proofs.TableLemmas.{refuses_tops_file, refuses_tops_bytes, holds_tops}
use Rattle.verb_run.proofs.tops.load_tops.Goals as goal
use Rattle.base_values.proofs.ResultLaws.{same_fault}

pub returns-in_err-bytes-clause-refused : goal.returns-in_err-bytes-clause-refused
returns-in_err-bytes-clause-refused g c r e =
    let exit = err_from_is_err_and c.from_residual.result c.from_residual.ensures.1 in
    let refused : IsErrOf c.read_input.result (stop.Refused r) = c.in_err-bytes.was ∙ ap (λ stop. Err stop) (sym exit.2 ∙ same_fault (sym exit.1 ∙ e)) in
    let wrong = c.read_input.ensures.refused r refused in
    refuses_tops_file _ _ _ r wrong.0 wrong.1 wrong.2

pub returns-clause-refused : goal.returns-clause-refused
returns-clause-refused g c r e =
    let p = program_tree c.args.model.now.program in
    refuses_tops_bytes _ _ _ _ c.in-Err.wrong r (sym (same_fault e) ∙ c.stop.ensures) c.in_ok-bytes.ensures.bytes
    (subst (λ b. IfRefused (IsWrongTops p b) c.in-Err.wrong) c.deref.ensures.value c.in-Err.ensures.wrong)

pub returns-in-Ok-clause-ok : goal.returns-in-Ok-clause-ok
returns-in-Ok-clause-ok g c =
    holds_tops _ _ _ _ _ c.in_ok-bytes.ensures.bytes (subst (λ b. AreTopTexts b (map tree_of c.in-Ok.tops.written)) c.deref.ensures.value c.in-Ok.ensures.text) c.in-Ok.ensures.tops
