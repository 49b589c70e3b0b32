use Rattle.std.proofs.Common.{Err, IsErrOf, sym, ap, ◌∙◌}
use Rattle.std.proofs.lemmas.Result.{err_from_is_err_and, IfOk-weaker}
use Rattle.verb_loading.specs.declared.input.Stop.TheVariants as stop
use Rattle.verb_run.proofs.OutcomeLemmas.{comes_to_no_model, comes_to_no_faults, comes_to_extension}
use Rattle.base_files.proofs.Stays.{reads_on}
use Rattle.verb_run.proofs.verbs.prepare_extension.Goals as goal
use Rattle.base_values.proofs.ResultLaws.{same_fault}

pub returns-in_err-model-clause-refused : goal.returns-in_err-model-clause-refused
returns-in_err-model-clause-refused g c r e =
    let exit = err_from_is_err_and c.from_residual.result c.from_residual.ensures.1 in
    let refused : IsErrOf c.load_model.result (stop.Refused r) = c.in_err-model.was ∙ ap (λ stop. Err stop) (sym exit.2 ∙ same_fault (sym exit.1 ∙ e)) in
    comes_to_no_model _ _ _ _ r (c.load_model.ensures.refused r refused)

pub returns-clause-refused : goal.returns-clause-refused
returns-clause-refused g c r e =
    comes_to_no_faults _ _ _ _ _ _ r c.load_model.ensures.stays.files c.in_ok-model.ensures.ok (c.load_extension.ensures.refused r e)

pub returns-clause-ok : goal.returns-clause-ok
returns-clause-ok g c =
    IfOk-weaker c.load_extension.result _ _
    (λ made has. comes_to_extension _ _ _ _ _ _ made c.load_model.ensures.stays.files c.in_ok-model.ensures.ok has) c.load_extension.ensures.ok

pub returns-clause-stays : goal.returns-clause-stays
returns-clause-stays g c = reads_on _ _ _ c.load_model.ensures.stays c.load_extension.ensures.stays
