use Rattle.std.proofs.Common.{Err, IsErrOf, sym, ap, ◌∙◌}
use Rattle.std.proofs.lemmas.Result.{err_from_is_err_and}
use Rattle.verb_loading.specs.declared.input.Stop.TheVariants as stop
use Rattle.verb_loading.proofs.LoadedText.{holds_extension}
use Rattle.verb_loading.proofs.faults.load_extension.Goals as goal
use Rattle.base_values.proofs.ResultLaws.{same_fault}

pub returns-in_err-case-clause-refused : goal.returns-in_err-case-clause-refused
returns-in_err-case-clause-refused g c r e =
    let exit = err_from_is_err_and c.from_residual.result c.from_residual.ensures.1 in
    let refused : IsErrOf c.load_case.result (stop.Refused r) = c.in_err-case.was ∙ ap (λ stop. Err stop) (sym exit.2 ∙ same_fault (sym exit.1 ∙ e)) in
    c.load_case.ensures.refused r refused

pub returns-clause-ok : goal.returns-clause-ok
returns-clause-ok g c =
    holds_extension _ _ _ c.in_ok-case.case c.in_ok-made.made c.in_ok-case.ensures.loaded c.in_ok-made.ensures.text c.in_ok-made.ensures.report c.in_ok-case.ensures.ok
