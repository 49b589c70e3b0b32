use Rattle.std.proofs.Common.{◌∙◌}
use Rattle.std.proofs.lemmas.Result.{err_from_is_err_and}
use Rattle.verb_loading.proofs.Told.{if_refused}
use Rattle.verb_loading.proofs.TopLaws.{want_untold}
use Rattle.verb_loading.proofs.top.scope_of.Goals as goal

pub returns-in_err-scope-clause-wrong : goal.returns-in_err-scope-clause-wrong
returns-in_err-scope-clause-wrong c =
    let exit = err_from_is_err_and c.from_residual.result c.from_residual.ensures.1 in
    rw exit.1 (if_refused (λ told. ⊥) _ (λ told is. want_untold c.in_err-scope.field-0.0 told c.in_err-scope.ensures.want (is ∙ exit.2)))
