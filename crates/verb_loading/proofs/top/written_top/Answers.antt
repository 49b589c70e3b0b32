use Rattle.std.proofs.Common.{arith, ◌∙◌}
use Rattle.std.proofs.lemmas.Result.{err_from_is_err_and}
use Rattle.verb_loading.specs.LoadedCases.{IsWrongTopText, not_a_top}
use Rattle.verb_loading.proofs.Told.{if_refused}
use Rattle.verb_loading.proofs.top.written_top.Goals as goal

pub returns-in_err-written-clause-wrong : goal.returns-in_err-written-clause-wrong
returns-in_err-written-clause-wrong c =
    let exit = err_from_is_err_and c.from_residual.result c.from_residual.ensures.1 in
    rw exit.1 (if_refused (IsWrongTopText c.args.bytes.now) _ (λ told e. not_a_top c.in_err-written.field-0.0 (omega (arith, c.if-bytes-gt-MOST_TOP_BYTES.false)) c.in_err-written.ensures.fault (e ∙ exit.2)))

pub returns-clause-ok : goal.returns-clause-ok
returns-clause-ok c = record { short = omega (arith, c.if-bytes-gt-MOST_TOP_BYTES.false); spelled = c.in_ok-written.ensures.spelled; only = c.in_ok-written.ensures.only; depths = c.in_ok-written.ensures.depths }
