use Rattle.std.proofs.Common.{arith, map, refl, ◌∙◌}
use Rattle.std.proofs.lemmas.Result.{err_from_is_err_and}
use Rattle.std.proofs.lemmas.List.{length-map}
use Rattle.smv_language.specs.ExpressionTree.{tree_of}
use Rattle.verb_run.specs.Tables.{IsListText, IsWrongList, no_list, long_list}
use Rattle.verb_loading.proofs.Told.{if_refused}
use Rattle.verb_run.proofs.tops.written_tops.Goals as goal

pub returns-in_err-written-clause-wrong : goal.returns-in_err-written-clause-wrong
returns-in_err-written-clause-wrong c =
    let exit = err_from_is_err_and c.from_residual.result c.from_residual.ensures.1 in
    rw exit.1 (if_refused (IsWrongList c.args.bytes.now) _ (λ told e. no_list c.in_err-written.field-0.0 c.in_err-written.ensures.fault (e ∙ exit.2)))

pub returns-then-len-gt-MOST_TOPS-clause-wrong : goal.returns-then-len-gt-MOST_TOPS-clause-wrong
returns-then-len-gt-MOST_TOPS-clause-wrong c =
    let es = map tree_of c.in_ok-written.written in
    let text : IsListText c.args.bytes.now es = record { spelled = c.in_ok-written.ensures.spelled; only = c.in_ok-written.ensures.only; depths = c.in_ok-written.ensures.depths } in
    let long = length-map c.in_ok-written.written tree_of in
    let counted = c.len.ensures in
    let more = c.if-len-gt-MOST_TOPS.true in
    long_list es text (omega (arith, long, counted, more)) refl

pub returns-clause-ok : goal.returns-clause-ok
returns-clause-ok c =
    let es = map tree_of c.in_ok-written.written in
    let text : IsListText c.args.bytes.now es = record { spelled = c.in_ok-written.ensures.spelled; only = c.in_ok-written.ensures.only; depths = c.in_ok-written.ensures.depths } in
    let long = length-map c.in_ok-written.written tree_of in
    let counted = c.len.ensures in
    let few = c.if-len-gt-MOST_TOPS.false in
    record { text = text; few = omega (arith, long, counted, few) }
