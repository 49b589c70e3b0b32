use Rattle.std.proofs.Common.{◌≡◌, false, ap, subst, ◌∙◌}
use Rattle.smv_types.specs.Rows.{row_binary}
use Rattle.smv_types.specs.declared.sort.JudgedExpr.{JudgedExpr}
use Rattle.sat_encoding_laws.specs.Signals.{operator_gates}
use Rattle.sat_expressions.specs.BuiltSignals.{signal_of}
use Rattle.sat_expressions.specs.Sorts.{kept_sort, sort_width, operation_sort}
use Rattle.sat_expressions.specs.Parts.{asked_of}
use Rattle.sat_expressions.proofs.Members.{asked_later}
use Rattle.sat_expressions.proofs.Nodes.{result_after}
use Rattle.sat_expressions.proofs.part.applied_part.Goals as goal

pub answer-requires-clause-asked : goal.answer-requires-clause-asked
answer-requires-clause-asked c = asked_later c.args.asked c.args.g.now c.operator.new.g c.in_ok-signal.ensures.grows c.requires.asked

pub answer-requires-clause-usable : goal.answer-requires-clause-usable
answer-requires-clause-usable c = c.in_ok-signal.ensures.usable

pub returns : goal.returns
returns c =
    let before : c.operation.result.sort ≡ operation_sort c.args.of.op c.args.of.left.sort c.args.of.right.sort =
    ap (λ (j : JudgedExpr). j.sort) (c.operation.ensures ∙ ap (λ j. row_binary false c.args.of.op j c.kept-2.result) c.kept.ensures ∙ ap (row_binary false c.args.of.op (kept_sort c.args.of.left.sort)) c.kept-2.ensures)
    in
    let sort : c.operation-2.result.sort ≡ operation_sort c.args.of.op c.args.of.left.sort c.args.of.right.sort =
    ap (λ (j : JudgedExpr). j.sort) (c.operation-2.ensures ∙ ap (λ j. row_binary false c.args.of.op j c.kept-4.result) c.kept-3.ensures ∙ ap (row_binary false c.args.of.op (kept_sort c.args.of.left.sort)) c.kept-4.ensures)
    in
    let width : c.sort_width-width.result ≡ sort_width c.args.names.now.symbols (operation_sort c.args.of.op c.args.of.left.sort c.args.of.right.sort) = c.sort_width-width.ensures.value ∙ ap (sort_width c.args.names.now.symbols) before in
    result_after _ (asked_of c.args.asked) c.args.g.now c.operator.new.g _
    (operator_gates c.args.of.op (sort_width c.args.names.now.symbols (operation_sort c.args.of.op c.args.of.left.sort c.args.of.right.sort)) (signal_of c.args.of.left.signal) (signal_of c.args.of.right.signal) c.args.g.now)
    (signal_of c.in_ok-signal.signal) (operation_sort c.args.of.op c.args.of.left.sort c.args.of.right.sort) c.operation-2.result.sort
    (subst (λ k. operator_gates c.args.of.op k (signal_of c.args.of.left.signal) (signal_of c.args.of.right.signal) c.args.g.now ≡ (c.operator.new.g, signal_of c.in_ok-signal.signal)) width c.in_ok-signal.ensures.exact)
    c.in_ok-signal.ensures.grows sort c.answer.ensures
