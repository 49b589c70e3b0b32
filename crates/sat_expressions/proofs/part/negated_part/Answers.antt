use Rattle.std.proofs.Common.{◌≡◌, ap, subst, ◌∙◌}
use Rattle.sat_circuits.specs.Sums.{negate_gates}
use Rattle.smv_types.specs.Rows.{row_negative}
use Rattle.smv_types.specs.declared.sort.JudgedExpr.{JudgedExpr}
use Rattle.sat_encoding_laws.specs.Signals.{word_in, as_word}
use Rattle.sat_expressions.specs.BuiltSignals.{signal_of}
use Rattle.sat_expressions.specs.Sorts.{sort_width, negative_sort}
use Rattle.sat_expressions.specs.Parts.{asked_of}
use Rattle.sat_expressions.proofs.Members.{asked_later}
use Rattle.sat_expressions.proofs.Nodes.{result_after}
use Rattle.sat_expressions.proofs.part.negated_part.Goals as goal

pub answer-requires-clause-asked : goal.answer-requires-clause-asked
answer-requires-clause-asked c = asked_later c.args.asked c.args.g.now c.negated.new.g c.in_ok-signal.ensures.grows c.requires.asked

pub answer-requires-clause-usable : goal.answer-requires-clause-usable
answer-requires-clause-usable c = c.in_ok-signal.ensures.usable

pub returns : goal.returns
returns c =
    let before : c.negative.result.sort ≡ negative_sort c.args.a.sort = ap (λ (j : JudgedExpr). j.sort) (c.negative.ensures ∙ ap row_negative c.kept.ensures) in
    let sort : c.negative-2.result.sort ≡ negative_sort c.args.a.sort = ap (λ (j : JudgedExpr). j.sort) (c.negative-2.ensures ∙ ap row_negative c.kept-2.ensures) in
    let width : c.sort_width-width.result ≡ sort_width c.args.names.now.symbols (negative_sort c.args.a.sort) = c.sort_width-width.ensures.value ∙ ap (sort_width c.args.names.now.symbols) before in
    result_after _ (asked_of c.args.asked) c.args.g.now c.negated.new.g _ (as_word (negate_gates (word_in (signal_of c.args.a.signal)) (sort_width c.args.names.now.symbols (negative_sort c.args.a.sort)) c.args.g.now))
    (signal_of c.in_ok-signal.signal) (negative_sort c.args.a.sort) c.negative-2.result.sort
    (subst (λ k. as_word (negate_gates (word_in (signal_of c.args.a.signal)) k c.args.g.now) ≡ (c.negated.new.g, signal_of c.in_ok-signal.signal)) width c.in_ok-signal.ensures.exact) c.in_ok-signal.ensures.grows sort c.answer.ensures
