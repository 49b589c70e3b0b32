use Rattle.std.proofs.Common.{◌∙◌, sym, arith}
use Rattle.cert_check.specs.QuestionMatter.{asked}
use Rattle.smv_flat_laws.specs.FlatTrace.{stands_in_some}
use Rattle.cert_check.proofs.Exactly.{variable_in, symbol_in, those_here, those_not, those_none, same_by, differ_then}
use Rattle.cert_check.proofs.traces.are_failed.Goals as goal
use Rattle.smv_language.specs.NumberedValues.{told_trace}

pub has_failed-failed-requires-clause-variable : goal.has_failed-failed-requires-clause-variable
has_failed-failed-requires-clause-variable c = variable_in c.args.q.now.plain.now.model c.args.q.now.faults.now c.loop-i.i c.at.result.now c.requires.fit.own.modes c.at.ensures

pub has_failed-failed-requires-clause-symbol : goal.has_failed-failed-requires-clause-symbol
has_failed-failed-requires-clause-symbol c = symbol_in c.args.q.now.plain.now.model c.args.q.now.faults.now c.loop-i.i c.at.result.now c.requires.fit.own.modes c.at.ensures

pub returns-then-failed-has_number : goal.returns-then-failed-has_number
returns-then-failed-has_number c =
    let differ = differ_then c.has_failed-failed.result c.has_number.result c.if-failed-has_number.true in
    sym (those_not (λ f. stands_in_some (asked c.args.q.now).model f (told_trace c.args.q.now.plain.now.model.symbols c.args.trace.now)) c.args.set.now c.args.q.now.faults.now c.loop-i.i c.at.result.now c.at.ensures
    (λ e. differ (c.has_failed-failed.ensures ∙ e ∙ sym c.has_number.ensures)))
    ∙ c.loop-i.invariant

pub loop-i-preserved : goal.loop-i-preserved
loop-i-preserved c =
    let same = same_by c.has_failed-failed.result c.has_number.result c.if-failed-has_number.false in
    sym (those_here (λ f. stands_in_some (asked c.args.q.now).model f (told_trace c.args.q.now.plain.now.model.symbols c.args.trace.now)) c.args.set.now c.args.q.now.faults.now c.loop-i.i c.at.result.now c.at.ensures
    (sym c.has_failed-failed.ensures ∙ same ∙ c.has_number.ensures))
    ∙ c.loop-i.invariant

pub returns : goal.returns
returns c =
    sym (those_none (λ f. stands_in_some (asked c.args.q.now).model f (told_trace c.args.q.now.plain.now.model.symbols c.args.trace.now)) c.args.set.now c.args.q.now.faults.now c.loop-i.i (omega arith))
    ∙ c.loop-i.invariant
