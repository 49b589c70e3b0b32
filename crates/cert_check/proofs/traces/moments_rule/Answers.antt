use Rattle.std.proofs.Common.{◌-◌, length, refl, subst}
use Rattle.cert_check.specs.QuestionMatter.{asked}
use Rattle.smv_evaluation.specs.Replay.{IsReplayed}
use Rattle.smv_evaluation.specs.Stops.{at_top}
use Rattle.cert_check.specs.Moments.{not_a_trace, not_reaching}
use Rattle.cert_check.proofs.Exactly.{first_no_trace, step_no_trace, top_parts}
use Rattle.cert_check.proofs.traces.moments_rule.Goals as goal
use Rattle.smv_language.specs.NumberedValues.{told_trace}

pub replay-requires-clause-top : goal.replay-requires-clause-top
replay-requires-clause-top c = record { own = c.requires.fit.reads_own; right = c.requires.fit.right }

pub returns-in-BadFirst : goal.returns-in-BadFirst
returns-in-BadFirst c =
    let a = asked c.args.q.now in
    let trace = told_trace c.args.q.now.plain.now.model.symbols c.args.trace.now in
    not_a_trace (first_no_trace a trace 0 (subst (IsReplayed a.model a.top trace) c.in-BadFirst.is c.replay.ensures.answer))

pub returns-in-BadStep : goal.returns-in-BadStep
returns-in-BadStep c =
    let a = asked c.args.q.now in
    let trace = told_trace c.args.q.now.plain.now.model.symbols c.args.trace.now in
    not_a_trace (step_no_trace a trace c.in-BadStep._number (subst (IsReplayed a.model a.top trace) c.in-BadStep.is c.replay.ensures.answer))

pub returns-in-NoTop : goal.returns-in-NoTop
returns-in-NoTop c =
    let a = asked c.args.q.now in
    let trace = told_trace c.args.q.now.plain.now.model.symbols c.args.trace.now in
    let parts = top_parts a trace (length trace - 1) at_top (subst (IsReplayed a.model a.top trace) c.in-NoTop.is c.replay.ensures.answer) refl in
    not_reaching parts.0 parts.1

pub failed_rule-requires-clause-reaching : goal.failed_rule-requires-clause-reaching
failed_rule-requires-clause-reaching c =
    let a = asked c.args.q.now in
    subst (IsReplayed a.model a.top (told_trace c.args.q.now.plain.now.model.symbols c.args.trace.now)) c.in-Reaches.is c.replay.ensures.answer

pub returns : goal.returns
returns c = c.failed_rule.ensures
