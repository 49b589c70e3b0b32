use Rattle.std.proofs.Common.{◌≡◌, Some, sym, subst}
use Rattle.std.proofs.lemmas.Result.{IfOk-weaker}
use Rattle.cert_check.specs.QuestionMatter.{asked}
use Rattle.cut_text_laws.specs.Lines.{fed}
use Rattle.smv_language.specs.Language.{model_tree, told_trace}
use Rattle.cert_laws.specs.Certificate.{a_trace}
use Rattle.cut_report.specs.Faults.{IsFaultOf}
use Rattle.cut_text_laws.specs.TraceOfText.{BytesGive}
use Rattle.cert_check.specs.SiteFindings.{FindsAt}
use Rattle.cert_check.specs.Moments.{FindsMoments, IsTextFault}
use Rattle.cert_check.proofs.SiteLaws.{moments_found, text_broken}
use Rattle.cert_check.proofs.TraceLaws.{lines_give, can_be_replayed, gives_none}
use Rattle.cert_check.proofs.traces.trace_rule.Goals as goal

pub moments_rule-requires-clause-replayed : goal.moments_rule-requires-clause-replayed
moments_rule-requires-clause-replayed c =
    let m = model_tree c.args.q.now.plain.now.model in
    let told = told_trace c.args.q.now.plain.now.model.symbols c.in-Ok.trace in
    let same : c.text.result.now ≡ fed c.args.text.now = c.text.ensures in
    can_be_replayed m c.requires.fit.printable c.args.text.now c.in-Ok.trace c.requires.short
    (lines_give m c.requires.fit.printable c.args.text.now told c.requires.short.lines (subst (λ b. BytesGive m b told) same c.in-Ok.ensures.trace))

pub returns-in-Ok : goal.returns-in-Ok
returns-in-Ok c =
    let a = asked c.args.q.now in
    let symbols = c.args.q.now.plain.now.model.symbols in
    let told = told_trace symbols c.in-Ok.trace in
    let same : c.text.result.now ≡ fed c.args.text.now = c.text.ensures in
    let gives = lines_give a.model c.requires.fit.printable c.args.text.now told c.requires.short.lines (subst (λ b. BytesGive a.model b told) same c.in-Ok.ensures.trace) in
    IfOk-weaker c.moments_rule.result (FindsMoments a c.args.set.now told) (FindsAt a (a_trace c.args.k c.args.set.now c.args.text.now))
    (moments_found a c.args.k c.args.set.now c.args.text.now c.requires.fit.printable told gives) c.moments_rule.ensures

pub returns-in-Err : goal.returns-in-Err
returns-in-Err c =
    let a = asked c.args.q.now in
    let same : c.text.result.now ≡ fed c.args.text.now = c.text.ensures in
    IfOk-weaker c.text_rule.result (λ rule. (rule ≡ Some 4) × IsTextFault c.in-Err.fault) (FindsAt a (a_trace c.args.k c.args.set.now c.args.text.now))
    (λ rule h. subst (FindsAt a (a_trace c.args.k c.args.set.now c.args.text.now)) (sym h.0)
    (text_broken a c.args.k c.args.set.now c.args.text.now (gives_none a.model c.requires.fit.printable c.args.text.now c.in-Err.fault c.requires.short.lines h.1 (subst (λ b. IsFaultOf a.model b c.in-Err.fault) same c.in-Err.ensures.fault))))
    c.text_rule.ensures
