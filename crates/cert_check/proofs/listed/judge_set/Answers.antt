use Rattle.std.proofs.Common.{◌+◌, [], ◌∷◌, sym, subst, arith}
use Rattle.cert_check.specs.QuestionMatter.{asked}
use Rattle.cert_laws.specs.Certificate.{a_set, a_trace}
use Rattle.cert_check.specs.SiteFindings.{IsKeptAt, IsBrokenAt, FindsAt}
use Rattle.cert_check.specs.declared.judged.Judged.TheVariants.{Yes, No}
use Rattle.cert_check.proofs.Finding.{kept_none, kept_then, broken_here}
use Rattle.cert_check.proofs.listed.judge_set.Goals as goal

pub returns-in-Some : goal.returns-in-Some
returns-in-Some c =
    let a = asked c.args.q.now in
    broken_here a (a_set c.args.k c.args.set.now) (a_trace c.args.k c.args.set.now c.args.text.now ∷ []) c.args.line c.in-Some.rule (sym c.requires.line)
    (subst (λ s. IsBrokenAt a (a_set c.args.k s) c.in-Some.rule) c.as_slice.ensures c.in-Some.ensures)

pub returns-in-Some-2 : goal.returns-in-Some-2
returns-in-Some-2 c =
    let a = asked c.args.q.now in
    let line = c.requires.line in
    kept_then a (a_set c.args.k c.args.set.now) (a_trace c.args.k c.args.set.now c.args.text.now ∷ []) (subst (λ s. IsKeptAt a (a_set c.args.k s)) c.as_slice.ensures c.in_default.ensures) (No (c.args.line + 1) c.in-Some-2.rule)
    (broken_here a (a_trace c.args.k c.args.set.now c.args.text.now) [] (c.args.line + 1) c.in-Some-2.rule (omega (arith, line))
    (subst (λ s. IsBrokenAt a (a_trace c.args.k s c.args.text.now) c.in-Some-2.rule) c.as_slice-2.ensures (subst (FindsAt a (a_trace c.args.k c.as_slice-2.result.now c.args.text.now)) c.in-Some-2.is c.in_ok-rule.ensures)))

pub returns : goal.returns
returns c =
    let a = asked c.args.q.now in
    kept_then a (a_set c.args.k c.args.set.now) (a_trace c.args.k c.args.set.now c.args.text.now ∷ []) (subst (λ s. IsKeptAt a (a_set c.args.k s)) c.as_slice.ensures c.in_default.ensures) Yes
    (kept_then a (a_trace c.args.k c.args.set.now c.args.text.now) []
    (subst (λ s. IsKeptAt a (a_trace c.args.k s c.args.text.now)) c.as_slice-2.ensures (subst (FindsAt a (a_trace c.args.k c.as_slice-2.result.now c.args.text.now)) c.in_default-2.is c.in_ok-rule.ensures)) Yes (kept_none a))
