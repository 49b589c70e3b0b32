use Rattle.std.proofs.Common.{◌++◌, subst}
use Rattle.std.proofs.lemmas.Result.{IfOk-weaker}
use Rattle.cert_check.specs.QuestionMatter.{asked}
use Rattle.cert_laws.specs.Sites.{set_sites}
use Rattle.cert_check.specs.QuestionMatter.{proof_sites}
use Rattle.cert_check.specs.SiteFindings.{Finds}
use Rattle.cert_check.proofs.Finding.{kept_both, broken_front}
use Rattle.cert_check.proofs.judge.judge_listed.Goals as goal

pub returns-in-Yes : goal.returns-in-Yes
returns-in-Yes c =
    let a = asked c.args.q.now in
    let sets = set_sites 0 a.certificate.sets a.certificate.traces in
    let rest = proof_sites a.certificate in
    IfOk-weaker c.judge_proof.result (Finds a rest) (Finds a (sets ++ rest)) (kept_both a sets rest (subst (Finds a sets) c.in-Yes.is c.in_ok-judge_sets.ensures)) c.judge_proof.ensures

pub returns-in-No : goal.returns-in-No
returns-in-No c =
    let a = asked c.args.q.now in
    let sets = set_sites 0 a.certificate.sets a.certificate.traces in
    broken_front a sets (proof_sites a.certificate) c.in-No.line c.in-No.rule (subst (Finds a sets) c.in-No.is c.in_ok-judge_sets.ensures)

pub judge_proof-requires-clause-fit : goal.judge_proof-requires-clause-fit
judge_proof-requires-clause-fit c =
    let fit = c.requires.fit in record { history = fit.history; model = record { encodable = fit.model.encodable; fits = fit.model.fits }; certificate = fit.certificate }
