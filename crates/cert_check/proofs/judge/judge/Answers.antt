use Rattle.std.proofs.lemmas.Result.{IfOk-weaker}
use Rattle.cert_check.specs.QuestionMatter.{asked}
use Rattle.cert_laws.specs.Sites.{sites_of}
use Rattle.cert_check.specs.SiteFindings.{Finds, IsJudged}
use Rattle.cert_check.proofs.Finding.{judged_of_all}
use Rattle.cert_check.proofs.judge.judge.Goals as goal

pub returns : goal.returns
returns c =
    let a = asked c.args.q.now in
    IfOk-weaker c.judge_sites.result (Finds a (sites_of a.certificate)) (IsJudged a) (judged_of_all a c.requires.certificate.one_each) c.judge_sites.ensures
