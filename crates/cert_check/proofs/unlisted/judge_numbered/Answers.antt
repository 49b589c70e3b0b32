use Rattle.std.proofs.Common.{◌≡◌, [], IsTrue, arith, subst}
use Rattle.std.proofs.lemmas.Result.{IfOk-weaker}
use Rattle.cert_check.specs.QuestionMatter.{asked, proof_sites}
use Rattle.cert_laws.specs.Certificate.{a_set}
use Rattle.cert_check.specs.SiteFindings.{Finds, FindsUnlisted, IsJudgedUnlisted}
use Rattle.cert_check.proofs.NoSets.{unlisted_none, unlisted_some}
use Rattle.cert_check.proofs.unlisted.judge_numbered.Goals as goal
use Rattle.std.proofs.lemmas.List.{nil_from_length}

pub returns-then-is_empty : goal.returns-then-is_empty
returns-then-is_empty c =
    let a = asked c.args.q.now in
    let is : IsTrue c.is_empty.result = grind arith in
    let none : a.certificate.sets ≡ [] = nil_from_length a.certificate.sets (c.is_empty.ensures.0 is) in
    IfOk-weaker c.judge_proof.result (Finds a (proof_sites a.certificate)) (IsJudgedUnlisted a) (unlisted_none a c.requires.fit.certificate.one_each none c.requires.numbers) c.judge_proof.ensures

pub returns : goal.returns
returns c =
    let a = asked c.args.q.now in
    let found = subst (λ set. FindsUnlisted a (a_set 0 set) c.listed_rule-rule.result) c.as_slice.ensures c.listed_rule-rule.ensures in
    unlisted_some a c.requires.fit.certificate.one_each c.at-set.result.now c.at-set.ensures c.requires.numbers c.listed_rule-rule.result found
