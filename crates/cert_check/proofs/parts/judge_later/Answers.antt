use Rattle.std.proofs.Common.{◌++◌, subst, arith}
use Rattle.std.proofs.lemmas.Result.{IfOk-weaker}
use Rattle.cert_check.specs.QuestionMatter.{asked}
use Rattle.cert_laws.specs.Certificate.{part_next, part_bad}
use Rattle.cert_laws.specs.Sites.{step_sites}
use Rattle.cert_check.specs.SiteFindings.{Finds}
use Rattle.cert_check.proofs.Finding.{kept_both, broken_front}
use Rattle.cert_check.proofs.StepLaws.{lines_within}
use Rattle.cert_check.proofs.parts.judge_later.Goals as goal

pub overflow_add-next : goal.overflow_add-next
overflow_add-next c =
    let within = lines_within (asked c.args.q.now).certificate part_next in
    let few = c.requires.fit.certificate.few in
    let line = c.requires.line in
    let len = c.len.ensures in
    omega (arith, within, few, line, len)

pub overflow_add-next-2 : goal.overflow_add-next-2
overflow_add-next-2 c =
    let within = lines_within (asked c.args.q.now).certificate part_next in
    let few = c.requires.fit.certificate.few in
    let line = c.requires.line in
    let len = c.len.ensures in
    omega (arith, within, few, line, len)

pub returns-in-Yes : goal.returns-in-Yes
returns-in-Yes c =
    let a = asked c.args.q.now in
    let nexts = step_sites part_next 0 c.args.q.now.certificate.now.next in
    let bads = step_sites part_bad 0 c.args.q.now.certificate.now.bad in
    IfOk-weaker c.judge_last.result (Finds a bads) (Finds a (nexts ++ bads)) (kept_both a nexts bads (subst (Finds a nexts) c.in-Yes.is c.in_ok-judge_part.ensures)) c.judge_last.ensures

pub returns-in-No : goal.returns-in-No
returns-in-No c =
    let a = asked c.args.q.now in
    let nexts = step_sites part_next 0 c.args.q.now.certificate.now.next in
    let bads = step_sites part_bad 0 c.args.q.now.certificate.now.bad in
    broken_front a nexts bads c.in-No.at c.in-No.rule (subst (Finds a nexts) c.in-No.is c.in_ok-judge_part.ensures)
