use Rattle.std.proofs.Common.{◌++◌, subst, arith}
use Rattle.std.proofs.lemmas.Result.{IfOk-weaker}
use Rattle.cert_check.specs.QuestionMatter.{asked}
use Rattle.cert_laws.specs.Certificate.{part_first, part_next, part_bad}
use Rattle.cert_laws.specs.Sites.{step_sites}
use Rattle.cert_check.specs.SiteFindings.{Finds}
use Rattle.cert_check.proofs.Finding.{kept_both, broken_front}
use Rattle.cert_check.proofs.StepLaws.{lines_within}
use Rattle.cert_check.proofs.parts.judge_parts.Goals as goal

pub overflow_add-next : goal.overflow_add-next
overflow_add-next c =
    let within = lines_within (asked c.args.q.now).certificate part_first in
    let few = c.requires.fit.certificate.few in
    let line = c.requires.line in
    let len = c.len.ensures in
    omega (arith, within, few, line, len)

pub overflow_add-next-2 : goal.overflow_add-next-2
overflow_add-next-2 c =
    let within = lines_within (asked c.args.q.now).certificate part_first in
    let few = c.requires.fit.certificate.few in
    let line = c.requires.line in
    let len = c.len.ensures in
    omega (arith, within, few, line, len)

pub returns-in-Yes : goal.returns-in-Yes
returns-in-Yes c =
    let a = asked c.args.q.now in
    let firsts = step_sites part_first 0 c.args.q.now.certificate.now.first in
    let rest = step_sites part_next 0 c.args.q.now.certificate.now.next ++ step_sites part_bad 0 c.args.q.now.certificate.now.bad in
    IfOk-weaker c.judge_later.result (Finds a rest) (Finds a (firsts ++ rest)) (kept_both a firsts rest (subst (Finds a firsts) c.in-Yes.is c.in_ok-judge_part.ensures)) c.judge_later.ensures

pub returns-in-No : goal.returns-in-No
returns-in-No c =
    let a = asked c.args.q.now in
    let firsts = step_sites part_first 0 c.args.q.now.certificate.now.first in
    let rest = step_sites part_next 0 c.args.q.now.certificate.now.next ++ step_sites part_bad 0 c.args.q.now.certificate.now.bad in
    broken_front a firsts rest c.in-No.at c.in-No.rule (subst (Finds a firsts) c.in-No.is c.in_ok-judge_part.ensures)
