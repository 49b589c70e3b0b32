use Rattle.std.proofs.Common.{◌++◌, subst, arith}
use Rattle.std.proofs.lemmas.Result.{IfOk-weaker}
use Rattle.cert_check.specs.QuestionMatter.{asked}
use Rattle.cert_laws.specs.Certificate.{part_first, part_next, part_bad}
use Rattle.cert_laws.specs.Sites.{clause_sites, step_sites}
use Rattle.cert_check.specs.SiteFindings.{Finds}
use Rattle.cert_check.proofs.Finding.{kept_both, broken_front}
use Rattle.cert_check.proofs.SiteLaws.{over_bits}
use Rattle.cert_check.proofs.StepLaws.{lines_within}
use Rattle.cert_check.proofs.judge.judge_proof.Goals as goal

pub judge_parts-requires-clause-over_bits : goal.judge_parts-requires-clause-over_bits
judge_parts-requires-clause-over_bits c =
    let a = asked c.args.q.now in
    over_bits a 0 a.certificate.invariant (subst (Finds a (clause_sites 0 a.certificate.invariant)) c.in-Yes.is c.judge_clauses.ensures)

pub returns-in-Yes : goal.returns-in-Yes
returns-in-Yes c =
    let a = asked c.args.q.now in
    let clauses = clause_sites 0 a.certificate.invariant in
    let rest = step_sites part_first 0 a.certificate.first ++ (step_sites part_next 0 a.certificate.next ++ step_sites part_bad 0 a.certificate.bad) in
    IfOk-weaker c.judge_parts.result (Finds a rest) (Finds a (clauses ++ rest)) (kept_both a clauses rest (subst (Finds a clauses) c.in-Yes.is c.judge_clauses.ensures)) c.judge_parts.ensures

pub returns-in-No : goal.returns-in-No
returns-in-No c =
    let a = asked c.args.q.now in
    let clauses = clause_sites 0 a.certificate.invariant in
    let rest = step_sites part_first 0 a.certificate.first ++ (step_sites part_next 0 a.certificate.next ++ step_sites part_bad 0 a.certificate.bad) in
    broken_front a clauses rest c.in-No.at c.in-No.rule (subst (Finds a clauses) c.in-No.is c.judge_clauses.ensures)

pub overflow_add-line : goal.overflow_add-line
overflow_add-line c =
    let within = lines_within (asked c.args.q.now).certificate part_first in
    let few = c.requires.fit.certificate.few in
    let line = c.invariant_line-line.ensures in
    omega (arith, within, few, line)

pub judge_clauses-requires-clause-room : goal.judge_clauses-requires-clause-room
judge_clauses-requires-clause-room c =
    let within = lines_within (asked c.args.q.now).certificate part_first in
    let few = c.requires.fit.certificate.few in
    let line = c.invariant_line-line.ensures in
    omega (arith, within, few, line)

pub overflow_add-line-in-Yes : goal.overflow_add-line-in-Yes
overflow_add-line-in-Yes c =
    let within = lines_within (asked c.args.q.now).certificate part_first in
    let few = c.requires.fit.certificate.few in
    let line = c.invariant_line-line.ensures in
    let len = c.len.ensures in
    omega (arith, within, few, line, len)

pub overflow_add-line-in-Yes-2 : goal.overflow_add-line-in-Yes-2
overflow_add-line-in-Yes-2 c =
    let within = lines_within (asked c.args.q.now).certificate part_first in
    let few = c.requires.fit.certificate.few in
    let line = c.invariant_line-line.ensures in
    let len = c.len.ensures in
    omega (arith, within, few, line, len)
