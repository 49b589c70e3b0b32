use Rattle.std.proofs.Common.{arith}
use Rattle.cert_check.specs.QuestionMatter.{asked}
use Rattle.cert_check.specs.Parts.{part_of}
use Rattle.cert_check.proofs.StepLaws.{lines_within}
use Rattle.cert_check.proofs.parts.judge_part.Goals as goal

pub judge_derivation-requires-clause-vars : goal.judge_derivation-requires-clause-vars
judge_derivation-requires-clause-vars c = c.in_ok-checker.ensures.vars

pub judge_derivation-requires-clause-clauses : goal.judge_derivation-requires-clause-clauses
judge_derivation-requires-clause-clauses c = c.in_ok-checker.ensures.clauses

pub judge_derivation-requires-clause-room : goal.judge_derivation-requires-clause-room
judge_derivation-requires-clause-room c =
    let within = lines_within (asked c.args.q.now).certificate (part_of c.args.part) in
    let few = c.requires.fit.certificate.few in
    let line = c.requires.line in
    omega (arith, within, few, line)

pub overflow_add-line : goal.overflow_add-line
overflow_add-line c =
    let within = lines_within (asked c.args.q.now).certificate (part_of c.args.part) in
    let few = c.requires.fit.certificate.few in
    let line = c.requires.line in
    omega (arith, within, few, line)
