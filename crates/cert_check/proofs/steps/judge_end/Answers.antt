use Rattle.std.proofs.Common.{◌≡◌, ◌∙◌, false, IsTrue, length, refl, ap, arith}
use Rattle.std.proofs.lemmas.Bool.{both_ways}
use Rattle.cert_laws.specs.Acceptance.{goals}
use Rattle.cert_check.specs.QuestionMatter.{asked}
use Rattle.cert_check.specs.Parts.{part_of}
use Rattle.cert_check.proofs.StepLaws.{covered_ends, uncovered_ends}
use Rattle.cert_check.proofs.steps.judge_end.Goals as goal

pub returns-then-covers : goal.returns-then-covers
returns-then-covers c =
    let a = asked c.args.q.now in
    let part = part_of c.args.part in
    let is : IsTrue c.in_ok-covers.covers = grind arith in
    covered_ends a part c.args.checker.now.clauses c.requires.clauses (goals a.subject a.certificate part) refl (c.in_ok-covers.ensures.0 is)

pub returns : goal.returns
returns c =
    let a = asked c.args.q.now in
    let part = part_of c.args.part in
    let is_not : c.in_ok-covers.covers ≡ false = grind arith in
    uncovered_ends a part c.args.checker.now.clauses c.requires.clauses (goals a.subject a.certificate part) refl c.args.line c.len.result c.requires.line (c.len.ensures ∙ ap length c.steps_of.ensures)
    (λ h. both_ways _ is_not (c.in_ok-covers.ensures.1 h))

pub overflow_add-result : goal.overflow_add-result
overflow_add-result c =
    let many = c.len.ensures ∙ ap length c.steps_of.ensures in
    let room = c.requires.room in
    omega (arith, many, room)
