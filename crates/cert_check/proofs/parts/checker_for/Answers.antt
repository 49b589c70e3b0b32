use Rattle.std.proofs.Common.{sym, subst}
use Rattle.std.specs.Prelude.{IfOk}
use Rattle.cert_check.specs.QuestionMatter.{asked}
use Rattle.cert_check.specs.Parts.{part_of, IsAtStart}
use Rattle.cert_check.proofs.parts.checker_for.Goals as goal

pub returns-in-First : goal.returns-in-First
returns-in-First c = subst (λ part. IfOk c.checker_of_first.result (IsAtStart (asked c.args.q.now) (part_of part))) (sym c.in-First.is) c.checker_of_first.ensures

pub returns-in-Next : goal.returns-in-Next
returns-in-Next c = subst (λ part. IfOk c.checker_of_steps.result (IsAtStart (asked c.args.q.now) (part_of part))) (sym c.in-Next.is) c.checker_of_steps.ensures

pub returns-in-Bad : goal.returns-in-Bad
returns-in-Bad c = subst (λ part. IfOk c.checker_of_bad.result (IsAtStart (asked c.args.q.now) (part_of part))) (sym c.in-Bad.is) c.checker_of_bad.ensures
