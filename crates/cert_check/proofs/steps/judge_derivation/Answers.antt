use Rattle.std.proofs.Common.{[], ◌∷◌, ◌∙◌, Ok, ap, subst}
use Rattle.std.proofs.lemmas.Result.{IfOk-weaker}
use Rattle.cert_laws.specs.Certificate.{an_end, steps_in}
use Rattle.cert_laws.specs.Sites.{step_sites}
use Rattle.cert_check.specs.QuestionMatter.{asked}
use Rattle.cert_check.specs.SiteFindings.{Finds}
use Rattle.cert_check.specs.Parts.{part_of, FindsSteps}
use Rattle.cert_check.proofs.steps.judge_derivation.Goals as goal

pub judge_end-requires-clause-clauses : goal.judge_end-requires-clause-clauses
judge_end-requires-clause-clauses c = c.judge_steps.ensures.known (c.in_ok-judge_steps.was ∙ ap Ok c.in-Yes.is)

pub returns-in-Yes : goal.returns-in-Yes
returns-in-Yes c =
    let a = asked c.args.q.now in
    let part = part_of c.args.part in
    IfOk-weaker c.judge_end.result (Finds a (an_end part ∷ [])) (Finds a (step_sites part 0 (steps_in a.certificate part)))
    (subst (FindsSteps a part) c.in-Yes.is c.in_ok-judge_steps.ensures.found).on c.judge_end.ensures

pub returns : goal.returns
returns c = subst (FindsSteps (asked c.args.q.now) (part_of c.args.part)) c.in-No.is c.in_ok-judge_steps.ensures.found
