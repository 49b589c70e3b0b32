use Rattle.std.proofs.Common.{arith, ◌++◌, ◌∙◌, ap}
use Rattle.std.specs.Prelude.{codes}
use Rattle.fault_rules.proofs.StepLaws.{begins_more, reached_text, text_zero}
use Rattle.fault_rules.proofs.texts.begun.Goals as goal

pub returns-in_err-place-clause-kept : goal.returns-in_err-place-clause-kept
returns-in_err-place-clause-kept c = begins_more c.args.steps.now.keys c.reached.new.steps.keys c.reached-2.new.steps.keys c.reached.ensures.kept c.reached-2.ensures.kept

pub returns-clause-kept : goal.returns-clause-kept
returns-clause-kept c = begins_more c.args.steps.now.keys c.reached.new.steps.keys c.reached-2.new.steps.keys c.reached.ensures.kept c.reached-2.ensures.kept

pub returns-clause-text : goal.returns-clause-text
returns-clause-text c =
    let old = c.args.steps.now.keys in
    let mid = c.reached.new.steps.keys in
    let new = c.reached-2.new.steps.keys in
    reached_text mid new c.in_ok-end.end c.in_ok-place.place (codes "#") c.reached-2.ensures.steps c.reached-2.ensures.kept c.in_ok-end.ensures.reaches.within c.in_ok-place.ensures.reaches.leads
    ∙ ap (λ text. text ++ codes "#")
    (reached_text old mid 0 c.in_ok-end.end c.text.result.now c.reached.ensures.steps c.reached.ensures.kept (omega arith) c.in_ok-end.ensures.reaches.leads
    ∙ ap (λ begin. begin ++ c.text.result.now) (text_zero old) ∙ c.text.ensures)
