use Rattle.std.proofs.Common.{rules, ◌≡◌, [], ◌∷◌, ◌++◌, ◌+◌, map, drop, ap, sym, ◌∙◌, append_assoc}
use Rattle.cut_text_laws.specs.Lines.{fed}
use Rattle.cert_laws.specs.CertificateText.{step_line}
use Rattle.cert_text.proofs.PieceLaws.{steps_more}
use Rattle.cert_text.proofs.writing.append_steps.Goals as goal

pub loop-i-preserved : goal.loop-i-preserved
loop-i-preserved c =
    let added : c.append_step.new.text ≡ c.loop-i.text ++ (step_line c.in_ok-step.step ++ 10 ∷ []) = search rules in
    ap (λ t. t ++ fed (map step_line (drop (c.loop-i.i + 1) c.args.steps.now))) added
    ∙ append_assoc c.loop-i.text (step_line c.in_ok-step.step ++ 10 ∷ []) (fed (map step_line (drop (c.loop-i.i + 1) c.args.steps.now)))
    ∙ ap (λ t. c.loop-i.text ++ t) (sym (steps_more c.args.steps.now c.loop-i.i c.in_ok-step.step c.in_ok-step.ensures))
    ∙ c.loop-i.invariant
