use Rattle.std.proofs.Common.{rules, ◌≡◌, ◌+◌, [], ◌∷◌, ◌++◌, length, map, ap, ◌∙◌, arith}
use Rattle.cert_text.specs.declared.packed.StepSpan.{StepSpan}
use Rattle.cert_text.specs.PackedSteps.{spanned_step}
use Rattle.cert_text.proofs.PackedLemmas.{packed_push}
use Rattle.cert_text.proofs.packed.PackedSteps.push.Goals as goal

pub returns-clause-ok : goal.returns-clause-ok
returns-clause-ok c =
    let lits = c.self.inside.lits.items in
    let hints = c.self.inside.hints.items in
    let spans = c.self.inside.spans.items in
    let step = c.args.step.now in
    let all = c.extend_from_slice.new.self.items in
    let every = c.extend_from_slice-2.new.self.items in
    let span : StepSpan = record { lits_start = c.len-lits_start.result; lits_end = c.len-lits_end.result; hints_start = c.len-hints_start.result; hints_end = c.len-hints_end.result } in
    let more : all ≡ lits ++ step.clause = search rules in
    let others : every ≡ hints ++ step.hints = search rules in
    let pushed : c.push.new.self.items ≡ spans ++ span ∷ [] = search rules in
    ap (map (spanned_step all every)) pushed
    ∙ packed_push lits step.clause all hints step.hints every spans span c.self.invariant more others (grind arith) (grind (arith, more)) (grind arith) (grind (arith, others))
    ∙ ap (λ steps. steps ++ step ∷ []) c.self.view_is
