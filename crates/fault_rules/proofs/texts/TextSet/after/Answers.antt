use Rattle.std.proofs.Common.{Some, sym, ◌∙◌, ap}
use Rattle.std.specs.Prelude.{codes}
use Rattle.fault_rules.specs.Steps.{walk_on}
use Rattle.fault_rules.proofs.StepLaws.{walk_more}
use Rattle.fault_rules.proofs.texts.TextSet.after.Goals as goal

pub invariant_of-result : goal.invariant_of-result
invariant_of-result c =
    let steps = c.self.inside.steps.keys in
    (c.self.invariant, c.found-place.ensures ∙ ap (λ o. walk_on steps o (codes "#")) c.found-name.ensures ∙ sym (walk_more steps (Some 0) c.args.text.now (codes "#")))
