use Rattle.std.proofs.Common.{refl, ◌∙◌, ap}
use Rattle.smv_language.specs.Texts.{is_among}
use Rattle.fault_rules.specs.Steps.{is_end_of}
use Rattle.fault_rules.proofs.StepLaws.{ends_have}
use Rattle.fault_rules.proofs.texts.TextSet.has.Goals as goal

pub returns : goal.returns
returns c =
    c.is_end.ensures ∙ ap (is_end_of c.self.inside.ends.keys) c.found.ensures
    ∙ ends_have c.self.inside.steps.keys c.self.invariant.steps_are c.args.text.now _ refl c.self.inside.ends.keys c.self.invariant.ends_are
    ∙ ap (λ texts. is_among texts c.args.text.now) c.self.view_is
