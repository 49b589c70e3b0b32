use Rattle.std.proofs.Common.{◌∙◌, ap}
use Rattle.fault_rules.specs.Steps.{texts_in}
use Rattle.fault_rules.proofs.StepLaws.{text_added}
use Rattle.fault_rules.proofs.texts.ended.Goals as goal

pub returns-clause-texts : goal.returns-clause-texts
returns-clause-texts c =
    let new = c.reached.new.steps.keys in
    ap (texts_in new) c.in_ok-put_end.ensures.ends
    ∙ text_added c.args.steps.now.keys new c.args.from c.in_ok-end.end c.args.text.now c.args.ends.now.keys c.requires.tree c.reached.ensures.steps c.reached.ensures.kept c.requires.there c.in_ok-end.ensures.reaches.leads
