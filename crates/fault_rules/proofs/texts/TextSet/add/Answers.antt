use Rattle.std.proofs.Common.{◌≡◌, ◌++◌, OnOk, subst}
use Rattle.fault_rules.specs.KeyedLists.{with_text}
use Rattle.fault_rules.specs.Steps.{texts_in}
use Rattle.fault_rules.proofs.StepLaws.{text_zero}
use Rattle.fault_rules.proofs.texts.TextSet.add.Goals as goal

pub returns : goal.returns
returns c =
    subst (λ texts. OnOk c.ended.result (texts_in c.ended.new.steps.keys c.ended.new.ends.keys ≡ texts))
    (λ i. with_text (c.self.view_is i) (text_zero c.self.inside.steps.keys i ++ c.args.text.now)) c.ended.ensures.texts
