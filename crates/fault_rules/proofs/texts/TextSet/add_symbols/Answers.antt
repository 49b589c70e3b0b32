use Rattle.std.proofs.Common.{◌≡◌, ◌∙◌, OnOk, map, subst}
use Rattle.fault_instructions.specs.Instructions.{mode_tree}
use Rattle.fault_rules.specs.KeyedLists.{with_texts}
use Rattle.fault_rules.specs.Steps.{texts_in, texts_after}
use Rattle.fault_rules.proofs.StepLaws.{texts_kept}
use Rattle.fault_rules.proofs.texts.TextSet.add_symbols.Goals as goal

pub returns : goal.returns
returns c =
    let old = c.self.inside.steps.keys in
    let new = c.begun.new.steps.keys in
    let ends = c.self.inside.ends.keys in
    let kept = texts_kept old new ends c.self.invariant c.begun.ensures.kept ∙ c.self.view_is in
    subst (λ texts. OnOk c.ended_each.result (texts_in c.ended_each.new.steps.keys c.ended_each.new.ends.keys ≡ texts))
    (λ i. with_texts (kept i) (texts_after (c.in_ok-place.ensures.text i) (map mode_tree c.args.modes.now))) c.ended_each.ensures.texts
