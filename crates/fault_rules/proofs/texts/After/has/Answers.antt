use Rattle.std.proofs.Common.{List, Some, ◌++◌, refl, sym, ◌∙◌, ap}
use Rattle.std.specs.Prelude.{codes}
use Rattle.smv_language.specs.Language.{Text, is_among}
use Rattle.fault_rules.specs.Steps.{is_end_of, walk_on}
use Rattle.fault_rules.proofs.StepLaws.{ends_have, walk_more}
use Rattle.fault_rules.proofs.texts.After.has.Goals as goal

pub returns : goal.returns
returns c =
    let steps = c.self.inside.steps.now.keys in
    let ends = c.self.inside.ends.now.keys in
    let begin = c.self.inside.text.now ++ codes "#" in
    let tree = c.self.invariant.0 in
    c.is_end.ensures
    ∙ ap (is_end_of ends) (c.found.ensures ∙ ap (λ o. walk_on steps o c.args.more.now) c.self.invariant.1 ∙ sym (walk_more steps (Some 0) begin c.args.more.now))
    ∙ ends_have steps tree.steps_are (begin ++ c.args.more.now) _ refl ends tree.ends_are
    ∙ ap (λ (after : List Text × Text). is_among after.0 (after.1 ++ c.args.more.now)) c.self.view_is
