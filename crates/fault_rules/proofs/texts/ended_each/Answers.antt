use Rattle.std.proofs.Common.{◌≡◌, ◌++◌, arith, ◌<◌, ◌∙◌, ap, length}
use Rattle.fault_rules.specs.KeyedLists.{with_text}
use Rattle.fault_rules.specs.Steps.{text_at, texts_in}
use Rattle.fault_rules.proofs.StepLaws.{begins_more, each_added}
use Rattle.fault_rules.proofs.texts.ended_each.Goals as goal

pub loop-mode-preserved : goal.loop-mode-preserved
loop-mode-preserved c =
    let below : c.loop-mode.mode-index < length c.args.modes.now = omega arith in
    let first = c.args.steps.now.keys in
    let old = c.loop-mode.steps.keys in
    let new = c.ended.new.steps.keys in
    let texts = texts_in old c.loop-mode.ends.keys in
    let begin = text_at old c.args.from in
    let added : texts_in new c.ended.new.ends.keys ≡ with_text texts (begin ++ c.mode-item.result.name) = c.in_ok-ended.ensures.texts ∙ ap (λ text. with_text texts (begin ++ text)) c.text.ensures in
    record {
      tree = c.ended.ensures.tree;
      begins = begins_more first old new c.loop-mode.invariant.begins c.ended.ensures.kept;
      texts = each_added first old c.args.from texts (texts_in new c.ended.new.ends.keys) c.args.modes.now c.loop-mode.mode-index c.mode-item.result below c.mode-item.is c.loop-mode.invariant.begins c.requires.there added
          ∙ c.loop-mode.invariant.texts;
    }
