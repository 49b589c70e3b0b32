use Rattle.std.proofs.Common.{map, ◌∙◌, ap}
use Rattle.smv_language.specs.ProgramTree.{Text}
use Rattle.fault_rules.specs.KeyedLists.{with_pair}
use Rattle.fault_rules.proofs.KeyedLaws.{put_pair}
use Rattle.fault_rules.proofs.targets.Targets.add.Goals as goal

pub returns : goal.returns
returns c =
    ap (map {B = Text × Text} (λ k. (k.0.now, k.1.now))) c.in_ok-insert.ensures.keys ∙ put_pair (λ k. k.0.now) (λ k. k.1.now) c.self.inside.set.keys (c.text.result, c.text-2.result)
    ∙ ap (λ ps. with_pair ps (c.text.result.now, c.text-2.result.now)) c.self.view_is ∙ (λ i. with_pair c.args.self.now (c.text.ensures i, c.text-2.ensures i))
