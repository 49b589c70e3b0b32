use Rattle.std.proofs.Common.{◌∙◌, ap}
use Rattle.fault_rules.specs.KeyedLists.{is_pair_among}
use Rattle.fault_rules.proofs.KeyedLaws.{any_pair}
use Rattle.fault_rules.proofs.targets.Targets.has.Goals as goal

pub returns : goal.returns
returns c =
    c.contains.ensures ∙ any_pair (λ k. k.0.now) (λ k. k.1.now) c.self.inside.set.keys c.text.result.now c.text-2.result.now
    ∙ ap (λ ps. is_pair_among ps (c.text.result.now, c.text-2.result.now)) c.self.view_is ∙ (λ i. is_pair_among c.args.self.now (c.text.ensures i, c.text-2.ensures i))
