use Rattle.std.proofs.Common.{◌≢◌, ◌∙◌, All, subst}
use Rattle.std.proofs.lemmas.List.{take_all}
use Rattle.std.proofs.lemmas.List.Elements.{All-more}
use Rattle.cut_frames.specs.declared.levels.Held.{Held}
use Rattle.cut_frames.proofs.levels.Levels.is_level_empty.Goals as goal

pub loop-held-preserved : goal.loop-held-preserved
loop-held-preserved c =
    All-more (λ (h : Held). h.highest ≢ c.args.i) c.deref-held-items.result.now c.loop-held.held-index c.held-item.result c.loop-held-test.true c.loop-held.invariant
    (subst (λ (h : Held). h.highest ≢ c.args.i) c.held-item.is c.if-held-i.false)

pub returns-clause-empty : goal.returns-clause-empty
returns-clause-empty c =
    λ t. subst (All (λ (h : Held). h.highest ≢ c.args.i)) (take_all c.loop-held.held-index c.deref-held-items.result.now c.loop-held-test.false ∙ c.deref-held-items.ensures.value) c.loop-held.invariant
