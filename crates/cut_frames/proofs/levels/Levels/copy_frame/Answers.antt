use Rattle.std.proofs.Common.{◌∙◌, ◌++◌, ◌∷◌, [], List, ap}
use Rattle.sat_clauses.specs.Literal.{Literal}
use Rattle.cut_frames.proofs.LevelLaws.{copied_more, skipped_more}
use Rattle.cut_frames.proofs.levels.Levels.copy_frame.Goals.{then-i-held+in_ok-copy+in_ok-push, else-i-held}
use Rattle.cut_frames.proofs.levels.Levels.copy_frame.Goals as goal

pub loop-held-preserved : goal.loop-held-preserved
loop-held-preserved c =
    elim c.if-i-held.branch [
      | then-i-held+in_ok-copy+in_ok-push w ↦
          w.list-is ∙ w.in_ok-push.ensures.ok ∙ ap (λ (k : List Literal). c.loop-held.list ++ k ∷ []) w.in_ok-copy.ensures
          ∙ copied_more c.args.i c.loop-held.held-index c.deref-held-items.result.now c.held-item.result c.loop-held.list c.loop-held-test.true c.loop-held.invariant c.held-item.is w.if-i-held.true
      | else-i-held w ↦
          w.list-is ∙ skipped_more c.args.i c.loop-held.held-index c.deref-held-items.result.now c.held-item.result c.loop-held.list c.loop-held-test.true c.loop-held.invariant c.held-item.is w.if-i-held.false
    ]
