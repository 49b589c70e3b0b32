-- There are as many meanings as items.
use Rattle.std.proofs.Common.{◌∙◌}
use Rattle.smv_scope.proofs.SceneItems.{set_laid, items_counted}
use Rattle.smv_scope.proofs.names.Scene.item_count.Goals as goal

pub returns-clause-count : goal.returns-clause-count
returns-clause-count c = λ is. c.own_count.ensures ∙ items_counted c.args.self.now (set_laid c.args.self.now is.set) c.args.spot
