-- The item is that of the module.
use Rattle.std.proofs.Common.{◌∙◌, ap}
use Rattle.std.specs.Prelude.{option_map}
use Rattle.smv_scope.specs.ItemTree.{numbered_tree}
use Rattle.smv_scope.proofs.SceneItems.{set_laid, items_listed}
use Rattle.smv_scope.proofs.names.Scene.item_at.Goals as goal

pub returns-in-Some : goal.returns-in-Some
returns-in-Some c = record { item = λ is. ap (option_map numbered_tree) c.in-Some.ensures ∙ items_listed c.args.self.now (set_laid c.args.self.now is.set) c.args.spot c.args.place }

pub returns-in-None : goal.returns-in-None
returns-in-None c = record { item = λ is. ap (option_map numbered_tree) c.in-None.ensures ∙ items_listed c.args.self.now (set_laid c.args.self.now is.set) c.args.spot c.args.place }
