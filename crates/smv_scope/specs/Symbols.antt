-- The symbols so far, and the items that have them.
use Rattle.std.specs.Prelude.{ℕ, List, flat_map}
use Rattle.smv_scope.specs.declared.items.Numbered.{Numbered}
use Rattle.smv_scope.specs.declared.modules.ModuleNames.{ModuleNames}
use Rattle.smv_scope.specs.ItemTree.{item_tree}
use Rattle.smv_flat_laws.specs.Model.{symbols_of_item}

-- the symbols of an item, as often as it names them
abbrev pub symbols_of_numbered : Numbered → List (List ℕ)
symbols_of_numbered n = symbols_of_item (item_tree n.item)

-- the symbols of a module's items
abbrev pub symbols_in : ModuleNames → List (List ℕ)
symbols_in names = flat_map symbols_of_numbered names.items.items
