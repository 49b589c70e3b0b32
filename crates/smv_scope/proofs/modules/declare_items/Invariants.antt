-- The items so far, with those that are left, are all.
use Rattle.std.proofs.Common.{◌≡◌, ◌++◌, drop, map}
use Rattle.smv_scope.specs.ItemTree.{numbered_tree}
use Rattle.smv_scope.specs.ModuleFaults.{items_told, item_of_numbered, texts_of}
use Rattle.smv_scope.specs.SceneTree.{named, item_entries}
use Rattle.smv_scope.proofs.modules.declare_items.Given as goal

abbrev pub invariant-loop-k : goal.invariant-loop-k
invariant-loop-k l = record {
  entries : named l.locals.entries ++ item_entries l.k (map item_of_numbered (drop l.k l.items)) ≡ named l.initial.locals.entries ++ item_entries 0 (map item_of_numbered l.items);
  told : items_told (texts_of (named l.locals.entries)) (map numbered_tree (drop l.k l.items)) ≡ items_told (texts_of (named l.initial.locals.entries)) (map numbered_tree l.items);
}
