-- The symbols so far, with those of the items that are left, are all.
use Rattle.std.proofs.Common.{◌≡◌, drop}
use Rattle.std.specs.List.{flat_map}
use Rattle.smv_flat_laws.specs.Model.{first_appearances}
use Rattle.smv_scope.specs.Symbols.{symbols_of_numbered}
use Rattle.smv_language.specs.BorrowedTexts.{texts}
use Rattle.smv_scope.proofs.symbols.add_of_items.Given as goal

abbrev pub invariant-loop-numbered : goal.invariant-loop-numbered
invariant-loop-numbered l =
    first_appearances (texts l.symbols.keys) (flat_map symbols_of_numbered (drop l.numbered-index l.items))
    ≡ first_appearances (texts l.initial.symbols.keys) (flat_map symbols_of_numbered l.items)
