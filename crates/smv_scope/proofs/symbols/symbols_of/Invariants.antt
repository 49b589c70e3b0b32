-- The symbols so far, with those of the modules that are left, are all.
use Rattle.std.proofs.Common.{◌≡◌, [], drop}
use Rattle.std.specs.List.{flat_map}
use Rattle.smv_flat_laws.specs.Model.{first_appearances}
use Rattle.smv_scope.specs.Symbols.{symbols_in}
use Rattle.smv_language.specs.BorrowedTexts.{texts}
use Rattle.smv_scope.proofs.symbols.symbols_of.Given as goal

abbrev pub invariant-loop-names : goal.invariant-loop-names
invariant-loop-names l =
    first_appearances (texts l.symbols.keys) (flat_map symbols_in (drop l.names-index l.modules.list.items))
    ≡ first_appearances [] (flat_map symbols_in l.modules.list.items)
