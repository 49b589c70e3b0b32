-- The symbols so far, with those that are left, are all.
use Rattle.std.proofs.Common.{◌≡◌, drop}
use Rattle.smv_flat_laws.specs.Model.{first_appearances}
use Rattle.smv_language.specs.BorrowedTexts.{texts}
use Rattle.smv_scope.proofs.symbols.add_names.Given as goal

abbrev pub invariant-loop-name : goal.invariant-loop-name
invariant-loop-name l = first_appearances (texts l.symbols.keys) (drop l.name-index l.names) ≡ first_appearances (texts l.initial.symbols.keys) l.names
