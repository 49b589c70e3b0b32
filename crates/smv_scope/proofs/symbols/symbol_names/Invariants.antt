-- The names so far are the texts so far.
use Rattle.std.proofs.Common.{◌≡◌, take}
use Rattle.smv_language.specs.BorrowedTexts.{texts}
use Rattle.smv_scope.proofs.symbols.symbol_names.Given as goal

abbrev pub invariant-loop-text : goal.invariant-loop-text
invariant-loop-text l = l.names ≡ texts (take l.text-index l.symbols.keys)
