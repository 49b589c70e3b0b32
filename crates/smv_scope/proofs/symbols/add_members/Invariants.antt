-- The symbols so far, with those that are left, are all.
use Rattle.std.proofs.Common.{◌≡◌, drop}
use Rattle.smv_flat_laws.specs.Model.{first_appearances, symbols_of_members}
use Rattle.smv_language.specs.BorrowedTexts.{texts}
use Rattle.smv_scope.proofs.symbols.add_members.Given as goal

abbrev pub invariant-loop-member : goal.invariant-loop-member
invariant-loop-member l =
    first_appearances (texts l.symbols.keys) (symbols_of_members (drop l.member-index l.members))
    ≡ first_appearances (texts l.initial.symbols.keys) (symbols_of_members l.members)
