use Rattle.std.proofs.Common.{◌≡◌, ◌++◌, drop}
use Rattle.smv_types.specs.Types.{symbols_in}
use Rattle.smv_types.proofs.declare.listed_symbols.Given as goal

abbrev pub invariant-loop-member : goal.invariant-loop-member
invariant-loop-member l = l.listed ++ symbols_in l.numbers.texts.now (drop l.member-index l.members) ≡ symbols_in l.numbers.texts.now l.members
