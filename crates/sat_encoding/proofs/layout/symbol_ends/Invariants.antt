use Rattle.std.proofs.Common.{◌≡◌, drop, map, pos, None}
use Rattle.smv_types.specs.Types.{spread}
use Rattle.sat_encoding.proofs.layout.symbol_ends.Given as goal

abbrev pub invariant-loop-symbol : goal.invariant-loop-symbol
invariant-loop-symbol l = spread l.ends (map pos (drop l.symbol-index l.symbols)) ≡ spread None (map pos l.symbols)
