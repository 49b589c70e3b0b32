use Rattle.std.proofs.Common.{◌≡◌, drop}
use Rattle.smv_expression_reader.proofs.cursor.Cursor.skip_all.Given as goal

abbrev pub invariant-loop-i : goal.invariant-loop-i
invariant-loop-i l = l.self ≡ drop l.i l.fn.self
