use Rattle.std.proofs.Common.{◌≡◌, ◌++◌, map, drop}
use Rattle.std.specs.Fmt.{decimal}
use Rattle.cert_text.specs.Pieces.{after_spaces}
use Rattle.cert_text.proofs.pieces.append_hints.Given as goal

abbrev pub invariant-loop-hint : goal.invariant-loop-hint
invariant-loop-hint l = l.text ++ after_spaces (map decimal (drop l.hint-index l.hints)) ≡ l.initial.text ++ after_spaces (map decimal l.hints)
