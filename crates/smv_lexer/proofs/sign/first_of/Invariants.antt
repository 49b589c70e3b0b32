use Rattle.std.proofs.Common.{◌≡◌, drop, map}
use Rattle.smv_lexer.specs.Scan.{sign_at}
use Rattle.smv_lexer.specs.SignView.{viewed}
use Rattle.smv_lexer.proofs.sign.first_of.Given as goal

abbrev pub invariant-loop-sign : goal.invariant-loop-sign
invariant-loop-sign l = sign_at (map viewed l.signs) l.bytes ≡ sign_at (map viewed (drop l.sign-index l.signs)) l.bytes
