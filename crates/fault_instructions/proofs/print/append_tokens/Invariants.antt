use Rattle.std.proofs.Common.{◌≡◌, ◌++◌, drop, codes}
use Rattle.smv_language.specs.Text.{each_after}
use Rattle.fault_instructions.proofs.print.append_tokens.Given as goal

abbrev pub invariant-loop-token : goal.invariant-loop-token
invariant-loop-token l = l.text ++ each_after (codes " ") (drop l.token-index l.more) ≡ l.initial.text ++ each_after (codes " ") l.more
