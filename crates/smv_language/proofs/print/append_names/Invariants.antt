use Rattle.std.proofs.Common.{◌≡◌, ◌++◌, drop}
use Rattle.smv_language.specs.Text.{each_after}
use Rattle.smv_language.proofs.print.append_names.Given as goal

abbrev pub invariant-loop-name : goal.invariant-loop-name
invariant-loop-name l = l.text ++ each_after l.mark (drop l.name-index l.more) ≡ l.initial.text ++ each_after l.mark l.more
