use Rattle.std.proofs.Common.{◌≡◌, ◌++◌, drop, map}
use Rattle.smv_language.specs.ProgramTree.{define_tree}
use Rattle.smv_language.specs.Text.{all_of, define_line}
use Rattle.smv_language.proofs.print_modules.append_defines.Given as goal

abbrev pub invariant-loop-define : goal.invariant-loop-define
invariant-loop-define l =
    l.text ++ all_of (map define_line (map define_tree (drop l.define-index l.defines))) ≡ l.initial.text ++ all_of (map define_line (map define_tree l.defines))
