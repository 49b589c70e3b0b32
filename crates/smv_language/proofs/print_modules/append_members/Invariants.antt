use Rattle.std.proofs.Common.{◌≡◌, ◌++◌, drop, map, codes}
use Rattle.smv_language.specs.Text.{each_after, member_text}
use Rattle.smv_language.proofs.print_modules.append_members.Given as goal

abbrev pub invariant-loop-member : goal.invariant-loop-member
invariant-loop-member l =
    l.text ++ each_after (codes ", ") (map member_text (drop l.member-index l.more)) ≡ l.initial.text ++ each_after (codes ", ") (map member_text l.more)
