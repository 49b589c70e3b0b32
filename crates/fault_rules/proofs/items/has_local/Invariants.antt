use Rattle.std.proofs.Common.{◌≡◌, drop}
use Rattle.std.specs.List.{list_any}
use Rattle.smv_language.specs.Language.{program_tree, find_module}
use Rattle.fault_rules.specs.Rules.{is_local_member}
use Rattle.fault_rules.proofs.items.has_local.Given as goal

abbrev pub invariant-loop-member : goal.invariant-loop-member
invariant-loop-member l = list_any (is_local_member (find_module (program_tree l.known.program.now) l.owner)) (drop l.member-index l.members) ≡ list_any (is_local_member (find_module (program_tree l.known.program.now) l.owner)) l.members
