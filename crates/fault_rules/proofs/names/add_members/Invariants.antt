use Rattle.std.proofs.Common.{◌≡◌, drop}
use Rattle.std.specs.Prelude.{flat_map}
use Rattle.fault_rules.specs.KeyedLists.{with_texts}
use Rattle.fault_rules.specs.Names.{member_names}
use Rattle.fault_rules.proofs.names.add_members.Given as goal

abbrev pub invariant-loop-member : goal.invariant-loop-member
invariant-loop-member l = with_texts l.names (flat_map member_names (drop l.member-index l.members)) ≡ with_texts l.initial.names (flat_map member_names l.members)
