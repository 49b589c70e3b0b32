use Rattle.std.proofs.Common.{map, ap, ◌∙◌}
use Rattle.fault_extend.specs.WovenFaults.{fault_tree}
use Rattle.verb_odds.proofs.odds.marks_of.Goals as goal

pub marks-requires : goal.marks-requires
marks-requires c =
    let are = c.requires.1.is_case.are_faults in
    record { woven = (c.requires.0, (are.0, are.1, ap (map fault_tree) c.as_slice.ensures ∙ are.2)) }
