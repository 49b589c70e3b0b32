use Rattle.std.proofs.Common.{◌≡◌, drop}
use Rattle.smv_language.specs.Language.{trees_of, branches_of, trees_map, branches_map, leaf_of}
use Rattle.sat_encoding.specs.Reading.{names_read, trees_any, branches_any}
use Rattle.sat_encoding.proofs.inputs.+reads.Given as goal

abbrev pub invariant-member_reads-loop-member : goal.invariant-member_reads-loop-member
invariant-member_reads-loop-member l =
    trees_any (names_read l.reading) (trees_map leaf_of (trees_of (drop l.member-index l.members))) ≡ trees_any (names_read l.reading) (trees_map leaf_of (trees_of l.members))

abbrev pub invariant-branch_reads-loop-condition : goal.invariant-branch_reads-loop-condition
invariant-branch_reads-loop-condition l =
    branches_any (names_read l.reading) (branches_map leaf_of (branches_of (drop l.condition-index l.branches)))
    ≡ branches_any (names_read l.reading) (branches_map leaf_of (branches_of l.branches))
