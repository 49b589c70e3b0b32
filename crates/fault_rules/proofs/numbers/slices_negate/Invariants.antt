use Rattle.std.proofs.Common.{◌≡◌, map, drop}
use Rattle.std.specs.List.{list_all}
use Rattle.fault_instructions.specs.Instructions.{slice_tree}
use Rattle.fault_rules.specs.Negations.{slice_negates}
use Rattle.fault_rules.proofs.numbers.slices_negate.Given as goal

abbrev pub invariant-loop-slice : goal.invariant-loop-slice
invariant-loop-slice l = list_all slice_negates (map slice_tree (drop l.slice-index l.slices)) ≡ list_all slice_negates (map slice_tree l.slices)
