use Rattle.std.proofs.Common.{◌≡◌, ◌++◌, map, drop}
use Rattle.fault_instructions.specs.Instructions.{mode_tree}
use Rattle.fault_extend.specs.WovenFaults.{fault_tree}
use Rattle.fault_extend.proofs.faults.add_slice.Given as goal
use Rattle.smv_language.specs.ModelTree.{place_of}

abbrev pub invariant-loop-mode : goal.invariant-loop-mode
invariant-loop-mode l =
    map fault_tree l.faults ++ map (λ m. record { place = place_of l.instance.path; slice = l.slice.name; mode = m.name }) (map mode_tree (drop l.mode-index l.slice.modes)) ≡
    map fault_tree l.initial.faults ++ map (λ m. record { place = place_of l.instance.path; slice = l.slice.name; mode = m.name }) (map mode_tree l.slice.modes)
