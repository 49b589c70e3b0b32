use Rattle.std.proofs.Common.{◌≡◌, map, take}
use Rattle.smv_language.specs.Language.{branch_trees, declared_tree}
use Rattle.fault_instructions.specs.Instructions.{mode_tree}
use Rattle.fault_instructions.specs.Templates.{stands, branch}
use Rattle.fault_weave.proofs.slices.effect_branches.Given as goal

abbrev pub invariant-loop-mode : goal.invariant-loop-mode
invariant-loop-mode l =
    map branch_trees l.made ≡ map (λ m. (stands l.s.name m.name, branch m.effect (declared_tree l.d) l.s.target)) (map mode_tree (take l.mode-index l.s.modes))
