use Rattle.std.proofs.Common.{◌≡◌, map, take}
use Rattle.smv_language.specs.ExpressionTree.{branch_trees}
use Rattle.fault_instructions.specs.Instructions.{mode_tree}
use Rattle.fault_instructions.specs.Templates.{stands}
use Rattle.fault_weave.specs.WovenProgram.{stay_branch}
use Rattle.fault_weave.proofs.slices.stay_branches.Given as goal

abbrev pub invariant-loop-mode : goal.invariant-loop-mode
invariant-loop-mode l = map branch_trees l.made ≡ map (λ m. (stands l.s.name m.name, stay_branch l.s.name m.dynamics m.name)) (map mode_tree (take l.mode-index l.s.modes))
