use Rattle.std.proofs.Common.{◌≡◌, subst, map}
use Rattle.std.specs.Prelude.{IfOk}
use Rattle.smv_language.specs.ExpressionTree.{tree_of, branch_trees}
use Rattle.fault_instructions.specs.Instructions.{mode_tree}
use Rattle.fault_weave.specs.WovenProgram.{stay_branch, entries}
use Rattle.fault_weave.proofs.SliceLaws.{case_done}
use Rattle.fault_weave.proofs.slices.moves.Goals as goal

pub returns : goal.returns
returns c =
    subst (λ t. IfOk c.closed.result (λ made. tree_of made ≡ t))
    (case_done c.args.s.now.name (λ m. stay_branch c.args.s.now.name m.dynamics m.name) (entries c.args.s.now.name (map mode_tree c.args.s.now.modes)) (map mode_tree c.args.s.now.modes)
    (map branch_trees c.in_ok-branches.branches) (tree_of c.in_ok-last.last) c.in_ok-branches.ensures c.in_ok-last.ensures) c.closed.ensures
