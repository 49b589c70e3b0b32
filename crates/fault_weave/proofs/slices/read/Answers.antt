use Rattle.std.proofs.Common.{◌≡◌, subst, map}
use Rattle.std.specs.Prelude.{IfOk}
use Rattle.smv_language.specs.Language.{declared_tree, tree_of, branch_trees}
use Rattle.fault_instructions.specs.Instructions.{mode_tree}
use Rattle.fault_instructions.specs.AddedNames.{own_name}
use Rattle.fault_instructions.specs.Templates.{named, branch}
use Rattle.fault_weave.proofs.SliceLaws.{case_done}
use Rattle.fault_weave.proofs.slices.read.Goals as goal

pub returns : goal.returns
returns c =
    subst (λ t. IfOk c.closed.result (λ made. tree_of made ≡ t))
    (case_done c.args.s.now.name (λ m. branch m.effect (declared_tree c.args.d.now) c.args.s.now.target) (named (own_name c.args.s.now.target)) (map mode_tree c.args.s.now.modes)
    (map branch_trees c.in_ok-branches.branches) (tree_of c.in_ok-last.last) c.in_ok-branches.ensures c.in_ok-last.ensures) c.closed.ensures
