use Rattle.std.proofs.Common.{arith, ◌∙◌, ap, map}
use Rattle.smv_language.specs.Language.{branches_height, branches_from, branch_trees}
use Rattle.smv_expression_reader.proofs.Heights.{branch_height}
use Rattle.smv_expression_reader.proofs.grown.GrownBranches.with.Goals as goal

pub invariant_of-result : goal.invariant_of-result
invariant_of-result c =
    let longer = ap (λ bs. branches_height (branches_from (map branch_trees bs))) c.in_ok-push.ensures.ok ∙ branch_height c.args.self.branches c.args.condition.tree c.args.value.tree in
    record {
      exact = grind (arith, longer, c.args.self.exact, c.args.condition.exact, c.args.value.exact, c.max.ensures, c.max-height.ensures);
      within = grind (arith, c.args.self.within, c.args.condition.within, c.args.value.within, c.max.ensures, c.max-height.ensures);
    }
