use Rattle.std.proofs.Common.{[], take}
use Rattle.smv_language.specs.Language.{program_tree, tree_of, model_tree, flat_tree, EachBoth}
use Rattle.smv_flat_laws.specs.ResolvedAt.{IsResolvedAt}
use Rattle.verb_run.proofs.tops.over_case.Given as goal

abbrev pub invariant-loop-top : goal.invariant-loop-top
invariant-loop-top l = EachBoth (λ e tree. IsResolvedAt (program_tree l.case.limited.woven.program) (model_tree l.case.limited.typed.model) [] (tree_of e) (flat_tree tree)) (take l.top-index l.tops) l.over
