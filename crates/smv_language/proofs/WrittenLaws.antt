-- The tree of each variant.
use Rattle.std.proofs.Common.{◌≡◌, List, ◌∙◌, ap, sym}
use Rattle.std.specs.declared.boxed.Box.{Box}
use Rattle.std.specs.declared.alloc.Global.{Global}
use Rattle.smv_language.specs.declared.expr.Expr.{Expr, fold-roll-Expr}
use Rattle.smv_language.specs.declared.expr.Expr.TheVariants.{Case, SetOf, Not, rolls-Case, rolls-SetOf, rolls-Not}
use Rattle.smv_language.specs.declared.expr.Expr.TheOpen as open_
use Rattle.smv_language.specs.Tree.{Tree, case_of, set_of, not_of}
use Rattle.smv_language.specs.ExpressionTree.{tree_of, trees_of, branches_of, node_tree}

pub tree_of_case : {L : Type 0} (bs : List (Expr L × Expr L)) → tree_of (Case bs) ≡ case_of (branches_of bs)
tree_of_case {L = L} bs = ap tree_of (sym (rolls-Case bs)) ∙ fold-roll-Expr L (Tree L) node_tree (open_.Case bs)

pub tree_of_set : {L : Type 0} (ts : List (Expr L)) → tree_of (SetOf ts) ≡ set_of (trees_of ts)
tree_of_set {L = L} ts = ap tree_of (sym (rolls-SetOf ts)) ∙ fold-roll-Expr L (Tree L) node_tree (open_.SetOf ts)

pub tree_of_not : {L : Type 0} (a : Box (Expr L) Global) → tree_of (Not a) ≡ not_of (tree_of a.value)
tree_of_not {L = L} a = ap tree_of (sym (rolls-Not a)) ∙ fold-roll-Expr L (Tree L) node_tree (open_.Not a)
