-- The tree of an expression of the program.
use Rattle.std.specs.Prelude.{List, map}
use Rattle.smv_language.specs.declared.expr.Expr.{Expr, fold-Expr}
use Rattle.smv_language.specs.declared.expr.Expr.TheOpen.{Expr-F, Truth, Number, Leaf, Not, Negate, Next, Binary, Choice, Case, SetOf, Span}
use Rattle.smv_language.specs.Tree.{Tree, Trees, Branches, truth, number, leaf, not_of, negate, next_of, binary, choice, case_of, set_of}
use Rattle.smv_language.specs.Tree.{span, trees_from, branches_from}

-- one node, over the trees of its children
abbrev pub node_tree : {L : Type 0} → Expr-F L (Tree L) → Tree L
node_tree (Truth b) = truth b
node_tree (Number n) = number n
node_tree (Leaf l) = leaf l
node_tree (Not a) = not_of a.value
node_tree (Negate a) = negate a.value
node_tree (Next a) = next_of a.value
node_tree (Binary op a b) = binary op a.value b.value
node_tree (Choice c a b) = choice c.value a.value b.value
node_tree (Case bs) = case_of (branches_from bs)
node_tree (SetOf ts) = set_of (trees_from ts)
node_tree (Span lo hi) = span lo hi

-- the tree of an expression
abbrev pub tree_of : {L : Type 0} → Expr L → Tree L
tree_of {L = L} e = fold-Expr L (Tree L) node_tree e

-- the trees of expressions
abbrev pub trees_of : {L : Type 0} → List (Expr L) → Trees L
trees_of ts = trees_from (map tree_of ts)

-- the trees of a branch
abbrev pub branch_trees : {L : Type 0} → Expr L × Expr L → Tree L × Tree L
branch_trees b = (tree_of b.0, tree_of b.1)

-- the branches of a case
abbrev pub branches_of : {L : Type 0} → List (Expr L × Expr L) → Branches L
branches_of bs = branches_from (map branch_trees bs)
