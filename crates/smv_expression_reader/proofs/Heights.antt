-- Heights of lists with one member more.
use Rattle.std.proofs.Common.{◌≡◌, List, [], ◌∷◌, ◌++◌, refl, ap, ◌∙◌, arith}
use Rattle.std.specs.Prelude.{max, map}
use Rattle.smv_language.specs.declared.expr.Expr.{Expr}
use Rattle.smv_language.specs.Language.{Tree, height_of, trees_height, branches_height, trees_from, branches_from, Path, tree_of, branch_trees}

pub trees_more : (ts : List (Tree Path)) (t : Tree Path) → trees_height (trees_from (ts ++ t ∷ [])) ≡ max (trees_height (trees_from ts)) (height_of t)
trees_more [] t = omega arith
trees_more (x ∷ ts) t = let rest = trees_more ts t in omega (arith, rest)

pub branches_more : (bs : List (Tree Path × Tree Path)) (c a : Tree Path) →
    branches_height (branches_from (bs ++ (c, a) ∷ [])) ≡ max (branches_height (branches_from bs)) (max (height_of c) (height_of a))
branches_more [] c a = omega arith
branches_more (x ∷ bs) c a = let rest = branches_more bs c a in omega (arith, rest)

pub pushed_member : (xs : List (Expr Path)) (x : Expr Path) → map tree_of (xs ++ x ∷ []) ≡ map tree_of xs ++ tree_of x ∷ []
pushed_member [] x = refl
pushed_member (y ∷ xs) x = ap (λ rest. tree_of y ∷ rest) (pushed_member xs x)

pub pushed_branch : (xs : List (Expr Path × Expr Path)) (x : Expr Path × Expr Path) → map branch_trees (xs ++ x ∷ []) ≡ map branch_trees xs ++ branch_trees x ∷ []
pushed_branch [] x = refl
pushed_branch (y ∷ xs) x = ap (λ rest. branch_trees y ∷ rest) (pushed_branch xs x)

-- the height of one member more
pub member_height : (xs : List (Expr Path)) (x : Expr Path) → trees_height (trees_from (map tree_of (xs ++ x ∷ []))) ≡ max (trees_height (trees_from (map tree_of xs))) (height_of (tree_of x))
member_height xs x = ap (λ ts. trees_height (trees_from ts)) (pushed_member xs x) ∙ trees_more (map tree_of xs) (tree_of x)

-- and of one branch more
pub branch_height : (xs : List (Expr Path × Expr Path)) (c a : Expr Path) →
    branches_height (branches_from (map branch_trees (xs ++ (c, a) ∷ []))) ≡ max (branches_height (branches_from (map branch_trees xs))) (max (height_of (tree_of c)) (height_of (tree_of a)))
branch_height xs c a = ap (λ bs. branches_height (branches_from bs)) (pushed_branch xs (c, a)) ∙ branches_more (map branch_trees xs) (tree_of c) (tree_of a)
