-- What is left of a list of expressions, one element on.
use Rattle.std.proofs.Common.{◌≡◌, ℕ, ◌+◌, ◌<◌, List, length, get_or, drop, max, ap}
use Rattle.std.proofs.lemmas.List.{drop_more}
use Rattle.smv_language.specs.declared.expr.Expr.{Expr}
use Rattle.smv_language.specs.Tree.{size_of, trees_size, branches_size, height_of, trees_height, branches_height}
use Rattle.smv_language.specs.ExpressionTree.{tree_of, trees_of, branches_of}

pub trees_size_more : {L : Type 0} (ts : List (Expr L)) (i : ℕ) (d : Expr L) → i < length ts →
    trees_size (trees_of (drop i ts)) ≡ size_of (tree_of (get_or ts i d)) + trees_size (trees_of (drop (i + 1) ts))
trees_size_more ts i d h = ap (λ xs. trees_size (trees_of xs)) (drop_more ts i d h)

pub branches_size_more : {L : Type 0} (bs : List (Expr L × Expr L)) (i : ℕ) (d : Expr L × Expr L) → i < length bs →
    branches_size (branches_of (drop i bs)) ≡ size_of (tree_of (get_or bs i d).0) + size_of (tree_of (get_or bs i d).1) + branches_size (branches_of (drop (i + 1) bs))
branches_size_more bs i d h = ap (λ xs. branches_size (branches_of xs)) (drop_more bs i d h)

pub trees_height_more : {L : Type 0} (ts : List (Expr L)) (i : ℕ) (d : Expr L) → i < length ts →
    trees_height (trees_of (drop i ts)) ≡ max (height_of (tree_of (get_or ts i d))) (trees_height (trees_of (drop (i + 1) ts)))
trees_height_more ts i d h = ap (λ xs. trees_height (trees_of xs)) (drop_more ts i d h)

pub branches_height_more : {L : Type 0} (bs : List (Expr L × Expr L)) (i : ℕ) (d : Expr L × Expr L) → i < length bs →
    branches_height (branches_of (drop i bs)) ≡ max (max (height_of (tree_of (get_or bs i d).0)) (height_of (tree_of (get_or bs i d).1))) (branches_height (branches_of (drop (i + 1) bs)))
branches_height_more bs i d h = ap (λ xs. branches_height (branches_of xs)) (drop_more bs i d h)
