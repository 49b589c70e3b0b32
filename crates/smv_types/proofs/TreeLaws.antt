-- The tree of a case and of a set, and what is left of a list of expressions, one element on.
use Rattle.std.proofs.Common.{◌≡◌, ℕ, ◌+◌, ◌<◌, List, length, get_or, drop, ap}
use Rattle.std.proofs.lemmas.List.{drop_more}
use Rattle.smv_language.specs.declared.expr.Expr.{Expr}
use Rattle.smv_language.specs.ExpressionTree.{tree_of, trees_of, branches_of}
use Rattle.smv_type_laws.specs.Costs.{cost_of, trees_cost, branches_cost}

pub trees_cost_more : {L : Type 0} (ts : List (Expr L)) (i : ℕ) (d : Expr L) → i < length ts →
    trees_cost (trees_of (drop i ts)) ≡ cost_of (tree_of (get_or ts i d)) + trees_cost (trees_of (drop (i + 1) ts))
trees_cost_more ts i d h = ap (λ xs. trees_cost (trees_of xs)) (drop_more ts i d h)

pub branches_cost_more : {L : Type 0} (bs : List (Expr L × Expr L)) (i : ℕ) (d : Expr L × Expr L) → i < length bs →
    branches_cost (branches_of (drop i bs)) ≡ cost_of (tree_of (get_or bs i d).0) + cost_of (tree_of (get_or bs i d).1) + branches_cost (branches_of (drop (i + 1) bs))
branches_cost_more bs i d h = ap (λ xs. branches_cost (branches_of xs)) (drop_more bs i d h)
