-- Evaluating a tree with its leaves changed is evaluating the tree over what the changed leaves give.
use Rattle.std.proofs.Common.{◌≡◌, refl}
use Rattle.smv_language.specs.Tree.{Tree, Trees, Branches, truth, number, leaf, not_of, negate, next_of, binary, choice, case_of, set_of, span, no_tree, tree_then, no_branch, branch_then}
use Rattle.smv_language.specs.Evaluate.{Leaves, evaluate, evaluate_trees, evaluate_branches}
use Rattle.smv_language.specs.Leaves.{tree_map, trees_map, branches_map}

mutual
  pub evaluate_map : {L M : Type 0} (f : L → M) (t : Tree L) (now next : Leaves M) →
      evaluate now next (tree_map f t) ≡ evaluate (λ l. now (f l)) (λ l. next (f l)) t
  evaluate_map f (truth b) now next = refl
  evaluate_map f (number n) now next = refl
  evaluate_map f (leaf l) now next = refl
  evaluate_map f (not_of a) now next = rw (evaluate_map f a now next) refl
  evaluate_map f (negate a) now next = rw (evaluate_map f a now next) refl
  evaluate_map f (next_of a) now next = evaluate_map f a next next
  evaluate_map f (binary o a b) now next = rw (evaluate_map f a now next, evaluate_map f b now next) refl
  evaluate_map f (choice c a b) now next = rw (evaluate_map f c now next, evaluate_map f a now next, evaluate_map f b now next) refl
  evaluate_map f (case_of bs) now next = evaluate_branches_map f bs now next
  evaluate_map f (set_of ts) now next = evaluate_trees_map f ts now next
  evaluate_map f (span lo hi) now next = refl

  pub evaluate_trees_map : {L M : Type 0} (f : L → M) (ts : Trees L) (now next : Leaves M) →
      evaluate_trees now next (trees_map f ts) ≡ evaluate_trees (λ l. now (f l)) (λ l. next (f l)) ts
  evaluate_trees_map f no_tree now next = refl
  evaluate_trees_map f (tree_then t ts) now next = rw (evaluate_map f t now next, evaluate_trees_map f ts now next) refl

  pub evaluate_branches_map : {L M : Type 0} (f : L → M) (bs : Branches L) (now next : Leaves M) →
      evaluate_branches now next (branches_map f bs) ≡ evaluate_branches (λ l. now (f l)) (λ l. next (f l)) bs
  evaluate_branches_map f no_branch now next = refl
  evaluate_branches_map f (branch_then c a bs) now next = rw (evaluate_map f c now next, evaluate_map f a now next, evaluate_branches_map f bs now next) refl
