-- A tree with its leaves changed.
use Rattle.smv_language.specs.Tree.{Tree, Trees, Branches, truth, number, leaf, not_of, negate, next_of, binary, choice, case_of, set_of}
use Rattle.smv_language.specs.Tree.{span, no_tree, tree_then, no_branch, branch_then}

-- each leaf changed by f, and all else as it is
abbrev mutual
  pub tree_map : {L M : Type 0} → (L → M) → Tree L → Tree M
  tree_map f (truth b) = truth b
  tree_map f (number n) = number n
  tree_map f (leaf l) = leaf (f l)
  tree_map f (not_of a) = not_of (tree_map f a)
  tree_map f (negate a) = negate (tree_map f a)
  tree_map f (next_of a) = next_of (tree_map f a)
  tree_map f (binary o a b) = binary o (tree_map f a) (tree_map f b)
  tree_map f (choice c a b) = choice (tree_map f c) (tree_map f a) (tree_map f b)
  tree_map f (case_of bs) = case_of (branches_map f bs)
  tree_map f (set_of ts) = set_of (trees_map f ts)
  tree_map f (span lo hi) = span lo hi

  pub trees_map : {L M : Type 0} → (L → M) → Trees L → Trees M
  trees_map f no_tree = no_tree
  trees_map f (tree_then t ts) = tree_then (tree_map f t) (trees_map f ts)

  pub branches_map : {L M : Type 0} → (L → M) → Branches L → Branches M
  branches_map f no_branch = no_branch
  branches_map f (branch_then c a bs) = branch_then (tree_map f c) (tree_map f a) (branches_map f bs)
