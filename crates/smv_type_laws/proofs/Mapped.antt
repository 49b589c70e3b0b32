-- Trees with their leaves changed: what is judged and what they cost.
use Rattle.std.proofs.Common.{◌≡◌, Bool, refl}
use Rattle.smv_language.specs.Tree.{Tree, Trees, Branches, truth as is_truth, number as is_number, leaf, not_of, negate, next_of, binary, choice, case_of, set_of, span, no_tree, tree_then, no_branch, branch_then}
use Rattle.smv_language.specs.Leaves.{tree_map, trees_map, branches_map}
use Rattle.smv_type_laws.specs.ExpressionKinds.{Kind, is_word_true, ends_in_true, judge, judge_trees, judge_conditions, judge_values}
use Rattle.smv_type_laws.specs.Costs.{cost_of, trees_cost, branches_cost}

word_mapped : {L M : Type 0} (f : L → M) (c : Tree L) → is_word_true (tree_map f c) ≡ is_word_true c
word_mapped f (is_truth b) = refl
word_mapped f (is_number n) = refl
word_mapped f (leaf l) = refl
word_mapped f (not_of a) = refl
word_mapped f (negate a) = refl
word_mapped f (next_of a) = refl
word_mapped f (binary o a b) = refl
word_mapped f (choice c a b) = refl
word_mapped f (case_of bs) = refl
word_mapped f (set_of ts) = refl
word_mapped f (span lo hi) = refl

end_mapped : {L M : Type 0} (f : L → M) (bs : Branches L) → ends_in_true (branches_map f bs) ≡ ends_in_true bs
end_mapped f no_branch = refl
end_mapped f (branch_then c a no_branch) = word_mapped f c
end_mapped f (branch_then c a (branch_then d b bs)) = end_mapped f (branch_then d b bs)

mutual
  -- a tree with its leaves changed is judged as the tree over the kinds of the changed leaves
  pub judge_mapped : {L M : Type 0} (f : L → M) (k : M → Kind) (sets : Bool) (t : Tree L) → judge k sets (tree_map f t) ≡ judge (λ l. k (f l)) sets t
  judge_mapped f k sets (is_truth b) = refl
  judge_mapped f k sets (is_number n) = refl
  judge_mapped f k sets (leaf l) = refl
  judge_mapped f k sets (not_of a) = rw (judge_mapped f k _ a) refl
  judge_mapped f k sets (negate a) = rw (judge_mapped f k _ a) refl
  judge_mapped f k sets (next_of a) = judge_mapped f k _ a
  judge_mapped f k sets (binary o a b) = rw (judge_mapped f k _ a, judge_mapped f k _ b) refl
  judge_mapped f k sets (choice c a b) = rw (judge_mapped f k _ c, judge_mapped f k sets a, judge_mapped f k sets b) refl
  judge_mapped f k sets (case_of bs) = rw (end_mapped f bs, conditions_mapped f k bs, values_mapped f k sets bs) refl
  judge_mapped f k sets (set_of ts) = rw (trees_mapped f k ts) refl
  judge_mapped f k sets (span lo hi) = refl

  pub trees_mapped : {L M : Type 0} (f : L → M) (k : M → Kind) (ts : Trees L) → judge_trees k (trees_map f ts) ≡ judge_trees (λ l. k (f l)) ts
  trees_mapped f k no_tree = refl
  trees_mapped f k (tree_then t ts) = rw (judge_mapped f k _ t, trees_mapped f k ts) refl

  pub conditions_mapped : {L M : Type 0} (f : L → M) (k : M → Kind) (bs : Branches L) → judge_conditions k (branches_map f bs) ≡ judge_conditions (λ l. k (f l)) bs
  conditions_mapped f k no_branch = refl
  conditions_mapped f k (branch_then c a bs) = rw (judge_mapped f k _ c, conditions_mapped f k bs) refl

  pub values_mapped : {L M : Type 0} (f : L → M) (k : M → Kind) (sets : Bool) (bs : Branches L) → judge_values k sets (branches_map f bs) ≡ judge_values (λ l. k (f l)) sets bs
  values_mapped f k sets no_branch = refl
  values_mapped f k sets (branch_then c a bs) = rw (judge_mapped f k sets a, values_mapped f k sets bs) refl

mutual
  -- and costs as much
  pub cost_mapped : {L M : Type 0} (f : L → M) (t : Tree L) → cost_of (tree_map f t) ≡ cost_of t
  cost_mapped f (is_truth b) = refl
  cost_mapped f (is_number n) = refl
  cost_mapped f (leaf l) = refl
  cost_mapped f (not_of a) = rw (cost_mapped f a) refl
  cost_mapped f (negate a) = rw (cost_mapped f a) refl
  cost_mapped f (next_of a) = rw (cost_mapped f a) refl
  cost_mapped f (binary o a b) = rw (cost_mapped f a, cost_mapped f b) refl
  cost_mapped f (choice c a b) = rw (cost_mapped f c, cost_mapped f a, cost_mapped f b) refl
  cost_mapped f (case_of bs) = rw (branches_cost_mapped f bs) refl
  cost_mapped f (set_of ts) = rw (trees_cost_mapped f ts) refl
  cost_mapped f (span lo hi) = refl

  pub trees_cost_mapped : {L M : Type 0} (f : L → M) (ts : Trees L) → trees_cost (trees_map f ts) ≡ trees_cost ts
  trees_cost_mapped f no_tree = refl
  trees_cost_mapped f (tree_then t ts) = rw (cost_mapped f t, trees_cost_mapped f ts) refl

  pub branches_cost_mapped : {L M : Type 0} (f : L → M) (bs : Branches L) → branches_cost (branches_map f bs) ≡ branches_cost bs
  branches_cost_mapped f no_branch = refl
  branches_cost_mapped f (branch_then c a bs) = rw (cost_mapped f c, cost_mapped f a, branches_cost_mapped f bs) refl
