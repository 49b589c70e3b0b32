-- What is answered of a tree with its leaves changed.
use Rattle.std.proofs.Common.{◌≡◌, refl}
use Rattle.smv_language.specs.Tree.{Tree, Trees, Branches, truth as is_truth, number as is_number, leaf, not_of, negate, next_of, binary, choice, case_of, set_of, span, no_tree, tree_then, no_branch, branch_then}
use Rattle.smv_language.specs.Leaves.{tree_map, trees_map, branches_map}
use Rattle.base_values.specs.declared.value.Value.{Value}
use Rattle.smv_evaluation.specs.declared.ask.AskedValue.{AskedValue}
use Rattle.smv_evaluation.specs.Evaluation.{asked_of, members_of, taken_of}

mutual
  pub asked_mapped : {L M : Type 0} (f : L → M) (v w : M → Value) (asked : AskedValue) (t : Tree L) → asked_of v w asked (tree_map f t) ≡ asked_of (λ l. v (f l)) (λ l. w (f l)) asked t
  asked_mapped f v w asked (is_truth b) = refl
  asked_mapped f v w asked (is_number n) = refl
  asked_mapped f v w asked (leaf l) = refl
  asked_mapped f v w asked (not_of a) = rw (asked_mapped f v w _ a) refl
  asked_mapped f v w asked (negate a) = rw (asked_mapped f v w _ a) refl
  asked_mapped f v w asked (next_of a) = asked_mapped f w w asked a
  asked_mapped f v w asked (binary o a b) = rw (asked_mapped f v w _ a) (rw (asked_mapped f v w _ b) refl)
  asked_mapped f v w asked (choice c a b) = rw (asked_mapped f v w _ c, asked_mapped f v w asked a, asked_mapped f v w asked b) refl
  asked_mapped f v w asked (case_of bs) = taken_mapped f v w asked bs
  asked_mapped f v w asked (set_of ts) = members_mapped f v w asked ts
  asked_mapped f v w asked (span lo hi) = refl

  members_mapped : {L M : Type 0} (f : L → M) (v w : M → Value) (asked : AskedValue) (ts : Trees L) → members_of v w asked (trees_map f ts) ≡ members_of (λ l. v (f l)) (λ l. w (f l)) asked ts
  members_mapped f v w asked no_tree = refl
  members_mapped f v w asked (tree_then t ts) = rw (asked_mapped f v w asked t, members_mapped f v w asked ts) refl

  taken_mapped : {L M : Type 0} (f : L → M) (v w : M → Value) (asked : AskedValue) (bs : Branches L) → taken_of v w asked (branches_map f bs) ≡ taken_of (λ l. v (f l)) (λ l. w (f l)) asked bs
  taken_mapped f v w asked no_branch = refl
  taken_mapped f v w asked (branch_then c a bs) = rw (asked_mapped f v w _ c, asked_mapped f v w asked a, taken_mapped f v w asked bs) refl
