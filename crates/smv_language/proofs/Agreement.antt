-- Evaluation under leaves that agree.
use Rattle.std.proofs.Common.{◌≡◌, refl}
use Rattle.smv_language.specs.Tree.{Tree, Trees, Branches, truth, number, leaf, not_of, negate, next_of, binary, choice, case_of, set_of, span, no_tree, tree_then, no_branch, branch_then}
use Rattle.smv_language.specs.Evaluate.{Leaves, evaluate, evaluate_trees, evaluate_branches}
use Rattle.smv_language.specs.Laws.{AllLeaves, AllLeavesOfTrees, AllLeavesOfBranches}

-- the leaf gives the same now and next
abbrev pub Agrees : {L : Type 0} → Leaves L → Leaves L → Leaves L → Leaves L → L → Type 0
Agrees now now' next next' l = (now l ≡ now' l) × (next l ≡ next' l)

mutual
  -- under `next`, what is read now is what else is read next
  later : {L : Type 0} (t : Tree L) (now now' next next' : Leaves L) → AllLeaves (Agrees now now' next next') t → AllLeaves (Agrees next next' next next') t
  later (truth b) now now' next next' h = tt
  later (number n) now now' next next' h = tt
  later (leaf l) now now' next next' h = (h.1, h.1)
  later (not_of a) now now' next next' h = later a now now' next next' h
  later (negate a) now now' next next' h = later a now now' next next' h
  later (next_of a) now now' next next' h = later a now now' next next' h
  later (binary o a b) now now' next next' h = (later a now now' next next' h.0, later b now now' next next' h.1)
  later (choice c a b) now now' next next' h = (later c now now' next next' h.0, later a now now' next next' h.1, later b now now' next next' h.2)
  later (case_of bs) now now' next next' h = branches_later bs now now' next next' h
  later (set_of ts) now now' next next' h = trees_later ts now now' next next' h
  later (span lo hi) now now' next next' h = tt

  trees_later : {L : Type 0} (ts : Trees L) (now now' next next' : Leaves L) → AllLeavesOfTrees (Agrees now now' next next') ts → AllLeavesOfTrees (Agrees next next' next next') ts
  trees_later no_tree now now' next next' h = tt
  trees_later (tree_then t ts) now now' next next' h = (later t now now' next next' h.0, trees_later ts now now' next next' h.1)

  branches_later : {L : Type 0} (bs : Branches L) (now now' next next' : Leaves L) → AllLeavesOfBranches (Agrees now now' next next') bs → AllLeavesOfBranches (Agrees next next' next next') bs
  branches_later no_branch now now' next next' h = tt
  branches_later (branch_then c a bs) now now' next next' h =
      (later c now now' next next' h.0, later a now now' next next' h.1, branches_later bs now now' next next' h.2)

mutual
  pub evaluate_agrees : {L : Type 0} (t : Tree L) (now now' next next' : Leaves L) → AllLeaves (Agrees now now' next next') t → evaluate now next t ≡ evaluate now' next' t
  evaluate_agrees (truth b) now now' next next' h = refl
  evaluate_agrees (number n) now now' next next' h = refl
  evaluate_agrees (leaf l) now now' next next' h = h.0
  evaluate_agrees (not_of a) now now' next next' h = rw (evaluate_agrees a now now' next next' h) refl
  evaluate_agrees (negate a) now now' next next' h = rw (evaluate_agrees a now now' next next' h) refl
  evaluate_agrees (next_of a) now now' next next' h = evaluate_agrees a next next' next next' (later a now now' next next' h)
  evaluate_agrees (binary o a b) now now' next next' h =
      rw (evaluate_agrees a now now' next next' h.0, evaluate_agrees b now now' next next' h.1) refl
  evaluate_agrees (choice c a b) now now' next next' h =
      rw (evaluate_agrees c now now' next next' h.0, evaluate_agrees a now now' next next' h.1, evaluate_agrees b now now' next next' h.2) refl
  evaluate_agrees (case_of bs) now now' next next' h = branches_agree bs now now' next next' h
  evaluate_agrees (set_of ts) now now' next next' h = trees_agree ts now now' next next' h
  evaluate_agrees (span lo hi) now now' next next' h = refl

  pub trees_agree : {L : Type 0} (ts : Trees L) (now now' next next' : Leaves L) → AllLeavesOfTrees (Agrees now now' next next') ts → evaluate_trees now next ts ≡ evaluate_trees now' next' ts
  trees_agree no_tree now now' next next' h = refl
  trees_agree (tree_then t ts) now now' next next' h = rw (evaluate_agrees t now now' next next' h.0, trees_agree ts now now' next next' h.1) refl

  pub branches_agree : {L : Type 0} (bs : Branches L) (now now' next next' : Leaves L) → AllLeavesOfBranches (Agrees now now' next next') bs → evaluate_branches now next bs ≡ evaluate_branches now' next' bs
  branches_agree no_branch now now' next next' h = refl
  branches_agree (branch_then c a bs) now now' next next' h =
      rw (evaluate_agrees c now now' next next' h.0, evaluate_agrees a now now' next next' h.1, branches_agree bs now now' next next' h.2) refl
