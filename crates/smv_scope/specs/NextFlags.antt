-- The names of an expression, and which of them stand under `next`.
use Rattle.std.specs.Prelude.{Bool, true, List, [], ◌∷◌, ◌++◌}
use Rattle.smv_language.specs.Tree.{Tree, Trees, Branches, truth, number, leaf, not_of, negate, next_of, binary, choice, case_of, set_of}
use Rattle.smv_language.specs.Tree.{span, no_tree, tree_then, no_branch, branch_then}

abbrev mutual
  -- each leaf, left to right, with whether it stands under `next`, where the whole does or does not
  pub flagged : {L : Type 0} → Bool → Tree L → List (L × Bool)
  flagged next (truth b) = []
  flagged next (number n) = []
  flagged next (leaf l) = (l, next) ∷ []
  flagged next (not_of a) = flagged next a
  flagged next (negate a) = flagged next a
  flagged next (next_of a) = flagged true a
  flagged next (binary o a b) = flagged next a ++ flagged next b
  flagged next (choice c a b) = flagged next c ++ (flagged next a ++ flagged next b)
  flagged next (case_of bs) = branches_flagged next bs
  flagged next (set_of ts) = trees_flagged next ts
  flagged next (span lo hi) = []

  pub trees_flagged : {L : Type 0} → Bool → Trees L → List (L × Bool)
  trees_flagged next no_tree = []
  trees_flagged next (tree_then t ts) = flagged next t ++ trees_flagged next ts

  pub branches_flagged : {L : Type 0} → Bool → Branches L → List (L × Bool)
  branches_flagged next no_branch = []
  branches_flagged next (branch_then c a bs) = flagged next c ++ (flagged next a ++ branches_flagged next bs)
