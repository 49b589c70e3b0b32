-- An expression as contracts see it: the tree alone, with no pointer in it.
use Rattle.std.specs.Prelude.{ℕ, ℤ, Bool, ◌+◌, max, List, [], ◌∷◌}
use Rattle.smv_language.specs.declared.expr.Op.{Op}

-- an expression, a list of expressions, and the branches of a case
mutual
  pub data Tree (L : Type 0) : Type 0 where
    truth : Bool → Tree L
    number : ℤ → Tree L
    leaf : L → Tree L
    not_of : Tree L → Tree L
    negate : Tree L → Tree L
    next_of : Tree L → Tree L
    binary : Op → Tree L → Tree L → Tree L
    choice : Tree L → Tree L → Tree L → Tree L
    case_of : Branches L → Tree L
    set_of : Trees L → Tree L
    span : ℤ → ℤ → Tree L

  pub data Trees (L : Type 0) : Type 0 where
    no_tree : Trees L
    tree_then : Tree L → Trees L → Trees L

  pub data Branches (L : Type 0) : Type 0 where
    no_branch : Branches L
    branch_then : Tree L → Tree L → Branches L → Branches L

-- the trees of a list
abbrev pub trees_from : {L : Type 0} → List (Tree L) → Trees L
trees_from [] = no_tree
trees_from (t ∷ ts) = tree_then t (trees_from ts)

-- the branches of a list of a condition and a value each
abbrev pub branches_from : {L : Type 0} → List (Tree L × Tree L) → Branches L
branches_from [] = no_branch
branches_from (b ∷ bs) = branch_then b.0 b.1 (branches_from bs)

-- a leaf, a truth value, a number and a span have height 1
abbrev mutual
  pub height_of : {L : Type 0} → Tree L → ℕ
  height_of (truth b) = 1
  height_of (number n) = 1
  height_of (leaf l) = 1
  height_of (not_of a) = height_of a + 1
  height_of (negate a) = height_of a + 1
  height_of (next_of a) = height_of a + 1
  height_of (binary op a b) = max (height_of a) (height_of b) + 1
  height_of (choice c a b) = max (height_of c) (max (height_of a) (height_of b)) + 1
  height_of (case_of bs) = branches_height bs + 1
  height_of (set_of ts) = trees_height ts + 1
  height_of (span lo hi) = 1

  pub trees_height : {L : Type 0} → Trees L → ℕ
  trees_height no_tree = 0
  trees_height (tree_then t ts) = max (height_of t) (trees_height ts)

  pub branches_height : {L : Type 0} → Branches L → ℕ
  branches_height no_branch = 0
  branches_height (branch_then c a bs) = max (max (height_of c) (height_of a)) (branches_height bs)

-- the number of nodes
abbrev mutual
  pub size_of : {L : Type 0} → Tree L → ℕ
  size_of (truth b) = 1
  size_of (number n) = 1
  size_of (leaf l) = 1
  size_of (not_of a) = size_of a + 1
  size_of (negate a) = size_of a + 1
  size_of (next_of a) = size_of a + 1
  size_of (binary op a b) = size_of a + size_of b + 1
  size_of (choice c a b) = size_of c + size_of a + size_of b + 1
  size_of (case_of bs) = branches_size bs + 1
  size_of (set_of ts) = trees_size ts + 1
  size_of (span lo hi) = 1

  pub trees_size : {L : Type 0} → Trees L → ℕ
  trees_size no_tree = 0
  trees_size (tree_then t ts) = size_of t + trees_size ts

  pub branches_size : {L : Type 0} → Branches L → ℕ
  branches_size no_branch = 0
  branches_size (branch_then c a bs) = size_of c + size_of a + branches_size bs
