-- Which names an expression reads, now and at the next moment.
use Rattle.std.specs.Prelude.{◌≡◌, Bool, false}
use Rattle.smv_language.specs.Tree.{Tree, Trees, Branches, truth, number, leaf, not_of, negate, next_of, binary, choice, case_of, set_of}
use Rattle.smv_language.specs.Tree.{span, no_tree, tree_then, no_branch, branch_then}

-- Each name is good, and none is left out now, or at the next moment where it stands under `next`.
abbrev mutual
  pub Reads : {L : Type 0} → (L → Type 0) → (L → Bool) → (L → Bool) → Tree L → Type 0
  Reads good now next (truth b) = Unit {0}
  Reads good now next (number n) = Unit {0}
  Reads good now next (leaf l) = good l × (now l ≡ false)
  Reads good now next (not_of a) = Reads good now next a
  Reads good now next (negate a) = Reads good now next a
  Reads good now next (next_of a) = Reads good next next a
  Reads good now next (binary o a b) = Reads good now next a × Reads good now next b
  Reads good now next (choice d a b) = Reads good now next d × Reads good now next a × Reads good now next b
  Reads good now next (case_of bs) = ReadsBranches good now next bs
  Reads good now next (set_of ts) = ReadsTrees good now next ts
  Reads good now next (span lo hi) = Unit {0}

  pub ReadsTrees : {L : Type 0} → (L → Type 0) → (L → Bool) → (L → Bool) → Trees L → Type 0
  ReadsTrees good now next no_tree = Unit {0}
  ReadsTrees good now next (tree_then t ts) = Reads good now next t × ReadsTrees good now next ts

  pub ReadsBranches : {L : Type 0} → (L → Type 0) → (L → Bool) → (L → Bool) → Branches L → Type 0
  ReadsBranches good now next no_branch = Unit {0}
  ReadsBranches good now next (branch_then d a bs) = Reads good now next d × Reads good now next a × ReadsBranches good now next bs
