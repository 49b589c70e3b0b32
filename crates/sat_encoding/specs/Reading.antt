-- Which names an expression has, asked node by node.
use Rattle.std.specs.Prelude.{Bool, false, ◌||◌}
use Rattle.smv_language.specs.Language.{Tree, Trees, Branches, leaf, not_of, negate, next_of, binary, choice, case_of, set_of, span}
use Rattle.smv_language.specs.Language.{no_tree, tree_then, no_branch, branch_then, FlatLeaf, variable_tree}
use Rattle.smv_language.specs.Tree.{truth, number}
use Rattle.std.specs.Prelude.{map}
use Rattle.sat_encoding_laws.specs.Inputs.{names_input}
use Rattle.sat_encoding.specs.declared.inputs.InputReads.{InputReads}

-- some name of the tree passes the test
abbrev mutual
  pub tree_any : {L : Type 0} → (L → Bool) → Tree L → Bool
  tree_any test (truth b) = false
  tree_any test (number n) = false
  tree_any test (leaf l) = test l
  tree_any test (not_of a) = tree_any test a
  tree_any test (negate a) = tree_any test a
  tree_any test (next_of a) = tree_any test a
  tree_any test (binary o a b) = tree_any test a || tree_any test b
  tree_any test (choice c a b) = tree_any test c || (tree_any test a || tree_any test b)
  tree_any test (case_of bs) = branches_any test bs
  tree_any test (set_of ts) = trees_any test ts
  tree_any test (span lo hi) = false

  pub trees_any : {L : Type 0} → (L → Bool) → Trees L → Bool
  trees_any test no_tree = false
  trees_any test (tree_then t ts) = tree_any test t || trees_any test ts

  pub branches_any : {L : Type 0} → (L → Bool) → Branches L → Bool
  branches_any test no_branch = false
  branches_any test (branch_then c a bs) = tree_any test c || (tree_any test a || branches_any test bs)

-- the name is an input, or a definition that reads one
abbrev pub names_read : InputReads → FlatLeaf → Bool
names_read r = names_input (map variable_tree r.variables.now) r.definitions.items
