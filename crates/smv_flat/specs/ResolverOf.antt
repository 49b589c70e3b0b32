-- Which leaf a name gets at an instance, by the tables of a scene and the order of its definitions.
use Rattle.std.specs.Prelude.{◌≡◌, ℕ, suc, nat_lt, Bool, true, false, if◌then◌else◌, List, [], ◌∷◌, Option, Some, None, slice_get}
use Rattle.smv_language.specs.Language.{Tree, Trees, Branches, leaf, not_of, negate, next_of, binary, choice, case_of, set_of, span}
use Rattle.smv_language.specs.Language.{no_tree, tree_then, no_branch, branch_then, Path, Formula, Place, tree_map, tree_of, FlatLeaf}
use Rattle.smv_language.specs.Language.{flat_variable, flat_symbol, flat_definition, FlatInstance, flat_tree}
use Rattle.smv_language.specs.Tree.{truth, number}
use Rattle.smv_language.specs.declared.expr.Expr.{Expr}
use Rattle.smv_flat_laws.specs.Items.{instances_of}
use Rattle.smv_flat_laws.specs.NameResolution.{Resolver}
use Rattle.smv_flat_laws.specs.Model.{same_place}
use Rattle.smv_scope.specs.SceneTree.{program_of}
use Rattle.smv_scope.specs.TableLookUps.{found_at}
use Rattle.smv_scope.specs.declared.bounds.Bounds.{Bounds}
use Rattle.smv_language.specs.declared.model.Flat.{Flat}
use Rattle.smv_scope.specs.declared.walk.Meaning.{Meaning as Found}
use Rattle.smv_scope.specs.declared.walk.Meaning.TheVariants as found
use Rattle.smv_scope.specs.declared.names.Scene.{Scene}
use Rattle.smv_scope.specs.declared.needs.Needs.{Needs}
use Rattle.smv_flat.specs.declared.flattening.Scope.{Scope}

-- a definition has its place in the order as its number
abbrev pub leaf_placed : Option ℕ → Option FlatLeaf
leaf_placed None = None
leaf_placed (Some i) = Some (flat_definition i)

-- what a found meaning is in the model, where definitions have these places
abbrev pub leaf_found : List ℕ → Found → Option FlatLeaf
leaf_found places (found.Variable i role) = Some (flat_variable i)
leaf_found places (found.Definition k) = leaf_placed (slice_get places k)
leaf_found places (found.Symbol k) = Some (flat_symbol k)
leaf_found places (found.Instance k) = None
leaf_found places found.Nothing = None
leaf_found places found.Loop = None

-- the leaf of a name at the instance of a number
abbrev pub leaf_at : Scene → Needs → ℕ → Path → Option FlatLeaf
leaf_at s n spot name = leaf_found n.places.items (found_at s spot name)

-- the same by the tables of a scope
abbrev pub leaf_in : Scope → ℕ → Path → Option FlatLeaf
leaf_in s spot = leaf_at s.scene s.needs spot

-- the number of the first instance of a place, counted on from a number
abbrev pub number_from : ℕ → List FlatInstance → Place → Option ℕ
number_from k [] at = None
number_from k (i ∷ is) at = if same_place i.place at then Some k else number_from (suc k) is at

-- what a name stands for at an instance, where the instance is there
abbrev pub leaf_by : Scene → Needs → Option ℕ → Path → Option FlatLeaf
leaf_by s n None name = None
leaf_by s n (Some spot) name = leaf_at s n spot name

-- the leaf of a name at the instance of a place
abbrev pub resolver : Scene → Needs → Resolver
resolver s n at name = leaf_by s n (number_from 0 (instances_of (program_of s)) at) name

-- there is a leaf, and it is one of so many variables, symbols or definitions
abbrev pub is_leaf_within : Bounds → Option FlatLeaf → Bool
is_leaf_within b None = false
is_leaf_within b (Some (flat_variable i)) = nat_lt i b.variables
is_leaf_within b (Some (flat_symbol i)) = nat_lt i b.symbols
is_leaf_within b (Some (flat_definition i)) = nat_lt i b.definitions

-- of each leaf of a tree
abbrev mutual
  pub TreeAll : {L : Type 0} → (L → Type 0) → Tree L → Type 0
  TreeAll P (truth b) = Unit {0}
  TreeAll P (number n) = Unit {0}
  TreeAll P (leaf l) = P l
  TreeAll P (not_of a) = TreeAll P a
  TreeAll P (negate a) = TreeAll P a
  TreeAll P (next_of a) = TreeAll P a
  TreeAll P (binary o a b) = TreeAll P a × TreeAll P b
  TreeAll P (choice c a b) = TreeAll P c × TreeAll P a × TreeAll P b
  TreeAll P (case_of bs) = BranchesAll P bs
  TreeAll P (set_of ts) = TreesAll P ts
  TreeAll P (span lo hi) = Unit {0}

  pub TreesAll : {L : Type 0} → (L → Type 0) → Trees L → Type 0
  TreesAll P no_tree = Unit {0}
  TreesAll P (tree_then t ts) = TreeAll P t × TreesAll P ts

  pub BranchesAll : {L : Type 0} → (L → Type 0) → Branches L → Type 0
  BranchesAll P no_branch = Unit {0}
  BranchesAll P (branch_then c a bs) = TreeAll P c × TreeAll P a × BranchesAll P bs

-- each name of an expression has a leaf within the bounds
abbrev pub AreKnown : (Path → Option FlatLeaf) → Bounds → Formula → Type 0
AreKnown q b e = TreeAll (λ name. is_leaf_within b (q name) ≡ true) e

-- the leaves of a flat expression, as those that names were to get
abbrev pub told_tree : Expr Flat → Tree (Option FlatLeaf)
told_tree e = tree_map Some (flat_tree e)

-- an expression with what each of its names gets
abbrev pub asked_tree : (Path → Option FlatLeaf) → Expr Path → Tree (Option FlatLeaf)
asked_tree q e = tree_map q (tree_of e)

-- the same of a branch
abbrev pub told_branch : Expr Flat × Expr Flat → Tree (Option FlatLeaf) × Tree (Option FlatLeaf)
told_branch b = (told_tree b.0, told_tree b.1)

-- a branch with what its names ask for
abbrev pub asked_branch : (Path → Option FlatLeaf) → Expr Path × Expr Path → Tree (Option FlatLeaf) × Tree (Option FlatLeaf)
asked_branch q b = (asked_tree q b.0, asked_tree q b.1)

-- each name of an expression stands for something within the bounds
abbrev pub IsKnown : (Path → Option FlatLeaf) → Bounds → Expr Path → Type 0
IsKnown q b e = AreKnown q b (tree_of e)

-- so of a branch
abbrev pub IsBranchKnown : (Path → Option FlatLeaf) → Bounds → Expr Path × Expr Path → Type 0
IsBranchKnown q b branch = IsKnown q b branch.0 × IsKnown q b branch.1
