-- What a written name is in a flat model, and when a flat expression is a written one with its names resolved.
use Rattle.std.specs.Prelude.{◌≡◌, ℕ, ◌<◌, Bool, true, false, ◌||◌, List, [], ◌∷◌, ◌++◌, Option, Some, None, slice_get}
use Rattle.smv_language.specs.Language.{Tree, Trees, Branches, leaf, not_of, negate, next_of, binary, choice, case_of, set_of, span}
use Rattle.smv_language.specs.Language.{no_tree, tree_then, no_branch, branch_then, Path, Formula, ProgramTree, Leaves, Values, tree_map}
use Rattle.smv_language.specs.Language.{Place, Key, Meaning, a_variable_at, an_expression_at, Means, Each, FlatLeaf, flat_variable}
use Rattle.smv_language.specs.Language.{flat_symbol, flat_definition, FlatVariable, FlatFormula, FlatModel}
use Rattle.smv_language.specs.Tree.{truth, number}
use Rattle.smv_language.specs.Scope.{a_symbol}

-- the leaves of a tree, left to right
abbrev mutual
  pub leaves_in : {L : Type 0} → Tree L → List L
  leaves_in (truth b) = []
  leaves_in (number n) = []
  leaves_in (leaf l) = l ∷ []
  leaves_in (not_of a) = leaves_in a
  leaves_in (negate a) = leaves_in a
  leaves_in (next_of a) = leaves_in a
  leaves_in (binary o a b) = leaves_in a ++ leaves_in b
  leaves_in (choice c a b) = leaves_in c ++ (leaves_in a ++ leaves_in b)
  leaves_in (case_of bs) = branches_leaves bs
  leaves_in (set_of ts) = trees_leaves ts
  leaves_in (span lo hi) = []

  pub trees_leaves : {L : Type 0} → Trees L → List L
  trees_leaves no_tree = []
  trees_leaves (tree_then t ts) = leaves_in t ++ trees_leaves ts

  pub branches_leaves : {L : Type 0} → Branches L → List L
  branches_leaves no_branch = []
  branches_leaves (branch_then c a bs) = leaves_in c ++ (leaves_in a ++ branches_leaves bs)

-- some `next` stands in the tree
abbrev mutual
  pub has_next : {L : Type 0} → Tree L → Bool
  has_next (truth b) = false
  has_next (number n) = false
  has_next (leaf l) = false
  has_next (not_of a) = has_next a
  has_next (negate a) = has_next a
  has_next (next_of a) = true
  has_next (binary o a b) = has_next a || has_next b
  has_next (choice c a b) = has_next c || (has_next a || has_next b)
  has_next (case_of bs) = branches_have_next bs
  has_next (set_of ts) = trees_have_next ts
  has_next (span lo hi) = false

  pub trees_have_next : {L : Type 0} → Trees L → Bool
  trees_have_next no_tree = false
  trees_have_next (tree_then t ts) = has_next t || trees_have_next ts

  pub branches_have_next : {L : Type 0} → Branches L → Bool
  branches_have_next no_branch = false
  branches_have_next (branch_then c a bs) = has_next c || (has_next a || branches_have_next bs)

-- a definition with where it is written and the expression
pub record Definition : Type 0 where
  pub key : Key
  pub place : Place
  pub written : Formula

-- the leaf stands for the meaning, where the definitions have these keys in this order
abbrev pub StandsFor : FlatModel → List Definition → FlatLeaf → Meaning → Type 0
StandsFor m ds (flat_variable i) (a_variable_at at x) = (d : FlatVariable) × (slice_get m.variables i ≡ Some d) × (d.place ≡ at)
    × (d.name ≡ x)
StandsFor m ds (flat_symbol i) (a_symbol x) = slice_get m.symbols i ≡ Some x
StandsFor m ds (flat_definition i) (an_expression_at key at e) = slice_get ds i ≡ Some (record { key = key; place = at; written = e })
StandsFor m ds l meaning = ⊥

-- the leaf is what the name means at the instance
abbrev pub IsLeafOf : ProgramTree → FlatModel → List Definition → Place → Path → FlatLeaf → Type 0
IsLeafOf p m ds at name l = (meaning : Meaning) × Means p at name meaning × StandsFor m ds l meaning

-- a resolver gives a leaf to some of the names at each place
abbrev pub Resolver : Type 0
Resolver = Place → Path → Option FlatLeaf

-- each leaf that it gives is what the name means
abbrev pub IsSound : ProgramTree → FlatModel → List Definition → Resolver → Type 0
IsSound p m ds r = (at : Place) (name : Path) (l : FlatLeaf) → r at name ≡ Some l → IsLeafOf p m ds at name l

-- the flat expression is the written one with each name resolved
abbrev pub IsResolved : (Path → Option FlatLeaf) → Formula → Tree FlatLeaf → Type 0
IsResolved r e flat = tree_map Some flat ≡ tree_map r e

-- a leaf is no definition but one of those before the number
abbrev pub IsBefore : ℕ → FlatLeaf → Type 0
IsBefore k (flat_definition i) = i < k
IsBefore k (flat_variable i) = Unit {0}
IsBefore k (flat_symbol i) = Unit {0}

-- the flat definitions are the written ones, resolved over those before them, with no `next`
abbrev pub AreDefinitions : ProgramTree → FlatModel → List Definition → Resolver → Type 0
AreDefinitions p m ds r =
    (k : ℕ) (d : Definition) → slice_get ds k ≡ Some d →
    (f : FlatFormula) × (slice_get m.definitions k ≡ Some f) × IsResolved (r d.place) d.written f.value
    × Each (IsBefore k) (leaves_in f.value)
    × (has_next d.written ≡ false)

-- what a leaf gives, where there is one
abbrev pub leaf_gives : Leaves FlatLeaf → Option FlatLeaf → Option Values
leaf_gives g None = None
leaf_gives g (Some l) = g l
