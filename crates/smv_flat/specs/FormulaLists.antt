-- What the lists of a flat model are to be, by the tables of a scene: each formula with what its names get.
use Rattle.std.specs.Prelude.{◌≡◌, ℕ, suc, nat_lt, Bool, true, false, List, [], ◌∷◌, ◌++◌, map, flat_map, Option, Some, None, slice_get}
use Rattle.smv_language.specs.declared.expr.Op.TheVariants as op
use Rattle.smv_language.specs.Language.{Tree, leaf, next_of, binary, Path, tree_map, tree_of, Each, FlatLeaf, flat_variable, flat_symbol}
use Rattle.smv_language.specs.Language.{flat_definition, FlatInstance, place_of}
use Rattle.smv_language.specs.Tree.{truth}
use Rattle.smv_flat_laws.specs.Items.{Item, NumberedItem, items_named}
use Rattle.smv_flat_laws.specs.Model.{Condition, plain, now_among, next_among, kept, first_conditions, each_conditions, step_conditions}
use Rattle.smv_flat_laws.specs.Model.{kept_conditions}
use Rattle.smv_scope.specs.SceneTree.{program_of, items_at}
use Rattle.smv_flat.specs.ResolverOf.{leaf_at, told_tree, asked_tree, AreKnown, IsKnown}
use Rattle.smv_scope.specs.declared.bounds.Bounds.{Bounds}
use Rattle.smv_language.specs.declared.model.Formula.{Formula as FormulaOf}
use Rattle.smv_scope.specs.declared.modules.ModuleNames.{ModuleNames}
use Rattle.smv_scope.specs.declared.walk.Spot.{Spot}
use Rattle.smv_scope.specs.declared.names.Defined.{Defined}
use Rattle.smv_scope.specs.declared.names.Scene.{Scene}
use Rattle.smv_scope.specs.declared.needs.Needs.{Needs}
use Rattle.smv_flat.specs.declared.clauses.AskedFormulas.{AskedFormulas}
use Rattle.smv_flat.specs.declared.clauses.AskedFormulas.TheVariants as asked
use Rattle.smv_flat.specs.declared.clauses.ItemClause.{ItemClause}
use Rattle.smv_flat.specs.declared.clauses.ItemClause.TheVariants as clause

-- a formula with what its names got, its item, and the number of its instance
pub record Told : Type 0 where
  pub tree : Tree (Option FlatLeaf)
  pub item : ℕ
  pub number : ℕ

-- a formula of the code, with what its names got
abbrev pub told : FormulaOf → Told
told f = record { tree = told_tree f.value; item = f.item; number = f.«instance» }

-- Definitions.
abbrev pub asked_defined : Scene → Needs → Option Defined → Told
asked_defined s n None = record { tree = truth false; item = 0; number = 0 }
asked_defined s n (Some d) = record { tree = asked_tree (leaf_at s n d.spot) d.value.now; item = d.item; number = d.spot }

-- the definition of a number of the scene
abbrev pub asked_definition : Scene → Needs → ℕ → Told
asked_definition s n k = asked_defined s n (slice_get s.definitions.items k)

-- the definition of a number is there, and each of its names has a leaf within the bounds
pub record IsReady (s : Scene) (n : Needs) (b : Bounds) (k : ℕ) : Type 0 where
  pub defined : Defined
  pub is : slice_get s.definitions.items k ≡ Some defined
  pub known : IsKnown (leaf_at s n defined.spot) b defined.value.now

-- of each definition in order, over those before it
abbrev pub AreReady : Scene → Needs → ℕ → ℕ → Type 0
AreReady s n variables symbols =
    (j k : ℕ) → slice_get n.order.items j ≡ Some k → IsReady s n (record { variables = variables; symbols = symbols; definitions = j }) k

-- Conditions.
abbrev pub conditions_asked : AskedFormulas → Item → List Condition
conditions_asked asked.First i = first_conditions i
conditions_asked asked.Each i = each_conditions i
conditions_asked asked.Step i = step_conditions i
conditions_asked asked.Kept i = kept_conditions i

-- a condition of the code
abbrev pub clause_tree : ItemClause → Condition
clause_tree (clause.Plain e) = plain (tree_of e.now)
clause_tree (clause.Now x e) = now_among x.now (tree_of e.now)
clause_tree (clause.Next x e) = next_among x.now (tree_of e.now)
clause_tree (clause.Kept x) = kept x.now

-- what the code takes an item to ask
abbrev pub clauses_told : Option ItemClause → List Condition
clauses_told None = []
clauses_told (Some c) = clause_tree c ∷ []

-- what a condition asks, with what its names get
abbrev pub asked_condition : (Path → Option FlatLeaf) → Condition → Tree (Option FlatLeaf)
asked_condition q (plain e) = tree_map q e
asked_condition q (now_among x e) = binary op.Within (leaf (q (x ∷ []))) (tree_map q e)
asked_condition q (next_among x e) = binary op.Within (next_of (leaf (q (x ∷ [])))) (tree_map q e)
asked_condition q (kept x) = binary op.Within (next_of (leaf (q (x ∷ [])))) (leaf (q (x ∷ [])))

-- a leaf that is one of so many variables
abbrev pub is_variable_within : Bounds → Option FlatLeaf → Bool
is_variable_within b None = false
is_variable_within b (Some (flat_variable i)) = nat_lt i b.variables
is_variable_within b (Some (flat_symbol i)) = false
is_variable_within b (Some (flat_definition i)) = false

-- the names of a condition have leaves within the bounds, and its target is a variable
abbrev pub IsConditionKnown : (Path → Option FlatLeaf) → Bounds → Condition → Type 0
IsConditionKnown q b (plain e) = AreKnown q b e
IsConditionKnown q b (now_among x e) = (is_variable_within b (q (x ∷ [])) ≡ true) × AreKnown q b e
IsConditionKnown q b (next_among x e) = (is_variable_within b (q (x ∷ [])) ≡ true) × AreKnown q b e
IsConditionKnown q b (kept x) = is_variable_within b (q (x ∷ [])) ≡ true

-- of each item of each instance
abbrev pub AreConditionsKnown : Scene → Needs → Bounds → (Item → List Condition) → Type 0
AreConditionsKnown s n b what =
    (spot j : ℕ) (i : NumberedItem) → slice_get (items_at (program_of s) spot) j ≡ Some i →
    Each (IsConditionKnown (leaf_at s n spot) b) (what i.item)

-- what conditions of an item ask at the instance of a number
abbrev pub asked_conditions : (Path → Option FlatLeaf) → ℕ → ℕ → List Condition → List Told
asked_conditions q spot item cs = map (λ c. record { tree = asked_condition q c; item = item; number = spot }) cs

-- what an item asks at the instance of a number, of the conditions that are asked for
abbrev pub asked_item : (Path → Option FlatLeaf) → ℕ → (Item → List Condition) → NumberedItem → List Told
asked_item q spot what i = asked_conditions q spot i.number (what i.item)

-- by the items of an instance
abbrev pub asked_items : Scene → Needs → (Item → List Condition) → ℕ → List NumberedItem → List Told
asked_items s n what spot is = flat_map (asked_item (leaf_at s n spot) spot what) is

-- the item, where there is one
abbrev pub item_listed : Option NumberedItem → List NumberedItem
item_listed None = []
item_listed (Some i) = i ∷ []

-- by instances, counted on from a number, and then items
abbrev pub asked_from : Scene → Needs → (Item → List Condition) → ℕ → List FlatInstance → List Told
asked_from s n what k [] = []
asked_from s n what k (i ∷ is) = asked_items s n what k (items_named (program_of s) i.module_name) ++ asked_from s n what (suc k) is

-- Instances.
abbrev pub instance_in : Spot → Option ModuleNames → List FlatInstance
instance_in spot None = []
instance_in spot (Some names) = record { place = place_of spot.path; module_name = names.«module».now.name } ∷ []

-- the instance with the name of its module, where that is there
abbrev pub instance_told : Scene → Spot → List FlatInstance
instance_told s spot = instance_in spot (slice_get s.modules.list.items spot.«module»)
