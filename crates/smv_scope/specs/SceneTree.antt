-- What the tables of names hold of a program: its modules, its instances, and what names mean there.
use Rattle.std.specs.Prelude.{◌≡◌, ℕ, suc, ◌<◌, Bool, false, if◌then◌else◌, List, [], ◌∷◌, ◌++◌, length, map, Option, Some, None, codes}
use Rattle.std.specs.Prelude.{slice_get, Vec}
use Rattle.std.specs.declared.alloc.Global.{Global}
use Rattle.std.specs.Borrow.{Bor}
use Rattle.smv_language.specs.Language.{Text, Path, Formula, DeclaredTree, instance, ModuleTree, ProgramTree, program_tree, module_tree}
use Rattle.smv_language.specs.Language.{same_text, tree_of, Place, define_key, Meaning, a_variable_at, an_expression_at, an_instance_at}
use Rattle.smv_language.specs.Language.{Means, find_module, formal_from, kind_at, module_at, an_instance, Each, EachBoth, FlatInstance}
use Rattle.smv_language.specs.Language.{role_of, place_of, texts}
use Rattle.smv_language.specs.Scope.{a_symbol}
use Rattle.smv_flat_laws.specs.Items.{Item as ItemOf, a_declaration, a_definition, NumberedItem, NumberedModule, modules_of, numbered_items}
use Rattle.smv_flat_laws.specs.Items.{items_of, items_named, Visit, instances_of, variables_of}
use Rattle.smv_flat_laws.specs.Looks.{ComesBack, MeetsLoop, MeansNothing}
use Rattle.smv_flat_laws.specs.Rules.{the_program, module_sites, IsKept, IsWalkable, expression_of}
use Rattle.smv_flat_laws.specs.Model.{Root, roots_of, symbols_of}
use Rattle.smv_scope.specs.ItemTree.{numbered_tree}
use Rattle.smv_scope.specs.declared.modules.Local.{Local}
use Rattle.smv_scope.specs.declared.modules.Local.TheVariants as local
use Rattle.smv_scope.specs.declared.modules.ModuleNames.{ModuleNames}
use Rattle.smv_scope.specs.declared.modules.Modules.{Modules}
use Rattle.smv_scope.specs.declared.walk.Meaning.{Meaning as Found}
use Rattle.smv_scope.specs.declared.walk.Meaning.TheVariants as found
use Rattle.smv_scope.specs.declared.walk.Spot.{Spot}
use Rattle.smv_scope.specs.declared.names.Formal.{Formal}
use Rattle.smv_scope.specs.declared.names.Formal.TheVariants as known
use Rattle.smv_scope.specs.declared.names.Defined.{Defined}
use Rattle.smv_scope.specs.declared.names.Scene.{Scene}

-- an item with its number, apart from those before it
abbrev pub number_and_item : NumberedItem → ℕ × ItemOf
number_and_item i = (i.number, i.item)

-- the item declares or defines the name
abbrev pub gives_name : Text → ItemOf → Bool
gives_name x (a_declaration role d) = same_text d.name x
gives_name x (a_definition d) = same_text d.name x
gives_name x _ = false

-- the first item that gives the name, by its place, counted on from a number
abbrev pub item_from : ℕ → List ItemOf → Text → Option ℕ
item_from k [] x = None
item_from k (i ∷ is) x = if gives_name x i then Some k else item_from (suc k) is x

-- a formal or else an item, where the name is one
abbrev pub local_after : Option ℕ → Option ℕ → Option Local
local_after (Some i) place = Some (local.Formal i)
local_after None (Some k) = Some (local.Item k)
local_after None None = None

-- what a name is in its own module: a formal, or an item, by its place
abbrev pub local_of : ModuleTree → Text → Option Local
local_of m x = local_after (formal_from 0 m.formals x) (item_from 0 (items_of m) x)

-- the texts of entries
abbrev pub named : {V : Type 0} → List (Bor (List ℕ) × V) → List (Text × V)
named es = map (λ e. (e.0.now, e.1)) es

-- the formals with their places, counted on from a number
abbrev pub formal_entries : ℕ → List Text → List (Text × Local)
formal_entries k [] = []
formal_entries k (x ∷ xs) = (x, local.Formal k) ∷ formal_entries (suc k) xs

-- the name that an item gives to its place, if it gives one
abbrev pub entries_of_item : ℕ → ItemOf → List (Text × Local)
entries_of_item k (a_declaration role d) = (d.name, local.Item k) ∷ []
entries_of_item k (a_definition d) = (d.name, local.Item k) ∷ []
entries_of_item k _ = []

-- the names that items give, with the items' places, counted on from a number
abbrev pub item_entries : ℕ → List ItemOf → List (Text × Local)
item_entries k [] = []
item_entries k (i ∷ is) = entries_of_item k i ++ item_entries (suc k) is

-- all names of a module
abbrev pub local_entries : ModuleTree → List (Text × Local)
local_entries m = formal_entries 0 m.formals ++ item_entries 0 (items_of m)

-- the names of modules with their places, counted on from a number
abbrev pub module_entries : ℕ → ProgramTree → List (Text × ℕ)
module_entries k [] = []
module_entries k (m ∷ ms) = (m.name, k) ∷ module_entries (suc k) ms

-- the place of the first module of a name, counted on from a number
abbrev pub module_from : ℕ → ProgramTree → Text → Option ℕ
module_from k [] x = None
module_from k (m ∷ ms) x = if same_text m.name x then Some k else module_from (suc k) ms x

-- a module with its items and its names
pub record HasNames (m : NumberedModule) (names : ModuleNames) : Type 0 where
  pub tree : module_tree names.«module».now ≡ m.tree
  pub items : map numbered_tree names.items.items ≡ map number_and_item (numbered_items m)
  pub locals : named names.locals.entries ≡ local_entries m.tree

-- the modules of the program, none of which breaks a rule of group one
pub record AreModules (ms : Modules) : Type 0 where
  pub list : EachBoth HasNames (modules_of (program_tree ms.program.now)) ms.list.items
  pub places : named ms.places.entries ≡ module_entries 0 (program_tree ms.program.now)
  pub main : module_from 0 (program_tree ms.program.now) (codes "main") ≡ Some ms.main
  pub program_kept : IsKept (program_tree ms.program.now) the_program
  pub kept : Each (IsKept (program_tree ms.program.now)) (module_sites (program_tree ms.program.now))

-- a found meaning stands for a meaning of the program, by the numbers of variables, instances, definitions and symbols
abbrev pub Denotes : ProgramTree → Found → Meaning → Type 0
Denotes p (found.Variable number role) (a_variable_at at x) =
    (v : Visit) × (slice_get (variables_of p) number ≡ Some v) × (v.place ≡ at) × (v.decl.name ≡ x) × (v.role ≡ role_of role)
Denotes p (found.Instance k) (an_instance_at at) = (i : FlatInstance) × (slice_get (instances_of p) k ≡ Some i) × (i.place ≡ at)
Denotes p (found.Definition k) (an_expression_at key at e) =
    (r : Root) × (slice_get (roots_of p) k ≡ Some r) × (r.key ≡ key) × (expression_of p key ≡ Some (at, e))
Denotes p (found.Symbol k) (a_symbol x) = slice_get (symbols_of p) k ≡ Some x
Denotes p f m = ⊥

-- what is found for a name at an instance: what it means, that it means nothing, or that it meets a loop of formals
abbrev pub IsFound : ProgramTree → Place → Path → Found → Type 0
IsFound p at name found.Nothing = MeansNothing p at name
IsFound p at name found.Loop = MeetsLoop p at name
IsFound p at name f = (m : Meaning) × Means p at name m × Denotes p f m

-- what a declaration means at an instance of its module
abbrev pub meaning_of_declared : Place → Text → DeclaredTree → Meaning
meaning_of_declared at x (instance m actuals) = an_instance_at (x ∷ at)
meaning_of_declared at x _ = a_variable_at at x

-- what an item means at an instance of its module, if it means anything
abbrev pub meaning_of_item : Place → ItemOf → Option Meaning
meaning_of_item at (a_declaration role d) = Some (meaning_of_declared at d.name d.what)
meaning_of_item at (a_definition d) = Some (an_expression_at (define_key at d.name) at d.value)
meaning_of_item at _ = None

-- what is found for an item is what it means
abbrev pub IsOwnMeaning : ProgramTree → Option Meaning → Found → Type 0
IsOwnMeaning p None f = f ≡ found.Nothing
IsOwnMeaning p (Some m) f = Denotes p f m

-- what an item of an instance means there, if it gives a name
abbrev pub IsOwn : ProgramTree → Place → NumberedItem → Found → Type 0
IsOwn p at i f = IsOwnMeaning p (meaning_of_item at i.item) f

-- the same before definitions have their numbers
abbrev pub IsWalked : ProgramTree → Place → ItemOf → Found → Type 0
IsWalked p at (a_definition d) f = f ≡ found.Nothing
IsWalked p at i f = IsOwnMeaning p (meaning_of_item at i) f

-- the instance that declares another one, and what it hands to it; `main` is handed nothing
abbrev pub IsCalled : ProgramTree → FlatInstance → Place → ℕ → List Formula → Type 0
IsCalled p i [] caller actuals = actuals ≡ []
IsCalled p i (own ∷ at) caller actuals =
    ((c : FlatInstance) × (slice_get (instances_of p) caller ≡ Some c) × (c.place ≡ at))
    × (kind_at (module_at p at) own ≡ an_instance i.module_name actuals)

-- an instance with its module by number, its path, its caller and its actuals
pub record IsPlaced (p : ProgramTree) (i : FlatInstance) (spot : Spot) : Type 0 where
  pub tree : NumberedModule
  pub is : slice_get (modules_of p) spot.«module» ≡ Some tree
  pub named : find_module p i.module_name ≡ Some tree.tree
  pub items : items_named p i.module_name ≡ numbered_items tree
  pub path : place_of spot.path ≡ i.place
  pub called : IsCalled p i i.place spot.caller (map tree_of spot.actuals.now)

-- an instance as the walk leaves it
pub record IsSpotWalked (p : ProgramTree) (i : FlatInstance) (spot : Spot) : Type 0 where
  pub placed : IsPlaced p i spot
  pub own : EachBoth (λ (n : NumberedItem). IsWalked p i.place n.item) (items_named p i.module_name) spot.own.items

-- an instance with all that its items mean
pub record IsSpot (p : ProgramTree) (i : FlatInstance) (spot : Spot) : Type 0 where
  pub placed : IsPlaced p i spot
  pub own : EachBoth (IsOwn p i.place) (items_named p i.module_name) spot.own.items

-- a definition with its instance, its item and its expression
pub record IsDefined (p : ProgramTree) (r : Root) (d : Defined) : Type 0 where
  pub item : d.item ≡ r.item
  pub at : FlatInstance
  pub is : slice_get (instances_of p) d.spot ≡ Some at
  pub expression : expression_of p r.key ≡ Some (at.place, tree_of d.value.now)

-- what is known of a formal in the end: what it means, which does not come back to it, or that it comes back
abbrev pub IsKnown : ProgramTree → Place → Text → Formal → Type 0
IsKnown p at x (known.Means f) = IsFound p at (x ∷ []) f × (ComesBack p at x → ⊥)
IsKnown p at x known.Circle = ComesBack p at x
IsKnown p at x known.Begun = ⊥
IsKnown p at x known.Unknown = ⊥

-- the formals of a module, where it is there
abbrev pub formals_of : Option ModuleTree → List Text
formals_of None = []
formals_of (Some m) = m.formals

-- the formals of an instance
abbrev pub AreKnown : ProgramTree → FlatInstance → List Formal → Type 0
AreKnown p i fs = EachBoth (IsKnown p i.place) (formals_of (find_module p i.module_name)) fs

-- the items of the instance of a number
abbrev pub items_of_instance : ProgramTree → Option FlatInstance → List NumberedItem
items_of_instance p None = []
items_of_instance p (Some i) = items_named p i.module_name

-- the items of the instance of a number, in the program
abbrev pub items_at : ProgramTree → ℕ → List NumberedItem
items_at p k = items_of_instance p (slice_get (instances_of p) k)

-- the program of a scene
abbrev pub program_of : Scene → ProgramTree
program_of s = program_tree s.modules.program.now

-- a scene whose definitions are numbered, before its formals are looked up
pub record IsSet (s : Scene) : Type 0 where
  pub modules : AreModules s.modules
  pub walkable : IsWalkable (program_of s)
  pub spots : EachBoth (IsSpot (program_of s)) (instances_of (program_of s)) s.spots.items
  pub symbols : texts s.symbols.keys ≡ symbols_of (program_of s)
  pub few_symbols : length s.symbols.keys < 4294967296
  pub definitions : EachBoth (IsDefined (program_of s)) (roots_of (program_of s)) s.definitions.items

-- all tables of a scene are the program's
pub record IsScene (s : Scene) : Type 0 where
  pub set : IsSet s
  pub formals : EachBoth (λ (i : FlatInstance) (fs : Vec Formal Global). AreKnown (program_of s) i fs.items) (instances_of (program_of s))
      s.formals.items
