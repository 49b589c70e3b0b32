-- Which flat model a program has.
use Rattle.std.specs.Prelude.{◌≡◌, ◌↔◌, ℕ, suc, Bool, true, false, ◌||◌, List, [], ◌∷◌, ◌++◌, Option, Some, None, map, flat_map, slice_get}
use Rattle.std.specs.Prelude.{nat_eq, ◌&&◌, if◌then◌else◌}
use Rattle.smv_language.specs.declared.expr.Op.TheVariants as op
use Rattle.smv_language.specs.declared.program.Moment.{Moment}
use Rattle.smv_language.specs.declared.program.Moment.TheVariants.{Always, First, After}
use Rattle.smv_language.specs.declared.program.Member.{Member}
use Rattle.smv_language.specs.declared.program.Member.TheVariants as member
use Rattle.smv_language.specs.Language.{Tree, leaf, next_of, binary, ModuleTree, Text, Path, Formula, DeclaredTree, members, instance}
use Rattle.smv_language.specs.Language.{ProgramTree, Value, Place, frozen_role, Key, define_key, actual_key, Meaning, an_expression_at}
use Rattle.smv_language.specs.Language.{Means, plain_name, Valuation, Each, IsFirst, IsInvariant, IsStep, EachBoth, FlatLeaf, flat_variable}
use Rattle.smv_language.specs.Language.{FlatInstance, FlatVariable, FlatFormula, FlatModel, Holds, Numbers, same_text, is_among}
use Rattle.smv_flat_laws.specs.NameResolution.{leaves_in, Definition, Resolver, IsSound, IsResolved, AreDefinitions}
use Rattle.smv_flat_laws.specs.Items.{Item, a_declaration, a_definition, an_assignment, some_constants, an_init, an_invar, a_trans}
use Rattle.smv_flat_laws.specs.Items.{NumberedItem, items_named, items_of, Visit, instances_of, variables_of}
use Rattle.smv_flat_laws.specs.Rules.{expression_of}

-- what an item asks at an instance: an expression is TRUE, a variable has now or next one of an expression's values, or keeps its own
pub data Condition : Type 0 where
  plain : Formula → Condition
  now_among : Text → Formula → Condition
  next_among : Text → Formula → Condition
  kept : Text → Condition

-- what an assignment asks at the first moment
abbrev pub assigned_first : Moment → Path → Formula → List Condition
assigned_first First (x ∷ []) e = now_among x e ∷ []
assigned_first _ target e = []

-- what an assignment asks at each moment
abbrev pub assigned_each : Moment → Path → Formula → List Condition
assigned_each Always (x ∷ []) e = now_among x e ∷ []
assigned_each _ target e = []

-- what an assignment asks of a moment and the next
abbrev pub assigned_step : Moment → Path → Formula → List Condition
assigned_step After (x ∷ []) e = next_among x e ∷ []
assigned_step _ target e = []

-- what an item asks at the first moment
abbrev pub first_conditions : Item → List Condition
first_conditions (an_init e) = plain e ∷ []
first_conditions (an_assignment a) = assigned_first a.when a.target a.value
first_conditions _ = []

-- what an item asks at each moment
abbrev pub each_conditions : Item → List Condition
each_conditions (an_invar e) = plain e ∷ []
each_conditions (an_assignment a) = assigned_each a.when a.target a.value
each_conditions _ = []

-- what an item asks of a moment and the next
abbrev pub step_conditions : Item → List Condition
step_conditions (a_trans e) = plain e ∷ []
step_conditions (an_assignment a) = assigned_step a.when a.target a.value
step_conditions _ = []

-- a frozen variable keeps its value, and an instance asks nothing
abbrev pub kept_declared : Text → DeclaredTree → List Condition
kept_declared x (instance m actuals) = []
kept_declared x _ = kept x ∷ []

-- what an item asks of a frozen variable
abbrev pub kept_conditions : Item → List Condition
kept_conditions (a_declaration frozen_role d) = kept_declared d.name d.what
kept_conditions _ = []

-- a condition with its instance and its item
pub record Written : Type 0 where
  pub place : Place
  pub item : ℕ
  pub condition : Condition

-- the conditions of an item at an instance
abbrev pub written_at : (Item → List Condition) → Place → NumberedItem → List Written
written_at what at i = map (λ c. record { place = at; item = i.number; condition = c }) (what i.item)

-- by instances, then items
abbrev pub conditions : (Item → List Condition) → ProgramTree → List Written
conditions what p = flat_map (λ at. flat_map (written_at what at.place) (items_named p at.module_name)) (instances_of p)

-- the number of a variable
pub record IsVariableNumber (m : FlatModel) (at : Place) (x : Text) (i : ℕ) : Type 0 where
  pub variable : FlatVariable
  pub is : slice_get m.variables i ≡ Some variable
  pub same_place : variable.place ≡ at
  pub same_name : variable.name ≡ x

-- x in e, next(x) in e, next(x) in x
pub record IsAmong (m : FlatModel) (r : Resolver) (at : Place) (x : Text) (e : Formula) (left : Tree FlatLeaf →
    Tree FlatLeaf) (flat : Tree FlatLeaf) : Type 0 where
  pub number : ℕ
  pub is_number : IsVariableNumber m at x number
  pub value : Tree FlatLeaf
  pub resolved : IsResolved (r at) e value
  pub is : flat ≡ binary op.Within (left (leaf (flat_variable number))) value

-- the variable at the next moment is in itself
pub record IsKeptBy (m : FlatModel) (at : Place) (x : Text) (flat : Tree FlatLeaf) : Type 0 where
  pub number : ℕ
  pub is_number : IsVariableNumber m at x number
  pub is : flat ≡ binary op.Within (next_of (leaf (flat_variable number))) (leaf (flat_variable number))

-- a variable as it is
abbrev pub same_tree : Tree FlatLeaf → Tree FlatLeaf
same_tree t = t

-- a variable at the next moment
abbrev pub next_tree : Tree FlatLeaf → Tree FlatLeaf
next_tree t = next_of t

-- the flat tree is the condition, with its names resolved at the instance
abbrev pub IsConditionTree : FlatModel → Resolver → Place → Condition → Tree FlatLeaf → Type 0
IsConditionTree m r at (plain e) flat = IsResolved (r at) e flat
IsConditionTree m r at (now_among x e) flat = IsAmong m r at x e same_tree flat
IsConditionTree m r at (next_among x e) flat = IsAmong m r at x e next_tree flat
IsConditionTree m r at (kept x) flat = IsKeptBy m at x flat

-- the instance of a number
abbrev pub IsInstanceNumber : FlatModel → Place → ℕ → Type 0
IsInstanceNumber m at i = (x : FlatInstance) × (slice_get m.instances i ≡ Some x) × (x.place ≡ at)

-- the formula is that of the condition, with its item and its instance
pub record IsFormulaOf (m : FlatModel) (r : Resolver) (w : Written) (f : FlatFormula) : Type 0 where
  pub tree : IsConditionTree m r w.place w.condition f.value
  pub item : f.item ≡ w.item
  pub number : IsInstanceNumber m w.place f.number

-- the variable is that of the declaration
pub record IsVariableOf (m : FlatModel) (v : Visit) (x : FlatVariable) : Type 0 where
  pub place : x.place ≡ v.place
  pub name : x.name ≡ v.decl.name
  pub role : x.role ≡ v.role
  pub declared : x.declared ≡ v.decl.what
  pub item : x.item ≡ v.number
  pub number : IsInstanceNumber m v.place x.number

-- Symbols by first appearance.
abbrev pub symbols_of_members : List Member → List Text
symbols_of_members [] = []
symbols_of_members (member.Number n ∷ ms) = symbols_of_members ms
symbols_of_members (member.Symbol x ∷ ms) = x ∷ symbols_of_members ms

-- the symbols of a type
abbrev pub symbols_of_type : DeclaredTree → List Text
symbols_of_type (members ms) = symbols_of_members ms
symbols_of_type _ = []

-- the symbols of an item
abbrev pub symbols_of_item : Item → List Text
symbols_of_item (a_declaration role d) = symbols_of_type d.what
symbols_of_item (some_constants xs) = xs
symbols_of_item _ = []

-- and of a module
abbrev pub symbols_of_module : ModuleTree → List Text
symbols_of_module m = flat_map symbols_of_item (items_of m)

-- each text once, where it first stands
abbrev pub first_appearances : List Text → List Text → List Text
first_appearances seen [] = seen
first_appearances seen (x ∷ xs) = first_appearances (if is_among seen x then seen else seen ++ x ∷ []) xs

-- the symbols of a program
abbrev pub symbols_of : ProgramTree → List Text
symbols_of p = first_appearances [] (flat_map symbols_of_module p)

-- Definitions, in the order of their instances and items: a define, and each actual that is no plain name.
pub record Root : Type 0 where
  pub key : Key
  pub item : ℕ

-- an actual that is a plain name is none
abbrev pub root_of_actual : Place → ℕ → ℕ → Option Path → List Root
root_of_actual inside i item (Some name) = []
root_of_actual inside i item None = record { key = actual_key inside i; item = item } ∷ []

-- those of the actuals of an instance, numbered on
abbrev pub roots_of_actuals : Place → ℕ → ℕ → List Formula → List Root
roots_of_actuals inside i item [] = []
roots_of_actuals inside i item (e ∷ es) = root_of_actual inside i item (plain_name e) ++ roots_of_actuals inside (suc i) item es

-- those of what a name is declared as
abbrev pub roots_of_type : Place → ℕ → DeclaredTree → List Root
roots_of_type inside item (instance m actuals) = roots_of_actuals inside 0 item actuals
roots_of_type inside item _ = []

-- those of an item
abbrev pub roots_of_item : Place → ℕ → Item → List Root
roots_of_item at item (a_declaration role d) = roots_of_type (d.name ∷ at) item d.what
roots_of_item at item (a_definition d) = record { key = define_key at d.name; item = item } ∷ []
roots_of_item at item _ = []

-- those of a program
abbrev pub roots_of : ProgramTree → List Root
roots_of p = flat_map (λ at. flat_map (λ (i : NumberedItem). roots_of_item at.place i.number i.item) (items_named p at.module_name))
    (instances_of p)

-- the key of a meaning that is a definition
abbrev pub keys_of_meaning : Meaning → List Key
keys_of_meaning (an_expression_at key at e) = key ∷ []
keys_of_meaning _ = []

-- the definitions that the names mean, in the order of the names
abbrev pub AreNamed : ProgramTree → Place → List Path → List Key → Type 0
AreNamed p at [] keys = keys ≡ []
AreNamed p at (name ∷ names) keys =
    (meaning : Meaning) × (more : List Key) × Means p at name meaning × AreNamed p at names more × (keys ≡ keys_of_meaning meaning ++ more)

-- both are one place
abbrev pub same_place : Place → Place → Bool
same_place [] [] = true
same_place (x ∷ at) (y ∷ bt) = same_text x y && same_place at bt
same_place _ _ = false

-- both are one key
abbrev pub same_key : Key → Key → Bool
same_key (define_key at x) (define_key bt y) = same_place at bt && same_text x y
same_key (actual_key at i) (actual_key bt j) = same_place at bt && nat_eq i j
same_key _ _ = false

-- the key is one of the list
abbrev pub is_key_among : List Key → Key → Bool
is_key_among [] k = false
is_key_among (j ∷ js) k = same_key j k || is_key_among js k

-- A definition stands after those that its expression names, in the order in which they are named, and so on down.
mutual
  pub data Adds (p : ProgramTree) : List Key → Key → List Key → Type 0 where
    stands : {done : List Key} {k : Key} → is_key_among done k ≡ true → Adds p done k done
    comes : {done after needs : List Key} {k : Key} {at : Place} {e : Formula} → is_key_among done k ≡ false →
        expression_of p k ≡ Some (at, e) →
        AreNamed p at (leaves_in e) needs → AddsAll p done needs after → Adds p done k (after ++ k ∷ [])

  pub data AddsAll (p : ProgramTree) : List Key → List Key → List Key → Type 0 where
    no_more : {done : List Key} → AddsAll p done [] done
    one_more : {done between after more : List Key} {k : Key} → Adds p done k between → AddsAll p between more after →
        AddsAll p done (k ∷ more) after

-- the flat definition is that of the written one, with the item of a root of its key
pub record IsDefinitionOf (p : ProgramTree) (m : FlatModel) (d : Definition) (f : FlatFormula) : Type 0 where
  pub expression : expression_of p d.key ≡ Some (d.place, d.written)
  pub root : (root : Root) × ((i : ℕ) × (slice_get (roots_of p) i ≡ Some root)) × (root.key ≡ d.key) × (f.item ≡ root.item)
  pub number : IsInstanceNumber m d.place f.number

-- no definition has the key of another
abbrev pub KeysDiffer : List Definition → Type 0
KeysDiffer [] = Unit {0}
KeysDiffer (d ∷ ds) = Each (λ (e : Definition). d.key ≡ e.key → ⊥) ds × KeysDiffer ds

-- the model is the program's
pub record IsFlatOf (p : ProgramTree) (m : FlatModel) : Type 0 where
  pub resolver : Resolver
  pub written : List Definition
  pub sound : IsSound p m written resolver
  pub instances : m.instances ≡ instances_of p
  pub variables : EachBoth (IsVariableOf m) (variables_of p) m.variables
  pub symbols : m.symbols ≡ symbols_of p
  pub order : AddsAll p [] (map (λ root. root.key) (roots_of p)) (map (λ d. d.key) written)
  pub placed : EachBoth (IsDefinitionOf p m) written m.definitions
  pub definitions : AreDefinitions p m written resolver
  pub at_first : EachBoth (IsFormulaOf m resolver) (conditions first_conditions p) m.at_first
  pub at_each : EachBoth (IsFormulaOf m resolver) (conditions each_conditions p) m.at_each
  pub at_step : EachBoth (IsFormulaOf m resolver) (conditions step_conditions p ++ conditions kept_conditions p) m.at_step

-- The theorem: the model's variables are the program's, and its formulas hold exactly where the program's conditions do.
pub record IsFlattened (p : ProgramTree) (m : FlatModel) : Type 0 where
  pub first : (v : List Value) (named : Valuation) → Numbers m v named → (Each (Holds m v v) m.at_first ↔ IsFirst p named)
  pub each : (v : List Value) (named : Valuation) → Numbers m v named → (Each (Holds m v v) m.at_each ↔ IsInvariant p named)
  pub step : (v w : List Value) (now next : Valuation) → Numbers m v now → Numbers m w next →
      (Each (Holds m v w) m.at_step ↔ IsStep p now next)
