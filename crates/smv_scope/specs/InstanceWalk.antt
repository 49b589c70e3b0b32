-- The walk step by step: what it has met where it stands, and what is told of the visits that come.
use Rattle.std.specs.Prelude.{◌≡◌, ℕ, zero, suc, Vec, ◌+◌, ◌-◌, ◌<◌, nat_le, Bool, false, List, [], ◌∷◌, ◌++◌, length, map, flat_map}
use Rattle.std.specs.Prelude.{reverse, Option, Some, None, slice_get}
use Rattle.std.specs.declared.alloc.Global.{Global}
use Rattle.base_values.specs.declared.limits.TheConstants.{MOST_INSTANCES, MOST_VARIABLES}
use Rattle.smv_language.specs.Language.{Text, Formula, DeclaredTree, instance, ProgramTree, program_tree, decl_tree, declared_tree, Place}
use Rattle.smv_language.specs.Language.{Role, find_module, is_missing, is_among, Each, EachBoth, tree_of, FlatVariable, role_of, place_of}
use Rattle.smv_language.specs.Language.{variable_tree, texts}
use Rattle.smv_flat_laws.specs.Items.{Item as ItemOf, a_declaration, NumberedItem, items_named, Visit, visits_of, walk, variable_declared}
use Rattle.smv_flat_laws.proofs.Pigeons.{IsThere, AreApart}
use Rattle.smv_flat_laws.specs.Rules.{no_such_module, wrong_count, module_loop, too_many, is_missing_instance, is_miscounted}
use Rattle.smv_flat_laws.specs.Rules.{is_on_path, is_other_count}
use Rattle.smv_language.specs.declared.model.Role.{Role as RoleWord}
use Rattle.smv_language.specs.declared.model.Variable.{Variable}
use Rattle.smv_scope.specs.declared.modules.ModuleNames.{ModuleNames}
use Rattle.smv_scope.specs.declared.modules.Modules.{Modules}
use Rattle.smv_scope.specs.declared.walk.Meaning.{Meaning as Found}
use Rattle.smv_scope.specs.declared.walk.Meaning.TheVariants as found
use Rattle.smv_scope.specs.declared.walk.Spot.{Spot}
use Rattle.smv_scope.specs.declared.walk.Walk.{Walk}
use Rattle.smv_scope.specs.declared.walk.Declaring.{Declaring}
use Rattle.smv_scope.specs.ModuleFaults.{Told, told_if, told_first, IsModuleAt}

-- an instance with what it is handed
pub record Call : Type 0 where
  pub place : Place
  pub module_name : Text
  pub actuals : List Formula

-- the instance that a declaration makes, if it makes one
abbrev pub calls_declared : Place → DeclaredTree → List Call
calls_declared at (instance m actuals) = record { place = at; module_name = m; actuals = actuals } ∷ []
calls_declared at _ = []

-- the instances that visits declare, and the variables
abbrev pub calls_in : List Visit → List Call
calls_in vs = flat_map (λ v. calls_declared (v.decl.name ∷ v.place) v.decl.what) vs

-- the variables that visits declare
abbrev pub variables_in : List Visit → List Visit
variables_in vs = flat_map (λ v. variable_declared v v.decl.what) vs

-- an instance after `MOST_INSTANCES`, a variable after `MOST_VARIABLES`
abbrev pub passes_limit : ℕ → ℕ → DeclaredTree → Bool
passes_limit instances variables (instance m actuals) = nat_le MOST_INSTANCES instances
passes_limit instances variables _ = nat_le MOST_VARIABLES variables

-- the first rule that a visit breaks, after so many instances and variables
abbrev pub visit_told : ProgramTree → ℕ → ℕ → Visit → Told
visit_told p instances variables v =
    told_first (told_if (is_missing_instance p v.decl.what) no_such_module v.number)
    (told_first (told_if (is_miscounted p v.decl.what) wrong_count v.number)
    (told_first (told_if (is_on_path v.on_path v.decl.what) module_loop v.number)
    (told_if (passes_limit instances variables v.decl.what) too_many v.number)))

-- the first rule that visits break, each after what those before it declare
abbrev pub visits_told : ProgramTree → ℕ → ℕ → List Visit → Told
visits_told p instances variables [] = None
visits_told p instances variables (v ∷ vs) =
    told_first (visit_told p instances variables v)
    (visits_told p (instances + length (calls_declared (v.decl.name ∷ v.place) v.decl.what)) (variables
    + length (variable_declared v v.decl.what)) vs)

-- the same of an instance of a module with so many actuals
abbrev pub instance_told : ProgramTree → List Text → ℕ → ℕ → Text → ℕ → Told
instance_told p on instances item m actuals =
    told_first (told_if (is_missing (find_module p m)) no_such_module item)
    (told_first (told_if (is_other_count (find_module p m) actuals) wrong_count item)
    (told_first (told_if (is_among on m) module_loop item)
    (told_if (nat_le MOST_INSTANCES instances) too_many item)))

-- the visits inside an instance, where these modules are on the path to it
abbrev pub walk_from : ProgramTree → List Text → Place → Text → List Visit
walk_from p on at name = walk (length p - length on) p on at name

-- the program of these modules
abbrev pub program_in : Modules → ProgramTree
program_in ms = program_tree ms.program.now

-- the name of a module, where it is there
abbrev pub name_in : Option ModuleNames → Text
name_in None = []
name_in (Some n) = n.«module».now.name

-- the name of the module at a place
abbrev pub name_at : Modules → ℕ → Text
name_at ms k = name_in (slice_get ms.list.items k)

-- an instance of the walk with what it is handed
abbrev pub call_of : Modules → Spot → Call
call_of ms spot = record { place = place_of spot.path; module_name = name_at ms spot.«module»; actuals = map tree_of spot.actuals.now }

-- the instances that the walk has met
abbrev pub calls_of : Modules → Walk → List Call
calls_of ms w = map (call_of ms) w.spots.items

-- the variables that the walk has met
abbrev pub variables_of_walk : Walk → List FlatVariable
variables_of_walk w = map variable_tree w.variables

-- the modules that the walk stands in, the innermost first
abbrev pub on_path_of : Walk → List Text
on_path_of w = reverse (texts w.inside.items)

-- the place of an instance, where it is there
abbrev pub place_of_spot : Option Spot → Place
place_of_spot None = []
place_of_spot (Some spot) = place_of spot.path

-- the place of the instance of a number
abbrev pub place_at : Walk → ℕ → Place
place_at w k = place_of_spot (slice_get w.spots.items k)

-- the visits of an item of the instance of a number
abbrev pub visits_at : Modules → Walk → ℕ → ℕ × ItemOf → List Visit
visits_at ms w spot i = visits_of (walk_from (program_in ms) (on_path_of w)) (on_path_of w) (place_at w spot) i.0 i.1

-- the visits of some items of the instance of a number
abbrev pub visits_here : Modules → Walk → ℕ → List (ℕ × ItemOf) → List Visit
visits_here ms w spot is = flat_map (visits_at ms w spot) is

-- the visits inside an instance that the walk enters
abbrev pub visits_within : Modules → Walk → Spot → List Visit
visits_within ms w spot = walk_from (program_in ms) (on_path_of w) (place_of spot.path) (name_at ms spot.«module»)

-- the first rule that visits break after what the walk has met
abbrev pub told_from : Modules → Walk → List Visit → Told
told_from ms w vs = visits_told (program_in ms) (length w.spots.items) (length w.variables) vs

-- what a declaration means by number: an instance of this place, a variable of this place and name
pub record IsInstanceIn (calls : List Call) (at : Place) (f : Found) : Type 0 where
  pub number : ℕ
  pub means : f ≡ found.Instance number
  pub call : Call
  pub is : slice_get calls number ≡ Some call
  pub place : call.place ≡ at

-- a number among the variables whose variable has this place, name and role
pub record IsVariableIn (vars : List FlatVariable) (at : Place) (x : Text) (role : Role) (f : Found) : Type 0 where
  pub number : ℕ
  pub word : RoleWord
  pub means : f ≡ found.Variable number word
  pub variable : FlatVariable
  pub is : slice_get vars number ≡ Some variable
  pub place : variable.place ≡ at
  pub name : variable.name ≡ x
  pub role_is : variable.role ≡ role
  pub same_role : role_of word ≡ role

-- what a declaration means by number: an instance, or a variable
abbrev pub IsDeclarationIn : List Call → List FlatVariable → Place → Text → Role → DeclaredTree → Found → Type 0
IsDeclarationIn calls vars at x role (instance m actuals) f = IsInstanceIn calls (x ∷ at) f
IsDeclarationIn calls vars at x role _ f = IsVariableIn vars at x role f

-- what an item means by number; one that declares nothing means nothing
abbrev pub IsOwnIn : List Call → List FlatVariable → Place → ItemOf → Found → Type 0
IsOwnIn calls vars at (a_declaration role d) f = IsDeclarationIn calls vars at d.name role d.what f
IsOwnIn calls vars at _ f = f ≡ found.Nothing

-- the instance of a number is the one that declares an instance of this place
abbrev pub IsCaller : List Call → Place → ℕ → Type 0
IsCaller calls [] caller = Unit {0}
IsCaller calls (own ∷ at) caller = (c : Call) × (slice_get calls caller ≡ Some c) × (c.place ≡ at)

-- an instance that the walk has gone through
pub record IsSpotOf (ms : Modules) (calls : List Call) (vars : List FlatVariable) (c : Call) (spot : Spot) : Type 0 where
  pub call : call_of ms spot ≡ c
  pub names : ModuleNames
  pub is : IsModuleAt ms c.module_name spot.«module» names
  pub caller : IsCaller calls c.place spot.caller
  pub own : EachBoth (λ (i : NumberedItem). IsOwnIn calls vars c.place i.item) (items_named (program_in ms) c.module_name) spot.own.items

-- a variable that the walk has met
pub record IsDeclaredIn (calls : List Call) (v : Visit) (x : FlatVariable) : Type 0 where
  pub place : x.place ≡ v.place
  pub name : x.name ≡ v.decl.name
  pub role : x.role ≡ v.role
  pub declared : x.declared ≡ v.decl.what
  pub item : x.item ≡ v.number
  pub at : Call
  pub is : slice_get calls x.number ≡ Some at
  pub at_place : at.place ≡ v.place

-- the walk has met these instances and the variables of these visits
pub record HasWalked (ms : Modules) (old : Walk) (cs : List Call) (vs : List Visit) (new : Walk) : Type 0 where
  pub more : List Spot
  pub spots : new.spots.items ≡ old.spots.items ++ more
  pub done : EachBoth (IsSpotOf ms (calls_of ms new) (variables_of_walk new)) cs more
  pub added : List Variable
  pub variables : new.variables ≡ old.variables ++ added
  pub declared : EachBoth (IsDeclaredIn (calls_of ms new)) (variables_in vs) (map variable_tree added)
  pub inside : new.inside.items ≡ old.inside.items

-- an item with what it means
pub record HasMet (ms : Modules) (old : Walk) (spot : ℕ) (i : ℕ × ItemOf) (new : Walk) (f : Found) : Type 0 where
  pub walked : HasWalked ms old (calls_in (visits_at ms old spot i)) (visits_at ms old spot i) new
  pub own : IsOwnIn (calls_of ms new) (variables_of_walk new) (place_at old spot) i.1 f

-- the items of an instance with what they mean
pub record HasGone (ms : Modules) (old : Walk) (spot : ℕ) (is : List (ℕ × ItemOf)) (new : Walk) (meanings : List Found) : Type 0 where
  pub walked : HasWalked ms old (calls_in (visits_here ms old spot is)) (visits_here ms old spot is) new
  pub own : EachBoth (λ (i : ℕ × ItemOf). IsOwnIn (calls_of ms new) (variables_of_walk new) (place_at old spot) i.1) is meanings

-- an instance with all inside it
pub record HasEntered (ms : Modules) (old : Walk) (spot : Spot) (new : Walk) (number : ℕ) : Type 0 where
  pub number_is : number ≡ length old.spots.items
  pub walked : HasWalked ms old (call_of ms spot ∷ calls_in (visits_within ms old spot)) (visits_within ms old spot) new

-- no module stands twice on the path, and each is there
pub record IsPath (p : ProgramTree) (on : List Text) : Type 0 where
  pub there : Each (IsThere p) on
  pub apart : AreApart on

-- the spots, with what the items of one of them mean
abbrev pub own_of : Spot → Vec Found Global → Spot
own_of spot own = record spot { own = own }

-- the instances, where what the items of one of them mean was put in
abbrev pub with_own : List Spot → ℕ → Vec Found Global → List Spot
with_own [] k own = []
with_own (spot ∷ spots) zero own = own_of spot own ∷ spots
with_own (spot ∷ spots) (suc k) own = spot ∷ with_own spots k own

-- where the walk stands: at an instance, on a path of modules
pub record IsStanding (ms : Modules) (w : Walk) (spot : ℕ) : Type 0 where
  pub within : spot < length w.spots.items
  pub path : IsPath (program_in ms) (on_path_of w)

-- an instance that the walk may enter
pub record IsEntry (ms : Modules) (w : Walk) (spot : Spot) : Type 0 where
  pub names : ModuleNames
  pub is : IsModuleAt ms (name_at ms spot.«module») spot.«module» names
  pub caller : IsCaller (calls_of ms w) (place_of spot.path) spot.caller
  pub path : IsPath (program_in ms) (on_path_of w)
  pub fresh : is_among (on_path_of w) (name_at ms spot.«module») ≡ false

-- the module of an instance, which is not on the path
pub record IsModuleOf (ms : Modules) (w : Walk) (x : Text) (module_place : ℕ) : Type 0 where
  pub names : ModuleNames
  pub is : IsModuleAt ms x module_place names
  pub fresh : is_among (on_path_of w) x ≡ false

-- the item of a declaration, with its number
abbrev pub declared_item : Declaring → ℕ × ItemOf
declared_item d = (d.item, a_declaration (role_of d.role) (decl_tree d.decl.now))

-- the variable of a declaration
pub record IsVariableOf (w : Walk) (d : Declaring) (v : Variable) : Type 0 where
  pub place : (variable_tree v).place ≡ place_at w d.spot
  pub name : (variable_tree v).name ≡ d.decl.now.name
  pub role : v.role ≡ d.role
  pub copied : declared_tree v.declared ≡ declared_tree d.decl.now.what
  pub item : v.item ≡ d.item
  pub number : v.«instance» ≡ d.spot
