-- The tables of a scene while its definitions get their numbers.
use Rattle.std.specs.Prelude.{◌≡◌, ℕ, ◌<◌, ◌≤◌, List, ◌∷◌, ◌++◌, length, drop, flat_map, Option, Some, None, slice_get, slice_set, Vec}
use Rattle.std.specs.declared.alloc.Global.{Global}
use Rattle.smv_language.specs.Language.{Text, Formula, DeclTree, ProgramTree, Role, kind_declared, an_instance, kind_at, module_at}
use Rattle.smv_language.specs.Language.{actual_of_kind, plain_name, Each, EachBoth, FlatInstance}
use Rattle.smv_flat_laws.specs.Items.{NumberedItem, items_named, instances_of}
use Rattle.smv_flat_laws.specs.Rules.{IsWalkable}
use Rattle.smv_flat_laws.specs.Model.{Root, root_of_actual, roots_of_actuals, roots_of_type, roots_of_item, roots_of}
use Rattle.smv_scope.specs.SceneTree.{AreModules, IsPlaced, IsWalked, IsOwn, IsSpotWalked, IsSpot, IsDefined, Denotes, meaning_of_declared}
use Rattle.smv_scope.specs.SceneTree.{program_of}
use Rattle.smv_scope.specs.KnownFormals.{rows, AreTold, IsActualTold}
use Rattle.smv_scope.specs.declared.walk.Meaning.{Meaning}
use Rattle.smv_scope.specs.declared.walk.Spot.{Spot}
use Rattle.smv_scope.specs.declared.names.Formal.{Formal}
use Rattle.smv_scope.specs.declared.names.Defined.{Defined}
use Rattle.smv_scope.specs.declared.names.Scene.{Scene}

-- an instance, with as many meanings as items
pub record IsLaidSpot (p : ProgramTree) (at : FlatInstance) (spot : Spot) : Type 0 where
  pub placed : IsPlaced p at spot
  pub count : length spot.own.items ≡ length (items_named p at.module_name)

-- the modules and the instances of a program
pub record IsLaid (s : Scene) : Type 0 where
  pub modules : AreModules s.modules
  pub walkable : IsWalkable (program_of s)
  pub spots : EachBoth (IsLaidSpot (program_of s)) (instances_of (program_of s)) s.spots.items

-- the definitions so far are those of the first roots, the formals that they are for have answers, and these are left
pub record IsLeft (p : ProgramTree) (rs : List (List Formal)) (definitions : List Defined) (rest : List Root) : Type 0 where
  pub before : List Root
  pub roots : roots_of p ≡ before ++ rest
  pub numbered : EachBoth (IsDefined p) before definitions
  pub actuals : Each (IsActualTold p rs) before

-- a scene whose definitions are numbered but for these
pub record IsNaming (s : Scene) (rest : List Root) : Type 0 where
  pub laid : IsLaid s
  pub left : IsLeft (program_of s) (rows s) s.definitions.items rest
  pub told : AreTold (program_of s) (rows s)

-- modules, instances and symbols are the same
pub record IsSameProgram (old new : Scene) : Type 0 where
  pub modules : new.modules ≡ old.modules
  pub spots : new.spots ≡ old.spots
  pub symbols : new.symbols ≡ old.symbols

-- an actual of an instance, with the instance that hands it over
pub record IsActualAt (p : ProgramTree) (spot inner formal : ℕ) (e : Formula) (at inside : FlatInstance) : Type 0 where
  pub caller : slice_get (instances_of p) spot ≡ Some at
  pub instance : slice_get (instances_of p) inner ≡ Some inside
  pub own : Text
  pub below : inside.place ≡ own ∷ at.place
  pub actual : actual_of_kind (kind_at (module_at p at.place) own) formal ≡ Some e

-- an item of an instance, with what the walk found
pub record IsItemAt (s : Scene) (spot place : ℕ) (at : FlatInstance) (item : NumberedItem) (walked : Meaning) : Type 0 where
  pub instance : slice_get (instances_of (program_of s)) spot ≡ Some at
  pub listed : slice_get (items_named (program_of s) at.module_name) place ≡ Some item
  pub meaning : IsWalked (program_of s) at.place item.item walked

-- an actual's definition is numbered, if it has one
abbrev pub NamesActual : Scene → Scene → ℕ → ℕ → ℕ → ℕ → Formula → Type 0
NamesActual old new spot item inner formal e =
    (at inside : FlatInstance) (rest : List Root) → IsActualAt (program_of old) spot inner formal e at inside →
    IsNaming old (root_of_actual inside.place formal item (plain_name e) ++ rest) → IsNaming new rest

-- the instance of these actuals
pub record AreActualsAt (p : ProgramTree) (spot inner : ℕ) (es : List Formula) (at inside : FlatInstance) : Type 0 where
  pub caller : slice_get (instances_of p) spot ≡ Some at
  pub instance : slice_get (instances_of p) inner ≡ Some inside
  pub own : Text
  pub below : inside.place ≡ own ∷ at.place
  pub name : Text
  pub kind : kind_at (module_at p at.place) own ≡ an_instance name es

-- where the actuals of an instance come next among the roots, they are numbered: what comes after them is next then
abbrev pub NamesActuals : Scene → Scene → ℕ → ℕ → ℕ → List Formula → Type 0
NamesActuals old new spot item inner es =
    (at inside : FlatInstance) (rest : List Root) → AreActualsAt (program_of old) spot inner es at inside →
    IsNaming old (roots_of_actuals inside.place 0 item es ++ rest) → IsNaming new rest

-- the actuals of a declaration that the walk found to be this are numbered
abbrev pub NamesDeclared : Scene → Scene → ℕ → ℕ → DeclTree → Meaning → Type 0
NamesDeclared old new spot item d walked =
    (at : FlatInstance) (role : Role) (rest : List Root) → slice_get (instances_of (program_of old)) spot ≡ Some at →
    kind_at (module_at (program_of old) at.place) d.name ≡ kind_declared role d.what →
    Denotes (program_of old) walked (meaning_of_declared at.place d.name d.what) →
    IsNaming old (roots_of_type (d.name ∷ at.place) item d.what ++ rest) → IsNaming new rest

-- an item's definitions are numbered, and this is what it means
abbrev pub NamesItem : Scene → Scene → ℕ → ℕ → Meaning → Meaning → Type 0
NamesItem old new spot place walked meaning =
    (at : FlatInstance) (item : NumberedItem) (rest : List Root) → IsItemAt old spot place at item walked →
    IsNaming old (roots_of_item at.place item.number item.item ++ rest) → IsNaming new rest × IsOwn (program_of old) at.place item meaning

-- the roots that the items of an instance give
abbrev pub roots_at : FlatInstance → List NumberedItem → List Root
roots_at at is = flat_map (λ (i : NumberedItem). roots_of_item at.place i.number i.item) is

-- the definitions of an instance are numbered, and these are what its items mean
abbrev pub NamesItems : Scene → Scene → ℕ → List Meaning → Type 0
NamesItems old new spot own =
    (at : FlatInstance) (walked : Spot) (rest : List Root) → slice_get (instances_of (program_of old)) spot ≡ Some at →
    slice_get old.spots.items spot ≡ Some walked →
    IsSpotWalked (program_of old) at walked → IsNaming old (roots_at at (items_named (program_of old) at.module_name) ++ rest) →
    IsNaming new rest × EachBoth (IsOwn (program_of old) at.place) (items_named (program_of old) at.module_name) own

-- the same, where the instance was looked up already
abbrev pub with_own_in : List Spot → ℕ → Vec Meaning Global → Option Spot → List Spot
with_own_in spots k own None = spots
with_own_in spots k own (Some spot) =
    slice_set spots k (record { «module» = spot.«module»; caller = spot.caller; path = spot.path; actuals = spot.actuals; own = own })

-- with other meanings of an instance's items
abbrev pub with_own : List Spot → ℕ → Vec Meaning Global → List Spot
with_own spots k own = with_own_in spots k own (slice_get spots k)

-- the first so many instances have all that their items mean, the others what the walk found
pub record IsSpotBy (p : ProgramTree) (k j : ℕ) (at : FlatInstance) (spots : List Spot) : Type 0 where
  pub spot : Spot
  pub is : slice_get spots j ≡ Some spot
  pub done : j < k → IsSpot p at spot
  pub walked : k ≤ j → IsSpotWalked p at spot

-- the definitions of the first so many instances are numbered
pub record IsNamedTo (s : Scene) (k : ℕ) : Type 0 where
  pub many : length s.spots.items ≡ length (instances_of (program_of s))
  pub spots : (j : ℕ) (at : FlatInstance) → slice_get (instances_of (program_of s)) j ≡ Some at →
      IsSpotBy (program_of s) k j at s.spots.items
  pub naming : IsNaming s (flat_map (λ at. roots_at at (items_named (program_of s) at.module_name)) (drop k (instances_of (program_of s))))
