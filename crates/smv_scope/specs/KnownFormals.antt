-- What is known of the formals while they are looked up.
use Rattle.std.specs.Prelude.{◌≡◌, ℕ, zero, suc, List, [], ◌∷◌, ◌++◌, replicate, length, map, Option, Some, None, slice_get, slice_set, Vec}
use Rattle.std.specs.declared.alloc.Global.{Global}
use Rattle.smv_language.specs.Language.{Text, Path, ModuleTree, ProgramTree, Place, actual_key, find_module, FlatInstance}
use Rattle.smv_flat_laws.specs.Items.{instances_of}
use Rattle.smv_flat_laws.specs.Looks.{Look, look_after}
use Rattle.smv_flat_laws.specs.Model.{Root}
use Rattle.smv_scope.specs.SceneTree.{IsKnown, formals_of}
use Rattle.smv_scope.specs.TableLookUps.{names_of_spot, formal_or}
use Rattle.smv_scope.specs.declared.modules.ModuleNames.{ModuleNames}
use Rattle.smv_scope.specs.declared.names.Formal.{Formal}
use Rattle.smv_scope.specs.declared.names.Formal.TheVariants as known
use Rattle.smv_scope.specs.declared.names.Scene.{Scene}

-- the rows of the code as lists
abbrev pub rows_of : List (Vec Formal Global) → List (List Formal)
rows_of fs = map (λ (v : Vec Formal Global). v.items) fs

-- what is known of the formals, by instances
abbrev pub rows : Scene → List (List Formal)
rows s = rows_of s.formals.items

-- the row of an instance; none where it is not there
abbrev pub row_or : Option (List Formal) → List Formal
row_or None = []
row_or (Some fs) = fs

-- the number of formals of these names of a module
abbrev pub formals_in : Option ModuleNames → ℕ
formals_in None = 0
formals_in (Some names) = length names.«module».now.formals

-- the number of formals of an instance's module
abbrev pub formals_at : Scene → ℕ → ℕ
formals_at s spot = formals_in (names_of_spot s (slice_get s.spots.items spot))

-- the formals of the first so many instances, of which nothing is known
abbrev pub unknown_to : Scene → ℕ → List (List Formal)
unknown_to s zero = []
unknown_to s (suc k) = unknown_to s k ++ replicate (formals_at s k) known.Unknown ∷ []

-- with something else known of one formal
abbrev pub rows_with : List (List Formal) → ℕ → ℕ → Formal → List (List Formal)
rows_with rs spot i f = slice_set rs spot (slice_set (row_or (slice_get rs spot)) i f)

-- all tables but that of formals are the same
pub record IsSameButFormals (old new : Scene) : Type 0 where
  pub modules : new.modules ≡ old.modules
  pub spots : new.spots ≡ old.spots
  pub symbols : new.symbols ≡ old.symbols
  pub definitions : new.definitions ≡ old.definitions

-- what these rows tell of the formal of a number at an instance
abbrev pub formal_of : List (List Formal) → ℕ → ℕ → Formal
formal_of rs spot i = formal_or (slice_get (row_or (slice_get rs spot)) i)

-- the formal of a number at the instance of a number: the instance's place and the formal's name
pub record IsHead (p : ProgramTree) (spot i : ℕ) (at : Place) (x : Text) : Type 0 where
  pub instance : FlatInstance
  pub is : slice_get (instances_of p) spot ≡ Some instance
  pub place : instance.place ≡ at
  pub tree : ModuleTree
  pub named : find_module p instance.module_name ≡ Some tree
  pub formal : slice_get tree.formals i ≡ Some x

-- there is no answer yet
abbrev pub IsOpen : Formal → Type 0
IsOpen known.Unknown = Unit {0}
IsOpen known.Begun = Unit {0}
IsOpen known.Circle = ⊥
IsOpen (known.Means f) = ⊥

-- the name is a formal without an answer
abbrev pub IsOpenAt : ProgramTree → List (List Formal) → Place → Text → Type 0
IsOpenAt p rs at x = (spot : ℕ) × (i : ℕ) × IsHead p spot i at x × IsOpen (formal_of rs spot i)

-- a look-up that stands here stands at no formal without an answer
abbrev pub ShutAt : ProgramTree → List (List Formal) → Option Look → Type 0
ShutAt p rs o = (at : Place) (x : Text) (rest : Path) → o ≡ Some (record { place = at; name = x ∷ rest }) → IsOpenAt p rs at x → ⊥

-- the look-up of a name meets no formal without an answer
abbrev pub Shut : ProgramTree → List (List Formal) → Place → Path → Type 0
Shut p rs at name = (n : ℕ) → ShutAt p rs (look_after n p at name)

-- the same from its first step on
abbrev pub ShutBeyond : ProgramTree → List (List Formal) → Place → Path → Type 0
ShutBeyond p rs at name = (n : ℕ) → ShutAt p rs (look_after (suc n) p at name)

-- an answer is right, and was found without formals that have none
abbrev pub IsTold : ProgramTree → List (List Formal) → Place → Text → Formal → Type 0
IsTold p rs at x known.Unknown = Unit {0}
IsTold p rs at x known.Begun = Unit {0}
IsTold p rs at x f = IsKnown p at x f × Shut p rs at (x ∷ [])

-- as many formals as the instance's module has
pub record IsSized (p : ProgramTree) (rs : List (List Formal)) (spot : ℕ) (at : FlatInstance) : Type 0 where
  pub row : List Formal
  pub is : slice_get rs spot ≡ Some row
  pub size : length row ≡ length (formals_of (find_module p at.module_name))

-- all answers so far are right
pub record AreTold (p : ProgramTree) (rs : List (List Formal)) : Type 0 where
  pub many : length rs ≡ length (instances_of p)
  pub sized : (spot : ℕ) (at : FlatInstance) → slice_get (instances_of p) spot ≡ Some at → IsSized p rs spot at
  pub told : (spot i : ℕ) (at : Place) (x : Text) → IsHead p spot i at x → IsTold p rs at x (formal_of rs spot i)

-- the formal whose actual is this definition has an answer
abbrev pub IsActualTold : ProgramTree → List (List Formal) → Root → Type 0
IsActualTold p rs r = (spot i : ℕ) (at : FlatInstance) → slice_get (instances_of p) spot ≡ Some at → actual_key at.place i ≡ r.key →
    IsOpen (formal_of rs spot i) → ⊥
