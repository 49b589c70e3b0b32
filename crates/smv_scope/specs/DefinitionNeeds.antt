-- What the definitions of a scene name.
use Rattle.std.specs.Prelude.{◌≡◌, ℕ, suc, Bool, true, false, ◌||◌, List, [], ◌∷◌, ◌++◌, map, Some, slice_get}
use Rattle.smv_language.specs.Language.{Path, tree_of, Each, FlatInstance}
use Rattle.smv_flat_laws.specs.Items.{instances_of}
use Rattle.smv_flat_laws.specs.NameResolution.{leaves_in}
use Rattle.smv_language.specs.declared.model.Role.{Role}
use Rattle.smv_language.specs.declared.model.Role.TheVariants.{State, Input, Frozen}
use Rattle.smv_scope.specs.declared.walk.Meaning.{Meaning as Found}
use Rattle.smv_scope.specs.declared.walk.Meaning.TheVariants as found
use Rattle.smv_scope.specs.declared.names.Defined.{Defined}
use Rattle.smv_scope.specs.declared.names.Scene.{Scene}
use Rattle.smv_scope.specs.declared.needs.Named.{Named}
use Rattle.smv_scope.specs.SceneTree.{IsFound, program_of}
use Rattle.smv_scope.specs.TableLookUps.{found_at}
use Rattle.smv_scope.specs.Links.{rows}

-- the definition that is found
abbrev pub needed : Found → List ℕ
needed (found.Definition k) = k ∷ []
needed (found.Variable number role) = []
needed (found.Instance k) = []
needed (found.Symbol k) = []
needed found.Nothing = []
needed found.Loop = []

-- the role of inputs
abbrev pub is_input_role : Role → Bool
is_input_role Input = true
is_input_role State = false
is_input_role Frozen = false

-- an input is found
abbrev pub is_input : Found → Bool
is_input (found.Variable number role) = is_input_role role
is_input (found.Definition k) = false
is_input (found.Instance k) = false
is_input (found.Symbol k) = false
is_input found.Nothing = false
is_input found.Loop = false

-- the definitions that names mean at an instance, in their order
abbrev pub needs_in : Scene → ℕ → List Path → List ℕ
needs_in s spot [] = []
needs_in s spot (x ∷ xs) = needed (found_at s spot x) ++ needs_in s spot xs

-- some name means an input
abbrev pub reads_in : Scene → ℕ → List Path → Bool
reads_in s spot [] = false
reads_in s spot (x ∷ xs) = is_input (found_at s spot x) || reads_in s spot xs

-- the names, without whether they stand under `next`
abbrev pub first_names : List (Path × Bool) → List Path
first_names us = map (λ u. u.0) us

-- the names of a definition
abbrev pub names_of : Defined → List Path
names_of d = leaves_in (tree_of d.value.now)

-- the definitions that a definition of the scene names, in written order
abbrev pub needs_of : Scene → Defined → List ℕ
needs_of s d = needs_in s d.spot (names_of d)

-- a definition of the scene names an input itself
abbrev pub reads_of : Scene → Defined → Bool
reads_of s d = reads_in s d.spot (names_of d)

-- the number alone, or none
abbrev pub number_if : Bool → ℕ → List ℕ
number_if true k = k ∷ []
number_if false k = []

-- the definitions that name an input, by their places, counted on from a number
abbrev pub inputs_from : Scene → ℕ → List Defined → List ℕ
inputs_from s k [] = []
inputs_from s k (d ∷ ds) = number_if (reads_of s d) k ++ inputs_from s (suc k) ds

-- what is found for a name is what it means
pub record IsFoundAt (s : Scene) (spot : ℕ) (name : Path) : Type 0 where
  pub found : (at : FlatInstance) → slice_get (instances_of (program_of s)) spot ≡ Some at →
      IsFound (program_of s) at.place name (found_at s spot name)

-- what is found for each name of a definition is what it means
abbrev pub AreFoundIn : Scene → Defined → Type 0
AreFoundIn s d = Each (IsFoundAt s d.spot) (names_of d)

-- the links are what the definitions name
pub record IsNamed (s : Scene) (n : Named) : Type 0 where
  pub links : rows n.links ≡ map (needs_of s) s.definitions.items
  pub inputs : n.inputs.items ≡ inputs_from s 0 s.definitions.items
  pub found : Each (AreFoundIn s) s.definitions.items
