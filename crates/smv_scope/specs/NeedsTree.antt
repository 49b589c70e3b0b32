-- What is known of the needs of definitions.
use Rattle.std.specs.Prelude.{◌≡◌, ◌↔◌, ℕ, Bool, true, false, List, [], length, map, Some, slice_get}
use Rattle.smv_language.specs.Language.{Path, Formula, ProgramTree, Place, Key, Each, AtSome, EachBoth}
use Rattle.smv_flat_laws.specs.Looks.{MeansNothing, MeetsLoop}
use Rattle.smv_flat_laws.specs.NameResolution.{leaves_in}
use Rattle.smv_flat_laws.specs.Rules.{Leads, NeedsItself, MeansInput, expression_of}
use Rattle.smv_flat_laws.specs.Model.{Root, roots_of, AddsAll}
use Rattle.smv_scope.specs.declared.needs.Needs.{Needs}

-- a definition names an input, itself or through others
pub record KeyReadsInput (p : ProgramTree) (key : Key) : Type 0 where
  pub steps : ℕ
  pub last : Key
  pub leads : Leads p steps key last
  pub place : Place
  pub written : Formula
  pub is : expression_of p last ≡ Some (place, written)
  pub names_input : AtSome (MeansInput p place) (leaves_in written)

-- the keys of the definitions in the order of their instances and items
abbrev pub keys_of : ProgramTree → List Key
keys_of p = map (λ (r : Root). r.key) (roots_of p)

-- the key of the definition of a number
abbrev pub IsKeyAt : ProgramTree → ℕ → Key → Type 0
IsKeyAt p k key = slice_get (keys_of p) k ≡ Some key

-- this tells whether the definition of a key needs itself
abbrev pub HasCircle : ProgramTree → Key → Bool → Type 0
HasCircle p key b = (b ≡ true) ↔ NeedsItself p key

-- this tells whether the definition of a key reads an input, also through others
abbrev pub HasInput : ProgramTree → Key → Bool → Type 0
HasInput p key b = (b ≡ true) ↔ KeyReadsInput p key

-- the name means something
pub record IsMeant (p : ProgramTree) (at : Place) (name : Path) : Type 0 where
  pub something : MeansNothing p at name → ⊥
  pub no_loop : MeetsLoop p at name → ⊥

-- each name of each definition means something
abbrev pub AreMeant : ProgramTree → Type 0
AreMeant p = (k : ℕ) (key : Key) (at : Place) (e : Formula) → IsKeyAt p k key → expression_of p key ≡ Some (at, e) →
    Each (IsMeant p at) (leaves_in e)

-- The order of definitions, where none needs itself and all names mean something: each after those that it names. It has all numbers, and
-- the places are the other way round.
pub record IsOrder (p : ProgramTree) (order places : List ℕ) : Type 0 where
  pub ordered : List Key
  pub each : EachBoth (IsKeyAt p) order ordered
  pub adds : AddsAll p [] (keys_of p) ordered
  pub size : length places ≡ length (keys_of p)
  pub back : (k i : ℕ) → slice_get order i ≡ Some k → slice_get places k ≡ Some i
  pub all : (k i : ℕ) → slice_get places k ≡ Some i → slice_get order i ≡ Some k

-- the needs of a program: which definitions need themselves, which read inputs, and, where none needs itself, their order
pub record AreNeeds (p : ProgramTree) (n : Needs) : Type 0 where
  pub circles : EachBoth (HasCircle p) (keys_of p) n.on_circle.items
  pub inputs : EachBoth (HasInput p) (keys_of p) n.reads_input.items
  pub order : Each (λ b. b ≡ false) n.on_circle.items → AreMeant p → IsOrder p n.order.items n.places.items
