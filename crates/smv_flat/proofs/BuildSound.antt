-- The resolver of a scene gives each name what it means, by the numbers of a model.
use Rattle.std.proofs.Common.{◌≡◌, ℕ, zero, suc, ◌+◌, Bool, true, false, List, [], ◌∷◌, Option, Some, None, refl, sym, ◌∙◌, ap, subst, arith}
use Rattle.std.specs.Prelude.{slice_get, map, if◌then◌else◌}
use Rattle.smv_language.specs.Tree.{truth}
use Rattle.smv_language.specs.Language.{Path, Formula, ProgramTree, Place, Key, Meaning, a_variable_at, an_expression_at, an_instance_at, FlatLeaf, flat_variable, flat_symbol, flat_definition, FlatInstance, FlatVariable, FlatModel, EachBoth}
use Rattle.smv_language.specs.Scope.{a_symbol}
use Rattle.smv_flat_laws.specs.NameResolution.{Definition, StandsFor, IsLeafOf, IsSound}
use Rattle.smv_flat_laws.specs.Items.{instances_of, variables_of}
use Rattle.smv_flat_laws.specs.Rules.{IsAccepted, expression_of}
use Rattle.smv_flat_laws.specs.Model.{Root, roots_of, symbols_of, same_place}
use Rattle.smv_flat_laws.proofs.Variables.{both_at}
use Rattle.smv_scope.specs.declared.walk.Meaning.{Meaning as Found}
use Rattle.smv_scope.specs.declared.walk.Meaning.TheVariants as found
use Rattle.smv_scope.specs.declared.names.Scene.{Scene}
use Rattle.smv_scope.specs.declared.needs.Needs.{Needs}
use Rattle.smv_scope.specs.SceneTree.{Denotes, IsFound, program_of, IsScene}
use Rattle.smv_scope.specs.NeedsTree.{keys_of, IsKeyAt, AreNeeds}
use Rattle.smv_scope.specs.WalkFindings.{IsDeclaredBy}
use Rattle.smv_scope.specs.TableLookUps.{found_at}
use Rattle.smv_flat.specs.ResolverOf.{leaf_placed, leaf_found, leaf_by, number_from, resolver}
use Rattle.smv_scope.proofs.SceneFound.{scene_found}
use Rattle.smv_flat.proofs.BuildPlaces.{places_apart}
use Rattle.smv_flat.proofs.BuildAccepted.{walkable}
use Rattle.smv_flat.proofs.BuildLeaves.{order}
use Rattle.smv_flat_laws.proofs.Conditions.{each_at}
use Rattle.smv_flat_laws.proofs.Numbered.{same_place_refl, same_place_equal}
use Rattle.smv_language.proofs.ListLaws.{get_map}
use Rattle.smv_flat_laws.proofs.KeysApart.{OtherPlace}
use Rattle.smv_scope.proofs.RootLaws.{PlacesApart}

-- The number of a place.
pub number_back : (k : ℕ) (is : List FlatInstance) (at : Place) (j : ℕ) → number_from k is at ≡ Some j → (i : ℕ) × (j ≡ k + i) × (x : FlatInstance) × (slice_get is i ≡ Some x) × (x.place ≡ at)
number_back k [] at j e = cc
number_back k (y ∷ is) at j e = by_test (same_place y.place at) refl (λ h. number_back (suc k) is at j h)
  where
    by_test : (b : Bool) → same_place y.place at ≡ b → (number_from (suc k) is at ≡ Some j → (i : ℕ) × (j ≡ suc k + i) × (x : FlatInstance) × (slice_get is i ≡ Some x) × (x.place ≡ at)) →
        (i : ℕ) × (j ≡ k + i) × (x : FlatInstance) × (slice_get (y ∷ is) i ≡ Some x) × (x.place ≡ at)
    by_test true t rest =
        let found : Some k ≡ Some j = rw t at e in
        let same : k ≡ j = cc in
        (0, omega (arith, same), y, refl, same_place_equal y.place at t)
    by_test false t rest =
        let r : (i : ℕ) × (j ≡ suc k + i) × (x : FlatInstance) × (slice_get is i ≡ Some x) × (x.place ≡ at) = rest (rw t at e) in
        let n : j ≡ suc k + r.0 = r.1 in
        (suc r.0, omega (arith, n), r.2, r.3, r.4)

pub number_first : (k : ℕ) (is : List FlatInstance) → PlacesApart is → (i : ℕ) (x : FlatInstance) → slice_get is i ≡ Some x → number_from k is x.place ≡ Some (k + i)
number_first k [] apart i x e = cc
number_first k (y ∷ is) apart zero x e =
    let same : y ≡ x = cc in
    let here : same_place y.place x.place ≡ true = subst (λ (z : FlatInstance). same_place y.place z.place ≡ true) same (same_place_refl y.place) in
    let number : k ≡ k + 0 = omega arith in
    ap (λ b. if b then Some k else number_from (suc k) is x.place) here ∙ ap Some number
number_first k (y ∷ is) apart (suc i) x e =
    let other : y.place ≡ x.place → ⊥ = each_at (OtherPlace y) is i x apart.0 e in
    let not_here : same_place y.place x.place ≡ false = not_true (same_place y.place x.place) (λ t. other (same_place_equal y.place x.place t)) in
    let number : suc k + i ≡ k + suc i = omega arith in
    ap (λ b. if b then Some k else number_from (suc k) is x.place) not_here ∙ number_first (suc k) is apart.1 i x e ∙ ap Some number
  where
    not_true : (b : Bool) → (b ≡ true → ⊥) → b ≡ false
    not_true true h = absurd (h refl)
    not_true false h = refl

-- A definition as it is written.
abbrev pub written_with : Key → Option (Place × Formula) → Definition
written_with key None = record { key = key; place = []; written = truth false }
written_with key (Some w) = record { key = key; place = w.0; written = w.1 }

abbrev pub definition_of : ProgramTree → Key → Definition
definition_of p key = written_with key (expression_of p key)

key_of_written : (key : Key) (o : Option (Place × Formula)) → (written_with key o).key ≡ key
key_of_written key None = refl
key_of_written key (Some w) = refl

pub keys_of_definitions : (p : ProgramTree) (keys : List Key) → map (λ (d : Definition). d.key) (map (definition_of p) keys) ≡ keys
keys_of_definitions p [] = refl
keys_of_definitions p (k ∷ keys) = let one : (definition_of p k).key ≡ k = key_of_written k (expression_of p k) in let rest = keys_of_definitions p keys in cc

module _ (s : Scene) (n : Needs) (is : IsScene s) (needs : AreNeeds (program_of s) n) (accepted : IsAccepted (program_of s)) where
  -- the definitions of the scene's program in their order
  abbrev pub definitions : List Definition
  definitions = map (definition_of (program_of s)) (order s n is needs accepted).ordered

  pub definition_at : (k i : ℕ) (key : Key) (bt : Place) (e : Formula) → slice_get n.order.items i ≡ Some k → slice_get (keys_of (program_of s)) k ≡ Some key →
      expression_of (program_of s) key ≡ Some (bt, e) → slice_get definitions i ≡ Some (record { key = key; place = bt; written = e })
  definition_at k i key bt e ordered at_key is_written =
      let b : (j : Key) × (slice_get (order s n is needs accepted).ordered i ≡ Some j) × IsKeyAt (program_of s) k j =
      both_at (IsKeyAt (program_of s)) n.order.items (order s n is needs accepted).ordered i k (order s n is needs accepted).each ordered in
      get_map (definition_of (program_of s)) (order s n is needs accepted).ordered i key (b.1 ∙ sym b.2 ∙ at_key) ∙ ap (λ o. Some (written_with key o)) is_written

  module _ (m : FlatModel) (variables : EachBoth (IsDeclaredBy (program_of s)) (variables_of (program_of s)) m.variables) (symbols : m.symbols ≡ symbols_of (program_of s)) where
    stands : (places : List ℕ) → ((k i : ℕ) → slice_get places k ≡ Some i → slice_get n.order.items i ≡ Some k) → (f : Found) (meaning : Meaning) → Denotes (program_of s) f meaning → (l : FlatLeaf) → leaf_found places f ≡ Some l → StandsFor m definitions l meaning
    stands places back (found.Variable i role) (a_variable_at bt x) d l e =
        let y : (y : FlatVariable) × (slice_get m.variables i ≡ Some y) × IsDeclaredBy (program_of s) d.0 y = both_at (IsDeclaredBy (program_of s)) (variables_of (program_of s)) m.variables i d.0 variables d.1 in
        let same : flat_variable i ≡ l = of_option (flat_variable i) l e in
        subst (λ l. StandsFor m definitions l (a_variable_at bt x)) same (y.0, y.1, y.2.place ∙ d.2, y.2.name ∙ d.3)
      where
        of_option : (a b : FlatLeaf) → Some a ≡ Some b → a ≡ b
        of_option a b e = cc
    stands places back (found.Variable i role) (an_expression_at key bt e) d l h = absurd d
    stands places back (found.Variable i role) (an_instance_at bt) d l h = absurd d
    stands places back (found.Variable i role) (a_symbol x) d l h = absurd d
    stands places back (found.Symbol i) (a_symbol x) d l e =
        let same : flat_symbol i ≡ l = of_option (flat_symbol i) l e in
        subst (λ l. StandsFor m definitions l (a_symbol x)) same (ap (λ xs. slice_get xs i) symbols ∙ d)
      where
        of_option : (a b : FlatLeaf) → Some a ≡ Some b → a ≡ b
        of_option a b e = cc
    stands places back (found.Symbol i) (a_variable_at bt x) d l h = absurd d
    stands places back (found.Symbol i) (an_expression_at key bt e) d l h = absurd d
    stands places back (found.Symbol i) (an_instance_at bt) d l h = absurd d
    stands places back (found.Definition k) (an_expression_at key bt e) d l h = by_place (slice_get places k) refl h
      where
        of_option : (a b : FlatLeaf) → Some a ≡ Some b → a ≡ b
        of_option a b e = cc

        by_place : (o : Option ℕ) → slice_get places k ≡ o → leaf_placed o ≡ Some l → StandsFor m definitions l (an_expression_at key bt e)
        by_place None placed g = cc
        by_place (Some i) placed g =
            let same : flat_definition i ≡ l = of_option (flat_definition i) l g in
            subst (λ l. StandsFor m definitions l (an_expression_at key bt e)) same
            (definition_at k i key bt e (back k i placed) (get_map (λ (r : Root). r.key) (roots_of (program_of s)) k d.0 d.1 ∙ ap Some d.2) d.3)
    stands places back (found.Definition k) (a_variable_at bt x) d l h = absurd d
    stands places back (found.Definition k) (an_instance_at bt) d l h = absurd d
    stands places back (found.Definition k) (a_symbol x) d l h = absurd d
    stands places back (found.Instance k) meaning d l h = cc
    stands places back found.Nothing meaning d l h = cc
    stands places back found.Loop meaning d l h = cc

    pub leaf_means : (at : Place) (name : Path) (f : Found) → IsFound (program_of s) at name f → (l : FlatLeaf) → leaf_found n.places.items f ≡ Some l → IsLeafOf (program_of s) m definitions at name l
    leaf_means at name found.Nothing means l e = cc
    leaf_means at name found.Loop means l e = cc
    leaf_means at name (found.Instance k) means l e = cc
    leaf_means at name (found.Variable i role) means l e = (means.0, means.1, stands n.places.items (order s n is needs accepted).all (found.Variable i role) means.0 means.2 l e)
    leaf_means at name (found.Symbol i) means l e = (means.0, means.1, stands n.places.items (order s n is needs accepted).all (found.Symbol i) means.0 means.2 l e)
    leaf_means at name (found.Definition i) means l e = (means.0, means.1, stands n.places.items (order s n is needs accepted).all (found.Definition i) means.0 means.2 l e)

    -- each leaf of the resolver is what the name means
    pub sound : IsSound (program_of s) m definitions (resolver s n)
    sound at name l e = by_number (number_from 0 (instances_of (program_of s)) at) refl e
      where
        by_number : (o : Option ℕ) → number_from 0 (instances_of (program_of s)) at ≡ o → leaf_by s n o name ≡ Some l → IsLeafOf (program_of s) m definitions at name l
        by_number None numbered h = cc
        by_number (Some spot) numbered h =
            let b : (i : ℕ) × (spot ≡ 0 + i) × (x : FlatInstance) × (slice_get (instances_of (program_of s)) i ≡ Some x) × (x.place ≡ at) = number_back 0 (instances_of (program_of s)) at spot numbered in
            let number : spot ≡ 0 + b.0 = b.1 in
            let same : b.0 ≡ spot = omega (arith, number) in
            subst (λ a. IsLeafOf (program_of s) m definitions a name l) b.4
            (leaf_means b.2.place name (found_at s spot name) (scene_found s is name spot b.2 (subst (λ i. slice_get (instances_of (program_of s)) i ≡ Some b.2) same b.3)) l h)

  -- at an instance the resolver is the leaves there
  pub resolver_at : (spot : ℕ) (x : FlatInstance) → slice_get (instances_of (program_of s)) spot ≡ Some x → number_from 0 (instances_of (program_of s)) x.place ≡ Some spot
  resolver_at spot x e =
      let same : 0 + spot ≡ spot = omega arith in
      number_first 0 (instances_of (program_of s)) (places_apart (program_of s) (walkable (program_of s) accepted)) spot x e ∙ ap Some same
