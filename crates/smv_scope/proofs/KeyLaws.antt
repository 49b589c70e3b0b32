-- The links of definitions by their numbers are what their expressions name.
use Rattle.std.proofs.Common.{◌≡◌, ℕ, zero, suc, true, List, [], ◌∷◌, map, Option, Some, None, refl, ap, ◌∙◌, sym, subst, inl, inr}
use Rattle.std.specs.Prelude.{slice_get, codes}
use Rattle.smv_language.specs.Language.{Text, Path, Formula, ProgramTree, ModuleTree, Place, Key, define_key, a_variable, Meaning, a_variable_at, an_expression_at, an_instance_at, Means, kind_at, module_at, find_module, role_of}
use Rattle.smv_language.specs.Scope.{a_symbol}
use Rattle.smv_flat_laws.specs.Items.{visits, variables_of}
use Rattle.smv_flat_laws.specs.Looks.{MeansNothing, MeetsLoop}
use Rattle.smv_flat_laws.specs.Rules.{MeansInput, IsWalkable, is_input_kind}
use Rattle.smv_flat_laws.specs.Model.{Root, roots_of, keys_of_meaning}
use Rattle.smv_flat_laws.proofs.Conditions.{each_at}
use Rattle.smv_flat_laws.proofs.LookLaws.{meets_loop_nothing}
use Rattle.smv_flat_laws.proofs.Places.{has_main}
use Rattle.smv_flat_laws.proofs.Resolving.{same_meaning}
use Rattle.smv_flat_laws.proofs.Walkable.{main_is_there}
use Rattle.smv_language.specs.declared.model.Role.{Role}
use Rattle.smv_language.specs.declared.model.Role.TheVariants.{State, Input, Frozen}
use Rattle.smv_scope.specs.declared.walk.Meaning.{Meaning as Found}
use Rattle.smv_scope.specs.declared.walk.Meaning.TheVariants as found
use Rattle.smv_scope.specs.SceneTree.{Denotes, IsFound}
use Rattle.smv_scope.specs.NeedsTree.{keys_of, IsKeyAt}
use Rattle.smv_scope.specs.Links.{Has}
use Rattle.smv_scope.specs.DefinitionNeeds.{needed, is_input_role, is_input}
use Rattle.smv_language.proofs.ListLaws.{get_map}
use Rattle.smv_flat_laws.proofs.Variables.{RealVariable, real_variables}

-- the key of a number
abbrev pub key_at : List Key → ℕ → Key
key_at [] k = define_key [] []
key_at (key ∷ keys) zero = key
key_at (key ∷ keys) (suc k) = key_at keys k

pub key_is : (keys : List Key) (k : ℕ) (key : Key) → slice_get keys k ≡ Some key → key_at keys k ≡ key
key_is [] k key e = cc
key_is (x ∷ keys) zero key e = cc
key_is (x ∷ keys) (suc k) key e = key_is keys k key e

same_some : {A : Type 0} (x y : A) (o : Option A) → o ≡ Some x → o ≡ Some y → x ≡ y
same_some x y o e f = cc

pub same_means : (p : ProgramTree) (at : Place) (name : Path) (a b : Meaning) → Means p at name a → Means p at name b → a ≡ b
same_means p at name a b (n, e) (k, f) = same_meaning n k p at name a b e f

-- a name that means nothing, or meets a loop, has no meaning
no_meaning : (p : ProgramTree) (at : Place) (name : Path) (m : Meaning) → MeansNothing p at name → Means p at name m → ⊥
no_meaning p at name m nothing (n, e) = differs (sym (nothing.no_meaning n) ∙ e)
  where
    differs : None ≡ Some m → ⊥
    differs d = cc

no_meaning_loop : (p : ProgramTree) (at : Place) (name : Path) (m : Meaning) → MeetsLoop p at name → Means p at name m → ⊥
no_meaning_loop p at name m loop (n, e) = differs (sym (meets_loop_nothing p at name loop n) ∙ e)
  where
    differs : None ≡ Some m → ⊥
    differs d = cc

-- what a found meaning denotes is what the name means
denoted : (p : ProgramTree) (at : Place) (name : Path) (f : Found) (m : Meaning) → (a : Meaning) × Means p at name a × Denotes p f a → Means p at name m → Denotes p f m
denoted p at name f m (a, means, den) h = subst (Denotes p f) (same_means p at name a m means h) den

module _ (p : ProgramTree) (at : Place) (name : Path) where
  -- a definition that is found is what the name means
  pub needed_key : (f : Found) (j : ℕ) (other : Key) → IsFound p at name f → Has (needed f) j → IsKeyAt p j other →
      (place : Place) × (e : Formula) × Means p at name (an_expression_at other place e)
  needed_key (found.Definition k) j other (m, means, den) (inl same) is = by_meaning m means den
    where
      by_meaning : (m : Meaning) → Means p at name m → Denotes p (found.Definition k) m → (place : Place) × (e : Formula) × Means p at name (an_expression_at other place e)
      by_meaning (a_variable_at place x) means den = absurd den
      by_meaning (an_instance_at place) means den = absurd den
      by_meaning (a_symbol x) means den = absurd den
      by_meaning (an_expression_at key place e) means (r, get, is_key, expression) =
          let there : slice_get (keys_of p) k ≡ Some r.key = get_map (λ (r : Root). r.key) (roots_of p) k r get in
          let here : slice_get (keys_of p) k ≡ Some other = subst (λ i. slice_get (keys_of p) i ≡ Some other) (sym same) is in
          (place, e, subst (λ x. Means p at name (an_expression_at x place e)) (sym is_key ∙ same_some r.key other (slice_get (keys_of p) k) there here) means)
  needed_key (found.Definition k) j other h (inr bad) is = absurd bad
  needed_key (found.Variable number role) j other h bad is = absurd bad
  needed_key (found.Instance k) j other h bad is = absurd bad
  needed_key (found.Symbol k) j other h bad is = absurd bad
  needed_key found.Nothing j other h bad is = absurd bad
  needed_key found.Loop j other h bad is = absurd bad

  -- a definition that the name means is found
  pub needed_from : (f : Found) (other : Key) (place : Place) (e : Formula) → IsFound p at name f → Means p at name (an_expression_at other place e) →
      (j : ℕ) × IsKeyAt p j other × Has (needed f) j
  needed_from (found.Definition k) other place e h means = by_root (denoted p at name (found.Definition k) (an_expression_at other place e) h means)
    where
      by_root : Denotes p (found.Definition k) (an_expression_at other place e) → (j : ℕ) × IsKeyAt p j other × Has (k ∷ []) j
      by_root (r, get, is_key, expression) = (k, get_map (λ (r : Root). r.key) (roots_of p) k r get ∙ ap Some is_key, inl refl)
  needed_from (found.Variable number role) other place e h means = absurd (denoted p at name (found.Variable number role) (an_expression_at other place e) h means)
  needed_from (found.Instance k) other place e h means = absurd (denoted p at name (found.Instance k) (an_expression_at other place e) h means)
  needed_from (found.Symbol k) other place e h means = absurd (denoted p at name (found.Symbol k) (an_expression_at other place e) h means)
  needed_from found.Nothing other place e h means = absurd (no_meaning p at name (an_expression_at other place e) h means)
  needed_from found.Loop other place e h means = absurd (no_meaning_loop p at name (an_expression_at other place e) h means)

  -- the keys of what is found are those of the meaning
  pub named_one : (f : Found) (m : Meaning) → IsFound p at name f → Means p at name m → map (key_at (keys_of p)) (needed f) ≡ keys_of_meaning m
  named_one (found.Definition k) m h means = by_meaning m (denoted p at name (found.Definition k) m h means)
    where
      by_meaning : (m : Meaning) → Denotes p (found.Definition k) m → map (key_at (keys_of p)) (k ∷ []) ≡ keys_of_meaning m
      by_meaning (an_expression_at key place e) (r, get, is_key, expression) =
          ap (λ (x : Key). x ∷ []) (key_is (keys_of p) k r.key (get_map (λ (r : Root). r.key) (roots_of p) k r get) ∙ is_key)
      by_meaning (a_variable_at place x) den = absurd den
      by_meaning (an_instance_at place) den = absurd den
      by_meaning (a_symbol x) den = absurd den
  named_one (found.Variable number role) m h means = by_meaning m (denoted p at name (found.Variable number role) m h means)
    where
      by_meaning : (m : Meaning) → Denotes p (found.Variable number role) m → [] ≡ keys_of_meaning m
      by_meaning (an_expression_at key place e) den = absurd den
      by_meaning (a_variable_at place x) den = refl
      by_meaning (an_instance_at place) den = refl
      by_meaning (a_symbol x) den = refl
  named_one (found.Instance k) m h means = by_meaning m (denoted p at name (found.Instance k) m h means)
    where
      by_meaning : (m : Meaning) → Denotes p (found.Instance k) m → [] ≡ keys_of_meaning m
      by_meaning (an_expression_at key place e) den = absurd den
      by_meaning (a_variable_at place x) den = refl
      by_meaning (an_instance_at place) den = refl
      by_meaning (a_symbol x) den = refl
  named_one (found.Symbol k) m h means = by_meaning m (denoted p at name (found.Symbol k) m h means)
    where
      by_meaning : (m : Meaning) → Denotes p (found.Symbol k) m → [] ≡ keys_of_meaning m
      by_meaning (an_expression_at key place e) den = absurd den
      by_meaning (a_variable_at place x) den = refl
      by_meaning (an_instance_at place) den = refl
      by_meaning (a_symbol x) den = refl
  named_one found.Nothing m h means = absurd (no_meaning p at name m h means)
  named_one found.Loop m h means = absurd (no_meaning_loop p at name m h means)

  module _ (walkable : IsWalkable p) where
    variable_kind : (number : ℕ) (role : Role) (place : Place) (x : Text) → Denotes p (found.Variable number role) (a_variable_at place x) →
        is_input_kind (kind_at (module_at p place) x) ≡ is_input_role role
    variable_kind number role place x (v, get, is_place, is_name, is_role) =
        subst (λ (q : Place). is_input_kind (kind_at (module_at p q) x) ≡ is_input_role role) is_place
        (subst (λ (y : Text). is_input_kind (kind_at (module_at p v.place) y) ≡ is_input_role role) is_name
        (ap (λ (o : Option ModuleTree). is_input_kind (kind_at o v.decl.name)) real.1 ∙ ap is_input_kind real.2 ∙ ap (λ r. is_input_kind (a_variable r v.decl.what)) is_role ∙ of_role role))
      where
        main : (m : ModuleTree) × (find_module p (codes "main") ≡ Some m)
        main = main_is_there p walkable

        real : RealVariable p v
        real = each_at (RealVariable p) (variables_of p) number v (real_variables p (visits p) (has_main p walkable main.0 main.1)) get

        of_role : (r : Role) → is_input_kind (a_variable (role_of r) v.decl.what) ≡ is_input_role r
        of_role State = refl
        of_role Input = refl
        of_role Frozen = refl

    pub input_is : (f : Found) → IsFound p at name f → is_input f ≡ true → MeansInput p at name
    input_is (found.Variable number role) (m, means, den) is = by_meaning m means den
      where
        by_meaning : (m : Meaning) → Means p at name m → Denotes p (found.Variable number role) m → MeansInput p at name
        by_meaning (a_variable_at place x) means den = (place, x, means, variable_kind number role place x den ∙ is)
        by_meaning (an_expression_at key place e) means den = absurd den
        by_meaning (an_instance_at place) means den = absurd den
        by_meaning (a_symbol x) means den = absurd den
    input_is (found.Definition k) h is = cc
    input_is (found.Instance k) h is = cc
    input_is (found.Symbol k) h is = cc
    input_is found.Nothing h is = cc
    input_is found.Loop h is = cc

    pub input_from : (f : Found) → IsFound p at name f → MeansInput p at name → is_input f ≡ true
    input_from (found.Variable number role) h (place, x, means, is) =
        sym (variable_kind number role place x (denoted p at name (found.Variable number role) (a_variable_at place x) h means)) ∙ is
    input_from (found.Definition k) h (place, x, means, is) = absurd (denoted p at name (found.Definition k) (a_variable_at place x) h means)
    input_from (found.Instance k) h (place, x, means, is) = absurd (denoted p at name (found.Instance k) (a_variable_at place x) h means)
    input_from (found.Symbol k) h (place, x, means, is) = absurd (denoted p at name (found.Symbol k) (a_variable_at place x) h means)
    input_from found.Nothing h (place, x, means, is) = absurd (no_meaning p at name (a_variable_at place x) h means)
    input_from found.Loop h (place, x, means, is) = absurd (no_meaning_loop p at name (a_variable_at place x) h means)
