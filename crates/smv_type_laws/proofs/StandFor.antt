-- What stands for a meaning in a flat model, and the variables and the definitions that are there.
use Rattle.std.proofs.Common.{◌≡◌, ℕ, Option, Some, None, List, refl, sym, ap, ◌∙◌}
use Rattle.std.specs.Prelude.{slice_get}
use Rattle.smv_language.specs.Language.{Text, Formula, DeclaredTree, ModuleTree, ProgramTree, Place, Role, Key, a_variable, undeclared, kind_at, module_at, a_variable_at, an_expression_at, an_instance_at, IsVariable, FlatLeaf, flat_variable, flat_symbol, flat_definition, FlatModel}
use Rattle.smv_language.specs.Scope.{a_symbol}
use Rattle.smv_flat_laws.specs.NameResolution.{Definition, StandsFor}
use Rattle.smv_flat_laws.specs.Model.{IsVariableNumber}

kind_there : (q : ProgramTree) (at : Place) (x : Text) (role : Role) (type : DeclaredTree) (o : Option ModuleTree) → module_at q at ≡ o → kind_at (module_at q at) x ≡ a_variable role type → IsVariable q at x role type
kind_there q at x role type None e k = let bad : undeclared ≡ a_variable role type = ap (λ o. kind_at o x) (sym e) ∙ k in cc
kind_there q at x role type (Some n) e k = (n, e, ap (λ o. kind_at o x) (sym e) ∙ k)

-- what the name of an instance is
pub variable_there : (q : ProgramTree) (at : Place) (x : Text) (role : Role) (type : DeclaredTree) → kind_at (module_at q at) x ≡ a_variable role type → IsVariable q at x role type
variable_there q at x role type k = kind_there q at x role type (module_at q at) refl k

-- What stands for a meaning.
module _ (m : FlatModel) (ds : List Definition) where
  pub for_variable : (l : FlatLeaf) (at : Place) (x : Text) → StandsFor m ds l (a_variable_at at x) → (j : ℕ) × (l ≡ flat_variable j) × IsVariableNumber m at x j
  for_variable (flat_variable j) at x h = (j, refl, record { variable = h.0; is = h.1; same_place = h.2; same_name = h.3 })
  for_variable (flat_symbol j) at x h = absurd h
  for_variable (flat_definition j) at x h = absurd h

  pub for_symbol : (l : FlatLeaf) (x : Text) → StandsFor m ds l (a_symbol x) → (j : ℕ) × (l ≡ flat_symbol j)
  for_symbol (flat_variable j) x h = absurd h
  for_symbol (flat_symbol j) x h = (j, refl)
  for_symbol (flat_definition j) x h = absurd h

  pub for_expression : (l : FlatLeaf) (key : Key) (at : Place) (e : Formula) → StandsFor m ds l (an_expression_at key at e) →
      (j : ℕ) × (l ≡ flat_definition j) × (slice_get ds j ≡ Some (record { key = key; place = at; written = e }))
  for_expression (flat_variable j) key at e h = absurd h
  for_expression (flat_symbol j) key at e h = absurd h
  for_expression (flat_definition j) key at e h = (j, refl, h)

  pub for_instance : (l : FlatLeaf) (at : Place) → StandsFor m ds l (an_instance_at at) → ⊥
  for_instance (flat_variable j) at h = h
  for_instance (flat_symbol j) at h = h
  for_instance (flat_definition j) at h = h
