-- The declarations of a flat model's variables.
use Rattle.std.proofs.Common.{◌≡◌, ℕ, List, [], ◌∷◌, Option, Some, None, refl, sym, ◌∙◌, subst}
use Rattle.std.specs.Prelude.{slice_get, codes}
use Rattle.smv_language.specs.Language.{Text, Formula, DeclaredTree, ModuleTree, ProgramTree, Place, Role, Kind, a_formal, a_variable, an_instance, undeclared, kind_in, kind_in_sections, formal_from, kind_after_formals, kind_at, module_of_kind, module_at, IsInstance, IsVariable, FlatVariable, FlatModel}
use Rattle.smv_language.specs.Scope.{a_define}
use Rattle.smv_flat_laws.specs.Items.{items_of, variables_of, visits}
use Rattle.smv_flat_laws.specs.Model.{IsVariableOf, IsFlatOf}
use Rattle.smv_flat_laws.specs.Rules.{IsAccepted, IsWalkable}
use Rattle.smv_flat_laws.proofs.Conditions.{each_at}
use Rattle.smv_flat_laws.proofs.KindLaws.{sections_kind, DeclaredBy, declared_by}
use Rattle.smv_flat_laws.proofs.Places.{In, has_main}
use Rattle.smv_flat_laws.proofs.Variables.{DeclaredAs, declared_as, both_at_second, RealVariable, real_variables}
use Rattle.smv_flat_laws.proofs.Walkable.{accepted_walkable, main_is_there}
use Rattle.smv_flat_laws.proofs.Found.{find_in}

pub module_in : (p : ProgramTree) (at : Place) (k : ModuleTree) → IsInstance p at k → In k p
module_in p [] k e = find_in p (codes "main") k e
module_in p (x ∷ at) k e = by_kind (kind_at (module_at p at) x) e
  where
    by_kind : (kind : Kind) → module_of_kind p kind ≡ Some k → In k p
    by_kind (an_instance n actuals) e = find_in p n k e
    by_kind (a_formal i) e = cc
    by_kind (a_variable r t) e = cc
    by_kind (a_define f) e = cc
    by_kind undeclared e = cc

-- the declaration of an instance
pub record DeclaresPart (p : ProgramTree) (x : Text) (at : Place) : Type 0 where
  pub tree : ModuleTree
  pub is : IsInstance p at tree
  pub module_name : Text
  pub actuals : List Formula
  pub declared : DeclaredBy (items_of tree) x module_name actuals

pub part_declared : (p : ProgramTree) (x : Text) (at : Place) (k : ModuleTree) → IsInstance p (x ∷ at) k → DeclaresPart p x at
part_declared p x at k e = by_module (module_at p at) refl e
  where
    in_sections : (o : Option ℕ) (kind : Kind) (n : Text) (actuals : List Formula) → kind_after_formals o kind ≡ an_instance n actuals → kind ≡ an_instance n actuals
    in_sections None kind n actuals f = f
    in_sections (Some i) kind n actuals f = cc

    by_kind : (t : ModuleTree) → module_at p at ≡ Some t → (kind : Kind) → kind_in t x ≡ kind → module_of_kind p kind ≡ Some k → DeclaresPart p x at
    by_kind t g (an_instance n actuals) f e = record {
      tree = t;
      is = g;
      module_name = n;
      actuals = actuals;
      declared = declared_by (items_of t) x n actuals (sections_kind t.sections x ∙ in_sections (formal_from 0 t.formals x) (kind_in_sections t.sections x) n actuals f);
    }
    by_kind t g (a_formal i) f e = cc
    by_kind t g (a_variable r d) f e = cc
    by_kind t g (a_define d) f e = cc
    by_kind t g undeclared f e = cc

    by_module : (o : Option ModuleTree) → module_at p at ≡ o → module_of_kind p (kind_at o x) ≡ Some k → DeclaresPart p x at
    by_module None g e = cc
    by_module (Some t) g e = by_kind t g (kind_in t x) refl e

-- a flat variable is one of its instance
pub variable_there : (p : ProgramTree) (m : FlatModel) → IsAccepted p → IsFlatOf p m → (i : ℕ) (x : FlatVariable) → slice_get m.variables i ≡ Some x → IsVariable p x.place x.name x.role x.declared
variable_there p m accepted is i x e =
    let walkable : IsWalkable p = accepted_walkable p accepted in
    let b = both_at_second (IsVariableOf m) (variables_of p) m.variables i x is.variables e in
    let main = main_is_there p walkable in
    let real : RealVariable p b.0 = each_at (RealVariable p) (variables_of p) i b.0 (real_variables p (visits p) (has_main p walkable main.0 main.1)) b.1 in
    subst (λ (t : DeclaredTree). IsVariable p x.place x.name x.role t) (sym b.2.declared)
    (subst (λ (r : Role). IsVariable p x.place x.name r b.0.decl.what) (sym b.2.role)
    (subst (λ (y : Text). IsVariable p x.place y b.0.role b.0.decl.what) (sym b.2.name)
    (subst (λ (a : Place). IsVariable p a b.0.decl.name b.0.role b.0.decl.what) (sym b.2.place) real)))

-- and is declared there
pub variable_declared_as : (p : ProgramTree) (x : FlatVariable) (v : IsVariable p x.place x.name x.role x.declared) → DeclaredAs (items_of v.0) x.name x.role x.declared
variable_declared_as p x v = declared_as (items_of v.0) x.name x.role x.declared (sections_kind v.0.sections x.name ∙ in_sections (formal_from 0 v.0.formals x.name) (kind_in_sections v.0.sections x.name) v.2)
  where
    in_sections : (o : Option ℕ) (k : Kind) → kind_after_formals o k ≡ a_variable x.role x.declared → k ≡ a_variable x.role x.declared
    in_sections None k e = e
    in_sections (Some i) k e = cc
