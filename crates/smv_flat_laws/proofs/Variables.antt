-- The flat variables are the variables of the program's instances.
use Rattle.std.proofs.Common.{◌≡◌, ℕ, zero, suc, Bool, true, false, List, [], ◌∷◌, Option, Some, None, refl, sym, ◌∙◌, ap, subst}
use Rattle.std.specs.Prelude.{slice_get, flat_map, codes, ◌↔◌}
use Rattle.smv_language.specs.Language.{Text, DeclaredTree, boolean, range, members, instance, DeclTree, ModuleTree, ProgramTree, Place, Role, Kind, a_variable, kind_declared, kind_in_sections, formal_from, kind_after_formals, find_module, Each, IsVariable, EachBoth, FlatVariable, FlatModel, same_text}
use Rattle.smv_language.specs.Scope.{a_define}
use Rattle.smv_flat_laws.specs.Items.{Item, a_declaration, a_definition, an_assignment, some_constants, an_init, an_invar, a_trans, NumberedItem, items_of, items_named, Visit, visits_of, walk, visits, variable_declared, variables_of}
use Rattle.smv_flat_laws.specs.Rules.{IsWalkable}
use Rattle.smv_flat_laws.specs.Model.{IsVariableOf, IsFlatOf}
use Rattle.smv_flat_laws.proofs.Conditions.{each_join, each_at}
use Rattle.smv_flat_laws.proofs.KindLaws.{kind_in_items, sections_kind}
use Rattle.smv_flat_laws.proofs.Places.{In, in_flat, Real, Walked, in_items, found_at, walked, has_main}
use Rattle.smv_flat_laws.proofs.Walkable.{main_is_there}
use Rattle.smv_language.proofs.OneTree.{same_text_equal}

-- a variable is declared by an item
pub record DeclaredAs (items : List Item) (x : Text) (role : Role) (what : DeclaredTree) : Type 0 where
  pub place : ℕ
  pub decl : DeclTree
  pub is : slice_get items place ≡ Some (a_declaration role decl)
  pub name : decl.name ≡ x
  pub type : decl.what ≡ what
  pub listed : (v : Visit) → variable_declared v what ≡ v ∷ []

later : (items : List Item) (i : Item) (x : Text) (role : Role) (what : DeclaredTree) → DeclaredAs items x role what → DeclaredAs (i ∷ items) x role what
later items i x role what d = record { place = suc d.place; decl = d.decl; is = d.is; name = d.name; type = d.type; listed = d.listed }

-- what is declared so is of this role and type, and no instance
declared_variable : (r role : Role) (w what : DeclaredTree) → kind_declared r w ≡ a_variable role what → (r ≡ role) × (w ≡ what) × ((v : Visit) → variable_declared v w ≡ v ∷ [])
declared_variable r role boolean what e = (cc, cc, λ v. refl)
declared_variable r role (range lo hi) what e = (cc, cc, λ v. refl)
declared_variable r role (members ms) what e = (cc, cc, λ v. refl)
declared_variable r role (instance m actuals) what e = cc

pub declared_as : (items : List Item) (x : Text) (role : Role) (what : DeclaredTree) → kind_in_items items x ≡ a_variable role what → DeclaredAs items x role what
declared_as [] x role what e = cc
declared_as (a_declaration r d ∷ items) x role what e = by_name (same_text d.name x) refl (λ h. later items _ x role what (declared_as items x role what h))
  where
    by_name : (b : Bool) → same_text d.name x ≡ b → (kind_in_items items x ≡ a_variable role what → DeclaredAs (a_declaration r d ∷ items) x role what) → DeclaredAs (a_declaration r d ∷ items) x role what
    by_name true t rest =
        let is : (r ≡ role) × (d.what ≡ what) × ((v : Visit) → variable_declared v d.what ≡ v ∷ []) = declared_variable r role d.what what (rw t at e) in
        record {
          place = 0;
          decl = d;
          is = ap (λ q. Some (a_declaration q d)) is.0;
          name = same_text_equal d.name x t;
          type = is.1;
          listed = λ v. ap (variable_declared v) (sym is.1) ∙ is.2 v;
        }
    by_name false t rest = rest (rw t at e)
declared_as (a_definition d ∷ items) x role what e = by_name (same_text d.name x) refl (λ h. later items _ x role what (declared_as items x role what h))
  where
    by_name : (b : Bool) → same_text d.name x ≡ b → (kind_in_items items x ≡ a_variable role what → DeclaredAs (a_definition d ∷ items) x role what) → DeclaredAs (a_definition d ∷ items) x role what
    by_name true t rest = let bad : a_define d.value ≡ a_variable role what = rw t at e in cc
    by_name false t rest = rest (rw t at e)
declared_as (an_assignment a ∷ items) x role what e = later items _ x role what (declared_as items x role what e)
declared_as (some_constants xs ∷ items) x role what e = later items _ x role what (declared_as items x role what e)
declared_as (an_init f ∷ items) x role what e = later items _ x role what (declared_as items x role what e)
declared_as (an_invar f ∷ items) x role what e = later items _ x role what (declared_as items x role what e)
declared_as (a_trans f ∷ items) x role what e = later items _ x role what (declared_as items x role what e)

-- two lists that go together, at a place
pub both_at : {A B : Type 0} (R : A → B → Type 0) (xs : List A) (ys : List B) (i : ℕ) (x : A) → EachBoth R xs ys → slice_get xs i ≡ Some x → (y : B) × (slice_get ys i ≡ Some y) × R x y
both_at R [] [] i x h e = cc
both_at R [] (y ∷ ys) i x h e = absurd h
both_at R (z ∷ xs) [] i x h e = absurd h
both_at R (z ∷ xs) (y ∷ ys) zero x h e = let same : z ≡ x = cc in (y, refl, subst (λ w. R w y) same h.0)
both_at R (z ∷ xs) (y ∷ ys) (suc i) x h e = both_at R xs ys i x h.1 e

pub both_at_second : {A B : Type 0} (R : A → B → Type 0) (xs : List A) (ys : List B) (i : ℕ) (y : B) → EachBoth R xs ys → slice_get ys i ≡ Some y → (x : A) × (slice_get xs i ≡ Some x) × R x y
both_at_second R [] [] i y h e = cc
both_at_second R [] (z ∷ ys) i y h e = absurd h
both_at_second R (x ∷ xs) [] i y h e = absurd h
both_at_second R (x ∷ xs) (z ∷ ys) zero y h e = let same : z ≡ y = cc in (x, refl, subst (R x) same h.0)
both_at_second R (x ∷ xs) (z ∷ ys) (suc i) y h e = both_at_second R xs ys i y h.1 e

module _ (p : ProgramTree) where
  -- what is visited is a variable of its instance
  abbrev pub RealVariable : Visit → Type 0
  RealVariable v = IsVariable p v.place v.decl.name v.role v.decl.what

  real_one : (v : Visit) (what : DeclaredTree) → v.decl.what ≡ what → Real p v → Each RealVariable (variable_declared v what)
  real_one v boolean e r = ((r.tree, r.is, r.kind ∙ ap (kind_declared v.role) e ∙ ap (a_variable v.role) (sym e)), tt)
  real_one v (range lo hi) e r = ((r.tree, r.is, r.kind ∙ ap (kind_declared v.role) e ∙ ap (a_variable v.role) (sym e)), tt)
  real_one v (members ms) e r = ((r.tree, r.is, r.kind ∙ ap (kind_declared v.role) e ∙ ap (a_variable v.role) (sym e)), tt)
  real_one v (instance m actuals) e r = tt

  pub real_variables : (vs : List Visit) → Each (Real p) vs → Each RealVariable (flat_map (λ v. variable_declared v v.decl.what) vs)
  real_variables [] h = tt
  real_variables (v ∷ vs) h =
      each_join RealVariable (variable_declared v v.decl.what) (flat_map (λ v. variable_declared v v.decl.what) vs) (real_one v v.decl.what refl h.0) (real_variables vs h.1)

module _ (p : ProgramTree) (walkable : IsWalkable p) where
  -- a variable of an instance is visited
  pub listed : (at : Place) (x : Text) (role : Role) (type : DeclaredTree) → IsVariable p at x role type →
      (v : Visit) × In v (variables_of p) × (v.place ≡ at) × (v.decl.name ≡ x) × (v.role ≡ role) × (v.decl.what ≡ type)
  listed at x role type is = (visit, in_flat (λ (v : Visit). variable_declared v v.decl.what) visit visit (visits p) within.0 within.1 in_own, refl, by.name, refl, by.type)
    where
      w : Walked p walkable at is.0
      w = walked p walkable at is.0 is.1

      in_sections : (o : Option ℕ) (k : Kind) → kind_after_formals o k ≡ a_variable role type → k ≡ a_variable role type
      in_sections None k e = e
      in_sections (Some i) k e = cc

      by : DeclaredAs (items_of is.0) x role type
      by = declared_as (items_of is.0) x role type (sections_kind is.0.sections x ∙ in_sections (formal_from 0 is.0.formals x) (kind_in_sections is.0.sections x) is.2)

      item : (y : NumberedItem) × (slice_get (items_named p w.name) by.place ≡ Some y) × (y.item ≡ a_declaration role by.decl)
      item = found_at p walkable p 1 [] w.name is.0 by.place (a_declaration role by.decl) w.found by.is

      go : Place → Text → List Visit
      go = walk w.left p (w.name ∷ w.on)

      visit : Visit
      visit = record { place = at; on_path = w.name ∷ w.on; number = item.0.number; role = role; decl = by.decl }

      within : In visit (visits p)
      within = w.sub visit (in_items p walkable go (w.name ∷ w.on) at visit (items_named p w.name) by.place item.0 item.1
          (subst (λ i. In visit (visits_of go (w.name ∷ w.on) at item.0.number i)) (sym item.2) (0, refl)))

      in_own : In visit (variable_declared visit by.decl.what)
      in_own = subst (λ t. In visit (variable_declared visit t)) (sym by.type) (subst (In visit) (sym (by.listed visit)) (0, refl))

  -- the numbered variables are those of the program
  pub variables_are : (m : FlatModel) → IsFlatOf p m → (at : Place) (x : Text) →
      (((role : Role) × (type : DeclaredTree) × IsVariable p at x role type)
      ↔ ((i : ℕ) × (v : FlatVariable) × (slice_get m.variables i ≡ Some v) × (v.place ≡ at) × (v.name ≡ x)))
  variables_are m is at x = (to, from)
    where
      to : (role : Role) × (type : DeclaredTree) × IsVariable p at x role type → (i : ℕ) × (v : FlatVariable) × (slice_get m.variables i ≡ Some v) × (v.place ≡ at) × (v.name ≡ x)
      to h =
          let l : (v : Visit) × In v (variables_of p) × (v.place ≡ at) × (v.decl.name ≡ x) × (v.role ≡ h.0) × (v.decl.what ≡ h.1) = listed at x h.0 h.1 h.2 in
          let b : (y : FlatVariable) × (slice_get m.variables l.1.0 ≡ Some y) × IsVariableOf m l.0 y = both_at (IsVariableOf m) (variables_of p) m.variables l.1.0 l.0 is.variables l.1.1 in
          (l.1.0, b.0, b.1, b.2.place ∙ l.2, b.2.name ∙ l.3)

      from : (i : ℕ) × (v : FlatVariable) × (slice_get m.variables i ≡ Some v) × (v.place ≡ at) × (v.name ≡ x) → (role : Role) × (type : DeclaredTree) × IsVariable p at x role type
      from h =
          let b : (v : Visit) × (slice_get (variables_of p) h.0 ≡ Some v) × IsVariableOf m v h.1 = both_at_second (IsVariableOf m) (variables_of p) m.variables h.0 h.1 is.variables h.2 in
          let main : (k : ModuleTree) × (find_module p (codes "main") ≡ Some k) = main_is_there p walkable in
          let real : RealVariable p b.0 = each_at (RealVariable p) (variables_of p) h.0 b.0 (real_variables p (visits p) (has_main p walkable main.0 main.1)) b.1 in (
            b.0.role,
            b.0.decl.what,
            subst (λ y. IsVariable p at y b.0.role b.0.decl.what) (sym b.2.name ∙ h.4)
                (subst (λ a. IsVariable p a b.0.decl.name b.0.role b.0.decl.what) (sym b.2.place ∙ h.3) real),
          )
