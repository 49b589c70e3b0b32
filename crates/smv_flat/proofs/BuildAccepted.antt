-- What the rules give at each item of each instance of an accepted program.
use Rattle.std.proofs.Common.{◌≡◌, ℕ, zero, suc, true, false, List, [], ◌∷◌, ◌++◌, Some, refl, ◌∙◌, ap, subst}
use Rattle.std.specs.Prelude.{slice_get, map, flat_map}
use Rattle.smv_language.specs.Language.{Text, Formula, DeclaredTree, boolean, range, members, instance, DeclTree, DefineTree, AssignmentTree, ModuleTree, ProgramTree, Place, Role, state, input, frozen_role, Kind, a_formal, a_variable, an_instance, undeclared, kind_declared, kind_in, kind_at, module_at, find_module, nth_formula, a_variable_at, Means, means_in, by_kind, Each, IsInstance, FlatInstance}
use Rattle.smv_language.specs.declared.program.Moment.{Moment}
use Rattle.smv_language.specs.declared.program.Moment.TheVariants.{Always, First, After}
use Rattle.smv_language.specs.Scope.{a_define}
use Rattle.smv_flat_laws.specs.NameResolution.{has_next}
use Rattle.smv_flat_laws.specs.Items.{a_declaration, a_definition, an_assignment, NumberedItem, items_of, items_named, visits, instances_of}
use Rattle.smv_flat_laws.specs.Rules.{a_use, visit_sites, use_sites, IsKept, IsWalkable, IsAccepted, names_of_item, is_name_again, not_a_target, SomeHasNoValue, may_be_assigned, is_target, expression_of, NeedsItself}
use Rattle.smv_flat_laws.specs.Model.{Root}
use Rattle.smv_flat_laws.proofs.Reaches.{each_right}
use Rattle.smv_flat_laws.proofs.Lists.{each_of_map}
use Rattle.smv_flat_laws.proofs.Conditions.{each_flat, each_at}
use Rattle.smv_flat_laws.proofs.Sections.{AreInstances}
use Rattle.smv_flat_laws.proofs.KindLaws.{ItemFacts, kind_of_declaration, kind_of_definition}
use Rattle.smv_flat_laws.proofs.Places.{facts_named, are_instances}
use Rattle.smv_flat_laws.proofs.Walkable.{accepted_walkable, main_is_there}
use Rattle.std.proofs.lemmas.Bool.{true_from_ne_false as not_false}

pub nth_slice : (es : List Formula) (i : ℕ) → nth_formula es i ≡ slice_get es i
nth_slice [] i = refl
nth_slice (e ∷ es) zero = refl
nth_slice (e ∷ es) (suc i) = nth_slice es i

-- what is told of a definition that breaks no rule
pub record IsGoodRoot (p : ProgramTree) (r : Root) : Type 0 where
  pub free : NeedsItself p r.key → ⊥
  pub at : Place
  pub written : Formula
  pub is : expression_of p r.key ≡ Some (at, written)
  pub now : has_next written ≡ false
  pub named : SomeHasNoValue p at written → ⊥

module _ (p : ProgramTree) (accepted : IsAccepted p) where
  pub walkable : IsWalkable p
  walkable = accepted_walkable p accepted

  pub are : AreInstances p
  are = are_instances p walkable (main_is_there p walkable).0 (main_is_there p walkable).1

  uses : Each (IsKept p) (use_sites p)
  uses = each_right (IsKept p) (visit_sites [] (visits p)) (use_sites p) (each_right (IsKept p) _ _ accepted.1)

  -- an item of an instance breaks no rule
  pub kept_at : (i : ℕ) (x : FlatInstance) → slice_get (instances_of p) i ≡ Some x → (j : ℕ) (n : NumberedItem) → slice_get (items_named p x.module_name) j ≡ Some n → IsKept p (a_use x n)
  kept_at i x e j n f =
      each_at (λ n. IsKept p (a_use x n)) (items_named p x.module_name) j n
      (each_of_map (IsKept p) (a_use x) (items_named p x.module_name)
      (each_at (λ x. Each (IsKept p) (map (a_use x) (items_named p x.module_name))) (instances_of p) i x ((each_flat (IsKept p) (λ x. map (a_use x) (items_named p x.module_name)) (instances_of p)).0 uses) e)) f

  -- an item of an instance with what it makes of its name
  pub record ItemAt (x : FlatInstance) (n : NumberedItem) : Type 0 where
    pub tree : ModuleTree
    pub is : IsInstance p x.place tree
    pub found : find_module p x.module_name ≡ Some tree
    pub facts : ItemFacts tree n

  pub item_at : (i : ℕ) (x : FlatInstance) → slice_get (instances_of p) i ≡ Some x → (j : ℕ) (n : NumberedItem) → slice_get (items_named p x.module_name) j ≡ Some n → ItemAt x n
  item_at i x e j n f =
      let k : (m : ModuleTree) × IsInstance p x.place m × (find_module p x.module_name ≡ Some m) = are.real i x e in
      record { tree = k.0; is = k.1; found = k.2; facts = each_at (ItemFacts k.0) (items_named p x.module_name) j n (facts_named p walkable x.module_name k.0 k.2) f }

  kind_there : (at : Place) (m : ModuleTree) (x : Text) (k : Kind) → IsInstance p at m → kind_in m x ≡ k → kind_at (module_at p at) x ≡ k
  kind_there at m x k is e = ap (λ o. kind_at o x) is ∙ e

  pub fresh_declared : (x : FlatInstance) (n : NumberedItem) (role : Role) (d : DeclTree) → ItemAt x n → n.item ≡ a_declaration role d → kind_at (module_at p x.place) d.name ≡ kind_declared role d.what
  fresh_declared x n role d t e =
      kind_there x.place t.tree d.name (kind_declared role d.what) t.is
      (kind_of_declaration t.tree n.before role d t.facts.after (subst (λ i. items_of t.tree ≡ n.before ++ i ∷ t.facts.after) e t.facts.among)
      (subst (λ i. is_name_again (t.tree.formals ++ flat_map names_of_item n.before) (names_of_item i) ≡ false) e t.facts.fresh))

  pub fresh_defined : (x : FlatInstance) (n : NumberedItem) (d : DefineTree) → ItemAt x n → n.item ≡ a_definition d → kind_at (module_at p x.place) d.name ≡ a_define d.value
  fresh_defined x n d t e =
      kind_there x.place t.tree d.name (a_define d.value) t.is
      (kind_of_definition t.tree n.before d t.facts.after (subst (λ i. items_of t.tree ≡ n.before ++ i ∷ t.facts.after) e t.facts.among)
      (subst (λ i. is_name_again (t.tree.formals ++ flat_map names_of_item n.before) (names_of_item i) ≡ false) e t.facts.fresh))

  -- a variable means itself
  variable_means : (at : Place) (x : Text) (role : Role) (what : DeclaredTree) → kind_at (module_at p at) x ≡ a_variable role what → Means p at (x ∷ []) (a_variable_at at x)
  variable_means at x role what e = (1, ap (λ k. by_kind (means_in 0 p) p at k x []) e)

  target_variable : (when : Moment) (k : Kind) → may_be_assigned when k ≡ true → (role : Role) × (what : DeclaredTree) × (k ≡ a_variable role what)
  target_variable when (a_variable state what) h = (state, what, refl)
  target_variable Always (a_variable input what) h = cc
  target_variable First (a_variable input what) h = cc
  target_variable After (a_variable input what) h = cc
  target_variable Always (a_variable frozen_role what) h = cc
  target_variable First (a_variable frozen_role what) h = (frozen_role, what, refl)
  target_variable After (a_variable frozen_role what) h = cc
  target_variable Always (a_formal i) h = cc
  target_variable First (a_formal i) h = cc
  target_variable After (a_formal i) h = cc
  target_variable Always (a_define e) h = cc
  target_variable First (a_define e) h = cc
  target_variable After (a_define e) h = cc
  target_variable Always (an_instance m as') h = cc
  target_variable First (an_instance m as') h = cc
  target_variable After (an_instance m as') h = cc
  target_variable Always undeclared h = cc
  target_variable First undeclared h = cc
  target_variable After undeclared h = cc

  -- the target of an assignment is a variable of its own module
  pub target_means : (x : FlatInstance) (n : NumberedItem) (a : AssignmentTree) (y : Text) → IsKept p (a_use x n) → n.item ≡ an_assignment a → a.target ≡ y ∷ [] → Means p x.place (y ∷ []) (a_variable_at x.place y)
  target_means x n a y kept e t =
      let assigned : IsKept p (a_use x (record n { item = an_assignment a })) = subst (λ i. IsKept p (a_use x (record n { item = i }))) e kept in
      let test : is_target p x.place a.when a.target ≡ true = not_false (is_target p x.place a.when a.target) (assigned not_a_target) in
      let v : (role : Role) × (what : DeclaredTree) × (kind_at (module_at p x.place) y ≡ a_variable role what) =
      target_variable a.when (kind_at (module_at p x.place) y) (subst (λ t. is_target p x.place a.when t ≡ true) t test) in
      variable_means x.place y v.0 v.1 v.2

  -- a declared variable means itself
  plain_kind : (role : Role) (what : DeclaredTree) → ((m : Text) (actuals : List Formula) → what ≡ instance m actuals → ⊥) → kind_declared role what ≡ a_variable role what
  plain_kind role boolean h = refl
  plain_kind role (range lo hi) h = refl
  plain_kind role (members ms) h = refl
  plain_kind role (instance m actuals) h = absurd (h m actuals refl)

  pub declared_means : (x : FlatInstance) (n : NumberedItem) (role : Role) (d : DeclTree) → ItemAt x n → n.item ≡ a_declaration role d →
      ((m : Text) (actuals : List Formula) → d.what ≡ instance m actuals → ⊥) → Means p x.place (d.name ∷ []) (a_variable_at x.place d.name)
  declared_means x n role d t e other = variable_means x.place d.name role d.what (fresh_declared x n role d t e ∙ plain_kind role d.what other)
