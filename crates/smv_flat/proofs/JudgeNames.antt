-- What is found for a name tells whether it has no value, and whether it gives an input.
use Rattle.std.proofs.Common.{◌≡◌, ℕ, Bool, true, List, Some, refl, sym, ◌∙◌, ap, subst, inl, inr}
use Rattle.std.specs.Prelude.{◌↔◌, IsTrue, slice_get, codes}
use Rattle.smv_language.specs.Language.{Text, Path, Formula, DeclaredTree, instance, ModuleTree, ProgramTree, Place, a_variable, kind_at, module_at, Key, Meaning, a_variable_at, an_expression_at, an_instance_at, Means, find_module, EachBoth, role_of}
use Rattle.smv_language.specs.Scope.{a_symbol}
use Rattle.smv_flat_laws.specs.Items.{Visit, visits, variables_of}
use Rattle.smv_flat_laws.specs.Looks.{MeansNothing, MeetsLoop}
use Rattle.smv_flat_laws.specs.Rules.{HasNoValue, nothing, only_an_instance, ReadsInput, GivesInput, is_input_kind, IsWalkable}
use Rattle.smv_flat_laws.specs.Model.{Root, roots_of}
use Rattle.smv_flat_laws.proofs.Conditions.{each_at}
use Rattle.smv_flat_laws.proofs.Places.{has_main}
use Rattle.smv_flat_laws.proofs.Variables.{both_at, RealVariable, real_variables}
use Rattle.smv_flat_laws.proofs.Walkable.{main_is_there}
use Rattle.smv_scope.specs.SceneTree.{Denotes, IsFound}
use Rattle.smv_scope.specs.NeedsTree.{AreNeeds, KeyReadsInput, HasInput, HasCircle, keys_of}
use Rattle.smv_flat.specs.Verdicts.{is_without_value, is_input_found, is_circle_found}
use Rattle.smv_language.specs.declared.model.Role.TheVariants.{State, Input, Frozen}
use Rattle.smv_scope.specs.declared.needs.Needs.{Needs}
use Rattle.smv_scope.specs.declared.walk.Meaning.{Meaning as Found}
use Rattle.smv_scope.specs.declared.walk.Meaning.TheVariants as found
use Rattle.smv_flat.proofs.JudgeLists.{never}
use Rattle.smv_scope.proofs.KeyLaws.{same_means}
use Rattle.smv_scope.proofs.LookFound.{no_loop_meant}
use Rattle.std.proofs.lemmas.Option.{none-some as none_some}
use Rattle.smv_scope.specs.Links.{is_marked}
use Rattle.smv_language.proofs.ListLaws.{get_map}
use Rattle.base_values.specs.Marks.{is_set}

pub not_nothing : (p : ProgramTree) (at : Place) (name : Path) (m : Meaning) → Means p at name m → MeansNothing p at name → ⊥
not_nothing p at name m h k = none_some m (sym (k.no_meaning h.0) ∙ h.1)

-- what means something else than an instance has a value
has_value : (p : ProgramTree) (at : Place) (name : Path) (m : Meaning) → Means p at name m → ((inside : Place) → m ≡ an_instance_at inside → ⊥) → HasNoValue p at name → ⊥
has_value p at name m h other (nothing k) = not_nothing p at name m h k
has_value p at name m h other (only_an_instance inside k) = other inside (same_means p at name m (an_instance_at inside) h k)

loop_has_value : (p : ProgramTree) (at : Place) (name : Path) → MeetsLoop p at name → HasNoValue p at name → ⊥
loop_has_value p at name h (nothing k) = k.no_loop h
loop_has_value p at name h (only_an_instance inside k) = no_loop_meant p at name (an_instance_at inside) k h

instance_has_none : (p : ProgramTree) (at : Place) (name : Path) (k : ℕ) (m : Meaning) → Means p at name m → Denotes p (found.Instance k) m → HasNoValue p at name
instance_has_none p at name k (an_instance_at inside) h d = only_an_instance inside h
instance_has_none p at name k (a_variable_at place x) h d = absurd d
instance_has_none p at name k (an_expression_at key place e) h d = absurd d
instance_has_none p at name k (a_symbol x) h d = absurd d

variable_no_instance : (p : ProgramTree) (k : ℕ) (role : _) (m : Meaning) → Denotes p (found.Variable k role) m → (inside : Place) → m ≡ an_instance_at inside → ⊥
variable_no_instance p k role (a_variable_at place x) d inside e = cc
variable_no_instance p k role (an_instance_at place) d inside e = absurd d
variable_no_instance p k role (an_expression_at key place f) d inside e = cc
variable_no_instance p k role (a_symbol x) d inside e = cc

definition_no_instance : (p : ProgramTree) (k : ℕ) (m : Meaning) → Denotes p (found.Definition k) m → (inside : Place) → m ≡ an_instance_at inside → ⊥
definition_no_instance p k (a_variable_at place x) d inside e = cc
definition_no_instance p k (an_instance_at place) d inside e = absurd d
definition_no_instance p k (an_expression_at key place f) d inside e = cc
definition_no_instance p k (a_symbol x) d inside e = cc

symbol_no_instance : (p : ProgramTree) (k : ℕ) (m : Meaning) → Denotes p (found.Symbol k) m → (inside : Place) → m ≡ an_instance_at inside → ⊥
symbol_no_instance p k (a_variable_at place x) d inside e = cc
symbol_no_instance p k (an_instance_at place) d inside e = absurd d
symbol_no_instance p k (an_expression_at key place f) d inside e = cc
symbol_no_instance p k (a_symbol x) d inside e = cc

pub without_value : (p : ProgramTree) (at : Place) (name : Path) (f : Found) → IsFound p at name f → (is_without_value f ≡ true) ↔ HasNoValue p at name
without_value p at name found.Nothing h = (λ e. nothing h, λ k. refl)
without_value p at name found.Loop h = (λ e. never e, λ k. absurd (loop_has_value p at name h k))
without_value p at name (found.Instance k) h = (λ e. instance_has_none p at name k h.0 h.1 h.2, λ q. refl)
without_value p at name (found.Variable k role) h = (λ e. never e, λ q. absurd (has_value p at name h.0 h.1 (variable_no_instance p k role h.0 h.2) q))
without_value p at name (found.Definition k) h = (λ e. never e, λ q. absurd (has_value p at name h.0 h.1 (definition_no_instance p k h.0 h.2) q))
without_value p at name (found.Symbol k) h = (λ e. never e, λ q. absurd (has_value p at name h.0 h.1 (symbol_no_instance p k h.0 h.2) q))

-- Variables have the kind that they are declared with.
pub record IsRealVariable (p : ProgramTree) (v : Visit) : Type 0 where
  pub what : DeclaredTree
  pub kind : kind_at (module_at p v.place) v.decl.name ≡ a_variable v.role what

pub variable_is_real : (p : ProgramTree) → IsWalkable p → (k : ℕ) (v : Visit) → slice_get (variables_of p) k ≡ Some v → IsRealVariable p v
variable_is_real p walkable k v e =
    let m : (m : ModuleTree) × (find_module p (codes "main") ≡ Some m) = main_is_there p walkable in
    let real : RealVariable p v = each_at (RealVariable p) (variables_of p) k v (real_variables p (visits p) (has_main p walkable m.0 m.1)) e in
    record { what = v.decl.what; kind = ap (λ o. kind_at o v.decl.name) real.1 ∙ real.2 }

-- the kind of a variable that is found
pub found_kind : (p : ProgramTree) → IsWalkable p → (k : ℕ) (role : _) (at : Place) (x : Text) → Denotes p (found.Variable k role) (a_variable_at at x) →
    (what : DeclaredTree) × (kind_at (module_at p at) x ≡ a_variable (role_of role) what)
found_kind p walkable k role at x d =
    let r : IsRealVariable p d.0 = variable_is_real p walkable k d.0 d.1 in (
      r.what,
      subst (λ a. kind_at (module_at p a) x ≡ a_variable (role_of role) r.what) d.2
          (subst (λ y. kind_at (module_at p d.0.place) y ≡ a_variable (role_of role) r.what) d.3 (r.kind ∙ ap (λ q. a_variable q r.what) d.4)),
    )

-- The marks of a definition.
mark_of : (R : Key → Bool → Type 0) (p : ProgramTree) (marks : List Bool) → EachBoth R (keys_of p) marks → (k : ℕ) (key : Key) (at : Place) (e : Formula) →
    Denotes p (found.Definition k) (an_expression_at key at e) → R key (is_marked marks k)
mark_of R p marks both k key at e d =
    let listed : slice_get (keys_of p) k ≡ Some d.0.key = get_map (λ (r : Root). r.key) (roots_of p) k d.0 d.1 in
    let m : (b : Bool) × (slice_get marks k ≡ Some b) × R d.0.key b = both_at R (keys_of p) marks k d.0.key both listed in
    subst (λ q. R q (is_marked marks k)) d.2 (subst (R d.0.key) (sym (ap is_set m.1)) m.2)

pub definition_circles : (p : ProgramTree) (n : Needs) → AreNeeds p n → (k : ℕ) (key : Key) (at : Place) (e : Formula) →
    Denotes p (found.Definition k) (an_expression_at key at e) → HasCircle p key (is_circle_found n (found.Definition k))
definition_circles p n needs k key at e d = mark_of (HasCircle p) p n.on_circle.items needs.circles k key at e d

definition_reads : (p : ProgramTree) (n : Needs) → AreNeeds p n → (k : ℕ) (key : Key) (at : Place) (e : Formula) →
    Denotes p (found.Definition k) (an_expression_at key at e) → HasInput p key (is_input_found n (found.Definition k))
definition_reads p n needs k key at e d = mark_of (HasInput p) p n.reads_input.items needs.inputs k key at e d

-- what a name reads by its meaning
reads_by : (p : ProgramTree) (at : Place) (name : Path) (key : Key) (place : Place) (e : Formula) → Means p at name (an_expression_at key place e) → KeyReadsInput p key → ReadsInput p at name
reads_by p at name key place e h k = record {
  first = key;
  place = place;
  written = e;
  means = h;
  steps = k.steps;
  last = k.last;
  leads = k.leads;
  last_place = k.place;
  last_written = k.written;
  is = k.is;
  names_input = k.names_input;
}

read_key : (p : ProgramTree) (at : Place) (name : Path) (r : ReadsInput p at name) → KeyReadsInput p r.first
read_key p at name r = record { steps = r.steps; last = r.last; leads = r.leads; place = r.last_place; written = r.last_written; is = r.is; names_input = r.names_input }

-- what means neither a variable nor an expression gives no input
no_input : (p : ProgramTree) (at : Place) (name : Path) (m : Meaning) → Means p at name m → ((place : Place) (x : Text) → m ≡ a_variable_at place x → ⊥) →
    ((key : Key) (place : Place) (e : Formula) → m ≡ an_expression_at key place e → ⊥) → GivesInput p at name → ⊥
no_input p at name m h f g (inl v) = f v.0 v.1 (same_means p at name m (a_variable_at v.0 v.1) h v.2)
no_input p at name m h f g (inr r) = g r.first r.place r.written (same_means p at name m (an_expression_at r.first r.place r.written) h r.means)

nothing_gives_none : (p : ProgramTree) (at : Place) (name : Path) → MeansNothing p at name → GivesInput p at name → ⊥
nothing_gives_none p at name h (inl v) = not_nothing p at name (a_variable_at v.0 v.1) v.2 h
nothing_gives_none p at name h (inr r) = not_nothing p at name (an_expression_at r.first r.place r.written) r.means h

loop_gives_none : (p : ProgramTree) (at : Place) (name : Path) → MeetsLoop p at name → GivesInput p at name → ⊥
loop_gives_none p at name h (inl v) = no_loop_meant p at name (a_variable_at v.0 v.1) v.2 h
loop_gives_none p at name h (inr r) = no_loop_meant p at name (an_expression_at r.first r.place r.written) r.means h

instance_gives_none : (p : ProgramTree) (at : Place) (name : Path) (k : ℕ) (m : Meaning) → Means p at name m → Denotes p (found.Instance k) m → GivesInput p at name → ⊥
instance_gives_none p at name k (an_instance_at inside) h d = no_input p at name (an_instance_at inside) h (λ place x e. cc) (λ key place f e. cc)
instance_gives_none p at name k (a_variable_at place x) h d = absurd d
instance_gives_none p at name k (an_expression_at key place e) h d = absurd d
instance_gives_none p at name k (a_symbol x) h d = absurd d

symbol_gives_none : (p : ProgramTree) (at : Place) (name : Path) (k : ℕ) (m : Meaning) → Means p at name m → Denotes p (found.Symbol k) m → GivesInput p at name → ⊥
symbol_gives_none p at name k (a_symbol y) h d = no_input p at name (a_symbol y) h (λ place x e. cc) (λ key place f e. cc)
symbol_gives_none p at name k (a_variable_at place x) h d = absurd d
symbol_gives_none p at name k (an_expression_at key place e) h d = absurd d
symbol_gives_none p at name k (an_instance_at inside) h d = absurd d

same_place_of : (a b : Place) (x y : Text) → a_variable_at a x ≡ a_variable_at b y → a ≡ b
same_place_of a b x y e = cc

same_text_of : (a b : Place) (x y : Text) → a_variable_at a x ≡ a_variable_at b y → x ≡ y
same_text_of a b x y e = cc

-- a variable gives an input where its kind is one
variable_gives : (p : ProgramTree) (at : Place) (name : Path) (place : Place) (x : Text) → Means p at name (a_variable_at place x) →
    GivesInput p at name → IsTrue (is_input_kind (kind_at (module_at p place) x))
variable_gives p at name place x h (inl v) =
    let same : a_variable_at v.0 v.1 ≡ a_variable_at place x = same_means p at name (a_variable_at v.0 v.1) (a_variable_at place x) v.2 h in
    subst (λ a. IsTrue (is_input_kind (kind_at (module_at p a) x))) (same_place_of v.0 place v.1 x same)
    (subst (λ y. IsTrue (is_input_kind (kind_at (module_at p v.0) y))) (same_text_of v.0 place v.1 x same) v.3)
variable_gives p at name place x h (inr r) = absurd (other r.first r.place r.written (same_means p at name (a_variable_at place x) (an_expression_at r.first r.place r.written) h r.means))
  where
    other : (key : Key) (b : Place) (e : Formula) → a_variable_at place x ≡ an_expression_at key b e → ⊥
    other key b e same = cc

variable_input : (p : ProgramTree) → IsWalkable p → (at : Place) (name : Path) (k : ℕ) (m : Meaning) → Means p at name m → Denotes p (found.Variable k Input) m → GivesInput p at name
variable_input p walkable at name k (a_variable_at place x) h d =
    let kind : (what : DeclaredTree) × (kind_at (module_at p place) x ≡ a_variable (role_of Input) what) = found_kind p walkable k Input place x d in
    inl (place, x, h, ap is_input_kind kind.1)
variable_input p walkable at name k (an_instance_at inside) h d = absurd d
variable_input p walkable at name k (an_expression_at key place e) h d = absurd d
variable_input p walkable at name k (a_symbol x) h d = absurd d

state_gives_none : (p : ProgramTree) → IsWalkable p → (at : Place) (name : Path) (k : ℕ) (m : Meaning) → Means p at name m → Denotes p (found.Variable k State) m → GivesInput p at name → ⊥
state_gives_none p walkable at name k (a_variable_at place x) h d g =
    let kind : (what : DeclaredTree) × (kind_at (module_at p place) x ≡ a_variable (role_of State) what) = found_kind p walkable k State place x d in
    never (sym (ap is_input_kind kind.1) ∙ variable_gives p at name place x h g)
state_gives_none p walkable at name k (an_instance_at inside) h d g = absurd d
state_gives_none p walkable at name k (an_expression_at key place e) h d g = absurd d
state_gives_none p walkable at name k (a_symbol x) h d g = absurd d

frozen_gives_none : (p : ProgramTree) → IsWalkable p → (at : Place) (name : Path) (k : ℕ) (m : Meaning) → Means p at name m → Denotes p (found.Variable k Frozen) m → GivesInput p at name → ⊥
frozen_gives_none p walkable at name k (a_variable_at place x) h d g =
    let kind : (what : DeclaredTree) × (kind_at (module_at p place) x ≡ a_variable (role_of Frozen) what) = found_kind p walkable k Frozen place x d in
    never (sym (ap is_input_kind kind.1) ∙ variable_gives p at name place x h g)
frozen_gives_none p walkable at name k (an_instance_at inside) h d g = absurd d
frozen_gives_none p walkable at name k (an_expression_at key place e) h d g = absurd d
frozen_gives_none p walkable at name k (a_symbol x) h d g = absurd d

definition_input : (p : ProgramTree) (n : Needs) → AreNeeds p n → (at : Place) (name : Path) (k : ℕ) (m : Meaning) → Means p at name m → Denotes p (found.Definition k) m →
    (is_input_found n (found.Definition k) ≡ true) ↔ GivesInput p at name
definition_input p n needs at name k (an_expression_at key place e) h d = (λ t. inr (reads_by p at name key place e h (law.0 t)), back)
  where
    law : HasInput p key (is_input_found n (found.Definition k))
    law = definition_reads p n needs k key place e d

    same_key : (a b : Key) (s t : Place) (f g : Formula) → an_expression_at a s f ≡ an_expression_at b t g → a ≡ b
    same_key a b s t f g same = cc

    other : (b : Place) (x : Text) → an_expression_at key place e ≡ a_variable_at b x → ⊥
    other b x same = cc

    back : GivesInput p at name → is_input_found n (found.Definition k) ≡ true
    back (inl v) = absurd (other v.0 v.1 (same_means p at name (an_expression_at key place e) (a_variable_at v.0 v.1) h v.2))
    back (inr r) = law.1 (subst (KeyReadsInput p) (same_key r.first key r.place place r.written e
        (same_means p at name (an_expression_at r.first r.place r.written) (an_expression_at key place e) r.means h)) (read_key p at name r))
definition_input p n needs at name k (a_variable_at place x) h d = absurd d
definition_input p n needs at name k (an_instance_at inside) h d = absurd d
definition_input p n needs at name k (a_symbol x) h d = absurd d

pub gives_input : (p : ProgramTree) → IsWalkable p → (n : Needs) → AreNeeds p n → (at : Place) (name : Path) (f : Found) → IsFound p at name f →
    (is_input_found n f ≡ true) ↔ GivesInput p at name
gives_input p walkable n needs at name found.Nothing h = (λ e. never e, λ g. absurd (nothing_gives_none p at name h g))
gives_input p walkable n needs at name found.Loop h = (λ e. never e, λ g. absurd (loop_gives_none p at name h g))
gives_input p walkable n needs at name (found.Instance k) h = (λ e. never e, λ g. absurd (instance_gives_none p at name k h.0 h.1 h.2 g))
gives_input p walkable n needs at name (found.Variable k Input) h = (λ e. variable_input p walkable at name k h.0 h.1 h.2, λ g. refl)
gives_input p walkable n needs at name (found.Variable k State) h = (λ e. never e, λ g. absurd (state_gives_none p walkable at name k h.0 h.1 h.2 g))
gives_input p walkable n needs at name (found.Variable k Frozen) h = (λ e. never e, λ g. absurd (frozen_gives_none p walkable at name k h.0 h.1 h.2 g))
gives_input p walkable n needs at name (found.Definition k) h = definition_input p n needs at name k h.0 h.1 h.2
gives_input p walkable n needs at name (found.Symbol k) h = (λ e. never e, λ g. absurd (symbol_gives_none p at name k h.0 h.1 h.2 g))
