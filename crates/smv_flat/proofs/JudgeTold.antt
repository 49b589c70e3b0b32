-- What is told of each kind of item at its place in the module of an instance.
use Rattle.std.proofs.Common.{◌≡◌, ℕ, Bool, true, false, List, [], ◌∷◌, Option, Some, None, map, refl, sym, ◌∙◌, ap, subst, Bor}
use Rattle.std.specs.Prelude.{slice_get, Result, IfOk}
use Rattle.std.proofs.lemmas.Result.{IfOk-weaker}
use Rattle.smv_language.specs.declared.expr.Expr.{Expr}
use Rattle.smv_language.specs.declared.program.Assignment.{Assignment}
use Rattle.smv_language.specs.declared.program.Decl.{Decl}
use Rattle.smv_language.specs.declared.program.Define.{Define}
use Rattle.smv_language.specs.Language.{tree_of, Text, Path, Formula, DeclaredTree, boolean, range, members, instance, DeclTree, DefineTree, ModuleTree, ProgramTree, decl_tree, define_tree, assignment_tree, Place, Role, define_key, an_expression_at, an_instance_at, find_module, FlatInstance, role_of}
use Rattle.smv_flat_laws.specs.Items.{Item, a_declaration, a_definition, an_assignment, some_constants, an_init, an_invar, a_trans, NumberedItem, items_named, instances_of}
use Rattle.smv_flat_laws.specs.Rules.{a_use}
use Rattle.smv_flat.specs.Assignments.{IsItemTold}
use Rattle.smv_scope.specs.Faults.{first_of}
use Rattle.smv_scope.specs.TableLookUps.{own_at}
use Rattle.smv_scope.specs.ItemTree.{item_tree}
use Rattle.smv_scope.specs.NeedsTree.{AreNeeds, HasCircle}
use Rattle.smv_scope.specs.SceneTree.{Denotes, meaning_of_item, IsOwnMeaning, IsScene, program_of}
use Rattle.smv_flat.specs.Verdicts.{is_circle_found, IsTold, IsToldOf, IsToldHere, AreActuals, instance_in, IsHanded, JudgesActuals}
use Rattle.smv_scope.specs.declared.fault.FlatRule.{FlatRule as Code}
use Rattle.smv_scope.specs.declared.fault.FlatRule.TheVariants as code
use Rattle.smv_scope.specs.declared.items.Item.{Item as ItemCode}
use Rattle.smv_scope.specs.declared.items.Item.TheVariants as items
use Rattle.smv_flat.specs.declared.values.JudgedValue.{JudgedValue}
use Rattle.smv_flat.specs.declared.values.JudgedActual.{JudgedActual}
use Rattle.smv_flat.specs.declared.judge.Times.{Times}
use Rattle.smv_scope.specs.declared.names.Scene.{Scene}
use Rattle.smv_scope.specs.declared.needs.Needs.{Needs}
use Rattle.smv_scope.specs.declared.walk.Meaning.{Meaning as Found}
use Rattle.smv_scope.specs.declared.walk.Meaning.TheVariants as found
use Rattle.smv_flat.proofs.JudgeNames.{definition_circles}
use Rattle.smv_flat.proofs.JudgeItems.{Judges, constants_told, definition_told, is_variable_declared, variable_told}
use Rattle.smv_flat.proofs.JudgeHanded.{actuals_told}
use Rattle.smv_flat.proofs.JudgePlaces.{own_is, handed}
use Rattle.smv_flat.proofs.JudgeTimes.{is_assignment, times_kept}
use Rattle.std.proofs.lemmas.Option.{none-some as none_some, same_Some as some_same}

-- an own meaning is that of the item
own_meaning : (s : Scene) → IsScene s → (k : ℕ) (at : FlatInstance) → slice_get (instances_of (program_of s)) k ≡ Some at → (place : ℕ) (i : NumberedItem) →
    slice_get (items_named (program_of s) at.module_name) place ≡ Some i → (item : Item) → i.item ≡ item → (f : Found) → f ≡ own_at s k place → IsOwnMeaning (program_of s) (meaning_of_item at.place item) f
own_meaning s scene k at e place i at_place item is f own =
    subst (IsOwnMeaning (program_of s) (meaning_of_item at.place item)) (sym own)
    (subst (λ x. IsOwnMeaning (program_of s) (meaning_of_item at.place x) (own_at s k place)) is (own_is s scene k at e place i at_place))

-- a define
circle_of : (p : ProgramTree) (n : Needs) → AreNeeds p n → (f : Found) (key : _) (at : Place) (e : Formula) → Denotes p f (an_expression_at key at e) → HasCircle p key (is_circle_found n f)
circle_of p n needs (found.Definition k) key at e d = definition_circles p n needs k key at e d
circle_of p n needs (found.Variable k role) key at e d = absurd d
circle_of p n needs (found.Instance k) key at e d = absurd d
circle_of p n needs (found.Symbol k) key at e d = absurd d
circle_of p n needs found.Nothing key at e d = absurd d
circle_of p n needs found.Loop key at e d = absurd d

pub definition_here : (s : Scene) → IsScene s → (n : Needs) → AreNeeds (program_of s) n → (spot place : ℕ) (d : DefineTree) (j : JudgedValue) → Judges (program_of s) spot d.value j → (f : Found) → f ≡ own_at s spot place →
    (circle : Bool) → circle ≡ is_circle_found n f → (o : Option Code) → o ≡ first_of ((j.no_value, code.NoSuchName) ∷ (circle, code.DefineLoop) ∷ (j.next, code.NextHere) ∷ []) →
    IsToldHere (program_of s) spot place (a_definition d) o
definition_here s scene n needs spot place d j judged f own circle is_circle o is at at_spot i at_place item =
    subst (IsTold (program_of s) (a_use at i)) (sym is)
    (definition_told (program_of s) at i d j circle item (judged at at_spot)
    (subst (HasCircle (program_of s) (define_key at.place d.name)) (sym is_circle)
    (circle_of (program_of s) n needs f (define_key at.place d.name) at.place d.value (own_meaning s scene spot at at_spot place i at_place (a_definition d) item f own))))

-- the declaration of a variable
pub variable_here : (p : ProgramTree) (spot place : ℕ) (d : DeclTree) → AreActuals d.what None → (role : Role) → IsToldHere p spot place (a_declaration role d) None
variable_here p spot place d none role at at_spot i at_place item = variable_told p at i role d.name d.what item (by_type d.what none)
  where
    by_type : (w : DeclaredTree) → AreActuals w None → is_variable_declared w ≡ true
    by_type boolean h = refl
    by_type (range lo hi) h = refl
    by_type (members ms) h = refl
    by_type (instance m actuals) h = absurd h

-- the declaration of an instance
instance_meant : (p : ProgramTree) (inside : Place) (f : Found) → Denotes p f (an_instance_at inside) → instance_in f ≡ None → ⊥
instance_meant p inside (found.Instance k) d e = none_some k (sym e)
instance_meant p inside (found.Variable k role) d e = absurd d
instance_meant p inside (found.Definition k) d e = absurd d
instance_meant p inside (found.Symbol k) d e = absurd d
instance_meant p inside found.Nothing d e = absurd d
instance_meant p inside found.Loop d e = absurd d

instance_found : (p : ProgramTree) (inside : Place) (f : Found) (k : ℕ) → Denotes p f (an_instance_at inside) → instance_in f ≡ Some k → (ins : FlatInstance) × (slice_get (instances_of p) k ≡ Some ins) × (ins.place ≡ inside)
instance_found p inside (found.Instance j) k d e = subst (λ n. (ins : FlatInstance) × (slice_get (instances_of p) n ≡ Some ins) × (ins.place ≡ inside)) (some_same j k e) d
instance_found p inside (found.Variable j role) k d e = absurd d
instance_found p inside (found.Definition j) k d e = absurd d
instance_found p inside (found.Symbol j) k d e = absurd d
instance_found p inside found.Nothing k d e = absurd d
instance_found p inside found.Loop k d e = absurd d

pub record IsInstanceDecl (d : DeclTree) (actuals : List Formula) : Type 0 where
  pub name : Text
  pub what : d.what ≡ instance name actuals

instance_decl : (d : DeclTree) (xs : Bor (List (Expr Path))) → AreActuals d.what (Some xs) → IsInstanceDecl d (map tree_of xs.now)
instance_decl d xs h = by_type d.what refl h
  where
    by_type : (w : DeclaredTree) → d.what ≡ w → AreActuals w (Some xs) → IsInstanceDecl d (map tree_of xs.now)
    by_type boolean e k = absurd k
    by_type (range lo hi) e k = absurd k
    by_type (members ms) e k = absurd k
    by_type (instance m actuals) e k = record { name = m; what = e ∙ ap (instance m) k }

same_decl : (d : DeclTree) (w : DeclaredTree) → d.what ≡ w → (role : Role) → a_declaration role d ≡ a_declaration role (record { name = d.name; what = w })
same_decl d w e role = ap (λ (x : DeclaredTree). a_declaration role (record { name = d.name; what = x })) e

pub no_instance_here : (s : Scene) → IsScene s → (spot place : ℕ) (d : DeclTree) (xs : Bor (List (Expr Path))) → AreActuals d.what (Some xs) → (f : Found) → f ≡ own_at s spot place → instance_in f ≡ None →
    (role : Role) → IsToldHere (program_of s) spot place (a_declaration role d) None
no_instance_here s scene spot place d xs actuals f own none role at at_spot i at_place item =
    let w : IsInstanceDecl d (map tree_of xs.now) = instance_decl d xs actuals in
    absurd (instance_meant (program_of s) (d.name ∷ at.place) f
    (own_meaning s scene spot at at_spot place i at_place (a_declaration role (record { name = d.name; what = instance w.name (map tree_of xs.now) })) (item ∙ same_decl d (instance w.name (map tree_of xs.now)) w.what role) f own) none)

pub instance_here : (s : Scene) → IsScene s → (spot place : ℕ) (d : DeclTree) (xs : Bor (List (Expr Path))) → AreActuals d.what (Some xs) → (f : Found) → f ≡ own_at s spot place →
    (inner : ℕ) → instance_in f ≡ Some inner → (j : JudgedActual) → JudgesActuals (program_of s) spot inner (map tree_of xs.now) (map tree_of xs.now) j →
    (o : Option Code) → o ≡ first_of ((j.no_value, code.NoSuchName) ∷ (j.circle, code.DefineLoop) ∷ (j.next, code.NextHere) ∷ []) →
    (role : Role) → IsToldHere (program_of s) spot place (a_declaration role d) o
instance_here s scene spot place d xs actuals f own inner meant j judged o is role at at_spot i at_place item =
    subst (IsTold (program_of s) (a_use at i)) (sym is)
    (actuals_told (program_of s) at ins.0 i role d.name w.name hand.0 (map tree_of xs.now) j declared ins.2 (ap (find_module (program_of s)) hand.2 ∙ hand.1.named) (judged hand.0 at ins.0 d.name hand.1))
  where
    w : IsInstanceDecl d (map tree_of xs.now)
    w = instance_decl d xs actuals

    declared : i.item ≡ a_declaration role (record { name = d.name; what = instance w.name (map tree_of xs.now) })
    declared = item ∙ same_decl d (instance w.name (map tree_of xs.now)) w.what role

    ins : (ins : FlatInstance) × (slice_get (instances_of (program_of s)) inner ≡ Some ins) × (ins.place ≡ d.name ∷ at.place)
    ins = instance_found (program_of s) (d.name ∷ at.place) f inner
        (own_meaning s scene spot at at_spot place i at_place (a_declaration role (record { name = d.name; what = instance w.name (map tree_of xs.now) })) declared f own) meant

    hand : (m : ModuleTree) × IsHanded (program_of s) spot inner m at ins.0 d.name (map tree_of xs.now) × (w.name ≡ ins.0.module_name)
    hand = handed s scene spot at at_spot place i at_place role d.name w.name (map tree_of xs.now) declared inner ins.0 ins.1 ins.2

-- an item that assigns nothing leaves the table as it is
pub told_here : (p : ProgramTree) (spot place : ℕ) (es : List (Bor (List ℕ) × Times)) (item : Item) (o : Option Code) → is_assignment item ≡ false → IsToldHere p spot place item o →
    IsItemTold p spot place es es item o
told_here p spot place es item o other h = record { told = λ at at_spot i at_place is times. h at at_spot i at_place is; times = λ e before times. times_kept es before item other times }

pub told_of : (p : ProgramTree) (spot place : ℕ) (es : List (Bor (List ℕ) × Times)) (item : Item) (o : Option Code) → is_assignment item ≡ false → IsToldOf p spot item o →
    IsItemTold p spot place es es item o
told_of p spot place es item o other h = told_here p spot place es item o other (λ at at_spot i at_place is. h at at_spot i is)

-- The same of the items that the code has.
module _ {E : Type 0} (p : ProgramTree) (spot place : ℕ) (es : List (Bor (List ℕ) × Times)) (item : ItemCode) (r : Result (Option Code) E) where
  item_is : (code_item : ItemCode) → item ≡ code_item → IfOk r (IsItemTold p spot place es es (item_tree code_item)) → IfOk r (IsItemTold p spot place es es (item_tree item))
  item_is code_item is h = subst (λ (x : ItemCode). IfOk r (IsItemTold p spot place es es (item_tree x))) (sym is) h

  pub declared_item : (role : _) (d : Bor Decl) → item ≡ items.Declared role d → IfOk r (λ o. (role : Role) → IsToldHere p spot place (a_declaration role (decl_tree d.now)) o) →
      IfOk r (IsItemTold p spot place es es (item_tree item))
  declared_item role d is h =
      item_is (items.Declared role d) is
      (IfOk-weaker r (λ o. (role : Role) → IsToldHere p spot place (a_declaration role (decl_tree d.now)) o) (IsItemTold p spot place es es (a_declaration (role_of role) (decl_tree d.now)))
      (λ o k. told_here p spot place es (a_declaration (role_of role) (decl_tree d.now)) o refl (k (role_of role))) h)

  pub defined_item : (d : Bor Define) → item ≡ items.Defined d → IfOk r (IsToldHere p spot place (a_definition (define_tree d.now))) → IfOk r (IsItemTold p spot place es es (item_tree item))
  defined_item d is h =
      item_is (items.Defined d) is
      (IfOk-weaker r (IsToldHere p spot place (a_definition (define_tree d.now))) (IsItemTold p spot place es es (a_definition (define_tree d.now)))
      (λ o k. told_here p spot place es (a_definition (define_tree d.now)) o refl k) h)

  pub init_item : (e : Bor (Expr Path)) → item ≡ items.Init e → IfOk r (IsToldOf p spot (an_init (tree_of e.now))) → IfOk r (IsItemTold p spot place es es (item_tree item))
  init_item e is h =
      item_is (items.Init e) is
      (IfOk-weaker r (IsToldOf p spot (an_init (tree_of e.now))) (IsItemTold p spot place es es (an_init (tree_of e.now))) (λ o k. told_of p spot place es (an_init (tree_of e.now)) o refl k) h)

  pub invar_item : (e : Bor (Expr Path)) → item ≡ items.Invar e → IfOk r (IsToldOf p spot (an_invar (tree_of e.now))) → IfOk r (IsItemTold p spot place es es (item_tree item))
  invar_item e is h =
      item_is (items.Invar e) is
      (IfOk-weaker r (IsToldOf p spot (an_invar (tree_of e.now))) (IsItemTold p spot place es es (an_invar (tree_of e.now))) (λ o k. told_of p spot place es (an_invar (tree_of e.now)) o refl k) h)

  pub trans_item : (e : Bor (Expr Path)) → item ≡ items.Trans e → IfOk r (IsToldOf p spot (a_trans (tree_of e.now))) → IfOk r (IsItemTold p spot place es es (item_tree item))
  trans_item e is h =
      item_is (items.Trans e) is
      (IfOk-weaker r (IsToldOf p spot (a_trans (tree_of e.now))) (IsItemTold p spot place es es (a_trans (tree_of e.now))) (λ o k. told_of p spot place es (a_trans (tree_of e.now)) o refl k) h)

pub assigned_item : {E : Type 0} (p : ProgramTree) (spot place : ℕ) (es new : List (Bor (List ℕ) × Times)) (item : ItemCode) (r : Result (Option Code) E) (a : Bor Assignment) → item ≡ items.Assigned a →
    IfOk r (IsItemTold p spot place es new (an_assignment (assignment_tree a.now))) → IfOk r (IsItemTold p spot place es new (item_tree item))
assigned_item p spot place es new item r a is h = subst (λ (x : ItemCode). IfOk r (IsItemTold p spot place es new (item_tree x))) (sym is) h

pub constants_item : (p : ProgramTree) (spot place : ℕ) (es : List (Bor (List ℕ) × Times)) (item : ItemCode) (xs : Bor (List Text)) → item ≡ items.Constants xs → IsItemTold p spot place es es (item_tree item) None
constants_item p spot place es item xs is =
    subst (λ (x : ItemCode). IsItemTold p spot place es es (item_tree x) None) (sym is) (told_of p spot place es (some_constants xs.now) None refl (constants_told p spot xs.now))
