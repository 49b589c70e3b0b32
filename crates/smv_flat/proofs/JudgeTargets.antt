-- What an own name of an instance means there tells whether it may be assigned.
use Rattle.std.proofs.Common.{◌≡◌, ℕ, suc, ◌+◌, arith, Bool, true, false, List, [], ◌∷◌, ◌++◌, Option, Some, None, if◌then◌else◌, refl, sym, ◌∙◌, ap, subst}
use Rattle.std.specs.Prelude.{slice_get}
use Rattle.smv_language.specs.declared.program.Moment.{Moment}
use Rattle.smv_language.specs.declared.program.Moment.TheVariants.{Always, First, After}
use Rattle.smv_language.specs.Language.{same_text, first_with, Text, DeclaredTree, boolean, range, members, instance, ModuleTree, ProgramTree, Place, a_formal, a_variable, an_instance, undeclared, Key, define_key, a_variable_at, an_expression_at, an_instance_at, kind_declared, formal_from, kind_after_formals, kind_in, kind_in_sections, kind_at, module_at, FlatInstance, role_of}
use Rattle.smv_language.specs.Scope.{a_define}
use Rattle.smv_flat_laws.specs.Items.{Item, a_declaration, a_definition, an_assignment, some_constants, an_init, an_invar, a_trans, NumberedItem, items_of, items_named, modules_of, instances_of}
use Rattle.smv_flat_laws.specs.Rules.{may_be_assigned, is_target, IsWalkable}
use Rattle.smv_flat_laws.proofs.KindLaws.{kind_of_item, kind_in_items, sections_kind, not_assigned_none}
use Rattle.smv_flat_laws.proofs.Places.{found_at}
use Rattle.smv_flat_laws.proofs.Variables.{both_at}
use Rattle.smv_flat.specs.Assignments.{meant_by, local_meant, may_assign}
use Rattle.smv_scope.specs.TableLookUps.{names_of_spot, local_in, local_at, own_at}
use Rattle.smv_scope.specs.SceneTree.{gives_name, formal_entries, item_entries, local_entries, HasNames, Denotes, meaning_of_declared, meaning_of_item, IsOwnMeaning, IsScene, program_of}
use Rattle.smv_language.specs.declared.model.Role.TheVariants.{State, Input, Frozen}
use Rattle.smv_scope.specs.declared.modules.Local.{Local}
use Rattle.smv_scope.specs.declared.modules.Local.TheVariants as local
use Rattle.smv_scope.specs.declared.modules.ModuleNames.{ModuleNames}
use Rattle.smv_scope.specs.declared.names.Scene.{Scene}
use Rattle.smv_scope.specs.declared.walk.Meaning.{Meaning as Found}
use Rattle.smv_scope.specs.declared.walk.Meaning.TheVariants as found
use Rattle.smv_flat.proofs.JudgeNames.{found_kind}
use Rattle.smv_flat.proofs.JudgePlaces.{HasModule, has_module, HasSpot, has_spot, own_is}
use Rattle.smv_language.proofs.OneTree.{same_text_equal}
use Rattle.std.proofs.lemmas.Option.{same_Some as some_same}

-- The table of a module's names.
pub data SaysLocal (m : ModuleTree) (x : Text) (o : Option Local) : Type 0 where
  a_formal_there : (i : ℕ) → o ≡ Some (local.Formal i) → (j : ℕ) → kind_in m x ≡ a_formal j → SaysLocal m x o
  an_item_there : (k : ℕ) (item : Item) → o ≡ Some (local.Item k) → slice_get (items_of m) k ≡ Some item → gives_name x item ≡ true → kind_in m x ≡ kind_of_item item x undeclared → SaysLocal m x o
  not_there : o ≡ None → kind_in m x ≡ undeclared → SaysLocal m x o

-- an item of some items gives the name, or none does
data SaysItem (k : ℕ) (is : List Item) (x : Text) : Type 0 where
  at_item : (j : ℕ) (item : Item) → first_with (item_entries k is) x ≡ Some (local.Item (k + j)) → slice_get is j ≡ Some item → gives_name x item ≡ true →
      kind_in_items is x ≡ kind_of_item item x undeclared → SaysItem k is x
  at_none : first_with (item_entries k is) x ≡ None → kind_in_items is x ≡ undeclared → SaysItem k is x

skip_item : (k : ℕ) (i : Item) (is : List Item) (x : Text) → first_with (item_entries k (i ∷ is)) x ≡ first_with (item_entries (suc k) is) x → kind_in_items (i ∷ is) x ≡ kind_in_items is x →
    SaysItem (suc k) is x → SaysItem k (i ∷ is) x
skip_item k i is x entry kind (at_item j item e stands gives q) =
    let next : suc k + j ≡ k + suc j = omega arith in
    at_item (suc j) item (entry ∙ e ∙ ap (λ n. Some (local.Item n)) next) stands gives (kind ∙ q)
skip_item k i is x entry kind (at_none e q) = at_none (entry ∙ e) (kind ∙ q)

here : (k : ℕ) → k ≡ k + 0
here k = omega arith

items_say : (k : ℕ) (is : List Item) (x : Text) → SaysItem k is x
items_say k [] x = at_none refl refl
items_say k (a_declaration role d ∷ is) x = by_name (same_text d.name x) refl (items_say (suc k) is x)
  where
    by_name : (b : Bool) → same_text d.name x ≡ b → SaysItem (suc k) is x → SaysItem k (a_declaration role d ∷ is) x
    by_name true t rest =
        at_item 0 (a_declaration role d) (ap (λ b. if b then Some (local.Item k) else first_with (item_entries (suc k) is) x) t ∙ ap (λ n. Some (local.Item n)) (here k)) refl t
        (ap (λ b. if b then kind_declared role d.what else kind_in_items is x) t ∙ sym (ap (λ b. if b then kind_declared role d.what else undeclared) t))
    by_name false t rest =
        skip_item k (a_declaration role d) is x (ap (λ b. if b then Some (local.Item k) else first_with (item_entries (suc k) is) x) t)
        (ap (λ b. if b then kind_declared role d.what else kind_in_items is x) t) rest
items_say k (a_definition d ∷ is) x = by_name (same_text d.name x) refl (items_say (suc k) is x)
  where
    by_name : (b : Bool) → same_text d.name x ≡ b → SaysItem (suc k) is x → SaysItem k (a_definition d ∷ is) x
    by_name true t rest =
        at_item 0 (a_definition d) (ap (λ b. if b then Some (local.Item k) else first_with (item_entries (suc k) is) x) t ∙ ap (λ n. Some (local.Item n)) (here k)) refl t
        (ap (λ b. if b then a_define d.value else kind_in_items is x) t ∙ sym (ap (λ b. if b then a_define d.value else undeclared) t))
    by_name false t rest =
        skip_item k (a_definition d) is x (ap (λ b. if b then Some (local.Item k) else first_with (item_entries (suc k) is) x) t)
        (ap (λ b. if b then a_define d.value else kind_in_items is x) t) rest
items_say k (an_assignment a ∷ is) x = skip_item k (an_assignment a) is x refl refl (items_say (suc k) is x)
items_say k (some_constants xs ∷ is) x = skip_item k (some_constants xs) is x refl refl (items_say (suc k) is x)
items_say k (an_init e ∷ is) x = skip_item k (an_init e) is x refl refl (items_say (suc k) is x)
items_say k (an_invar e ∷ is) x = skip_item k (an_invar e) is x refl refl (items_say (suc k) is x)
items_say k (a_trans e ∷ is) x = skip_item k (a_trans e) is x refl refl (items_say (suc k) is x)

-- a formal has the name, or what comes after the formals is looked at
data SaysFormal (k : ℕ) (fs : List Text) (es : List (Text × Local)) (x : Text) : Type 0 where
  at_formal : (i : ℕ) → formal_from k fs x ≡ Some i → first_with (formal_entries k fs ++ es) x ≡ Some (local.Formal i) → SaysFormal k fs es x
  after_formals : formal_from k fs x ≡ None → first_with (formal_entries k fs ++ es) x ≡ first_with es x → SaysFormal k fs es x

formals_say : (k : ℕ) (fs : List Text) (es : List (Text × Local)) (x : Text) → SaysFormal k fs es x
formals_say k [] es x = after_formals refl refl
formals_say k (y ∷ fs) es x = by_name (same_text y x) refl (formals_say (suc k) fs es x)
  where
    by_name : (b : Bool) → same_text y x ≡ b → SaysFormal (suc k) fs es x → SaysFormal k (y ∷ fs) es x
    by_name true t rest =
        at_formal k (ap (λ b. if b then Some k else formal_from (suc k) fs x) t) (ap (λ b. if b then Some (local.Formal k) else first_with (formal_entries (suc k) fs ++ es) x) t)
    by_name false t (at_formal i e f) =
        at_formal i (ap (λ b. if b then Some k else formal_from (suc k) fs x) t ∙ e) (ap (λ b. if b then Some (local.Formal k) else first_with (formal_entries (suc k) fs ++ es) x) t ∙ f)
    by_name false t (after_formals e f) =
        after_formals (ap (λ b. if b then Some k else formal_from (suc k) fs x) t ∙ e) (ap (λ b. if b then Some (local.Formal k) else first_with (formal_entries (suc k) fs ++ es) x) t ∙ f)

pub says_local : (m : ModuleTree) (x : Text) → SaysLocal m x (first_with (local_entries m) x)
says_local m x = by_formal (formals_say 0 m.formals (item_entries 0 (items_of m)) x)
  where
    kind_here : formal_from 0 m.formals x ≡ None → kind_in m x ≡ kind_in_items (items_of m) x
    kind_here e = ap (λ o. kind_after_formals o (kind_in_sections m.sections x)) e ∙ sym (sections_kind m.sections x)

    by_item : formal_from 0 m.formals x ≡ None → first_with (local_entries m) x ≡ first_with (item_entries 0 (items_of m)) x → SaysItem 0 (items_of m) x → SaysLocal m x (first_with (local_entries m) x)
    by_item e f (at_item j item q stands gives kind) =
        let from_none : 0 + j ≡ j = omega arith in
        an_item_there j item (f ∙ q ∙ ap (λ n. Some (local.Item n)) from_none) stands gives (kind_here e ∙ kind)
    by_item e f (at_none q kind) = not_there (f ∙ q) (kind_here e ∙ kind)

    by_formal : SaysFormal 0 m.formals (item_entries 0 (items_of m)) x → SaysLocal m x (first_with (local_entries m) x)
    by_formal (at_formal i e f) = a_formal_there i f i (ap (λ o. kind_after_formals o (kind_in_sections m.sections x)) e)
    by_formal (after_formals e f) = by_item e f (items_say 0 (items_of m) x)

-- what the tables tell of a name in the module of an instance
pub local_is : (s : Scene) → IsScene s → (k : ℕ) (at : FlatInstance) → slice_get (instances_of (program_of s)) k ≡ Some at → (h : HasModule (program_of s) at) (x : Text) →
    local_at s k x ≡ first_with (local_entries h.tree) x
local_is s scene k at e h x =
    ap (λ o. local_in (names_of_spot s o) x) spot.is ∙ ap (λ o. local_in o x) names.1 ∙ ap (λ es. first_with es x) names.2.locals ∙ ap (λ (m : ModuleTree). first_with (local_entries m) x) same
  where
    spot : HasSpot s k at
    spot = has_spot s scene k at e

    names : (names : ModuleNames) × (slice_get s.modules.list.items spot.spot.«module» ≡ Some names) × HasNames spot.holds.placed.tree names
    names = both_at HasNames (modules_of (program_of s)) s.modules.list.items spot.spot.«module» spot.holds.placed.tree scene.set.modules.list spot.holds.placed.is

    same : spot.holds.placed.tree.tree ≡ h.tree
    same = some_same spot.holds.placed.tree.tree h.tree (sym spot.holds.placed.named ∙ h.named)

-- An own name and its kind.
variable_assigned : (k : ℕ) (role : _) (what : DeclaredTree) (when : Moment) → may_assign (found.Variable k role) when ≡ may_be_assigned when (a_variable (role_of role) what)
variable_assigned k State what when = refl
variable_assigned k Input what Always = refl
variable_assigned k Input what First = refl
variable_assigned k Input what After = refl
variable_assigned k Frozen what Always = refl
variable_assigned k Frozen what First = refl
variable_assigned k Frozen what After = refl

not_assigned_formal : (i : ℕ) (when : Moment) → may_be_assigned when (a_formal i) ≡ false
not_assigned_formal i Always = refl
not_assigned_formal i First = refl
not_assigned_formal i After = refl

variable_target : (p : ProgramTree) → IsWalkable p → (at : Place) (x y : Text) → y ≡ x → (f : Found) → Denotes p f (a_variable_at at y) → (when : Moment) → may_assign f when ≡ may_be_assigned when (kind_at (module_at p at) x)
variable_target p walkable at x y same (found.Variable k role) d when =
    let kind : (what : DeclaredTree) × (kind_at (module_at p at) y ≡ a_variable (role_of role) what) = found_kind p walkable k role at y d in
    variable_assigned k role kind.0 when ∙ ap (may_be_assigned when) (sym kind.1) ∙ ap (λ z. may_be_assigned when (kind_at (module_at p at) z)) same
variable_target p walkable at x y same (found.Instance k) d when = absurd d
variable_target p walkable at x y same (found.Definition k) d when = absurd d
variable_target p walkable at x y same (found.Symbol k) d when = absurd d
variable_target p walkable at x y same found.Nothing d when = absurd d
variable_target p walkable at x y same found.Loop d when = absurd d

instance_target : (p : ProgramTree) (inside : Place) (n : Text) (es : List _) (f : Found) → Denotes p f (an_instance_at inside) → (when : Moment) → may_assign f when ≡ may_be_assigned when (an_instance n es)
instance_target p inside n es (found.Instance k) d Always = refl
instance_target p inside n es (found.Instance k) d First = refl
instance_target p inside n es (found.Instance k) d After = refl
instance_target p inside n es (found.Variable k role) d when = absurd d
instance_target p inside n es (found.Definition k) d when = absurd d
instance_target p inside n es (found.Symbol k) d when = absurd d
instance_target p inside n es found.Nothing d when = absurd d
instance_target p inside n es found.Loop d when = absurd d

definition_target : (p : ProgramTree) (key : Key) (at : Place) (e g : _) (f : Found) → Denotes p f (an_expression_at key at e) → (when : Moment) → may_assign f when ≡ may_be_assigned when (a_define g)
definition_target p key at e g (found.Definition k) d Always = refl
definition_target p key at e g (found.Definition k) d First = refl
definition_target p key at e g (found.Definition k) d After = refl
definition_target p key at e g (found.Variable k role) d when = absurd d
definition_target p key at e g (found.Instance k) d when = absurd d
definition_target p key at e g (found.Symbol k) d when = absurd d
definition_target p key at e g found.Nothing d when = absurd d
definition_target p key at e g found.Loop d when = absurd d

item_target : (p : ProgramTree) → IsWalkable p → (at : Place) (x : Text) (item : Item) (f : Found) → gives_name x item ≡ true → IsOwnMeaning p (meaning_of_item at item) f →
    kind_at (module_at p at) x ≡ kind_of_item item x undeclared → (when : Moment) → may_assign f when ≡ may_be_assigned when (kind_at (module_at p at) x)
item_target p walkable at x (a_declaration role d) f gives own kind when = by_type d.what refl
  where
    by_type : (what : DeclaredTree) → d.what ≡ what → may_assign f when ≡ may_be_assigned when (kind_at (module_at p at) x)
    by_type boolean e = variable_target p walkable at x d.name (same_text_equal d.name x gives) f (subst (λ w. Denotes p f (meaning_of_declared at d.name w)) e own) when
    by_type (range lo hi) e = variable_target p walkable at x d.name (same_text_equal d.name x gives) f (subst (λ w. Denotes p f (meaning_of_declared at d.name w)) e own) when
    by_type (members ms) e = variable_target p walkable at x d.name (same_text_equal d.name x gives) f (subst (λ w. Denotes p f (meaning_of_declared at d.name w)) e own) when
    by_type (instance n es) e =
        instance_target p (d.name ∷ at) n es f (subst (λ w. Denotes p f (meaning_of_declared at d.name w)) e own) when
        ∙ ap (may_be_assigned when) (sym (kind ∙ ap (λ b. if b then kind_declared role d.what else undeclared) gives ∙ ap (kind_declared role) e))
item_target p walkable at x (a_definition d) f gives own kind when =
    definition_target p (define_key at d.name) at d.value d.value f own when
    ∙ ap (may_be_assigned when) (sym (kind ∙ ap (λ b. if b then a_define d.value else undeclared) gives))
item_target p walkable at x (an_assignment a) f gives own kind when = cc
item_target p walkable at x (some_constants xs) f gives own kind when = cc
item_target p walkable at x (an_init e) f gives own kind when = cc
item_target p walkable at x (an_invar e) f gives own kind when = cc
item_target p walkable at x (a_trans e) f gives own kind when = cc

pub target_is : (s : Scene) → IsScene s → (k : ℕ) (at : FlatInstance) → slice_get (instances_of (program_of s)) k ≡ Some at → (x : Text) (when : Moment) →
    may_assign (local_meant s k x) when ≡ is_target (program_of s) at.place when (x ∷ [])
target_is s scene k at e x when = ap (λ o. may_assign (meant_by s k o) when) told ∙ by_local (says_local h.tree x)
  where
    walkable : IsWalkable (program_of s)
    walkable = scene.set.walkable

    h : HasModule (program_of s) at
    h = has_module (program_of s) walkable k at e

    told : local_at s k x ≡ first_with (local_entries h.tree) x
    told = local_is s scene k at e h x

    kind : kind_at (module_at (program_of s) at.place) x ≡ kind_in h.tree x
    kind = ap (λ o. kind_at o x) h.is

    by_local : SaysLocal h.tree x (first_with (local_entries h.tree) x) → may_assign (meant_by s k (first_with (local_entries h.tree) x)) when ≡ may_be_assigned when (kind_at (module_at (program_of s) at.place) x)
    by_local (a_formal_there i o j q) =
        ap (λ o. may_assign (meant_by s k o) when) o ∙ sym (ap (may_be_assigned when) (kind ∙ q) ∙ not_assigned_formal j when)
    by_local (not_there o q) =
        ap (λ o. may_assign (meant_by s k o) when) o ∙ sym (ap (may_be_assigned when) (kind ∙ q) ∙ not_assigned_none when)
    by_local (an_item_there place item o stands gives q) =
        let y : (y : NumberedItem) × (slice_get (items_named (program_of s) at.module_name) place ≡ Some y) × (y.item ≡ item) =
        found_at (program_of s) walkable (program_of s) 1 [] at.module_name h.tree place item h.named stands in
        ap (λ o. may_assign (meant_by s k o) when) o
        ∙ item_target (program_of s) walkable at.place x item (own_at s k place) gives
        (subst (λ i. IsOwnMeaning (program_of s) (meaning_of_item at.place i) (own_at s k place)) y.2 (own_is s scene k at e place y.0 y.1)) (kind ∙ q) when
