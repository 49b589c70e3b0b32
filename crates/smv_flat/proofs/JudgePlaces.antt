-- What the tables of a scene hold at an instance: its module, its items with their meanings, and the instances that it declares.
use Rattle.std.proofs.Common.{◌≡◌, ℕ, Bool, true, false, List, [], ◌∷◌, ◌++◌, length, Some, refl, sym, ◌∙◌, ap, subst, eqb-true}
use Rattle.std.specs.Prelude.{slice_get, codes, nat_eq, flat_map, Vec}
use Rattle.std.specs.declared.alloc.Global.{Global}
use Rattle.smv_language.specs.Language.{Text, Formula, instance, DeclTree, ModuleTree, ProgramTree, Place, Role, Kind, an_instance, kind_declared, kind_at, module_at, find_module, IsInstance, EachBoth, opposite, FlatInstance}
use Rattle.smv_flat_laws.specs.Items.{a_declaration, NumberedItem, items_of, items_named, Visit, visits_of, walk, visits, instances_of}
use Rattle.smv_flat_laws.specs.Rules.{is_other_count, is_miscounted, names_of_item, is_name_again, IsWalkable}
use Rattle.smv_flat_laws.proofs.Conditions.{each_at}
use Rattle.smv_flat_laws.proofs.KindLaws.{ItemFacts, kind_of_declaration}
use Rattle.smv_flat_laws.proofs.Places.{In, facts_named, Walked, in_items, found_at, walked, are_instances}
use Rattle.smv_flat_laws.proofs.Variables.{both_at}
use Rattle.smv_flat_laws.proofs.Walkable.{main_is_there}
use Rattle.smv_scope.specs.TableLookUps.{own_in, own_at, found_or, formal_in, formal_or, formal_at}
use Rattle.smv_scope.specs.SceneTree.{IsCalled, IsSpot, IsOwn, IsKnown, AreKnown, formals_of, IsScene, program_of}
use Rattle.smv_flat.specs.Verdicts.{IsHanded}
use Rattle.smv_scope.specs.declared.names.Formal.{Formal}
use Rattle.smv_scope.specs.declared.names.Scene.{Scene}
use Rattle.smv_scope.specs.declared.walk.Meaning.{Meaning as Found}
use Rattle.smv_scope.specs.declared.walk.Spot.{Spot}
use Rattle.smv_flat.proofs.BuildRoots.{counts_kept}
use Rattle.smv_flat_laws.proofs.Meant.{formals_once}
use Rattle.smv_scope.proofs.EnterLaws.{get_here as get_split}

-- an instance with its module
pub record HasModule (p : ProgramTree) (at : FlatInstance) : Type 0 where
  pub tree : ModuleTree
  pub is : IsInstance p at.place tree
  pub named : find_module p at.module_name ≡ Some tree

pub has_module : (p : ProgramTree) → IsWalkable p → (k : ℕ) (at : FlatInstance) → slice_get (instances_of p) k ≡ Some at → HasModule p at
has_module p walkable k at e =
    let main : (m : ModuleTree) × (find_module p (codes "main") ≡ Some m) = main_is_there p walkable in
    let r : (m : ModuleTree) × IsInstance p at.place m × (find_module p at.module_name ≡ Some m) = (are_instances p walkable main.0 main.1).real k at e in
    record { tree = r.0; is = r.1; named = r.2 }

pub item_facts : (p : ProgramTree) → IsWalkable p → (at : FlatInstance) (h : HasModule p at) (place : ℕ) (i : NumberedItem) → slice_get (items_named p at.module_name) place ≡ Some i → ItemFacts h.tree i
item_facts p walkable at h place i e = each_at (ItemFacts h.tree) (items_named p at.module_name) place i (facts_named p walkable at.module_name h.tree h.named) e

-- the kind of what an item declares
pub declared_kind : (p : ProgramTree) → IsWalkable p → (at : FlatInstance) → HasModule p at → (place : ℕ) (i : NumberedItem) → slice_get (items_named p at.module_name) place ≡ Some i →
    (role : Role) (d : DeclTree) → i.item ≡ a_declaration role d → kind_at (module_at p at.place) d.name ≡ kind_declared role d.what
declared_kind p walkable at h place i e role d is =
    let facts : ItemFacts h.tree i = item_facts p walkable at h place i e in
    ap (λ o. kind_at o d.name) h.is
    ∙ kind_of_declaration h.tree i.before role d facts.after (facts.among ∙ ap (λ x. i.before ++ x ∷ facts.after) is)
    (subst (λ x. is_name_again (h.tree.formals ++ flat_map names_of_item i.before) (names_of_item x) ≡ false) is facts.fresh)

pub record IsVisited (p : ProgramTree) (d : DeclTree) : Type 0 where
  pub visit : Visit
  pub within : In visit (visits p)
  pub decl : visit.decl ≡ d

visited : (p : ProgramTree) → IsWalkable p → (at : FlatInstance) (h : HasModule p at) (place : ℕ) (i : NumberedItem) → slice_get (items_named p at.module_name) place ≡ Some i →
    (role : Role) (d : DeclTree) → i.item ≡ a_declaration role d → IsVisited p d
visited p walkable at h place i e role d is = record { visit = visit; within = within; decl = refl }
  where
    facts : ItemFacts h.tree i
    facts = item_facts p walkable at h place i e

    w : Walked p walkable at.place h.tree
    w = walked p walkable at.place h.tree h.is

    stands : slice_get (items_of h.tree) (length i.before) ≡ Some (a_declaration role d)
    stands = ap (λ xs. slice_get xs (length i.before)) facts.among ∙ get_split i.before i.item facts.after ∙ ap (λ x. Some x) is

    item : (y : NumberedItem) × (slice_get (items_named p w.name) (length i.before) ≡ Some y) × (y.item ≡ a_declaration role d)
    item = found_at p walkable p 1 [] w.name h.tree (length i.before) (a_declaration role d) w.found stands

    go : Place → Text → List Visit
    go = walk w.left p (w.name ∷ w.on)

    visit : Visit
    visit = record { place = at.place; on_path = w.name ∷ w.on; number = item.0.number; role = role; decl = d }

    within : In visit (visits p)
    within = w.sub visit (in_items p walkable go (w.name ∷ w.on) at.place visit (items_named p w.name) (length i.before) item.0 item.1
        (subst (λ x. In visit (visits_of go (w.name ∷ w.on) at.place item.0.number x)) (sym item.2) (0, refl)))

same_count : (p : ProgramTree) → IsWalkable p → (d : DeclTree) → IsVisited p d → (name : Text) (actuals : List Formula) (m : ModuleTree) → d.what ≡ instance name actuals →
    find_module p name ≡ Some m → length actuals ≡ length m.formals
same_count p walkable d v name actuals m what named = sym (eqb-true (length m.formals) (length actuals) (by_test (nat_eq (length m.formals) (length actuals)) refl))
  where
    right : is_miscounted p d.what ≡ false
    right = subst (λ (x : DeclTree). is_miscounted p x.what ≡ false) v.decl
        (each_at (λ (v : Visit). is_miscounted p v.decl.what ≡ false) (visits p) v.within.0 v.visit (counts_kept p [] (visits p) walkable.visits) v.within.1)

    test : opposite (nat_eq (length m.formals) (length actuals)) ≡ false
    test = sym (ap (λ o. is_other_count o (length actuals)) named) ∙ sym (ap (is_miscounted p) what) ∙ right

    by_test : (b : Bool) → nat_eq (length m.formals) (length actuals) ≡ b → nat_eq (length m.formals) (length actuals) ≡ true
    by_test true e = e
    by_test false e = differ (sym (ap opposite e) ∙ test)
      where
        differ : true ≡ false → nat_eq (length m.formals) (length actuals) ≡ true
        differ q = cc

-- The spot of an instance.
pub record HasSpot (s : Scene) (k : ℕ) (at : FlatInstance) : Type 0 where
  pub spot : Spot
  pub is : slice_get s.spots.items k ≡ Some spot
  pub holds : IsSpot (program_of s) at spot

pub has_spot : (s : Scene) → IsScene s → (k : ℕ) (at : FlatInstance) → slice_get (instances_of (program_of s)) k ≡ Some at → HasSpot s k at
has_spot s scene k at e =
    let r : (spot : Spot) × (slice_get s.spots.items k ≡ Some spot) × IsSpot (program_of s) at spot = both_at (IsSpot (program_of s)) (instances_of (program_of s)) s.spots.items k at scene.set.spots e in
    record { spot = r.0; is = r.1; holds = r.2 }

-- what an item means at an instance
pub own_is : (s : Scene) → IsScene s → (k : ℕ) (at : FlatInstance) → slice_get (instances_of (program_of s)) k ≡ Some at → (place : ℕ) (i : NumberedItem) →
    slice_get (items_named (program_of s) at.module_name) place ≡ Some i → IsOwn (program_of s) at.place i (own_at s k place)
own_is s scene k at e place i item =
    let h : HasSpot s k at = has_spot s scene k at e in
    let r : (f : Found) × (slice_get h.spot.own.items place ≡ Some f) × IsOwn (program_of s) at.place i f = both_at (IsOwn (program_of s) at.place) (items_named (program_of s) at.module_name) h.spot.own.items place i h.holds.own item in
    subst (IsOwn (program_of s) at.place i) (sym (ap (λ o. own_in o place) h.is ∙ ap found_or r.1)) r.2

-- what is known of a formal of an instance
pub formal_is : (s : Scene) → IsScene s → (k : ℕ) (at : FlatInstance) → slice_get (instances_of (program_of s)) k ≡ Some at → (m : ModuleTree) → find_module (program_of s) at.module_name ≡ Some m →
    (index : ℕ) (x : Text) → slice_get m.formals index ≡ Some x → IsKnown (program_of s) at.place x (formal_at s k index)
formal_is s scene k at e m named index x formal =
    let fs : (fs : Vec Formal Global) × (slice_get s.formals.items k ≡ Some fs) × AreKnown (program_of s) at fs.items =
    both_at (λ (i : FlatInstance) (fs : Vec Formal Global). AreKnown (program_of s) i fs.items) (instances_of (program_of s)) s.formals.items k at scene.formals e in
    let known : EachBoth (IsKnown (program_of s) at.place) m.formals fs.0.items = subst (λ o. EachBoth (IsKnown (program_of s) at.place) (formals_of o) fs.0.items) named fs.2 in
    let r : (f : Formal) × (slice_get fs.0.items index ≡ Some f) × IsKnown (program_of s) at.place x f = both_at (IsKnown (program_of s) at.place) m.formals fs.0.items index x known formal in
    subst (IsKnown (program_of s) at.place x) (sym (ap (λ o. formal_in o index) fs.1 ∙ ap formal_or r.1)) r.2

-- An instance that is declared by an item.
pub handed : (s : Scene) → IsScene s → (k : ℕ) (at : FlatInstance) → slice_get (instances_of (program_of s)) k ≡ Some at → (place : ℕ) (i : NumberedItem) →
    slice_get (items_named (program_of s) at.module_name) place ≡ Some i → (role : Role) (x : Text) (name : Text) (actuals : List Formula) →
    i.item ≡ a_declaration role (record { name = x; what = instance name actuals }) → (inner : ℕ) (inside : FlatInstance) → slice_get (instances_of (program_of s)) inner ≡ Some inside → inside.place ≡ x ∷ at.place →
    (m : ModuleTree) × IsHanded (program_of s) k inner m at inside x actuals × (name ≡ inside.module_name)
handed s scene k at e place i item role x name actuals is inner inside inside_is inside_place = (inner_module.tree, hand, same)
  where
    p : ProgramTree
    p = program_of s

    walkable : IsWalkable (program_of s)
    walkable = scene.set.walkable

    own_module : HasModule (program_of s) at
    own_module = has_module (program_of s) walkable k at e

    inner_module : HasModule (program_of s) inside
    inner_module = has_module (program_of s) walkable inner inside inside_is

    kind : kind_at (module_at (program_of s) at.place) x ≡ an_instance name actuals
    kind = declared_kind (program_of s) walkable at own_module place i item role (record { name = x; what = instance name actuals }) is

    spot : HasSpot s inner inside
    spot = has_spot s scene inner inside inside_is

    name_of : Kind → Text
    name_of (an_instance n es) = n
    name_of other = []

    module_name_of : (at' : Place) (caller : ℕ) (es : List Formula) → at' ≡ x ∷ at.place → IsCalled (program_of s) inside at' caller es → inside.module_name ≡ name
    module_name_of at' caller es q c =
        let here : IsCalled (program_of s) inside (x ∷ at.place) caller es = subst (λ a. IsCalled (program_of s) inside a caller es) q c in
        ap name_of (sym here.1 ∙ kind)

    same : name ≡ inside.module_name
    same = sym (module_name_of inside.place spot.spot.caller _ inside_place spot.holds.placed.called)

    hand : IsHanded (program_of s) k inner inner_module.tree at inside x actuals
    hand = record {
      at_is = e;
      inside_is = inside_is;
      place = inside_place;
      kind = kind ∙ ap (λ n. an_instance n actuals) same;
      named = inner_module.named;
      count = same_count (program_of s) walkable (record { name = x; what = instance name actuals })
          (visited (program_of s) walkable at own_module place i item role (record { name = x; what = instance name actuals }) is) inside.module_name actuals inner_module.tree
          (ap (λ n. instance n actuals) same) inner_module.named;
      apart = formals_once (program_of s) walkable inside.module_name inner_module.tree inner_module.named;
    }
