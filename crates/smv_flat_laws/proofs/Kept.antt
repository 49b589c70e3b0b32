-- What the rules give at an item of an instance, and at the declaration of one.
use Rattle.std.proofs.Common.{◌≡◌, ℕ, Bool, true, false, List, [], ◌∷◌, ◌++◌, length, Some, refl, sym, ◌∙◌, ap, subst}
use Rattle.std.specs.Prelude.{codes, slice_get, map, nat_eq}
use Rattle.std.proofs.Common.{eqb-true}
use Rattle.smv_language.specs.Language.{Text, Formula, instance, ModuleTree, ProgramTree, opposite, Place, an_instance, find_module, formal_from, kind_in_sections, kind_in, Each, IsInstance, FlatInstance}
use Rattle.smv_flat_laws.specs.Items.{Item, a_declaration, NumberedItem, items_of, items_named, Visit, visits, visits_of, walk, instances_of}
use Rattle.smv_flat_laws.specs.Rules.{no_such_name, define_loop, next_here, is_missing_instance, is_miscounted, is_other_count, a_use, module_sites, visit_sites, use_sites, BreaksNames, BreaksLoops, breaks_next, IsKept, IsWalkable, IsAccepted}
use Rattle.smv_flat_laws.proofs.Reaches.{each_right}
use Rattle.smv_flat_laws.proofs.Conditions.{each_at, each_flat, each_mapped}
use Rattle.smv_flat_laws.proofs.KindLaws.{no_formal_instance, DeclaredBy, declared_by, sections_kind}
use Rattle.smv_flat_laws.proofs.Sections.{AreInstances, one_tree}
use Rattle.smv_flat_laws.proofs.Places.{VisitFacts, all_visit_facts, Walked, walked, found_at, in_items, are_instances, there, In}
use Rattle.smv_flat_laws.proofs.Walkable.{accepted_walkable, main_is_there}

-- an item of an instance, at which no rule is broken
pub record KeptItem (p : ProgramTree) (at : Place) (item : Item) : Type 0 where
  pub of : FlatInstance
  pub numbered : NumberedItem
  pub place : of.place ≡ at
  pub is : numbered.item ≡ item
  pub kept : IsKept p (a_use of numbered)

pub kept_at : (p : ProgramTree) → IsAccepted p → (at : Place) (m : ModuleTree) → IsInstance p at m → (j : ℕ) (item : Item) → slice_get (items_of m) j ≡ Some item → KeptItem p at item
kept_at p accepted at m is j item e =
    let walkable : IsWalkable p = accepted_walkable p accepted in
    let main : (k : ModuleTree) × (find_module p (codes "main") ≡ Some k) = main_is_there p walkable in
    let are : AreInstances p = are_instances p walkable main.0 main.1 in
    let found : (i : ℕ) × (x : FlatInstance) × (slice_get (instances_of p) i ≡ Some x) × (x.place ≡ at) = are.all at m is in
    let real : (k : ModuleTree) × IsInstance p found.1.place k × (find_module p found.1.module_name ≡ Some k) = are.real found.0 found.1 found.2 in
    let same : real.0 ≡ m = one_tree p at real.0 m (subst (λ a. IsInstance p a real.0) found.3 real.1) is in
    let named : find_module p found.1.module_name ≡ Some m = subst (λ k. find_module p found.1.module_name ≡ Some k) same real.2 in
    let item' : (y : NumberedItem) × (slice_get (items_named p found.1.module_name) j ≡ Some y) × (y.item ≡ item) = found_at p walkable p 1 [] found.1.module_name m j item named e in
    let uses : Each (IsKept p) (use_sites p) = each_right (IsKept p) (visit_sites [] (visits p)) (use_sites p) (each_right (IsKept p) (module_sites p) (visit_sites [] (visits p) ++ use_sites p) accepted.1) in
    let here : Each (IsKept p) (map (a_use found.1) (items_named p found.1.module_name)) =
    each_at (λ (x : FlatInstance). Each (IsKept p) (map (a_use x) (items_named p x.module_name))) (instances_of p) found.0 found.1
    ((each_flat (IsKept p) (λ (x : FlatInstance). map (a_use x) (items_named p x.module_name)) (instances_of p)).0 uses) found.2 in
    record {
      of = found.1;
      numbered = item'.0;
      place = found.3;
      is = item'.2;
      kept = each_at (λ y. IsKept p (a_use found.1 y)) (items_named p found.1.module_name) j item'.0 ((each_mapped (IsKept p) (a_use found.1) (items_named p found.1.module_name)).0 here) item'.1;
    }

-- what a name is in its module, if it is declared as an instance
pub declared_there : (m : ModuleTree) (x n : Text) (actuals : List Formula) → kind_in m x ≡ an_instance n actuals → DeclaredBy (items_of m) x n actuals
declared_there m x n actuals kind =
    declared_by (items_of m) x n actuals (sections_kind m.sections x ∙ no_formal_instance n actuals (formal_from 0 m.formals x) (kind_in_sections m.sections x) kind)

same_count : (m : ModuleTree) (k : ℕ) → opposite (nat_eq (length m.formals) k) ≡ false → length m.formals ≡ k
same_count m k e = by_test (nat_eq (length m.formals) k) refl e
  where
    by_test : (b : Bool) → nat_eq (length m.formals) k ≡ b → opposite (nat_eq (length m.formals) k) ≡ false → length m.formals ≡ k
    by_test true t h = eqb-true (length m.formals) k t
    by_test false t h = let bad : true ≡ false = rw t at h in cc

-- the visit of an instance's declaration
visited : (p : ProgramTree) (walkable : IsWalkable p) (at : Place) (m : ModuleTree) → IsInstance p at m → (x n : Text) (actuals : List Formula) → kind_in m x ≡ an_instance n actuals →
    (v : Visit) × VisitFacts p v × (v.decl.what ≡ instance n actuals)
visited p walkable at m is x n actuals kind = (visit, facts, by.what)
  where
    w : Walked p walkable at m
    w = walked p walkable at m is

    by : DeclaredBy (items_of m) x n actuals
    by = declared_there m x n actuals kind

    item : (y : NumberedItem) × (slice_get (items_named p w.name) by.place ≡ Some y) × (y.item ≡ a_declaration by.role by.decl)
    item = found_at p walkable p 1 [] w.name m by.place (a_declaration by.role by.decl) w.found by.is

    visit : Visit
    visit = record { place = at; on_path = w.name ∷ w.on; number = item.0.number; role = by.role; decl = by.decl }

    within : In visit (visits p)
    within = w.sub visit (in_items p walkable (walk w.left p (w.name ∷ w.on)) (w.name ∷ w.on) at visit (items_named p w.name) by.place item.0 item.1
        (subst (λ i. In visit (visits_of (walk w.left p (w.name ∷ w.on)) (w.name ∷ w.on) at item.0.number i)) (sym item.2) (0, refl)))

    facts : VisitFacts p visit
    facts = each_at (VisitFacts p) (visits p) within.0 visit (all_visit_facts p walkable) within.1

-- an instance has a module
pub module_there : (p : ProgramTree) → IsWalkable p → (at : Place) (m : ModuleTree) → IsInstance p at m → (x n : Text) (actuals : List Formula) → kind_in m x ≡ an_instance n actuals →
    (k : ModuleTree) × (find_module p n ≡ Some k)
module_there p walkable at m is x n actuals kind =
    let v = visited p walkable at m is x n actuals kind in there p n (subst (λ t. is_missing_instance p t ≡ false) v.2 v.1.exists)

-- an instance has as many actuals as its module has formals
pub as_many : (p : ProgramTree) → IsWalkable p → (at : Place) (m : ModuleTree) → IsInstance p at m → (x n : Text) (actuals : List Formula) → kind_in m x ≡ an_instance n actuals →
    (k : ModuleTree) → find_module p n ≡ Some k → length k.formals ≡ length actuals
as_many p walkable at m is x n actuals kind k found =
    let v = visited p walkable at m is x n actuals kind in
    same_count k (length actuals) (subst (λ o. is_other_count o (length actuals) ≡ false) found (subst (λ t. is_miscounted p t ≡ false) v.2 v.1.counted))

-- no rule of names, of loops and of `next` is broken at it
module _ (p : ProgramTree) (at : Place) (item : Item) (kept : KeptItem p at item) where
  pub no_names : BreaksNames p at item → ⊥
  no_names h = kept.kept no_such_name (subst (BreaksNames p kept.of.place) (sym kept.is) (subst (λ a. BreaksNames p a item) (sym kept.place) h))

  pub no_loops : BreaksLoops p at item → ⊥
  no_loops h = kept.kept define_loop (subst (BreaksLoops p kept.of.place) (sym kept.is) (subst (λ a. BreaksLoops p a item) (sym kept.place) h))

  pub no_next : breaks_next item ≡ true → ⊥
  no_next h = kept.kept next_here (ap breaks_next kept.is ∙ h)
