-- The variables of a program are counted item by item.
use Rattle.std.proofs.Common.{◌≡◌, ℕ, zero, suc, ◌+◌, ◌≤◌, arith, false, List, [], ◌∷◌, length, Some, refl, sym, ◌∙◌, ap, subst}
use Rattle.std.specs.Prelude.{flat_map, if◌then◌else◌, codes, sum_by}
use Rattle.std.proofs.lemmas.List.Sums.{sum_by-cons, sum_by-append}
use Rattle.smv_language.specs.Language.{Text, DeclaredTree, boolean, range, members, instance, ModuleTree, ProgramTree, Place, Role, find_module, Each, FlatInstance, is_among}
use Rattle.smv_flat_laws.specs.Items.{Item, a_declaration, a_definition, an_assignment, some_constants, an_init, an_invar, a_trans, NumberedItem, items_named, Visit, visits_inside, visits_of, walk_items, walk, visits, instance_declared, instances_of_visit, main_instance, variable_declared}
use Rattle.smv_flat_laws.specs.Rules.{is_missing_instance, is_on_path}
use Rattle.smv_flat_laws.proofs.Reaches.{each_left, each_right}
use Rattle.smv_flat_laws.proofs.Pigeons.{IsThere, AreApart, no_more_names}
use Rattle.smv_flat_laws.proofs.Places.{VisitFacts, all_visit_facts}
use Rattle.smv_flat_laws.proofs.Walkable.{main_is_there}
use Rattle.smv_type_laws.specs.CountedItems.{of_type, of_variable, over_module, VariablesByItems}
use Rattle.smv_type_laws.proofs.Summed.{sum_flat, sum_same, named_sum}

module _ (p : ProgramTree) (g : Role → DeclaredTree → ℕ) where
  -- of a declaration that is visited, of a module, and of the instances of declarations
  abbrev of_visit : Visit → ℕ
  of_visit v = of_type (g v.role) v.decl.what

  abbrev of_module : Text → ℕ
  of_module name = over_module (of_variable g) (find_module p name)

  abbrev of_instance : FlatInstance → ℕ
  of_instance at = of_module at.module_name

  abbrev of_inside : Visit → ℕ
  of_inside v = sum_by of_instance (instances_of_visit v)

  abbrev IsCounted : Text → List Visit → Type 0
  IsCounted name vs = sum_by of_visit vs ≡ of_module name + sum_by of_inside vs

  abbrev Goes : List Text → (Place → Text → List Visit) → Type 0
  Goes on go = (at : Place) (name : Text) → IsThere p name → is_among on name ≡ false → Each (VisitFacts p) (go at name) → IsCounted name (go at name)

  -- what is declared, and what is inside it
  inside_sum : (on : List Text) (go : Place → Text → List Visit) → Goes on go → (role : Role) (at : Place) (what : DeclaredTree) →
      is_missing_instance p what ≡ false → is_on_path on what ≡ false → Each (VisitFacts p) (visits_inside go on at what) →
      of_type (g role) what + sum_by of_visit (visits_inside go on at what)
      ≡ of_type (g role) what + (sum_by of_instance (instance_declared at what) + sum_by of_inside (visits_inside go on at what))
  inside_sum on go goes role at boolean ex apart h = omega arith
  inside_sum on go goes role at (range lo hi) ex apart h = omega arith
  inside_sum on go goes role at (members ms) ex apart h = omega arith
  inside_sum on go goes role at (instance n actuals) ex apart h =
      let facts : Each (VisitFacts p) (go at n) = subst (λ b. Each (VisitFacts p) (if b then [] else go at n)) apart h in
      let counted : IsCounted n (if is_among on n then [] else go at n) = subst (λ b. IsCounted n (if b then [] else go at n)) (sym apart) (goes at n ex apart facts) in
      omega (arith, counted, sum_by-cons of_instance (record { place = at; module_name = n }) [])

  item_sum : (on : List Text) (go : Place → Text → List Visit) → Goes on go → (at : Place) (n : ℕ) (i : Item) → Each (VisitFacts p) (visits_of go on at n i) →
      sum_by of_visit (visits_of go on at n i) ≡ of_variable g i + sum_by of_inside (visits_of go on at n i)
  item_sum on go goes at n (a_declaration role d) h =
      omega (
        arith,
        sum_by-cons of_visit (record { place = at; on_path = on; number = n; role = role; decl = d }) (visits_inside go on (d.name ∷ at) d.what),
        sum_by-cons of_inside (record { place = at; on_path = on; number = n; role = role; decl = d }) (visits_inside go on (d.name ∷ at) d.what),
        inside_sum on go goes role (d.name ∷ at) d.what h.0.exists h.0.apart h.1,
      )
  item_sum on go goes at n (a_definition d) h = refl
  item_sum on go goes at n (an_assignment a) h = refl
  item_sum on go goes at n (some_constants xs) h = refl
  item_sum on go goes at n (an_init e) h = refl
  item_sum on go goes at n (an_invar e) h = refl
  item_sum on go goes at n (a_trans e) h = refl

  items_sum : (on : List Text) (go : Place → Text → List Visit) → Goes on go → (at : Place) (is : List NumberedItem) → Each (VisitFacts p) (walk_items go on at is) →
      sum_by of_visit (walk_items go on at is) ≡ sum_by (λ (i : NumberedItem). of_variable g i.item) is + sum_by of_inside (walk_items go on at is)
  items_sum on go goes at [] h = refl
  items_sum on go goes at (i ∷ is) h =
      omega (
        arith,
        sum_by-append of_visit (visits_of go on at i.number i.item) (walk_items go on at is),
        sum_by-append of_inside (visits_of go on at i.number i.item) (walk_items go on at is),
        sum_by-cons (λ (j : NumberedItem). of_variable g j.item) i is,
        item_sum on go goes at i.number i.item (each_left (VisitFacts p) (visits_of go on at i.number i.item) (walk_items go on at is) h),
        items_sum on go goes at is (each_right (VisitFacts p) (visits_of go on at i.number i.item) (walk_items go on at is) h),
      )

  -- the walk comes to an end before the modules do
  walk_sum : (n : ℕ) (on : List Text) (at : Place) (name : Text) → Each (IsThere p) (name ∷ on) → AreApart (name ∷ on) → length on + n ≡ length p →
      Each (VisitFacts p) (walk n p on at name) → IsCounted name (walk n p on at name)
  walk_sum zero on at name are apart size h = let few : suc (length on) ≤ length p = no_more_names p (name ∷ on) apart are in absurd (omega (arith, few, size))
  walk_sum (suc n) on at name are apart size h =
      items_sum (name ∷ on) (walk n p (name ∷ on))
      (λ bt other is new facts. walk_sum n (name ∷ on) bt other (is, are) (new, apart) (omega (arith, size)) facts) at (items_named p name) h
      ∙ ap (λ k. k + sum_by of_inside (walk (suc n) p on at name)) (named_sum (of_variable g) p name)

  one_variable : (v : Visit) (what : DeclaredTree) → v.decl.what ≡ what → sum_by (λ (w : Visit). g w.role w.decl.what) (variable_declared v what) ≡ of_type (g v.role) what
  one_variable v boolean e = omega (arith, ap (g v.role) e)
  one_variable v (range lo hi) e = omega (arith, ap (g v.role) e)
  one_variable v (members ms) e = omega (arith, ap (g v.role) e)
  one_variable v (instance m actuals) e = refl

pub variables_by_items : VariablesByItems
variables_by_items p walkable g =
    omega (
      arith,
      sum_flat (λ (w : Visit). g w.role w.decl.what) (λ v. variable_declared v v.decl.what) (visits p),
      sum_same (λ v. sum_by (λ (w : Visit). g w.role w.decl.what) (variable_declared v v.decl.what)) (of_visit p g) (visits p) (λ v. one_variable p g v v.decl.what refl),
      walked,
      sum_by-cons (of_instance p g) main_instance (flat_map instances_of_visit (visits p)),
      sum_flat (of_instance p g) instances_of_visit (visits p),
    )
  where
    main : (m : ModuleTree) × (find_module p (codes "main") ≡ Some m)
    main = main_is_there p walkable

    walked : IsCounted p g (codes "main") (visits p)
    walked = walk_sum p g (length p) [] [] (codes "main") (rw main.1 refl, tt) (refl, tt) (omega arith) (all_visit_facts p walkable)
