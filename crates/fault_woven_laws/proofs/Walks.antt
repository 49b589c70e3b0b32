-- The walk over the instances of a woven program: it comes to the same instances, and breaks no rule that it kept.
use Rattle.std.proofs.Common.{◌≡◌, ℕ, zero, suc, Bool, true, false, List, [], ◌∷◌, ◌++◌, length, map, flat_map, Option, Some, None, refl, sym, ◌∙◌, ap, subst}
use Rattle.std.specs.Prelude.{codes, option_map, if◌then◌else◌}
use Rattle.std.proofs.lemmas.Grind.{flat_map-append}
use Rattle.smv_language.specs.Language.{Text, DeclaredTree, boolean, range, members, instance, ModuleTree, ProgramTree, IsType, is_among, Place, Role, find_module, is_missing, Each}
use Rattle.smv_flat_laws.specs.Items.{Item, a_declaration, a_definition, an_assignment, some_constants, an_init, an_invar, a_trans, NumberedItem, items_of, numbered_from, items_named, Visit, visits_inside, visits_of, walk_items, walk, visits, instances_of_visit, instances_of}
use Rattle.smv_flat_laws.specs.Rules.{is_missing_instance, is_other_count, is_miscounted}
use Rattle.smv_flat_laws.proofs.Reaches.{each_left, each_right}
use Rattle.smv_flat_laws.proofs.Conditions.{each_join}
use Rattle.smv_flat_laws.proofs.Places.{VisitFacts}
use Rattle.fault_instructions.specs.Instructions.{InstructionTree, is_affected, slices_of}
use Rattle.fault_weave.specs.WovenProgram.{woven_module, woven}
use Rattle.fault_weave.proofs.WovenKinds.{find_woven}
use Rattle.fault_woven_laws.proofs.WovenNamesItems.{woven_item, added_items, woven_items, added_flat, of_slices, items_numbered, items_none}
use Rattle.fault_woven_laws.proofs.Looking.{type_finite}

-- an item that declares no instance
abbrev IsPlainItem : Item → Type 0
IsPlainItem (a_declaration role d) = IsType d.what
IsPlainItem (a_definition d) = Unit {0}
IsPlainItem (an_assignment a) = Unit {0}
IsPlainItem (some_constants xs) = Unit {0}
IsPlainItem (an_init e) = Unit {0}
IsPlainItem (an_invar e) = Unit {0}
IsPlainItem (a_trans e) = Unit {0}

added_plain : (i : InstructionTree) (m : ModuleTree) → Each IsPlainItem (added_items i m)
added_plain i m =
    subst (Each IsPlainItem) (sym (added_flat i m)) (of_slices IsPlainItem m (slices_of i m.name) (λ s a. record {
      own = type_finite m s.target;
      mode = tt;
      starts = tt;
      moves = tt;
      read = tt;
      each_rule = λ n b. record { differs = tt; stays = tt; picked = tt; ramps = λ d f. tt; stays_first = tt; ramps_first = λ d f. tt };
    }))

module _ (p : ProgramTree) (i : InstructionTree) where
  missing_same : (what : DeclaredTree) → is_missing_instance (woven p i) what ≡ is_missing_instance p what
  missing_same boolean = refl
  missing_same (range lo hi) = refl
  missing_same (members ms) = refl
  missing_same (instance m actuals) = ap is_missing (find_woven p i m) ∙ go (find_module p m)
    where
      go : (o : Option ModuleTree) → is_missing (option_map (woven_module i) o) ≡ is_missing o
      go None = refl
      go (Some k) = refl

  count_same : (what : DeclaredTree) → is_miscounted (woven p i) what ≡ is_miscounted p what
  count_same boolean = refl
  count_same (range lo hi) = refl
  count_same (members ms) = refl
  count_same (instance m actuals) = ap (λ o. is_other_count o (length actuals)) (find_woven p i m) ∙ go (find_module p m)
    where
      go : (o : Option ModuleTree) → is_other_count (option_map (woven_module i) o) (length actuals) ≡ is_other_count o (length actuals)
      go None = refl
      go (Some k) = refl

  -- the second walk breaks no rule that the first keeps, and comes to the same instances
  abbrev Fits : List Visit → List Visit → Type 0
  Fits vs ws = (Each (VisitFacts p) vs → Each (VisitFacts (woven p i)) ws) × (flat_map instances_of_visit ws ≡ flat_map instances_of_visit vs)

  fits_join : (vs ws vs' ws' : List Visit) → Fits vs ws → Fits vs' ws' → Fits (vs ++ vs') (ws ++ ws')
  fits_join vs ws vs' ws' f g = (
    (λ h. each_join (VisitFacts (woven p i)) ws ws' (f.0 (each_left (VisitFacts p) vs vs' h)) (g.0 (each_right (VisitFacts p) vs vs' h))),
    flat_map-append instances_of_visit ws ws' ∙ (λ j. f.1 j ++ g.1 j) ∙ sym (flat_map-append instances_of_visit vs vs'),
  )

  module _ (go go' : Place → Text → List Visit) (more : (at : Place) (name : Text) → Fits (go at name) (go' at name)) (on : List Text) where
    inside_fits : (at : Place) (what : DeclaredTree) → Fits (visits_inside go on at what) (visits_inside go' on at what)
    inside_fits at boolean = ((λ h. tt), refl)
    inside_fits at (range lo hi) = ((λ h. tt), refl)
    inside_fits at (members ms) = ((λ h. tt), refl)
    inside_fits at (instance m actuals) = by_path (is_among on m)
      where
        by_path : (b : Bool) → Fits (if b then [] else go at m) (if b then [] else go' at m)
        by_path true = ((λ h. tt), refl)
        by_path false = more at m

    item_fits : (at : Place) (n n' : ℕ) (affected : Text → Bool) (item : Item) → Fits (visits_of go on at n item) (visits_of go' on at n' (woven_item affected item))
    item_fits at n n' affected (a_declaration role d) =
        let inside = inside_fits (d.name ∷ at) d.what in (
          (λ h. (record { exists = missing_same d.what ∙ h.0.exists; counted = count_same d.what ∙ h.0.counted; apart = h.0.apart }, inside.0 h.1)),
          ap (λ xs. instances_of_visit (record { place = at; on_path = on; number = n; role = role; decl = d }) ++ xs) inside.1,
        )
    item_fits at n n' affected (a_definition d) = ((λ h. tt), refl)
    item_fits at n n' affected (an_assignment a) = ((λ h. tt), refl)
    item_fits at n n' affected (some_constants xs) = ((λ h. tt), refl)
    item_fits at n n' affected (an_init e) = ((λ h. tt), refl)
    item_fits at n n' affected (an_invar e) = ((λ h. tt), refl)
    item_fits at n n' affected (a_trans e) = ((λ h. tt), refl)

    finite_fits : (at : Place) (n : ℕ) (role : Role) (name : Text) (what : DeclaredTree) → IsType what → Fits [] (visits_of go' on at n (a_declaration role (record { name = name; what = what })))
    finite_fits at n role name boolean h = ((λ f. (record { exists = refl; counted = refl; apart = refl }, tt)), refl)
    finite_fits at n role name (range lo hi) h = ((λ f. (record { exists = refl; counted = refl; apart = refl }, tt)), refl)
    finite_fits at n role name (members ms) h = ((λ f. (record { exists = refl; counted = refl; apart = refl }, tt)), refl)
    finite_fits at n role name (instance m actuals) h = absurd h

    plain_fits : (at : Place) (n : ℕ) (item : Item) → IsPlainItem item → Fits [] (visits_of go' on at n item)
    plain_fits at n (a_declaration role d) h = finite_fits at n role d.name d.what h
    plain_fits at n (a_definition d) h = ((λ f. tt), refl)
    plain_fits at n (an_assignment a) h = ((λ f. tt), refl)
    plain_fits at n (some_constants xs) h = ((λ f. tt), refl)
    plain_fits at n (an_init e) h = ((λ f. tt), refl)
    plain_fits at n (an_invar e) h = ((λ f. tt), refl)
    plain_fits at n (a_trans e) h = ((λ f. tt), refl)

    added_fit : (at : Place) (n : ℕ) (before items : List Item) → Each IsPlainItem items → Fits [] (walk_items go' on at (numbered_from n before items))
    added_fit at n before [] h = ((λ f. tt), refl)
    added_fit at n before (item ∷ items) h =
        fits_join [] (visits_of go' on at n item) [] (walk_items go' on at (numbered_from (suc n) (before ++ item ∷ []) items)) (plain_fits at n item h.0) (added_fit at (suc n) (before ++ item ∷ []) items h.1)

    items_fit : (at : Place) (affected : Text → Bool) (added : List Item) → Each IsPlainItem added → (n n' : ℕ) (before before' items : List Item) →
        Fits (walk_items go on at (numbered_from n before items)) (walk_items go' on at (numbered_from n' before' (map (woven_item affected) items ++ added)))
    items_fit at affected added h n n' before before' [] = added_fit at n' before' added h
    items_fit at affected added h n n' before before' (item ∷ items) =
        fits_join (visits_of go on at n item) (visits_of go' on at n' (woven_item affected item)) (walk_items go on at (numbered_from (suc n) (before ++ item ∷ []) items))
        (walk_items go' on at (numbered_from (suc n') (before' ++ woven_item affected item ∷ []) (map (woven_item affected) items ++ added))) (item_fits at n n' affected item)
        (items_fit at affected added h (suc n) (suc n') (before ++ item ∷ []) (before' ++ woven_item affected item ∷ []) items)

  module _ (n : ℕ) (on : List Text) (more : (at : Place) (name : Text) → Fits (walk n p on at name) (walk n (woven p i) on at name)) where
    abbrev ModuleFits : Place → List NumberedItem → List NumberedItem → Type 0
    ModuleFits at is js = Fits (walk_items (walk n p on) on at is) (walk_items (walk n (woven p i) on) on at js)

    module_fits : (at : Place) (name : Text) → ModuleFits at (items_named p name) (items_named (woven p i) name)
    module_fits at name = by_module (find_module p name) refl
      where
        by_module : (o : Option ModuleTree) → find_module p name ≡ o → ModuleFits at (items_named p name) (items_named (woven p i) name)
        by_module None e =
            let none : items_named p name ≡ [] = items_none p 1 [] name e in
            let none' : items_named (woven p i) name ≡ [] = items_none (woven p i) 1 [] name (find_woven p i name ∙ ap (option_map (woven_module i)) e) in
            subst (λ is. ModuleFits at is (items_named (woven p i) name)) (sym none) (subst (λ js. ModuleFits at [] js) (sym none') ((λ h. tt), refl))
        by_module (Some m) e =
            let of_p = items_numbered p 1 [] name m e in
            let of_woven = items_numbered (woven p i) 1 [] name (woven_module i m) (find_woven p i name ∙ ap (option_map (woven_module i)) e) in
            subst (λ is. ModuleFits at is (items_named (woven p i) name)) (sym of_p.1)
            (subst (λ js. ModuleFits at (numbered_from of_p.0 [] (items_of m)) js) (sym (of_woven.1 ∙ ap (numbered_from of_woven.0 []) (woven_items i m)))
            (items_fit (walk n p on) (walk n (woven p i) on) more on at (is_affected i m.name) (added_items i m) (added_plain i m) of_p.0 of_woven.0 [] [] (items_of m)))

  walk_fits : (n : ℕ) (on : List Text) (at : Place) (name : Text) → Fits (walk n p on at name) (walk n (woven p i) on at name)
  walk_fits zero on at name = ((λ h. tt), refl)
  walk_fits (suc n) on at name = module_fits n (name ∷ on) (walk_fits n (name ∷ on)) at name

  length_same : (q : ProgramTree) → length (woven q i) ≡ length q
  length_same [] = refl
  length_same (m ∷ q) = ap suc (length_same q)

  visits_fit : Fits (visits p) (visits (woven p i))
  visits_fit = subst (λ n. Fits (visits p) (walk n (woven p i) [] [] (codes "main"))) (sym (length_same p)) (walk_fits (length p) [] [] (codes "main"))

  -- the walk keeps the rules of instances
  pub visits_kept : Each (VisitFacts p) (visits p) → Each (VisitFacts (woven p i)) (visits (woven p i))
  visits_kept = visits_fit.0

  -- the instances are the same
  pub same_instances : instances_of (woven p i) ≡ instances_of p
  same_instances = ap (λ xs. record { place = []; module_name = codes "main" } ∷ xs) visits_fit.1
