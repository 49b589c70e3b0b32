-- No two instances that a module declares have one name.
use Rattle.std.proofs.Common.{◌≡◌, ◌≢◌, ℕ, suc, ◌+◌, Bool, true, false, List, [], ◌∷◌, ◌++◌, length, map, Some, refl, subst}
use Rattle.std.specs.Prelude.{flat_map, if◌then◌else◌}
use Rattle.std.proofs.lemmas.Grind.{flat_map-append}
use Rattle.smv_language.specs.Language.{Text, DeclaredTree, boolean, range, members, instance, DeclTree, SectionTree, var, ivar, frozen, define, constants, assign, init, invar, trans, ModuleTree, ProgramTree, same_text, is_among, state, find_module, Each}
use Rattle.smv_flat_laws.specs.Items.{Item, a_declaration, a_definition, an_assignment, some_constants, an_init, an_invar, a_trans, items_of_section, items_of, NumberedItem, numbered_from, numbered_items, modules_from, items_found}
use Rattle.smv_flat_laws.specs.Rules.{names_of_item, IsWalkable}
use Rattle.smv_flat_laws.proofs.Lists.{each_more}
use Rattle.smv_flat_laws.proofs.Reaches.{each_right}
use Rattle.smv_flat_laws.proofs.KindLaws.{ItemFacts, among_split}
use Rattle.smv_flat_laws.proofs.Places.{facts_named}
use Rattle.fault_weave.specs.Faults.{instance_names_in, instance_names}
use Rattle.fault_cause_laws.proofs.Differ.{Differ}
use Rattle.fault_weave.proofs.WovenExamples.{texts_differ as differs}
use Rattle.smv_flat_laws.proofs.Pairs.{pairs_right}
use Rattle.fault_woven_laws.proofs.Headers.{names_in}

-- a name that the items have not
abbrev IsNew : List Item → Text → Type 0
IsNew before x = is_among (names_in before) x ≡ false

module _ (m : ModuleTree) where
  abbrev AreApart : List Item → List Text → Type 0
  AreApart before names = Differ names × Each (IsNew before) names

  split : (before : List Item) (item : Item) (x : Text) → IsNew (before ++ item ∷ []) x → IsNew before x × (is_among (names_in (item ∷ [])) x ≡ false)
  split before item x h = among_split (names_in before) (names_in (item ∷ [])) x (subst (λ ns. is_among ns x ≡ false) (flat_map-append names_of_item before (item ∷ [])) h)

  more : (before : List Item) (item : Item) (names : List Text) → AreApart (before ++ item ∷ []) names → AreApart before names
  more before item names h = (h.0, each_more (IsNew (before ++ item ∷ [])) (IsNew before) names (λ x k. (split before item x k).0) h.1)

  one_more : (before : List Item) (item : Item) (x : Text) (names : List Text) → ((y : Text) → is_among (names_in (item ∷ [])) y ≡ false → x ≢ y) →
      is_among (m.formals ++ names_in before) x ≡ false → AreApart (before ++ item ∷ []) names → AreApart before (x ∷ names)
  one_more before item x names other fresh h = (
    (each_more (IsNew (before ++ item ∷ [])) (λ y. x ≢ y) names (λ y k. other y (split before item y k).1) h.1, h.0),
    ((among_split m.formals (names_in before) x fresh).1, (more before item names h).1),
  )

  only : (x y : Text) → is_among (x ∷ []) y ≡ false → x ≢ y
  only x y h = go (same_text x y) refl h
    where
      go : (b : Bool) → same_text x y ≡ b → is_among (x ∷ []) y ≡ false → x ≢ y
      go true t h = let bad : true ≡ false = rw t at h in cc
      go false t h = differs x y t

  items_apart : (n : ℕ) (before items : List Item) → Each (ItemFacts m) (numbered_from n before items) → AreApart before (names_in items)
  items_apart n before [] h = (tt, tt)
  items_apart n before (a_declaration role d ∷ items) h =
      one_more before (a_declaration role d) d.name (names_in items) (only d.name) h.0.fresh (items_apart (suc n) (before ++ a_declaration role d ∷ []) items h.1)
  items_apart n before (a_definition d ∷ items) h = one_more before (a_definition d) d.name (names_in items) (only d.name) h.0.fresh (items_apart (suc n) (before ++ a_definition d ∷ []) items h.1)
  items_apart n before (an_assignment a ∷ items) h = more before (an_assignment a) (names_in items) (items_apart (suc n) (before ++ an_assignment a ∷ []) items h.1)
  items_apart n before (some_constants xs ∷ items) h = more before (some_constants xs) (names_in items) (items_apart (suc n) (before ++ some_constants xs ∷ []) items h.1)
  items_apart n before (an_init e ∷ items) h = more before (an_init e) (names_in items) (items_apart (suc n) (before ++ an_init e ∷ []) items h.1)
  items_apart n before (an_invar e ∷ items) h = more before (an_invar e) (names_in items) (items_apart (suc n) (before ++ an_invar e ∷ []) items h.1)
  items_apart n before (a_trans e ∷ items) h = more before (a_trans e) (names_in items) (items_apart (suc n) (before ++ a_trans e ∷ []) items h.1)

-- The names of instances are some of these, in their order.
module _ (P : Text → Type 0) where
  each_named : (x : Text) (what : DeclaredTree) (ns names : List Text) → P x → Each P (ns ++ names) →
      Each P ((elim what [ boolean ↦ ns | range lo hi ↦ ns | members ms ↦ ns | instance k actuals ↦ x ∷ ns ]) ++ names)
  each_named x boolean ns names h k = k
  each_named x (range lo hi) ns names h k = k
  each_named x (members ms) ns names h k = k
  each_named x (instance q actuals) ns names h k = (h, k)

  each_in : (ds : List DeclTree) (items : List Item) (names : List Text) → (Each P (names_in items) → Each P names) → Each P (names_in (map (a_declaration state) ds ++ items)) →
      Each P (instance_names_in ds ++ names)
  each_in [] items names f h = f h
  each_in (d ∷ ds) items names f h = each_named d.name d.what (instance_names_in ds) names h.0 (each_in ds items names f h.1)

  each_after : (items others : List Item) → Each P (names_in (items ++ others)) → Each P (names_in others)
  each_after items others h = each_right P (names_in items) (names_in others) (subst (Each P) (flat_map-append names_of_item items others) h)

  each_instance : (ss : List SectionTree) → Each P (names_in (flat_map items_of_section ss)) → Each P (instance_names ss)
  each_instance [] h = tt
  each_instance (var ds ∷ ss) h = each_in ds (flat_map items_of_section ss) (instance_names ss) (each_instance ss) h
  each_instance (ivar ds ∷ ss) h = each_instance ss (each_after (items_of_section (ivar ds)) (flat_map items_of_section ss) h)
  each_instance (frozen ds ∷ ss) h = each_instance ss (each_after (items_of_section (frozen ds)) (flat_map items_of_section ss) h)
  each_instance (define ds ∷ ss) h = each_instance ss (each_after (items_of_section (define ds)) (flat_map items_of_section ss) h)
  each_instance (constants xs ∷ ss) h = each_instance ss h
  each_instance (assign xs ∷ ss) h = each_instance ss (each_after (items_of_section (assign xs)) (flat_map items_of_section ss) h)
  each_instance (init e ∷ ss) h = each_instance ss h
  each_instance (invar e ∷ ss) h = each_instance ss h
  each_instance (trans e ∷ ss) h = each_instance ss h

differ_named : (x : Text) (what : DeclaredTree) (ns names : List Text) → Each (λ y. x ≢ y) (ns ++ names) → Differ (ns ++ names) →
    Differ ((elim what [ boolean ↦ ns | range lo hi ↦ ns | members ms ↦ ns | instance k actuals ↦ x ∷ ns ]) ++ names)
differ_named x boolean ns names h k = k
differ_named x (range lo hi) ns names h k = k
differ_named x (members ms) ns names h k = k
differ_named x (instance q actuals) ns names h k = (h, k)

differ_in : (ds : List DeclTree) (ss : List SectionTree) → (Differ (names_in (flat_map items_of_section ss)) → Differ (instance_names ss)) →
    Differ (names_in (map (a_declaration state) ds ++ flat_map items_of_section ss)) → Differ (instance_names_in ds ++ instance_names ss)
differ_in [] ss f h = f h
differ_in (d ∷ ds) ss f h =
    differ_named d.name d.what (instance_names_in ds) (instance_names ss) (each_in (λ y. d.name ≢ y) ds (flat_map items_of_section ss) (instance_names ss) (each_instance (λ y. d.name ≢ y) ss) h.0)
    (differ_in ds ss f h.1)

differ_after : (items others : List Item) → Differ (names_in (items ++ others)) → Differ (names_in others)
differ_after items others h = pairs_right (λ x y. x ≢ y) (names_in items) (names_in others) (subst (λ ns. Differ ns) (flat_map-append names_of_item items others) h)

differ_instances : (ss : List SectionTree) → Differ (names_in (flat_map items_of_section ss)) → Differ (instance_names ss)
differ_instances [] h = tt
differ_instances (var ds ∷ ss) h = differ_in ds ss (differ_instances ss) h
differ_instances (ivar ds ∷ ss) h = differ_instances ss (differ_after (items_of_section (ivar ds)) (flat_map items_of_section ss) h)
differ_instances (frozen ds ∷ ss) h = differ_instances ss (differ_after (items_of_section (frozen ds)) (flat_map items_of_section ss) h)
differ_instances (define ds ∷ ss) h = differ_instances ss (differ_after (items_of_section (define ds)) (flat_map items_of_section ss) h)
differ_instances (constants xs ∷ ss) h = differ_instances ss h
differ_instances (assign xs ∷ ss) h = differ_instances ss (differ_after (items_of_section (assign xs)) (flat_map items_of_section ss) h)
differ_instances (init e ∷ ss) h = differ_instances ss h
differ_instances (invar e ∷ ss) h = differ_instances ss h
differ_instances (trans e ∷ ss) h = differ_instances ss h

-- the items of a module by their numbers
numbered : (P : NumberedItem → Type 0) (q : ProgramTree) (n : ℕ) (before : List ModuleTree) (x : Text) (m : ModuleTree) → find_module q x ≡ Some m →
    Each P (items_found (modules_from n before q) x) → (k : ℕ) × Each P (numbered_from k [] (items_of m))
numbered P [] n before x m e h = cc
numbered P (first ∷ others) n before x m e h = by_name (same_text first.name x) e h (numbered P others (n + suc (length (items_of first))) (before ++ first ∷ []) x m)
  where
    by_name : (b : Bool) → (if b then Some first else find_module others x) ≡ Some m →
        Each P (if b then numbered_items (record { number = n; before = before; tree = first }) else items_found (modules_from (n + suc (length (items_of first))) (before ++ first ∷ []) others) x) →
        (find_module others x ≡ Some m → Each P (items_found (modules_from (n + suc (length (items_of first))) (before ++ first ∷ []) others) x) → (k : ℕ) × Each P (numbered_from k [] (items_of m))) →
        (k : ℕ) × Each P (numbered_from k [] (items_of m))
    by_name true e h rest = let same : first ≡ m = cc in (suc n, subst (λ (k : ModuleTree). Each P (numbered_from (suc n) [] (items_of k))) same h)
    by_name false e h rest = rest e h

pub declared_differ : (p : ProgramTree) → IsWalkable p → (x : Text) (m : ModuleTree) → find_module p x ≡ Some m → Differ (instance_names m.sections)
declared_differ p walkable x m found =
    let facts : (k : ℕ) × Each (ItemFacts m) (numbered_from k [] (items_of m)) = numbered (ItemFacts m) p 1 [] x m found (facts_named p walkable x m found) in
    differ_instances m.sections (items_apart m facts.0 [] (items_of m) facts.1).0
