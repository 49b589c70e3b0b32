-- The walk of flattening comes to the instances of a program in depth-first order.
use Rattle.std.proofs.Common.{◌≡◌, ℕ, zero, suc, ◌+◌, ◌≤◌, Bool, true, false, List, [], ◌∷◌, ◌++◌, length, map, Option, Some, refl, sym, ◌∙◌, ap, subst, append_assoc, codes, arith}
use Rattle.std.specs.Prelude.{flat_map, slice_get, if◌then◌else◌}
use Rattle.std.proofs.lemmas.Grind.{flat_map-append}
use Rattle.smv_language.specs.Language.{Text, DeclaredTree, boolean, range, members, instance, DeclTree, DefineTree, AssignmentTree, SectionTree, var, ivar, frozen, define, constants, assign, init, invar, trans, ModuleTree, ProgramTree, same_text, is_among, Place, Role, state, kind_declared, kind_in, kind_at, find_module, module_at, module_of_kind, Each, IsInstance, FlatInstance, place_of}
use Rattle.smv_language.proofs.ValueLaws.{same_text_equal}
use Rattle.fault_weave.specs.Faults.{instance_names_in, instance_names, joined, each_joined, below, instances_in, HasInstances}
use Rattle.smv_language.specs.declared.model.Instance.{Instance}
use Rattle.smv_flat_laws.specs.Items.{Item, a_declaration, a_definition, an_assignment, some_constants, an_init, an_invar, a_trans, items_of_section, items_of, NumberedItem, numbered_from, modules_from, items_found, items_named, Visit, visits_inside, visits_of, walk_items, walk, instance_declared, instances_of_visit, instances_of}
use Rattle.smv_flat_laws.specs.Rules.{IsAccepted, is_missing_instance, is_on_path}
use Rattle.smv_flat_laws.proofs.Lists.{map_joined}
use Rattle.smv_flat_laws.proofs.Reaches.{each_left, each_right}
use Rattle.smv_flat_laws.proofs.Conditions.{each_from}
use Rattle.smv_flat_laws.proofs.KindLaws.{ItemFacts, kind_of_declaration}
use Rattle.smv_flat_laws.proofs.Sections.{items_are}
use Rattle.smv_flat_laws.proofs.Pigeons.{IsThere, AreApart, no_more_names}
use Rattle.smv_flat_laws.proofs.Places.{VisitFacts, there, facts_named, all_visit_facts, are_instances}
use Rattle.smv_flat_laws.proofs.Walkable.{accepted_walkable, main_is_there}
use Rattle.fault_extend.specs.WovenFaults.{places_of, IsOfModule}
use Rattle.fault_extend.specs.InstanceLaws.{instance_tree, IsNoInstance, AreNoInstances, DeclaresInVar, HasInstancesInVar, InstancesAreListed}
use Rattle.smv_language.proofs.ListLaws.{get_map}

-- the places of the instances that visits declare
abbrev list_places : List Visit → List Place
list_places vs = map (λ i. i.place) (flat_map instances_of_visit vs)

places_append : (vs ws : List Visit) → list_places (vs ++ ws) ≡ list_places vs ++ list_places ws
places_append vs ws = ap (map (λ (i : FlatInstance). i.place)) (flat_map-append instances_of_visit vs ws) ∙ map_joined (λ (i : FlatInstance). i.place) (flat_map instances_of_visit vs) (flat_map instances_of_visit ws)

-- those of a declaration, with all inside, where the walk goes on so
abbrev type_places : (Place → Text → List Visit) → List Text → Place → DeclaredTree → List Place
type_places go on at boolean = []
type_places go on at (range lo hi) = []
type_places go on at (members ms) = []
type_places go on at (instance k actuals) = at ∷ list_places (if is_among on k then [] else go at k)

abbrev item_places : (Place → Text → List Visit) → List Text → Place → Item → List Place
item_places go on at (a_declaration role d) = type_places go on (d.name ∷ at) d.what
item_places go on at (a_definition d) = []
item_places go on at (an_assignment a) = []
item_places go on at (some_constants xs) = []
item_places go on at (an_init e) = []
item_places go on at (an_invar e) = []
item_places go on at (a_trans e) = []

module _ (go : Place → Text → List Visit) (on : List Text) (at : Place) where
  type_visits : (inside : Place) (what : DeclaredTree) → map (λ (i : FlatInstance). i.place) (instance_declared inside what ++ flat_map instances_of_visit (visits_inside go on inside what)) ≡ type_places go on inside what
  type_visits inside boolean = refl
  type_visits inside (range lo hi) = refl
  type_visits inside (members ms) = refl
  type_visits inside (instance k actuals) = refl

  item_visits : (n : ℕ) (item : Item) → list_places (visits_of go on at n item) ≡ item_places go on at item
  item_visits n (a_declaration role d) = type_visits (d.name ∷ at) d.what
  item_visits n (a_definition d) = refl
  item_visits n (an_assignment a) = refl
  item_visits n (some_constants xs) = refl
  item_visits n (an_init e) = refl
  item_visits n (an_invar e) = refl
  item_visits n (a_trans e) = refl

  numbered_visits : (n : ℕ) (before items : List Item) → list_places (walk_items go on at (numbered_from n before items)) ≡ flat_map (item_places go on at) items
  numbered_visits n before [] = refl
  numbered_visits n before (item ∷ items) =
      places_append (visits_of go on at n item) (walk_items go on at (numbered_from (suc n) (before ++ item ∷ []) items))
      ∙ (λ i. item_visits n item i ++ numbered_visits (suc n) (before ++ item ∷ []) items i)

  found_visits : (q : ProgramTree) (n : ℕ) (before : List ModuleTree) (name : Text) (m : ModuleTree) → find_module q name ≡ Some m →
      list_places (walk_items go on at (items_found (modules_from n before q) name)) ≡ flat_map (item_places go on at) (items_of m)
  found_visits [] n before name m e = cc
  found_visits (first ∷ more) n before name m e = by_name (same_text first.name name) refl (λ found. found_visits more (n + suc (length (items_of first))) (before ++ first ∷ []) name m found)
    where
      by_name : (b : Bool) → same_text first.name name ≡ b →
          (find_module more name ≡ Some m → list_places (walk_items go on at (items_found (modules_from (n + suc (length (items_of first))) (before ++ first ∷ []) more) name)) ≡ flat_map (item_places go on at) (items_of m)) →
          list_places (walk_items go on at (items_found (modules_from n before (first ∷ more)) name)) ≡ flat_map (item_places go on at) (items_of m)
      by_name true t rest =
          let found : Some first ≡ Some m = rw t at e in
          let same : first ≡ m = cc in
          rw t (numbered_visits (suc n) [] (items_of first) ∙ ap (λ (k : ModuleTree). flat_map (item_places go on at) (items_of k)) same)
      by_name false t rest = rw t (rest (rw t at e))

  -- the instances that a module declares, joined in their order
  module _ (f : Text → Option (List Place)) where
    abbrev TypeGood : Text → DeclaredTree → Type 0
    TypeGood x boolean = Unit {0}
    TypeGood x (range lo hi) = Unit {0}
    TypeGood x (members ms) = Unit {0}
    TypeGood x (instance k actuals) = f x ≡ Some (type_places go on (x ∷ at) (instance k actuals))

    abbrev Good : Item → Type 0
    Good (a_declaration role d) = TypeGood d.name d.what
    Good (a_definition d) = Unit {0}
    Good (an_assignment a) = Unit {0}
    Good (some_constants xs) = Unit {0}
    Good (an_init e) = Unit {0}
    Good (an_invar e) = Unit {0}
    Good (a_trans e) = Unit {0}

    one_joined : (x : Text) (what : DeclaredTree) (ns names : List Text) (more : List Place) → TypeGood x what → each_joined f (ns ++ names) ≡ Some more →
        each_joined f ((elim what [ boolean ↦ ns | range lo hi ↦ ns | members ms ↦ ns | instance k actuals ↦ x ∷ ns ]) ++ names) ≡ Some (type_places go on (x ∷ at) what ++ more)
    one_joined x boolean ns names more good h = h
    one_joined x (range lo hi) ns names more good h = h
    one_joined x (members ms) ns names more good h = h
    one_joined x (instance k actuals) ns names more good h = λ i. joined (good i) (h i)

    decls_joined : (ds : List DeclTree) (names : List Text) (rest : List Place) → each_joined f names ≡ Some rest → Each Good (map (a_declaration state) ds) →
        each_joined f (instance_names_in ds ++ names) ≡ Some (flat_map (item_places go on at) (map (a_declaration state) ds) ++ rest)
    decls_joined [] names rest h good = h
    decls_joined (d ∷ ds) names rest h good =
        one_joined d.name d.what (instance_names_in ds) names (flat_map (item_places go on at) (map (a_declaration state) ds) ++ rest) good.0 (decls_joined ds names rest h good.1)
        ∙ ap Some (sym (append_assoc (type_places go on (d.name ∷ at) d.what) (flat_map (item_places go on at) (map (a_declaration state) ds)) rest))

    no_place : (inside : Place) (what : DeclaredTree) → IsNoInstance what → type_places go on inside what ≡ []
    no_place inside boolean h = refl
    no_place inside (range lo hi) h = refl
    no_place inside (members ms) h = refl
    no_place inside (instance k actuals) h = absurd h

    no_places : (role : Role) (ds : List DeclTree) → AreNoInstances ds → flat_map (item_places go on at) (map (a_declaration role) ds) ≡ []
    no_places role [] h = refl
    no_places role (d ∷ ds) h = λ i. no_place (d.name ∷ at) d.what h.0 i ++ no_places role ds h.1 i

    defines_none : (ds : List DefineTree) → flat_map (item_places go on at) (map a_definition ds) ≡ []
    defines_none [] = refl
    defines_none (d ∷ ds) = defines_none ds

    assigns_none : (xs : List AssignmentTree) → flat_map (item_places go on at) (map an_assignment xs) ≡ []
    assigns_none [] = refl
    assigns_none (a ∷ xs) = assigns_none xs

    -- a section's items before those of others
    after_none : (items rest : List Item) → flat_map (item_places go on at) items ≡ [] → flat_map (item_places go on at) (items ++ rest) ≡ flat_map (item_places go on at) rest
    after_none items rest h = flat_map-append (item_places go on at) items rest ∙ ap (λ xs. xs ++ flat_map (item_places go on at) rest) h

    names_joined : (ss : List SectionTree) → Each Good (flat_map items_of_section ss) → Each DeclaresInVar ss →
        each_joined f (instance_names ss) ≡ Some (flat_map (item_places go on at) (flat_map items_of_section ss))
    names_joined [] good h = refl
    names_joined (var ds ∷ ss) good h =
        decls_joined ds (instance_names ss) (flat_map (item_places go on at) (flat_map items_of_section ss)) (names_joined ss (each_right Good (map (a_declaration state) ds) (flat_map items_of_section ss) good) h.1)
        (each_left Good (map (a_declaration state) ds) (flat_map items_of_section ss) good)
        ∙ ap Some (sym (flat_map-append (item_places go on at) (map (a_declaration state) ds) (flat_map items_of_section ss)))
    names_joined (ivar ds ∷ ss) good h =
        names_joined ss (each_right Good (items_of_section (ivar ds)) (flat_map items_of_section ss) good) h.1 ∙ ap Some (sym (after_none (items_of_section (ivar ds)) (flat_map items_of_section ss) (no_places _ ds h.0)))
    names_joined (frozen ds ∷ ss) good h =
        names_joined ss (each_right Good (items_of_section (frozen ds)) (flat_map items_of_section ss) good) h.1 ∙ ap Some (sym (after_none (items_of_section (frozen ds)) (flat_map items_of_section ss) (no_places _ ds h.0)))
    names_joined (define ds ∷ ss) good h =
        names_joined ss (each_right Good (map a_definition ds) (flat_map items_of_section ss) good) h.1 ∙ ap Some (sym (after_none (map a_definition ds) (flat_map items_of_section ss) (defines_none ds)))
    names_joined (constants xs ∷ ss) good h = names_joined ss good.1 h.1
    names_joined (assign xs ∷ ss) good h =
        names_joined ss (each_right Good (map an_assignment xs) (flat_map items_of_section ss) good) h.1 ∙ ap Some (sym (after_none (map an_assignment xs) (flat_map items_of_section ss) (assigns_none xs)))
    names_joined (init e ∷ ss) good h = names_joined ss good.1 h.1
    names_joined (invar e ∷ ss) good h = names_joined ss good.1 h.1
    names_joined (trans e ∷ ss) good h = names_joined ss good.1 h.1

section_of : (q : ProgramTree) (name : Text) (m : ModuleTree) → HasInstancesInVar q → find_module q name ≡ Some m → Each DeclaresInVar m.sections
section_of [] name m h e = cc
section_of (first ∷ more) name m h e = by_name (same_text first.name name) e (section_of more name m h.1)
  where
    by_name : (b : Bool) → (if b then Some first else find_module more name) ≡ Some m → (find_module more name ≡ Some m → Each DeclaresInVar m.sections) → Each DeclaresInVar m.sections
    by_name true e rest = let same : first ≡ m = cc in subst (λ (k : ModuleTree). Each DeclaresInVar k.sections) same h.0
    by_name false e rest = rest e

module _ (p : ProgramTree) (accepted : IsAccepted p) (in_var : HasInstancesInVar p) where
  module _ (n : ℕ) (more : (on : List Text) (at : Place) (name : Text) (m : ModuleTree) → find_module p name ≡ Some m → module_at p at ≡ Some m → AreApart (name ∷ on) → Each (IsThere p) (name ∷ on) →
      n + length on ≡ length p → Each (VisitFacts p) (walk n p on at name) → instances_in n p at ≡ Some (at ∷ list_places (walk n p on at name)))
      (on : List Text) (at : Place) (m : ModuleTree) (here : module_at p at ≡ Some m) (apart : AreApart on) (all : Each (IsThere p) on) (deep : n + length on ≡ length p) where
    type_good : (x : Text) (role : Role) (what : DeclaredTree) → kind_in m x ≡ kind_declared role what → is_missing_instance p what ≡ false → is_on_path on what ≡ false →
        Each (VisitFacts p) (visits_inside (walk n p on) on (x ∷ at) what) → TypeGood (walk n p on) on at (λ y. instances_in n p (y ∷ at)) x what
    type_good x role boolean kind exists free facts = tt
    type_good x role (range lo hi) kind exists free facts = tt
    type_good x role (members ms) kind exists free facts = tt
    type_good x role (instance q actuals) kind exists free facts =
        let found : (k : ModuleTree) × (find_module p q ≡ Some k) = there p q exists in
        let inside : module_at p (x ∷ at) ≡ Some found.0 = ap (λ o. module_of_kind p (kind_at o x)) here ∙ ap (module_of_kind p) kind ∙ found.1 in
        more on (x ∷ at) q found.0 found.1 inside (free, apart) (exists, all) deep (subst (λ b. Each (VisitFacts p) (if b then [] else walk n p on (x ∷ at) q)) free facts)
        ∙ ap (λ b. Some ((x ∷ at) ∷ list_places (if b then [] else walk n p on (x ∷ at) q))) (sym free)

    item_good : (k : ℕ) (before : List Item) (item : Item) → ItemFacts m (record { number = k; before = before; item = item }) → Each (VisitFacts p) (visits_of (walk n p on) on at k item) →
        Good (walk n p on) on at (λ y. instances_in n p (y ∷ at)) item
    item_good k before (a_declaration role d) f facts =
        type_good d.name role d.what (kind_of_declaration m before role d f.after f.among f.fresh) facts.0.exists facts.0.apart facts.1
    item_good k before (a_definition d) f facts = tt
    item_good k before (an_assignment a) f facts = tt
    item_good k before (some_constants xs) f facts = tt
    item_good k before (an_init e) f facts = tt
    item_good k before (an_invar e) f facts = tt
    item_good k before (a_trans e) f facts = tt

    all_good : (items : List NumberedItem) → Each (ItemFacts m) items → Each (VisitFacts p) (walk_items (walk n p on) on at items) →
        Each (λ (i : NumberedItem). Good (walk n p on) on at (λ y. instances_in n p (y ∷ at)) i.item) items
    all_good [] fs facts = tt
    all_good (i ∷ items) fs facts = (
      item_good i.number i.before i.item fs.0 (each_left (VisitFacts p) (visits_of (walk n p on) on at i.number i.item) (walk_items (walk n p on) on at items) facts),
      all_good items fs.1 (each_right (VisitFacts p) (visits_of (walk n p on) on at i.number i.item) (walk_items (walk n p on) on at items) facts),
    )

    module_joined : (name : Text) → find_module p name ≡ Some m → Each (VisitFacts p) (walk_items (walk n p on) on at (items_named p name)) →
        below (instances_in n p) at (Some m) ≡ Some (at ∷ list_places (walk_items (walk n p on) on at (items_named p name)))
    module_joined name found facts =
        ap (joined (Some (at ∷ []))) (names_joined (walk n p on) on at (λ y. instances_in n p (y ∷ at)) m.sections
        ((items_are (Good (walk n p on) on at (λ y. instances_in n p (y ∷ at))) p 1 [] name m found).0 (all_good (items_named p name) (facts_named p (accepted_walkable p accepted) name m found) facts)) (section_of p name m in_var found)
        ∙ ap Some (sym (found_visits (walk n p on) on at p 1 [] name m found)))

  walk_joined : (n : ℕ) (on : List Text) (at : Place) (name : Text) (m : ModuleTree) → find_module p name ≡ Some m → module_at p at ≡ Some m → AreApart (name ∷ on) → Each (IsThere p) (name ∷ on) →
      n + length on ≡ length p → Each (VisitFacts p) (walk n p on at name) → instances_in n p at ≡ Some (at ∷ list_places (walk n p on at name))
  walk_joined zero on at name m found here apart all deep facts = let most : length (name ∷ on) ≤ length p = no_more_names p (name ∷ on) apart all in absurd (omega arith)
  walk_joined (suc n) on at name m found here apart all deep facts =
      ap (below (instances_in n p) at) here ∙ module_joined n (walk_joined n) (name ∷ on) at m here apart all (omega arith) name found facts

  has_instances : HasInstances p (map (λ i. i.place) (instances_of p))
  has_instances =
      let main : (m : ModuleTree) × (find_module p (codes "main") ≡ Some m) = main_is_there p (accepted_walkable p accepted) in
      (length p, walk_joined (length p) [] [] (codes "main") main.0 main.1 main.1 (refl, tt) (is_there main.0 main.1, tt) (omega arith) (all_visit_facts p (accepted_walkable p accepted)))
    where
      is_there : (m : ModuleTree) → find_module p (codes "main") ≡ Some m → IsThere p (codes "main")
      is_there m e = rw e refl

found_name : (q : ProgramTree) (name : Text) (m : ModuleTree) → find_module q name ≡ Some m → m.name ≡ name
found_name [] name m e = cc
found_name (first ∷ more) name m e = by_name (same_text first.name name) refl e (found_name more name m)
  where
    by_name : (b : Bool) → same_text first.name name ≡ b → (if b then Some first else find_module more name) ≡ Some m → (find_module more name ≡ Some m → m.name ≡ name) → m.name ≡ name
    by_name true t e rest = let same : first ≡ m = cc in sym (ap (λ (k : ModuleTree). k.name) same) ∙ same_text_equal first.name name t
    by_name false t e rest = rest e

mapped_places : (instances : List Instance) → map (λ i. i.place) (map instance_tree instances) ≡ places_of instances
mapped_places [] = refl
mapped_places (at ∷ instances) = ap (λ ps. place_of at.path ∷ ps) (mapped_places instances)

pub instances_listed : InstancesAreListed
instances_listed p instances accepted in_var same = record {
  places = subst (HasInstances p) (sym (ap (map (λ (i : FlatInstance). i.place)) same) ∙ mapped_places instances) (has_instances p accepted in_var);
  modules = each_from (IsOfModule p) instances of_module;
}
  where
    of_module : (i : ℕ) (at : Instance) → slice_get instances i ≡ Some at → IsOfModule p at
    of_module i at e =
        let main : (m : ModuleTree) × (find_module p (codes "main") ≡ Some m) = main_is_there p (accepted_walkable p accepted) in
        let listed : slice_get (instances_of p) i ≡ Some (instance_tree at) = subst (λ xs. slice_get xs i ≡ Some (instance_tree at)) same (get_map instance_tree instances i at e) in
        let real : (m : ModuleTree) × IsInstance p (place_of at.path) m × (find_module p at.«module» ≡ Some m) = (are_instances p (accepted_walkable p accepted) main.0 main.1).real i (instance_tree at) listed in
        (real.0, real.1, found_name p at.«module» real.0 real.2)
