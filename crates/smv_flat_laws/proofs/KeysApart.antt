-- No instance and no definition is listed twice.
use Rattle.std.proofs.Common.{◌≡◌, ℕ, suc, ◌≤◌, arith, Bool, true, false, ◌||◌, List, [], ◌∷◌, ◌++◌, Option, Some, None, length, refl, sym, ◌∙◌, subst}
use Rattle.std.specs.Prelude.{flat_map, codes, slice_get}
use Rattle.smv_language.specs.Language.{Text, Path, Formula, DeclaredTree, boolean, range, members, instance, ModuleTree, ProgramTree, Place, Key, define_key, actual_key, find_module, plain_name, same_text, is_among, Each, IsInstance, FlatInstance}
use Rattle.smv_language.proofs.ValueLaws.{same_text_refl}
use Rattle.smv_flat_laws.specs.Items.{Item, a_declaration, a_definition, an_assignment, some_constants, an_init, an_invar, a_trans, NumberedItem, items_named, Visit, visits, instance_declared, instances_of_visit, instances_of}
use Rattle.smv_flat_laws.specs.Rules.{names_of_item, is_name_again, IsWalkable}
use Rattle.smv_flat_laws.specs.Model.{Root, root_of_actual, roots_of_actuals, roots_of_type, roots_of_item, roots_of}
use Rattle.smv_flat_laws.proofs.Lists.{each_more}
use Rattle.smv_flat_laws.proofs.Conditions.{each_join, each_from}
use Rattle.smv_flat_laws.proofs.KindLaws.{ItemFacts}
use Rattle.smv_flat_laws.proofs.Places.{facts_named, all_visit_facts, are_instances}
use Rattle.smv_flat_laws.proofs.Apart.{Differ, Apart, LaterThan, Ordered, among_right, found_ordered, walk_apart}
use Rattle.smv_flat_laws.proofs.Walkable.{main_is_there}
use Rattle.smv_flat_laws.proofs.Pairs.{Pairwise, pairwise_same, pairs_join, across_kinds}

-- Instances.
abbrev pub OtherPlace : FlatInstance → FlatInstance → Type 0
OtherPlace a b = a.place ≡ b.place → ⊥

inside_differs : (v : Visit) (vs : List Visit) → Each (Differ v) vs → Each (λ (b : FlatInstance). v.decl.name ∷ v.place ≡ b.place → ⊥) (flat_map instances_of_visit vs)
inside_differs v [] h = tt
inside_differs v (w ∷ vs) h =
    each_join (λ (b : FlatInstance). v.decl.name ∷ v.place ≡ b.place → ⊥) (instances_of_visit w) (flat_map instances_of_visit vs) (of_one w.decl.what) (inside_differs v vs h.1)
  where
    of_one : (what : DeclaredTree) → Each (λ (b : FlatInstance). v.decl.name ∷ v.place ≡ b.place → ⊥) (instance_declared (w.decl.name ∷ w.place) what)
    of_one boolean = tt
    of_one (range lo hi) = tt
    of_one (members ms) = tt
    of_one (instance m actuals) = ((λ e. let names : v.decl.name ≡ w.decl.name = cc in let places : v.place ≡ w.place = cc in h.0 places names), tt)

visited_apart : (vs : List Visit) → Apart vs → Pairwise OtherPlace (flat_map instances_of_visit vs)
visited_apart [] h = tt
visited_apart (v ∷ vs) h = of_one v.decl.what (inside_differs v vs h.0) (visited_apart vs h.1)
  where
    of_one : (what : DeclaredTree) → Each (λ (b : FlatInstance). v.decl.name ∷ v.place ≡ b.place → ⊥) (flat_map instances_of_visit vs) → Pairwise OtherPlace (flat_map instances_of_visit vs) →
        Pairwise OtherPlace (instance_declared (v.decl.name ∷ v.place) what ++ flat_map instances_of_visit vs)
    of_one boolean d rest = rest
    of_one (range lo hi) d rest = rest
    of_one (members ms) d rest = rest
    of_one (instance m actuals) d rest = (d, rest)

pub below_main : (vs : List Visit) → Each (λ (b : FlatInstance). [] ≡ b.place → ⊥) (flat_map instances_of_visit vs)
below_main [] = tt
below_main (v ∷ vs) = each_join (λ (b : FlatInstance). [] ≡ b.place → ⊥) (instances_of_visit v) (flat_map instances_of_visit vs) (of_one v.decl.what) (below_main vs)
  where
    of_one : (what : DeclaredTree) → Each (λ (b : FlatInstance). [] ≡ b.place → ⊥) (instance_declared (v.decl.name ∷ v.place) what)
    of_one boolean = tt
    of_one (range lo hi) = tt
    of_one (members ms) = tt
    of_one (instance m actuals) = ((λ e. cc), tt)

-- no instance is listed twice
pub instances_apart : (p : ProgramTree) → IsWalkable p → Pairwise OtherPlace (instances_of p)
instances_apart p walkable =
    let main : (k : ModuleTree) × (find_module p (codes "main") ≡ Some k) = main_is_there p walkable in
    (below_main (visits p), visited_apart (visits p) (walk_apart p walkable (length p) [] [] (codes "main") main.0 main.1 (all_visit_facts p walkable)).0)

-- an instance has one number
pub one_number : (p : ProgramTree) → IsWalkable p → (i j : ℕ) (a b : FlatInstance) → slice_get (instances_of p) i ≡ Some a → slice_get (instances_of p) j ≡ Some b → a.place ≡ b.place → i ≡ j
one_number p walkable i j a b e f same = pairwise_same OtherPlace (instances_of p) i j a b (instances_apart p walkable) e f (λ other. other same) (λ other. other (sym same))

-- Definitions.
abbrev pub OtherKey : Root → Root → Type 0
OtherKey r s = r.key ≡ s.key → ⊥

-- the key is that of a define of this name at the instance, or of an actual of its instance of this name
abbrev KeyOf : Place → Text → Key → Type 0
KeyOf at x (define_key bt y) = (bt ≡ at) × (y ≡ x)
KeyOf at x (actual_key inside i) = inside ≡ x ∷ at

other_names : (at : Place) (x y : Text) (k l : Key) → (x ≡ y → ⊥) → KeyOf at x k → KeyOf at y l → k ≡ l → ⊥
other_names at x y (define_key bt u) (define_key ct w) n h g e = let same : u ≡ w = cc in n (sym h.1 ∙ same ∙ g.1)
other_names at x y (define_key bt u) (actual_key inside i) n h g e = cc
other_names at x y (actual_key inside i) (define_key bt u) n h g e = cc
other_names at x y (actual_key inside i) (actual_key within j) n h g e =
    let same : inside ≡ within = cc in let named : x ∷ at ≡ y ∷ at = sym h ∙ same ∙ g in let names : x ≡ y = cc in n names

other_places : (at bt : Place) (x y : Text) (k l : Key) → (at ≡ bt → ⊥) → KeyOf at x k → KeyOf bt y l → k ≡ l → ⊥
other_places at bt x y (define_key ct u) (define_key dt w) n h g e = let same : ct ≡ dt = cc in n (sym h.0 ∙ same ∙ g.0)
other_places at bt x y (define_key ct u) (actual_key inside i) n h g e = cc
other_places at bt x y (actual_key inside i) (define_key ct u) n h g e = cc
other_places at bt x y (actual_key inside i) (actual_key within j) n h g e =
    let same : inside ≡ within = cc in let places : x ∷ at ≡ y ∷ bt = sym h ∙ same ∙ g in let tails : at ≡ bt = cc in n tails

-- the actuals of an instance from a number on
abbrev ActualFrom : Place → ℕ → Root → Type 0
ActualFrom inside i r = (j : ℕ) × (r.key ≡ actual_key inside j) × (i ≤ j)

actuals_from : (inside : Place) (i item : ℕ) (es : List Formula) → Each (ActualFrom inside i) (roots_of_actuals inside i item es)
actuals_from inside i item [] = tt
actuals_from inside i item (e ∷ es) =
    each_join (ActualFrom inside i) (root_of_actual inside i item (plain_name e)) (roots_of_actuals inside (suc i) item es) (of_one (plain_name e))
    (each_more (ActualFrom inside (suc i)) (ActualFrom inside i) (roots_of_actuals inside (suc i) item es) (λ r h. (h.0, h.1, omega (arith, h.2))) (actuals_from inside (suc i) item es))
  where
    of_one : (o : Option Path) → Each (ActualFrom inside i) (root_of_actual inside i item o)
    of_one None = ((i, refl, omega arith), tt)
    of_one (Some name) = tt

actuals_apart : (inside : Place) (i item : ℕ) (es : List Formula) → Pairwise OtherKey (roots_of_actuals inside i item es)
actuals_apart inside i item [] = tt
actuals_apart inside i item (e ∷ es) = of_one (plain_name e) (actuals_apart inside (suc i) item es)
  where
    of_one : (o : Option Path) → Pairwise OtherKey (roots_of_actuals inside (suc i) item es) → Pairwise OtherKey (root_of_actual inside i item o ++ roots_of_actuals inside (suc i) item es)
    of_one None rest = (
      each_more (ActualFrom inside (suc i)) (OtherKey (record { key = actual_key inside i; item = item })) (roots_of_actuals inside (suc i) item es)
          (λ r h e. let keys : actual_key inside i ≡ actual_key inside h.0 = e ∙ h.1 in let same : i ≡ h.0 = cc in omega (arith, same, h.2)) (actuals_from inside (suc i) item es),
      rest,
    )
    of_one (Some name) rest = rest

-- the keys of an item that gives a name belong to the name
type_keys : (at : Place) (x : Text) (item : ℕ) (what : DeclaredTree) → Each (λ (r : Root). KeyOf at x r.key) (roots_of_type (x ∷ at) item what)
type_keys at x item boolean = tt
type_keys at x item (range lo hi) = tt
type_keys at x item (members ms) = tt
type_keys at x item (instance m actuals) =
    each_more (ActualFrom (x ∷ at) 0) (λ (r : Root). KeyOf at x r.key) (roots_of_actuals (x ∷ at) 0 item actuals) (λ r h. subst (KeyOf at x) (sym h.1) refl) (actuals_from (x ∷ at) 0 item actuals)

type_apart : (inside : Place) (item : ℕ) (what : DeclaredTree) → Pairwise OtherKey (roots_of_type inside item what)
type_apart inside item boolean = tt
type_apart inside item (range lo hi) = tt
type_apart inside item (members ms) = tt
type_apart inside item (instance m actuals) = actuals_apart inside 0 item actuals

pub among_left : (xs ys : List Text) (x : Text) → is_among xs x ≡ true → is_among (xs ++ ys) x ≡ true
among_left [] ys x h = cc
among_left (z ∷ xs) ys x h = by_test (same_text z x) refl h (among_left xs ys x)
  where
    by_test : (b : Bool) → same_text z x ≡ b → (same_text z x || is_among xs x) ≡ true → (is_among xs x ≡ true → is_among (xs ++ ys) x ≡ true) →
        (same_text z x || is_among (xs ++ ys) x) ≡ true
    by_test true t g more = rw t refl
    by_test false t g more = let rest : is_among xs x ≡ true = rw t at g in rw t (more rest)

item_named : (before mid : List Item) (i : Item) (x : Text) → is_among (names_of_item i) x ≡ true → is_among (flat_map names_of_item ((before ++ i ∷ []) ++ mid)) x ≡ true
item_named [] mid i x h = among_left (names_of_item i) (flat_map names_of_item mid) x h
item_named (j ∷ before) mid i x h = among_right (names_of_item j) (flat_map names_of_item ((before ++ i ∷ []) ++ mid)) x (item_named before mid i x h)

-- a later item gives another name
other_item : (m : ModuleTree) (before : List Item) (i : Item) (b : List Item) (x y : Text) → is_among (names_of_item i) x ≡ true → (mid : List Item) × (b ≡ (before ++ i ∷ []) ++ mid) →
    is_among (m.formals ++ flat_map names_of_item b) y ≡ false → x ≡ y → ⊥
other_item m before i b x y named later fresh same = differs (sym here ∙ subst (λ z. is_among (m.formals ++ flat_map names_of_item b) z ≡ false) (sym same) fresh)
  where
    differs : true ≡ false → ⊥
    differs e = cc

    here : is_among (m.formals ++ flat_map names_of_item b) x ≡ true
    here = among_right m.formals (flat_map names_of_item b) x (subst (λ c. is_among (flat_map names_of_item c) x ≡ true) (sym later.1) (item_named before later.0 i x named))

abbrev KeySome : Place → Root → Type 0
KeySome at r = (x : Text) × KeyOf at x r.key

abbrev KeyElse : Place → Text → Root → Type 0
KeyElse at x r = (y : Text) × (x ≡ y → ⊥) × KeyOf at y r.key

abbrev pub roots_of_items : Place → List NumberedItem → List Root
roots_of_items at is = flat_map (λ (i : NumberedItem). roots_of_item at i.number i.item) is

keys_else : (at : Place) (m : ModuleTree) (before : List Item) (i : Item) (x : Text) → is_among (names_of_item i) x ≡ true → (is : List NumberedItem) → Each (ItemFacts m) is →
    Each (LaterThan (before ++ i ∷ [])) is → Each (KeyElse at x) (roots_of_items at is)
keys_else at m before i x named [] facts later = tt
keys_else at m before i x named (j ∷ is) facts later =
    each_join (KeyElse at x) (roots_of_item at j.number j.item) (roots_of_items at is) (of_item j.item facts.0.fresh) (keys_else at m before i x named is facts.1 later.1)
  where
    of_item : (item : Item) → is_name_again (m.formals ++ flat_map names_of_item j.before) (names_of_item item) ≡ false → Each (KeyElse at x) (roots_of_item at j.number item)
    of_item (a_declaration role d) fresh =
        each_more (λ (r : Root). KeyOf at d.name r.key) (KeyElse at x) (roots_of_type (d.name ∷ at) j.number d.what) (λ r k. (d.name, other_item m before i j.before x d.name named later.0 fresh, k))
        (type_keys at d.name j.number d.what)
    of_item (a_definition d) fresh = ((d.name, other_item m before i j.before x d.name named later.0 fresh, (refl, refl)), tt)
    of_item (an_assignment a) fresh = tt
    of_item (some_constants xs) fresh = tt
    of_item (an_init e) fresh = tt
    of_item (an_invar e) fresh = tt
    of_item (a_trans e) fresh = tt

items_keys : (at : Place) (m : ModuleTree) (is : List NumberedItem) → Each (ItemFacts m) is → Ordered is → Pairwise OtherKey (roots_of_items at is) × Each (KeySome at) (roots_of_items at is)
items_keys at m [] facts ordered = (tt, tt)
items_keys at m (i ∷ is) facts ordered = of_item i.item ordered.0 (items_keys at m is facts.1 ordered.1)
  where
    joined : (item : Item) (x : Text) → is_among (names_of_item item) x ≡ true → Each (LaterThan (i.before ++ item ∷ [])) is → Pairwise OtherKey (roots_of_item at i.number item) →
        Each (λ (r : Root). KeyOf at x r.key) (roots_of_item at i.number item) → Pairwise OtherKey (roots_of_items at is) × Each (KeySome at) (roots_of_items at is) →
        Pairwise OtherKey (roots_of_item at i.number item ++ roots_of_items at is) × Each (KeySome at) (roots_of_item at i.number item ++ roots_of_items at is)
    joined item x named later apart keys rest = (
      pairs_join OtherKey (roots_of_item at i.number item) (roots_of_items at is) apart rest.0
          (across_kinds (λ (r : Root). KeyOf at x r.key) (KeyElse at x) OtherKey (λ r s k e. other_names at x e.0 r.key s.key e.1 k e.2) (roots_of_item at i.number item) (roots_of_items at is) keys
          (keys_else at m i.before item x named is facts.1 later)),
      each_join (KeySome at) (roots_of_item at i.number item) (roots_of_items at is) (each_more (λ (r : Root). KeyOf at x r.key) (KeySome at) (roots_of_item at i.number item) (λ r k. (x, k)) keys) rest.1,
    )

    of_item : (item : Item) → Each (LaterThan (i.before ++ item ∷ [])) is → Pairwise OtherKey (roots_of_items at is) × Each (KeySome at) (roots_of_items at is) →
        Pairwise OtherKey (roots_of_item at i.number item ++ roots_of_items at is) × Each (KeySome at) (roots_of_item at i.number item ++ roots_of_items at is)
    of_item (a_declaration role d) later rest =
        joined (a_declaration role d) d.name (rw (same_text_refl d.name) refl) later (type_apart (d.name ∷ at) i.number d.what) (type_keys at d.name i.number d.what) rest
    of_item (a_definition d) later rest = joined (a_definition d) d.name (rw (same_text_refl d.name) refl) later (tt, tt) ((refl, refl), tt) rest
    of_item (an_assignment a) later rest = rest
    of_item (some_constants xs) later rest = rest
    of_item (an_init e) later rest = rest
    of_item (an_invar e) later rest = rest
    of_item (a_trans e) later rest = rest

abbrev roots_at : ProgramTree → FlatInstance → List Root
roots_at p at = roots_of_items at.place (items_named p at.module_name)

abbrev HasKeys : ProgramTree → FlatInstance → Type 0
HasKeys p at = Pairwise OtherKey (roots_at p at) × Each (KeySome at.place) (roots_at p at)

some_at : (p : ProgramTree) (a : FlatInstance) (as' : List FlatInstance) → Each (OtherPlace a) as' → Each (HasKeys p) as' →
    Each (λ (r : Root). (bt : Place) × (a.place ≡ bt → ⊥) × KeySome bt r) (flat_map (roots_at p) as')
some_at p a [] other keys = tt
some_at p a (b ∷ bs) other keys =
    each_join (λ (r : Root). (bt : Place) × (a.place ≡ bt → ⊥) × KeySome bt r) (roots_at p b) (flat_map (roots_at p) bs)
    (each_more (KeySome b.place) (λ (r : Root). (bt : Place) × (a.place ≡ bt → ⊥) × KeySome bt r) (roots_at p b) (λ r k. (b.place, other.0, k)) keys.0.1) (some_at p a bs other.1 keys.1)

all_keys : (p : ProgramTree) (as' : List FlatInstance) → Pairwise OtherPlace as' → Each (HasKeys p) as' → Pairwise OtherKey (flat_map (roots_at p) as')
all_keys p [] apart keys = tt
all_keys p (a ∷ as') apart keys =
    pairs_join OtherKey (roots_at p a) (flat_map (roots_at p) as') keys.0.0 (all_keys p as' apart.1 keys.1)
    (across_kinds (KeySome a.place) (λ (r : Root). (bt : Place) × (a.place ≡ bt → ⊥) × KeySome bt r) OtherKey
    (λ r s k e. other_places a.place e.0 k.0 e.2.0 r.key s.key e.1 k.1 e.2.1) (roots_at p a) (flat_map (roots_at p) as') keys.0.1 (some_at p a as' apart.0 keys.1))

-- no definition is listed twice
pub keys_apart : (p : ProgramTree) → IsWalkable p → Pairwise OtherKey (roots_of p)
keys_apart p walkable = all_keys p (instances_of p) (instances_apart p walkable) (each_from (HasKeys p) (instances_of p) has)
  where
    has : (i : ℕ) (x : FlatInstance) → slice_get (instances_of p) i ≡ Some x → HasKeys p x
    has i x e =
        let main : (k : ModuleTree) × (find_module p (codes "main") ≡ Some k) = main_is_there p walkable in
        let real : (m : ModuleTree) × IsInstance p x.place m × (find_module p x.module_name ≡ Some m) = (are_instances p walkable main.0 main.1).real i x e in
        items_keys x.place real.0 (items_named p x.module_name) (facts_named p walkable x.module_name real.0 real.2) (found_ordered p 1 [] x.module_name)

-- a definition has one number
pub one_root : (p : ProgramTree) → IsWalkable p → (i j : ℕ) (r s : Root) → slice_get (roots_of p) i ≡ Some r → slice_get (roots_of p) j ≡ Some s → r.key ≡ s.key → i ≡ j
one_root p walkable i j r s e f same = pairwise_same OtherKey (roots_of p) i j r s (keys_apart p walkable) e f (λ other. other same) (λ other. other (sym same))
