-- No definition is listed twice.
use Rattle.std.proofs.Common.{◌≡◌, ℕ, zero, suc, ◌+◌, ◌≤◌, arith, Bool, true, false, List, [], ◌∷◌, ◌++◌, length, Option, Some, None, refl, ap, ◌∙◌, sym, subst}
use Rattle.std.specs.Prelude.{slice_get, flat_map, codes}
use Rattle.smv_language.proofs.ValueLaws.{same_text_refl}
use Rattle.smv_language.specs.Language.{same_text, is_among, Text, Path, Formula, DeclaredTree, boolean, range, members, instance, ModuleTree, ProgramTree, Place, Key, define_key, actual_key, plain_name, find_module, Each, FlatInstance}
use Rattle.smv_flat_laws.specs.Items.{Item, a_declaration, a_definition, an_assignment, some_constants, an_init, an_invar, a_trans, NumberedItem, numbered_from, modules_from, items_found, items_named, items_of, Visit, visits, instance_declared, instances_of_visit, instances_of}
use Rattle.smv_flat_laws.specs.Rules.{names_of_item, is_name_again, IsWalkable}
use Rattle.smv_flat_laws.specs.Model.{Root, root_of_actual, roots_of_actuals, roots_of_type, roots_of_item, roots_of}
use Rattle.smv_flat_laws.proofs.Apart.{Differ, Apart, visits_apart, among_right}
use Rattle.smv_flat_laws.proofs.Conditions.{each_join, each_at}
use Rattle.smv_flat_laws.proofs.KindLaws.{ItemFacts}
use Rattle.smv_flat_laws.proofs.Lists.{each_more}
use Rattle.smv_flat_laws.proofs.Places.{facts_named}
use Rattle.smv_flat_laws.proofs.Walkable.{main_is_there}
use Rattle.smv_scope.specs.NeedsTree.{keys_of}
use Rattle.smv_flat_laws.proofs.KeysApart.{among_left, below_main, OtherPlace, OtherKey}
use Rattle.smv_language.proofs.ListLaws.{get_mapped}

abbrev KeysApart : List Root → Type 0
KeysApart [] = Unit {0}
KeysApart (r ∷ rs) = Each (OtherKey r) rs × KeysApart rs

keys_join : (xs ys : List Root) → KeysApart xs → KeysApart ys → Each (λ x. Each (OtherKey x) ys) xs → KeysApart (xs ++ ys)
keys_join [] ys h k c = k
keys_join (x ∷ xs) ys h k c = (each_join (OtherKey x) xs ys h.0 c.0, keys_join xs ys h.1 k c.1)

keys_cross : (P Q : Root → Type 0) (xs ys : List Root) → ((a b : Root) → P a → Q b → OtherKey a b) → Each P xs → Each Q ys → Each (λ x. Each (OtherKey x) ys) xs
keys_cross P Q [] ys f h k = tt
keys_cross P Q (x ∷ xs) ys f h k = (each_more Q (OtherKey x) ys (λ b q. f x b h.0 q) k, keys_cross P Q xs ys f h.1 k)

-- the instance at which a definition is written, and the name that declares it there
abbrev home_place : Key → Place
home_place (define_key at x) = at
home_place (actual_key [] i) = []
home_place (actual_key (x ∷ at) i) = at

abbrev home_name : Key → Text
home_name (define_key at x) = x
home_name (actual_key [] i) = []
home_name (actual_key (x ∷ at) i) = x

-- the actuals of one declaration
abbrev ActualFrom : Place → ℕ → Root → Type 0
ActualFrom inside i r = (j : ℕ) × (i ≤ j) × (r.key ≡ actual_key inside j)

actuals_from : (inside : Place) (i item : ℕ) (es : List Formula) → Each (ActualFrom inside i) (roots_of_actuals inside i item es)
actuals_from inside i item [] = tt
actuals_from inside i item (e ∷ es) =
    each_join (ActualFrom inside i) (root_of_actual inside i item (plain_name e)) (roots_of_actuals inside (suc i) item es) (of_one (plain_name e))
    (each_more (ActualFrom inside (suc i)) (ActualFrom inside i) (roots_of_actuals inside (suc i) item es) (λ r a. (a.0, less a.0 a.1, a.2)) (actuals_from inside (suc i) item es))
  where
    less : (j : ℕ) → suc i ≤ j → i ≤ j
    less j h = omega (arith, h)

    of_one : (o : Option Path) → Each (ActualFrom inside i) (root_of_actual inside i item o)
    of_one (Some name) = tt
    of_one None = ((i, same, refl), tt)
      where
        same : i ≤ i
        same = omega arith

actuals_apart : (inside : Place) (i item : ℕ) (es : List Formula) → KeysApart (roots_of_actuals inside i item es)
actuals_apart inside i item [] = tt
actuals_apart inside i item (e ∷ es) = of_one (plain_name e) (actuals_apart inside (suc i) item es)
  where
    differs : (j : ℕ) → suc i ≤ j → actual_key inside i ≡ actual_key inside j → ⊥
    differs j h same = let e : i ≡ j = cc in omega (arith, h, e)

    of_one : (o : Option Path) → KeysApart (roots_of_actuals inside (suc i) item es) → KeysApart (root_of_actual inside i item o ++ roots_of_actuals inside (suc i) item es)
    of_one (Some name) h = h
    of_one None h = (
      each_more (ActualFrom inside (suc i)) (OtherKey (record { key = actual_key inside i; item = item })) (roots_of_actuals inside (suc i) item es)
          (λ r a same. differs a.0 a.1 (same ∙ a.2)) (actuals_from inside (suc i) item es),
      h,
    )

-- the definitions of one item
abbrev AtHome : Place → Text → Root → Type 0
AtHome at x r = (home_place r.key ≡ at) × (home_name r.key ≡ x)

type_at_home : (at : Place) (x : Text) (item : ℕ) (what : DeclaredTree) → Each (AtHome at x) (roots_of_type (x ∷ at) item what)
type_at_home at x item boolean = tt
type_at_home at x item (range lo hi) = tt
type_at_home at x item (members ms) = tt
type_at_home at x item (instance m actuals) =
    each_more (ActualFrom (x ∷ at) 0) (AtHome at x) (roots_of_actuals (x ∷ at) 0 item actuals) (λ r a. (ap home_place a.2, ap home_name a.2)) (actuals_from (x ∷ at) 0 item actuals)

type_apart : (inside : Place) (item : ℕ) (what : DeclaredTree) → KeysApart (roots_of_type inside item what)
type_apart inside item boolean = tt
type_apart inside item (range lo hi) = tt
type_apart inside item (members ms) = tt
type_apart inside item (instance m actuals) = actuals_apart inside 0 item actuals

item_apart : (at : Place) (n : ℕ) (i : Item) → KeysApart (roots_of_item at n i)
item_apart at n (a_declaration role d) = type_apart (d.name ∷ at) n d.what
item_apart at n (a_definition d) = (tt, tt)
item_apart at n (an_assignment a) = tt
item_apart at n (some_constants xs) = tt
item_apart at n (an_init e) = tt
item_apart at n (an_invar e) = tt
item_apart at n (a_trans e) = tt

-- each definition of an item has the item's name
abbrev HasNameOf : Place → Item → Root → Type 0
HasNameOf at i r = (home_place r.key ≡ at) × (names_of_item i ≡ home_name r.key ∷ [])

item_names : (at : Place) (n : ℕ) (i : Item) → Each (HasNameOf at i) (roots_of_item at n i)
item_names at n (a_declaration role d) =
    each_more (AtHome at d.name) (HasNameOf at (a_declaration role d)) (roots_of_type (d.name ∷ at) n d.what) (λ r a. (a.0, ap (λ (x : Text). x ∷ []) (sym a.1))) (type_at_home at d.name n d.what)
item_names at n (a_definition d) = ((refl, refl), tt)
item_names at n (an_assignment a) = tt
item_names at n (some_constants xs) = tt
item_names at n (an_init e) = tt
item_names at n (an_invar e) = tt
item_names at n (a_trans e) = tt

names_join : (xs ys : List Item) → flat_map names_of_item (xs ++ ys) ≡ flat_map names_of_item xs ++ flat_map names_of_item ys
names_join [] ys = refl
names_join (x ∷ xs) ys = ap (λ zs. names_of_item x ++ zs) (names_join xs ys) ∙ sym (joined (names_of_item x) (flat_map names_of_item xs) (flat_map names_of_item ys))
  where
    joined : (as' bs cs : List Text) → (as' ++ bs) ++ cs ≡ as' ++ (bs ++ cs)
    joined [] bs cs = refl
    joined (a ∷ as') bs cs = ap (λ zs. a ∷ zs) (joined as' bs cs)

among_first : (x : Text) (more : List Text) → is_among (x ∷ more) x ≡ true
among_first x more = rw (same_text_refl x) refl

fresh_other : (m : ModuleTree) (before : List Item) (i : Item) (x : Text) → is_name_again (m.formals ++ flat_map names_of_item before) (names_of_item i) ≡ false →
    is_among (flat_map names_of_item before) x ≡ true → names_of_item i ≡ x ∷ [] → ⊥
fresh_other m before i x fresh among is =
    differs (sym (among_right m.formals (flat_map names_of_item before) x among) ∙ subst (λ ns. is_name_again (m.formals ++ flat_map names_of_item before) ns ≡ false) is fresh)
  where
    differs : true ≡ false → ⊥
    differs e = cc

module _ (at : Place) (m : ModuleTree) where
  abbrev roots_in : List NumberedItem → List Root
  roots_in is = flat_map (λ (i : NumberedItem). roots_of_item at i.number i.item) is

  abbrev NotNamed : Text → Root → Type 0
  NotNamed x r = (home_place r.key ≡ at) × (home_name r.key ≡ x → ⊥)

  later_other : (n : ℕ) (before items : List Item) (x : Text) → is_among (flat_map names_of_item before) x ≡ true → Each (ItemFacts m) (numbered_from n before items) →
      Each (NotNamed x) (roots_in (numbered_from n before items))
  later_other n before [] x among facts = tt
  later_other n before (i ∷ items) x among facts =
      each_join (NotNamed x) (roots_of_item at n i) (roots_in (numbered_from (suc n) (before ++ i ∷ []) items))
      (each_more (HasNameOf at i) (NotNamed x) (roots_of_item at n i) (λ r a. (a.0, λ e. fresh_other m before i x facts.0.fresh among (a.1 ∙ ap (λ (y : Text). y ∷ []) e))) (item_names at n i))
      (later_other (suc n) (before ++ i ∷ []) items x
      (subst (λ ns. is_among ns x ≡ true) (sym (names_join before (i ∷ []))) (among_left (flat_map names_of_item before) (flat_map names_of_item (i ∷ [])) x among)) facts.1)

  -- the definitions of one item and those of the items after it
  item_cross : (n : ℕ) (before items : List Item) (i : Item) (names : List Text) → names_of_item i ≡ names → Each (ItemFacts m) (numbered_from (suc n) (before ++ i ∷ []) items) →
      Each (λ x. Each (OtherKey x) (roots_in (numbered_from (suc n) (before ++ i ∷ []) items))) (roots_of_item at n i)
  item_cross n before items i names is facts =
      each_more (HasNameOf at i) (λ x. Each (OtherKey x) (roots_in (numbered_from (suc n) (before ++ i ∷ []) items))) (roots_of_item at n i) (λ r a. others r a) (item_names at n i)
    where
      others : (r : Root) → HasNameOf at i r → Each (OtherKey r) (roots_in (numbered_from (suc n) (before ++ i ∷ []) items))
      others r a =
          each_more (NotNamed (home_name r.key)) (OtherKey r) (roots_in (numbered_from (suc n) (before ++ i ∷ []) items)) (λ b other same. other.1 (ap home_name (sym same)))
          (later_other (suc n) (before ++ i ∷ []) items (home_name r.key) among facts)
        where
          own : is_among (flat_map names_of_item (i ∷ [])) (home_name r.key) ≡ true
          own = subst (λ (ns : List Text). is_among (ns ++ []) (home_name r.key) ≡ true) (sym a.1) (among_first (home_name r.key) [])

          among : is_among (flat_map names_of_item (before ++ i ∷ [])) (home_name r.key) ≡ true
          among =
              subst (λ ns. is_among ns (home_name r.key) ≡ true) (sym (names_join before (i ∷ [])))
              (among_right (flat_map names_of_item before) (flat_map names_of_item (i ∷ [])) (home_name r.key) own)

  items_apart : (n : ℕ) (before items : List Item) → Each (ItemFacts m) (numbered_from n before items) → KeysApart (roots_in (numbered_from n before items))
  items_apart n before [] facts = tt
  items_apart n before (i ∷ items) facts =
      keys_join (roots_of_item at n i) (roots_in (numbered_from (suc n) (before ++ i ∷ []) items)) (item_apart at n i) (items_apart (suc n) (before ++ i ∷ []) items facts.1)
      (item_cross n before items i (names_of_item i) refl facts.1)

  found_apart : (p : ProgramTree) (n : ℕ) (before : List ModuleTree) (x : Text) → Each (ItemFacts m) (items_found (modules_from n before p) x) →
      KeysApart (roots_in (items_found (modules_from n before p) x))
  found_apart [] n before x facts = tt
  found_apart (first ∷ more) n before x facts = by_name (same_text first.name x) refl (found_apart more (n + suc (length (items_of first))) (before ++ first ∷ []) x)
    where
      by_name : (b : Bool) → same_text first.name x ≡ b →
          (Each (ItemFacts m) (items_found (modules_from (n + suc (length (items_of first))) (before ++ first ∷ []) more) x) →
          KeysApart (roots_in (items_found (modules_from (n + suc (length (items_of first))) (before ++ first ∷ []) more) x))) →
          KeysApart (roots_in (items_found (modules_from n before (first ∷ more)) x))
      by_name true t rest = let own : Each (ItemFacts m) (numbered_from (suc n) [] (items_of first)) = rw t at facts in rw t (items_apart (suc n) [] (items_of first) own)
      by_name false t rest =
          let later : Each (ItemFacts m) (items_found (modules_from (n + suc (length (items_of first))) (before ++ first ∷ []) more) x) = rw t at facts in rw t (rest later)

-- all definitions of an instance are at home there
roots_home : (at : Place) (is : List NumberedItem) → Each (λ (r : Root). home_place r.key ≡ at) (flat_map (λ (i : NumberedItem). roots_of_item at i.number i.item) is)
roots_home at [] = tt
roots_home at (i ∷ is) =
    each_join (λ (r : Root). home_place r.key ≡ at) (roots_of_item at i.number i.item) (flat_map (λ (i : NumberedItem). roots_of_item at i.number i.item) is)
    (each_more (HasNameOf at i.item) (λ (r : Root). home_place r.key ≡ at) (roots_of_item at i.number i.item) (λ r a. a.0) (item_names at i.number i.item)) (roots_home at is)

abbrev pub PlacesApart : List FlatInstance → Type 0
PlacesApart [] = Unit {0}
PlacesApart (i ∷ is) = Each (OtherPlace i) is × PlacesApart is

declared_other : (at : Place) (x : Text) (v w : Visit) → v.place ≡ at → v.decl.name ≡ x → Differ v w → (what : DeclaredTree) →
    Each (λ (i : FlatInstance). i.place ≡ x ∷ at → ⊥) (instance_declared (w.decl.name ∷ w.place) what)
declared_other at x v w is_place is_name other boolean = tt
declared_other at x v w is_place is_name other (range lo hi) = tt
declared_other at x v w is_place is_name other (members ms) = tt
declared_other at x v w is_place is_name other (instance m actuals) = ((λ e. differs e), tt)
  where
    differs : w.decl.name ∷ w.place ≡ x ∷ at → ⊥
    differs e =
        let places : w.place ≡ at = cc in
        let names : w.decl.name ≡ x = cc in
        other (is_place ∙ sym places) (is_name ∙ sym names)

visits_other : (v : Visit) (vs : List Visit) → Each (Differ v) vs → Each (λ (i : FlatInstance). i.place ≡ v.decl.name ∷ v.place → ⊥) (flat_map instances_of_visit vs)
visits_other v [] h = tt
visits_other v (w ∷ vs) h =
    each_join (λ (i : FlatInstance). i.place ≡ v.decl.name ∷ v.place → ⊥) (instances_of_visit w) (flat_map instances_of_visit vs)
    (declared_other v.place v.decl.name v w refl refl h.0 w.decl.what) (visits_other v vs h.1)

declared_apart : (at : Place) (what : DeclaredTree) (is : List FlatInstance) → Each (λ (i : FlatInstance). i.place ≡ at → ⊥) is → PlacesApart is →
    PlacesApart (instance_declared at what ++ is)
declared_apart at boolean is h k = k
declared_apart at (range lo hi) is h k = k
declared_apart at (members ms) is h k = k
declared_apart at (instance m actuals) is h k =
    (each_more (λ (i : FlatInstance). i.place ≡ at → ⊥) (OtherPlace (record { place = at; module_name = m })) is (λ i other e. other (sym e)) h, k)

pub visits_places : (vs : List Visit) → Apart vs → PlacesApart (flat_map instances_of_visit vs)
visits_places [] h = tt
visits_places (v ∷ vs) h = declared_apart (v.decl.name ∷ v.place) v.decl.what (flat_map instances_of_visit vs) (visits_other v vs h.0) (visits_places vs h.1)

module _ (p : ProgramTree) (walkable : IsWalkable p) where
  places_apart : PlacesApart (instances_of p)
  places_apart =
      let main : (m : ModuleTree) × (find_module p (codes "main") ≡ Some m) = main_is_there p walkable in
      (below_main (visits p), visits_places (visits p) (visits_apart p walkable main.0 main.1))

  abbrev roots_at : FlatInstance → List Root
  roots_at at = flat_map (λ (i : NumberedItem). roots_of_item at.place i.number i.item) (items_named p at.module_name)

  instance_apart : (at : FlatInstance) → KeysApart (roots_at at)
  instance_apart at = by_module (find_module p at.module_name) refl
    where
      none : (q : ProgramTree) (n : ℕ) (before : List ModuleTree) → find_module q at.module_name ≡ None → items_found (modules_from n before q) at.module_name ≡ []
      none [] n before e = refl
      none (first ∷ more) n before e = by_name (same_text first.name at.module_name) refl (none more (n + suc (length (items_of first))) (before ++ first ∷ []))
        where
          by_name : (b : Bool) → same_text first.name at.module_name ≡ b →
              (find_module more at.module_name ≡ None → items_found (modules_from (n + suc (length (items_of first))) (before ++ first ∷ []) more) at.module_name ≡ []) →
              items_found (modules_from n before (first ∷ more)) at.module_name ≡ []
          by_name true t rest = let bad : Some first ≡ None = rw t at e in cc
          by_name false t rest = let later : find_module more at.module_name ≡ None = rw t at e in rw t (rest later)

      by_module : (o : Option ModuleTree) → find_module p at.module_name ≡ o → KeysApart (roots_at at)
      by_module (Some m) e = found_apart at.place m p 1 [] at.module_name (facts_named p walkable at.module_name m e)
      by_module None e = subst (λ is. KeysApart (flat_map (λ (i : NumberedItem). roots_of_item at.place i.number i.item) is)) (sym (none p 1 [] e)) tt

  others_home : (at : Place) (is : List FlatInstance) → Each (λ (i : FlatInstance). at ≡ i.place → ⊥) is → Each (λ (r : Root). home_place r.key ≡ at → ⊥) (flat_map roots_at is)
  others_home at [] h = tt
  others_home at (i ∷ is) h =
      each_join (λ (r : Root). home_place r.key ≡ at → ⊥) (roots_at i) (flat_map roots_at is) (own (roots_at i) (roots_home i.place (items_named p i.module_name))) (others_home at is h.1)
    where
      own : (rs : List Root) → Each (λ (r : Root). home_place r.key ≡ i.place) rs → Each (λ (r : Root). home_place r.key ≡ at → ⊥) rs
      own rs k = each_more (λ (r : Root). home_place r.key ≡ i.place) (λ (r : Root). home_place r.key ≡ at → ⊥) rs (λ r e same. h.0 (sym same ∙ e)) k

  all_apart : (is : List FlatInstance) → PlacesApart is → KeysApart (flat_map roots_at is)
  all_apart [] h = tt
  all_apart (i ∷ is) h =
      keys_join (roots_at i) (flat_map roots_at is) (instance_apart i) (all_apart is h.1)
      (keys_cross (λ (r : Root). home_place r.key ≡ i.place) (λ (r : Root). home_place r.key ≡ i.place → ⊥) (roots_at i) (flat_map roots_at is)
      (λ a b e other same. other (ap home_place (sym same) ∙ e)) (roots_home i.place (items_named p i.module_name))
      (others_home i.place is h.0))

  roots_once : (rs : List Root) → KeysApart rs → (i j : ℕ) (r q : Root) → slice_get rs i ≡ Some r → slice_get rs j ≡ Some q → r.key ≡ q.key → i ≡ j
  roots_once [] h i j r q e f same = cc
  roots_once (x ∷ rs) h zero zero r q e f same = refl
  roots_once (x ∷ rs) h zero (suc j) r q e f same =
      let own : x ≡ r = cc in
      absurd (each_at (OtherKey x) rs j q h.0 f (ap (λ (y : Root). y.key) own ∙ same))
  roots_once (x ∷ rs) h (suc i) zero r q e f same =
      let own : x ≡ q = cc in
      absurd (each_at (OtherKey x) rs i r h.0 e (ap (λ (y : Root). y.key) own ∙ sym same))
  roots_once (x ∷ rs) h (suc i) (suc j) r q e f same = ap suc (roots_once rs h.1 i j r q e f same)

  -- no key is listed twice
  pub keys_once : (i j : ℕ) (key : Key) → slice_get (keys_of p) i ≡ Some key → slice_get (keys_of p) j ≡ Some key → i ≡ j
  keys_once i j key e f =
      let a : (r : Root) × (slice_get (roots_of p) i ≡ Some r) × (r.key ≡ key) = get_mapped (λ (r : Root). r.key) (roots_of p) i key e in
      let b : (r : Root) × (slice_get (roots_of p) j ≡ Some r) × (r.key ≡ key) = get_mapped (λ (r : Root). r.key) (roots_of p) j key f in
      roots_once (roots_of p) (all_apart (instances_of p) places_apart) i j a.0 b.0 a.1 b.1 (a.2 ∙ sym b.2)
