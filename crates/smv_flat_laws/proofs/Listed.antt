-- What stands at an item of an instance is listed: its definitions and its conditions.
use Rattle.std.proofs.Common.{◌≡◌, ℕ, zero, suc, ◌+◌, arith, Bool, true, false, List, [], ◌∷◌, Option, Some, None, refl, sym, ◌∙◌, ap, subst}
use Rattle.std.specs.Prelude.{codes, slice_get, map, flat_map, nat_eq}
use Rattle.std.proofs.Common.{eqb-true}
use Rattle.smv_language.specs.Language.{Text, Formula, DeclaredTree, boolean, range, members, instance, DefineTree, ModuleTree, ProgramTree, same_text, Place, Role, Kind, Key, define_key, actual_key, kind_declared, kind_after_formals, kind_in_sections, kind_in, formal_from, find_module, plain_name, nth_formula, Each, IsInstance, FlatInstance, FlatModel}
use Rattle.smv_language.specs.Scope.{a_define}
use Rattle.smv_flat_laws.specs.NameResolution.{Definition}
use Rattle.smv_flat_laws.specs.Items.{Item, a_declaration, a_definition, an_assignment, some_constants, an_init, an_invar, a_trans, NumberedItem, items_of, items_named, instances_of}
use Rattle.smv_flat_laws.specs.Rules.{IsWalkable}
use Rattle.smv_flat_laws.specs.Model.{Condition, written_at, conditions, Root, root_of_actual, roots_of_actuals, roots_of_item, roots_of, same_place, same_key, is_key_among, Adds, AddsAll, stands, comes, no_more, one_more, IsFlatOf}
use Rattle.smv_flat_laws.proofs.Conditions.{each_at}
use Rattle.smv_flat_laws.proofs.KindLaws.{ItemFacts, kind_in_items, sections_kind}
use Rattle.smv_flat_laws.proofs.Sections.{AreInstances, one_tree}
use Rattle.smv_flat_laws.proofs.Places.{In, in_left, in_right, in_flat, facts_named, found_at, are_instances}
use Rattle.smv_flat_laws.proofs.Numbered.{same_place_equal}
use Rattle.smv_flat_laws.proofs.Walkable.{main_is_there}
use Rattle.smv_lexer.proofs.SignLemmas.{both_true}
use Rattle.smv_language.proofs.OneTree.{same_text_equal}

-- Keys.
pub key_equal : (j k : Key) → same_key j k ≡ true → j ≡ k
key_equal (define_key at x) (define_key bt y) h =
    let parts : (same_place at bt ≡ true) × (same_text x y ≡ true) = both_true _ _ h in
    ap (λ a. define_key a x) (same_place_equal at bt parts.0) ∙ ap (define_key bt) (same_text_equal x y parts.1)
key_equal (define_key at x) (actual_key bt j) h = cc
key_equal (actual_key at i) (define_key bt y) h = cc
key_equal (actual_key at i) (actual_key bt j) h =
    let parts : (same_place at bt ≡ true) × (nat_eq i j ≡ true) = both_true _ _ h in
    ap (λ a. actual_key a i) (same_place_equal at bt parts.0) ∙ ap (actual_key bt) (eqb-true i j parts.1)

key_among : (js : List Key) (k : Key) → is_key_among js k ≡ true → In k js
key_among [] k h = cc
key_among (j ∷ js) k h = by_test (same_key j k) refl h (key_among js k)
  where
    by_test : (b : Bool) → same_key j k ≡ b → is_key_among (j ∷ js) k ≡ true → (is_key_among js k ≡ true → In k js) → In k (j ∷ js)
    by_test true t g more = (0, ap Some (key_equal j k t))
    by_test false t g more = let r : In k js = more (rw t at g) in (suc r.0, r.1)

-- what stood before stands after, and so does what was to be added
mutual
  pub added : (p : ProgramTree) (done : List Key) (k : Key) (a : List Key) → Adds p done k a → In k a × ((j : Key) → In j done → In j a)
  added p done k a (stands h) = (key_among done k h, λ j i. i)
  added p done k a (comes {after = u} {needs = ks} h x n r) = (in_right k u (k ∷ []) (0, refl), λ j i. in_left j u (k ∷ []) ((all_added p done ks u r).1 j i))

  pub all_added : (p : ProgramTree) (done ks a : List Key) → AddsAll p done ks a → Each (λ k. In k a) ks × ((j : Key) → In j done → In j a)
  all_added p done ks a no_more = (tt, λ j i. i)
  all_added p done ks a (one_more {between = u} {more = more} {k = k} x xs) =
      let first : In k u × ((j : Key) → In j done → In j u) = added p done k u x in
      let rest : Each (λ k. In k a) more × ((j : Key) → In j u → In j a) = all_added p u more a xs in
      ((rest.1 k first.0, rest.0), λ j i. rest.1 j (first.1 j i))

in_mapped : {A B : Type 0} (f : A → B) (xs : List A) (y : B) → In y (map f xs) → (x : A) × In x xs × (f x ≡ y)
in_mapped f [] y h = cc
in_mapped f (x ∷ xs) y (zero, e) = let same : f x ≡ y = cc in (x, (0, refl), same)
in_mapped f (x ∷ xs) y (suc i, e) = let r = in_mapped f xs y (i, e) in (r.0, (suc r.1.0, r.1.1), r.2)

pub map_has : {A B : Type 0} (f : A → B) (xs : List A) (x : A) → In x xs → In (f x) (map f xs)
map_has f [] x h = cc
map_has f (y ∷ xs) x (zero, e) = let same : y ≡ x = cc in (0, ap (λ z. Some (f z)) same)
map_has f (y ∷ xs) x (suc i, e) = let r : In (f x) (map f xs) = map_has f xs x (i, e) in (suc r.0, r.1)

-- each definition of the program is one of its flat model
pub root_written : (p : ProgramTree) (m : FlatModel) (is : IsFlatOf p m) (r : Root) → In r (roots_of p) → (d : Definition) × In d is.written × (d.key ≡ r.key)
root_written p m is r h =
    let key : In r.key (map (λ (r : Root). r.key) (roots_of p)) = map_has (λ (r : Root). r.key) (roots_of p) r h in
    let there : In r.key (map (λ (d : Definition). d.key) is.written) = each_at (λ k. In k (map (λ (d : Definition). d.key) is.written)) (map (λ (r : Root). r.key) (roots_of p)) key.0 r.key
    (all_added p [] (map (λ (r : Root). r.key) (roots_of p)) (map (λ (d : Definition). d.key) is.written) is.order).0 key.1 in
    in_mapped (λ (d : Definition). d.key) is.written r.key there

-- an item of an instance, as it is listed
pub record ListedItem (p : ProgramTree) (at : Place) (m : ModuleTree) (item : Item) : Type 0 where
  pub number : ℕ
  pub of : FlatInstance
  pub is_instance : In of (instances_of p)
  pub place : of.place ≡ at
  pub numbered : NumberedItem
  pub is_item : In numbered (items_named p of.module_name)
  pub item_is : numbered.item ≡ item
  pub facts : ItemFacts m numbered

pub listed_item : (p : ProgramTree) → IsWalkable p → (at : Place) (m : ModuleTree) → IsInstance p at m → (j : ℕ) (item : Item) → slice_get (items_of m) j ≡ Some item → ListedItem p at m item
listed_item p walkable at m is j item e =
    let main : (k : ModuleTree) × (find_module p (codes "main") ≡ Some k) = main_is_there p walkable in
    let are : AreInstances p = are_instances p walkable main.0 main.1 in
    let found : (i : ℕ) × (x : FlatInstance) × (slice_get (instances_of p) i ≡ Some x) × (x.place ≡ at) = are.all at m is in
    let real : (k : ModuleTree) × IsInstance p found.1.place k × (find_module p found.1.module_name ≡ Some k) = are.real found.0 found.1 found.2 in
    let same : real.0 ≡ m = one_tree p at real.0 m (subst (λ a. IsInstance p a real.0) found.3 real.1) is in
    let named : find_module p found.1.module_name ≡ Some m = subst (λ k. find_module p found.1.module_name ≡ Some k) same real.2 in
    let item' : (y : NumberedItem) × (slice_get (items_named p found.1.module_name) j ≡ Some y) × (y.item ≡ item) = found_at p walkable p 1 [] found.1.module_name m j item named e in
    record {
      number = j;
      of = found.1;
      is_instance = (found.0, found.2);
      place = found.3;
      numbered = item'.0;
      is_item = (j, item'.1);
      item_is = item'.2;
      facts = each_at (ItemFacts m) (items_named p found.1.module_name) j item'.0 (facts_named p walkable found.1.module_name m named) item'.1;
    }

-- the definitions of an item of an instance are listed
pub root_listed : (p : ProgramTree) (at : Place) (m : ModuleTree) (item : Item) (l : ListedItem p at m item) (r : Root) → In r (roots_of_item at l.numbered.number item) → In r (roots_of p)
root_listed p at m item l r h =
    in_flat (λ (x : FlatInstance). flat_map (λ (i : NumberedItem). roots_of_item x.place i.number i.item) (items_named p x.module_name)) l.of r (instances_of p) l.is_instance.0 l.is_instance.1
    (in_flat (λ (i : NumberedItem). roots_of_item l.of.place i.number i.item) l.numbered r (items_named p l.of.module_name) l.is_item.0 l.is_item.1
    (subst (λ a. In r (roots_of_item a l.numbered.number l.numbered.item)) (sym l.place) (subst (λ i. In r (roots_of_item at l.numbered.number i)) (sym l.item_is) h)))

-- the conditions of an item of an instance are listed
pub condition_listed : (what : Item → List Condition) (p : ProgramTree) (at : Place) (m : ModuleTree) (item : Item) (l : ListedItem p at m item) (c : Condition) → In c (what item) →
    In (record { place = at; item = l.numbered.number; condition = c }) (conditions what p)
condition_listed what p at m item l c h =
    in_flat (λ (x : FlatInstance). flat_map (written_at what x.place) (items_named p x.module_name)) l.of _ (instances_of p) l.is_instance.0 l.is_instance.1
    (in_flat (written_at what l.of.place) l.numbered _ (items_named p l.of.module_name) l.is_item.0 l.is_item.1
    (subst (λ a. In (record { place = at; item = l.numbered.number; condition = c }) (written_at what a l.numbered)) (sym l.place)
    (map_has (λ d. record { place = at; item = l.numbered.number; condition = d }) (what l.numbered.item) c (subst (λ i. In c (what i)) (sym l.item_is) h))))

-- a define is an item
pub record DefinedBy (items : List Item) (x : Text) (e : Formula) : Type 0 where
  pub place : ℕ
  pub define : DefineTree
  pub is : slice_get items place ≡ Some (a_definition define)
  pub name : define.name ≡ x
  pub value : define.value ≡ e

defined_later : (items : List Item) (i : Item) (x : Text) (e : Formula) → DefinedBy items x e → DefinedBy (i ∷ items) x e
defined_later items i x e d = record { place = suc d.place; define = d.define; is = d.is; name = d.name; value = d.value }

not_defined : (role : Role) (what : DeclaredTree) (e : Formula) → kind_declared role what ≡ a_define e → ⊥
not_defined role boolean e h = cc
not_defined role (range lo hi) e h = cc
not_defined role (members ms) e h = cc
not_defined role (instance m actuals) e h = cc

defined_by : (items : List Item) (x : Text) (e : Formula) → kind_in_items items x ≡ a_define e → DefinedBy items x e
defined_by [] x e h = cc
defined_by (a_declaration role d ∷ items) x e h = by_name (same_text d.name x) refl (λ g. defined_later items _ x e (defined_by items x e g))
  where
    by_name : (b : Bool) → same_text d.name x ≡ b → (kind_in_items items x ≡ a_define e → DefinedBy (a_declaration role d ∷ items) x e) → DefinedBy (a_declaration role d ∷ items) x e
    by_name true t rest = absurd (not_defined role d.what e (rw t at h))
    by_name false t rest = rest (rw t at h)
defined_by (a_definition d ∷ items) x e h = by_name (same_text d.name x) refl (λ g. defined_later items _ x e (defined_by items x e g))
  where
    by_name : (b : Bool) → same_text d.name x ≡ b → (kind_in_items items x ≡ a_define e → DefinedBy (a_definition d ∷ items) x e) → DefinedBy (a_definition d ∷ items) x e
    by_name true t rest = let same : a_define d.value ≡ a_define e = rw t at h in let value : d.value ≡ e = cc in record { place = 0; define = d; is = refl; name = same_text_equal d.name x t; value = value }
    by_name false t rest = rest (rw t at h)
defined_by (an_assignment a ∷ items) x e h = defined_later items _ x e (defined_by items x e h)
defined_by (some_constants xs ∷ items) x e h = defined_later items _ x e (defined_by items x e h)
defined_by (an_init f ∷ items) x e h = defined_later items _ x e (defined_by items x e h)
defined_by (an_invar f ∷ items) x e h = defined_later items _ x e (defined_by items x e h)
defined_by (a_trans f ∷ items) x e h = defined_later items _ x e (defined_by items x e h)

pub defined_there : (m : ModuleTree) (x : Text) (e : Formula) → kind_in m x ≡ a_define e → DefinedBy (items_of m) x e
defined_there m x e kind = defined_by (items_of m) x e (sections_kind m.sections x ∙ in_sections (formal_from 0 m.formals x) (kind_in_sections m.sections x) kind)
  where
    in_sections : (o : Option ℕ) (k : Kind) → kind_after_formals o k ≡ a_define e → k ≡ a_define e
    in_sections None k e = e
    in_sections (Some i) k e = cc

-- an actual that is no name has a definition
pub actual_root : (inside : Place) (i item : ℕ) (es : List Formula) (j : ℕ) (e : Formula) → nth_formula es j ≡ Some e → plain_name e ≡ None →
    In (record { key = actual_key inside (i + j); item = item }) (roots_of_actuals inside i item es)
actual_root inside i item [] j e h n = cc
actual_root inside i item (f ∷ es) zero e h n =
    let same : f ≡ e = cc in
    in_left _ (root_of_actual inside i item (plain_name f)) (roots_of_actuals inside (suc i) item es)
    (subst (λ o. In (record { key = actual_key inside (i + 0); item = item }) (root_of_actual inside i item o)) (sym (ap plain_name same ∙ n)) (0, ap (λ k. Some (record { key = actual_key inside k; item = item })) (plus_zero i)))
  where
    plus_zero : (i : ℕ) → i ≡ i + 0
    plus_zero i = omega arith
actual_root inside i item (f ∷ es) (suc j) e h n =
    in_right _ (root_of_actual inside i item (plain_name f)) (roots_of_actuals inside (suc i) item es)
    (subst (λ k. In (record { key = actual_key inside k; item = item }) (roots_of_actuals inside (suc i) item es)) (moved i j) (actual_root inside (suc i) item es j e h n))
  where
    moved : (i j : ℕ) → suc i + j ≡ i + suc j
    moved i j = omega arith
