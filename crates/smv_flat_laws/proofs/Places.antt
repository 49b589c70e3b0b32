-- The walk comes to every instance, and to nothing else.
use Rattle.std.proofs.Common.{◌≡◌, ℕ, zero, suc, ◌+◌, ◌≤◌, arith, Bool, true, false, List, [], ◌∷◌, ◌++◌, length, Option, Some, None, refl, sym, ◌∙◌, ap, subst}
use Rattle.std.specs.Prelude.{slice_get, flat_map, if◌then◌else◌, codes}
use Rattle.smv_language.specs.Language.{Text, Formula, DeclaredTree, boolean, range, members, instance, ModuleTree, ProgramTree, Place, Role, Kind, a_formal, a_variable, an_instance, undeclared, kind_declared, kind_in, kind_in_sections, formal_from, kind_at, module_of_kind, module_at, find_module, Each, IsInstance, FlatInstance, same_text, is_among}
use Rattle.smv_language.specs.Scope.{a_define}
use Rattle.smv_flat_laws.specs.Items.{Item, a_declaration, a_definition, an_assignment, some_constants, an_init, an_invar, a_trans, NumberedItem, items_of, items_named, items_found, numbered_from, modules_from, Visit, visits_inside, visits_of, walk_items, walk, visits, instance_declared, instances_of_visit, instances_of}
use Rattle.smv_flat_laws.specs.Rules.{is_missing_instance, is_miscounted, is_on_path, no_such_module, wrong_count, module_loop, visit_sites, IsKept, IsWalkable}
use Rattle.smv_flat_laws.proofs.Reaches.{each_left, each_right}
use Rattle.smv_flat_laws.proofs.Conditions.{each_join, each_at}
use Rattle.smv_flat_laws.proofs.Sections.{AreInstances}
use Rattle.smv_flat_laws.proofs.KindLaws.{no_formal_instance, ItemFacts, kind_of_declaration, sections_kind, DeclaredBy, declared_by, all_facts, found_facts}
use Rattle.smv_flat_laws.proofs.Pigeons.{IsThere, AreApart, no_more_names}
use Rattle.std.proofs.lemmas.Bool.{false_from_ne_true as not_true}
use Rattle.base_values.proofs.ListLaws.{get_left}

-- Membership by place.
abbrev pub In : {A : Type 0} → A → List A → Type 0
In x xs = (i : ℕ) × (slice_get xs i ≡ Some x)

pub in_left : {A : Type 0} (x : A) (xs ys : List A) → In x xs → In x (xs ++ ys)
in_left x xs ys h = (h.0, get_left xs ys h.0 x h.1)

pub in_right : {A : Type 0} (x : A) (xs ys : List A) → In x ys → In x (xs ++ ys)
in_right x [] ys h = h
in_right x (y ∷ xs) ys h = let r : In x (xs ++ ys) = in_right x xs ys h in (suc r.0, r.1)

pub in_flat : {A B : Type 0} (f : A → List B) (x : A) (y : B) (xs : List A) (i : ℕ) → slice_get xs i ≡ Some x → In y (f x) → In y (flat_map f xs)
in_flat f x y [] i e h = cc
in_flat f x y (z ∷ xs) zero e h = let same : z ≡ x = cc in in_left y (f z) (flat_map f xs) (subst (λ w. In y (f w)) (sym same) h)
in_flat f x y (z ∷ xs) (suc i) e h = in_right y (f z) (flat_map f xs) (in_flat f x y xs i e h)

-- what the rules give at a visit
pub record VisitFacts (p : ProgramTree) (v : Visit) : Type 0 where
  pub exists : is_missing_instance p v.decl.what ≡ false
  pub counted : is_miscounted p v.decl.what ≡ false
  pub apart : is_on_path v.on_path v.decl.what ≡ false

visits_kept : (p : ProgramTree) (before vs : List Visit) → Each (IsKept p) (visit_sites before vs) → Each (VisitFacts p) vs
visits_kept p before [] h = tt
visits_kept p before (v ∷ vs) h =
    (record { exists = not_true _ (h.0 no_such_module); counted = not_true _ (h.0 wrong_count); apart = not_true _ (h.0 module_loop) }, visits_kept p (before ++ v ∷ []) vs h.1)

pub there : (p : ProgramTree) (x : Text) → IsThere p x → (m : ModuleTree) × (find_module p x ≡ Some m)
there p x h = by_find (find_module p x) refl
  where
    by_find : (o : Option ModuleTree) → find_module p x ≡ o → (m : ModuleTree) × (find_module p x ≡ Some m)
    by_find None e = let bad : true ≡ false = rw e at h in cc
    by_find (Some m) e = (m, e)

is_there : (p : ProgramTree) (x : Text) (m : ModuleTree) → find_module p x ≡ Some m → IsThere p x
is_there p x m e = rw e refl

-- a visit is of a declaration of an instance
pub record Real (p : ProgramTree) (v : Visit) : Type 0 where
  pub tree : ModuleTree
  pub is : IsInstance p v.place tree
  pub kind : kind_in tree v.decl.name ≡ kind_declared v.role v.decl.what

module_inside : (p : ProgramTree) (at : Place) (m : ModuleTree) (x : Text) (role : Role) (n : Text) (actuals : List Formula) (k : ModuleTree) →
    IsInstance p at m → kind_in m x ≡ kind_declared role (instance n actuals) → find_module p n ≡ Some k → IsInstance p (x ∷ at) k
module_inside p at m x role n actuals k is kind found = ap (λ o. module_of_kind p (kind_at o x)) is ∙ ap (module_of_kind p) kind ∙ found

module _ (p : ProgramTree) (walkable : IsWalkable p) where
  abbrev Goes : (Place → Text → List Visit) → Type 0
  Goes go = (at : Place) (name : Text) (m : ModuleTree) → IsInstance p at m → find_module p name ≡ Some m → Each (VisitFacts p) (go at name) → Each (Real p) (go at name)

  inside_real : (go : Place → Text → List Visit) → Goes go → (on : List Text) (at : Place) (m : ModuleTree) (x : Text) (role : Role) (what : DeclaredTree) →
      IsInstance p at m → kind_in m x ≡ kind_declared role what → is_missing_instance p what ≡ false →
      Each (VisitFacts p) (visits_inside go on (x ∷ at) what) → Each (Real p) (visits_inside go on (x ∷ at) what)
  inside_real go goes on at m x role boolean is kind ex h = tt
  inside_real go goes on at m x role (range lo hi) is kind ex h = tt
  inside_real go goes on at m x role (members ms) is kind ex h = tt
  inside_real go goes on at m x role (instance n actuals) is kind ex h = by_path (is_among on n) refl
    where
      by_path : (b : Bool) → is_among on n ≡ b → Each (Real p) (if is_among on n then [] else go (x ∷ at) n)
      by_path true e = rw e tt
      by_path false e =
          let k : (k : ModuleTree) × (find_module p n ≡ Some k) = there p n ex in
          let h' : Each (VisitFacts p) (go (x ∷ at) n) = rw e at h in
          rw e (goes (x ∷ at) n k.0 (module_inside p at m x role n actuals k.0 is kind k.1) k.1 h')

  item_real : (go : Place → Text → List Visit) → Goes go → (on : List Text) (at : Place) (m : ModuleTree) (n : ℕ) (before : List Item) (i : Item) →
      IsInstance p at m → ItemFacts m (record { number = n; before = before; item = i }) → Each (VisitFacts p) (visits_of go on at n i) → Each (Real p) (visits_of go on at n i)
  item_real go goes on at m n before (a_declaration role d) is facts h =
      let kind : kind_in m d.name ≡ kind_declared role d.what = kind_of_declaration m before role d facts.after facts.among facts.fresh in
      (record { tree = m; is = is; kind = kind }, inside_real go goes on at m d.name role d.what is kind h.0.exists h.1)
  item_real go goes on at m n before (a_definition d) is facts h = tt
  item_real go goes on at m n before (an_assignment a) is facts h = tt
  item_real go goes on at m n before (some_constants xs) is facts h = tt
  item_real go goes on at m n before (an_init e) is facts h = tt
  item_real go goes on at m n before (an_invar e) is facts h = tt
  item_real go goes on at m n before (a_trans e) is facts h = tt

  items_real : (go : Place → Text → List Visit) → Goes go → (on : List Text) (at : Place) (m : ModuleTree) (is : List NumberedItem) →
      IsInstance p at m → Each (ItemFacts m) is → Each (VisitFacts p) (walk_items go on at is) → Each (Real p) (walk_items go on at is)
  items_real go goes on at m [] is facts h = tt
  items_real go goes on at m (i ∷ items) is facts h =
      each_join (Real p) (visits_of go on at i.number i.item) (walk_items go on at items)
      (item_real go goes on at m i.number i.before i.item is facts.0 (each_left (VisitFacts p) (visits_of go on at i.number i.item) (walk_items go on at items) h))
      (items_real go goes on at m items is facts.1 (each_right (VisitFacts p) (visits_of go on at i.number i.item) (walk_items go on at items) h))

  pub facts_named : (name : Text) (m : ModuleTree) → find_module p name ≡ Some m → Each (ItemFacts m) (items_named p name)
  facts_named name m e = found_facts p 1 [] name m e (all_facts p walkable)

  walk_real : (n : ℕ) (on : List Text) → Goes (walk n p on)
  walk_real zero on at name m is found h = tt
  walk_real (suc n) on at name m is found h =
      items_real (walk n p (name ∷ on)) (walk_real n (name ∷ on)) (name ∷ on) at m (items_named p name) is (facts_named name m found) h

  pub all_visit_facts : Each (VisitFacts p) (visits p)
  all_visit_facts = visits_kept p [] (visits p) walkable.visits

  pub has_main : (m : ModuleTree) → find_module p (codes "main") ≡ Some m → Each (Real p) (visits p)
  has_main m e = walk_real (length p) [] [] (codes "main") m e e all_visit_facts

  real_instance : (at : Place) (m : ModuleTree) (x : Text) (role : Role) (what : DeclaredTree) → IsInstance p at m → kind_in m x ≡ kind_declared role what → is_missing_instance p what ≡ false →
      Each (λ (y : FlatInstance). (k : ModuleTree) × IsInstance p y.place k × (find_module p y.module_name ≡ Some k)) (instance_declared (x ∷ at) what)
  real_instance at m x role boolean is kind ex = tt
  real_instance at m x role (range lo hi) is kind ex = tt
  real_instance at m x role (members ms) is kind ex = tt
  real_instance at m x role (instance n actuals) is kind ex =
      let k : (k : ModuleTree) × (find_module p n ≡ Some k) = there p n ex in ((k.0, module_inside p at m x role n actuals k.0 is kind k.1, k.1), tt)

  real_instances : (vs : List Visit) → Each (Real p) vs → Each (VisitFacts p) vs →
      Each (λ (y : FlatInstance). (k : ModuleTree) × IsInstance p y.place k × (find_module p y.module_name ≡ Some k)) (flat_map instances_of_visit vs)
  real_instances [] h k = tt
  real_instances (v ∷ vs) h k =
      each_join (λ (y : FlatInstance). (k : ModuleTree) × IsInstance p y.place k × (find_module p y.module_name ≡ Some k)) (instances_of_visit v) (flat_map instances_of_visit vs)
      (real_instance v.place h.0.tree v.decl.name v.role v.decl.what h.0.is h.0.kind k.0.exists) (real_instances vs h.1 k.1)

  -- Every instance is walked.
  pub record Walked (at : Place) (m : ModuleTree) : Type 0 where
    pub on : List Text
    pub name : Text
    pub left : ℕ
    pub found : find_module p name ≡ Some m
    pub all_there : Each (IsThere p) (name ∷ on)
    pub all_apart : AreApart (name ∷ on)
    pub size : length on + suc left ≡ length p
    pub sub : (v : Visit) → In v (walk (suc left) p on at name) → In v (visits p)

  -- a declaration of a walked instance, and what is inside it
  pub in_items : (go : Place → Text → List Visit) (on : List Text) (at : Place) (v : Visit) (is : List NumberedItem) (i : ℕ) (item : NumberedItem) → slice_get is i ≡ Some item →
      In v (visits_of go on at item.number item.item) → In v (walk_items go on at is)
  in_items go on at v [] i item e h = cc
  in_items go on at v (j ∷ is) zero item e h = let same : j ≡ item = cc in
      in_left v (visits_of go on at j.number j.item) (walk_items go on at is) (subst (λ (k : NumberedItem). In v (visits_of go on at k.number k.item)) (sym same) h)
  in_items go on at v (j ∷ is) (suc i) item e h = in_right v (visits_of go on at j.number j.item) (walk_items go on at is) (in_items go on at v is i item e h)

  numbered_at : (n : ℕ) (before items : List Item) (i : ℕ) (item : Item) → slice_get items i ≡ Some item →
      (x : NumberedItem) × (slice_get (numbered_from n before items) i ≡ Some x) × (x.item ≡ item)
  numbered_at n before [] i item e = cc
  numbered_at n before (j ∷ items) zero item e = (record { number = n; before = before; item = j }, refl, same_item j item e)
    where
      same_item : (j item : Item) → Some j ≡ Some item → j ≡ item
      same_item j item e = cc
  numbered_at n before (j ∷ items) (suc i) item e = numbered_at (suc n) (before ++ j ∷ []) items i item e

  pub found_at : (q : ProgramTree) (n : ℕ) (before : List ModuleTree) (x : Text) (m : ModuleTree) (i : ℕ) (item : Item) → find_module q x ≡ Some m → slice_get (items_of m) i ≡ Some item →
      (y : NumberedItem) × (slice_get (items_found (modules_from n before q) x) i ≡ Some y) × (y.item ≡ item)
  found_at [] n before x m i item e h = cc
  found_at (first ∷ more) n before x m i item e h = by_name (same_text first.name x) refl (λ found. found_at more (n + suc (length (items_of first))) (before ++ first ∷ []) x m i item found h)
    where
      by_name : (b : Bool) → same_text first.name x ≡ b →
          (find_module more x ≡ Some m → (y : NumberedItem) × (slice_get (items_found (modules_from (n + suc (length (items_of first))) (before ++ first ∷ []) more) x) i ≡ Some y) × (y.item ≡ item)) →
          (y : NumberedItem) × (slice_get (items_found (modules_from n before (first ∷ more)) x) i ≡ Some y) × (y.item ≡ item)
      by_name true t rest =
          let found : Some first ≡ Some m = rw t at e in
          let same : first ≡ m = cc in
          rw t (numbered_at (suc n) [] (items_of first) i item (subst (λ (k : ModuleTree). slice_get (items_of k) i ≡ Some item) (sym same) h))
      by_name false t rest = let found : find_module more x ≡ Some m = rw t at e in rw t (rest found)

  pub record Below (at : Place) (x : Text) (n : Text) : Type 0 where
    pub visit : Visit
    pub within : In visit (visits p)
    pub instances : In (record { place = x ∷ at; module_name = n }) (instances_of_visit visit)
    pub inside : (k : ModuleTree) → find_module p n ≡ Some k → Walked (x ∷ at) k

  pub below : (at : Place) (m : ModuleTree) (w : Walked at m) (x : Text) (n : Text) (actuals : List Formula) → kind_in m x ≡ an_instance n actuals → Below at x n
  below at m w x n actuals kind = record { visit = visit; within = within; instances = listed; inside = inside }
    where
      by : DeclaredBy (items_of m) x n actuals
      by = declared_by (items_of m) x n actuals (sections_kind m.sections x ∙ no_formal_instance n actuals (formal_from 0 m.formals x) (kind_in_sections m.sections x) kind)

      item : (y : NumberedItem) × (slice_get (items_named p w.name) by.place ≡ Some y) × (y.item ≡ a_declaration by.role by.decl)
      item = found_at p 1 [] w.name m by.place (a_declaration by.role by.decl) w.found by.is

      go : Place → Text → List Visit
      go = walk w.left p (w.name ∷ w.on)

      visit : Visit
      visit = record { place = at; on_path = w.name ∷ w.on; number = item.0.number; role = by.role; decl = by.decl }

      -- what is visited at the item is visited
      visited : (v : Visit) → In v (visits_of go (w.name ∷ w.on) at item.0.number (a_declaration by.role by.decl)) → In v (visits p)
      visited v h = w.sub v (in_items go (w.name ∷ w.on) at v (items_named p w.name) by.place item.0 item.1
          (subst (λ i. In v (visits_of go (w.name ∷ w.on) at item.0.number i)) (sym item.2) h))

      within : In visit (visits p)
      within = visited visit (0, refl)

      listed : In (record { place = x ∷ at; module_name = n }) (instance_declared (by.decl.name ∷ at) by.decl.what)
      listed = subst (λ t. In (record { place = x ∷ at; module_name = n }) (instance_declared (by.decl.name ∷ at) t)) (sym by.what)
          (subst (λ y. In (record { place = x ∷ at; module_name = n }) (instance_declared (y ∷ at) (instance n actuals))) (sym by.name) (0, refl))

      facts : VisitFacts p visit
      facts = each_at (VisitFacts p) (visits p) within.0 visit all_visit_facts within.1

      apart : is_among (w.name ∷ w.on) n ≡ false
      apart = subst (λ t. is_on_path (w.name ∷ w.on) t ≡ false) by.what facts.apart

      walked_inside : (v : Visit) → In v (go (x ∷ at) n) → In v (visits p)
      walked_inside v h = visited v (in_right v (visit ∷ []) (visits_inside go (w.name ∷ w.on) (by.decl.name ∷ at) by.decl.what)
          (subst (λ t. In v (visits_inside go (w.name ∷ w.on) (by.decl.name ∷ at) t)) (sym by.what)
          (subst (λ y. In v (visits_inside go (w.name ∷ w.on) (y ∷ at) (instance n actuals))) (sym by.name)
          (subst (λ b. In v (if b then [] else go (x ∷ at) n)) (sym apart) h))))

      inside : (k : ModuleTree) → find_module p n ≡ Some k → Walked (x ∷ at) k
      inside k found = by_left w.left refl
        where
          all_there : Each (IsThere p) (n ∷ w.name ∷ w.on)
          all_there = (is_there p n k found, w.all_there)

          all_apart : AreApart (n ∷ w.name ∷ w.on)
          all_apart = (apart, w.all_apart)

          few : suc (suc (length w.on)) ≤ length p
          few = no_more_names p (n ∷ w.name ∷ w.on) all_apart all_there

          by_left : (l : ℕ) → w.left ≡ l → Walked (x ∷ at) k
          by_left zero e = let size : length w.on + suc zero ≡ length p = subst (λ l. length w.on + suc l ≡ length p) e w.size in absurd (omega (arith, few, size))
          by_left (suc l) e =
              let size : length w.on + suc (suc l) ≡ length p = subst (λ l. length w.on + suc l ≡ length p) e w.size in
              record {
                on = w.name ∷ w.on;
                name = n;
                left = l;
                found = found;
                all_there = all_there;
                all_apart = all_apart;
                size = omega (arith, size);
                sub = λ v h. walked_inside v (subst (λ j. In v (walk j p (w.name ∷ w.on) (x ∷ at) n)) (sym e) h);
              }

  -- an instance below another is declared by it
  pub record Above (at : Place) (x : Text) (m : ModuleTree) : Type 0 where
    pub tree : ModuleTree
    pub is : IsInstance p at tree
    pub module_name : Text
    pub actuals : List Formula
    pub kind : kind_in tree x ≡ an_instance module_name actuals
    pub found : find_module p module_name ≡ Some m

  pub above : (at : Place) (x : Text) (m : ModuleTree) → IsInstance p (x ∷ at) m → Above at x m
  above at x m is = by_module (module_at p at) refl is
    where
      by_kind : (k : ModuleTree) → module_at p at ≡ Some k → (kind : Kind) → kind_in k x ≡ kind → module_of_kind p kind ≡ Some m → Above at x m
      by_kind k e (an_instance n actuals) q h = record { tree = k; is = e; module_name = n; actuals = actuals; kind = q; found = h }
      by_kind k e (a_formal i) q h = cc
      by_kind k e (a_variable role what) q h = cc
      by_kind k e (a_define f) q h = cc
      by_kind k e undeclared q h = cc

      by_module : (o : Option ModuleTree) → module_at p at ≡ o → module_of_kind p (kind_at (module_at p at) x) ≡ Some m → Above at x m
      by_module None e h = let bad : None ≡ Some m = sym (ap (λ o. module_of_kind p (kind_at o x)) e) ∙ h in cc
      by_module (Some k) e h = by_kind k e (kind_in k x) refl (sym (ap (λ o. module_of_kind p (kind_at o x)) e) ∙ h)

  pub walked : (at : Place) (m : ModuleTree) → IsInstance p at m → Walked at m
  walked [] m is = by_length (length p) refl
    where
      few : suc zero ≤ length p
      few = no_more_names p (codes "main" ∷ []) (refl, tt) (is_there p (codes "main") m is, tt)

      by_length : (l : ℕ) → length p ≡ l → Walked [] m
      by_length zero e = absurd (omega (arith, few, e))
      by_length (suc l) e = record {
        on = [];
        name = codes "main";
        left = l;
        found = is;
        all_there = (is_there p (codes "main") m is, tt);
        all_apart = (refl, tt);
        size = omega (arith, e);
        sub = λ v h. subst (λ j. In v (walk j p [] [] (codes "main"))) (sym e) h;
      }
  walked (x ∷ at) m is =
      let a : Above at x m = above at x m is in (below at a.tree (walked at a.tree a.is) x a.module_name a.actuals a.kind).inside m a.found

  all_instances : (at : Place) (m : ModuleTree) → IsInstance p at m → (i : ℕ) × (x : FlatInstance) × (slice_get (instances_of p) i ≡ Some x) × (x.place ≡ at)
  all_instances [] m is = (0, record { place = []; module_name = codes "main" }, refl, refl)
  all_instances (x ∷ at) m is =
      let a : Above at x m = above at x m is in
      let b : Below at x a.module_name = below at a.tree (walked at a.tree a.is) x a.module_name a.actuals a.kind in
      let i : In (record { place = x ∷ at; module_name = a.module_name }) (flat_map instances_of_visit (visits p)) = in_flat instances_of_visit b.visit _ (visits p) b.within.0 b.within.1 b.instances in
      (suc i.0, record { place = x ∷ at; module_name = a.module_name }, i.1, refl)

  pub are_instances : (m : ModuleTree) → find_module p (codes "main") ≡ Some m → AreInstances p
  are_instances m e = record { real = real; all = all_instances }
    where
      real : (i : ℕ) (x : FlatInstance) → slice_get (instances_of p) i ≡ Some x → (k : ModuleTree) × IsInstance p x.place k × (find_module p x.module_name ≡ Some k)
      real i x h = each_at (λ (y : FlatInstance). (k : ModuleTree) × IsInstance p y.place k × (find_module p y.module_name ≡ Some k)) (instances_of p) i x
          ((m, e, e), real_instances (visits p) (has_main m e) all_visit_facts) h
