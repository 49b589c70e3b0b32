-- In an accepted program no definition needs itself, each has its value, and no formal comes back.
use Rattle.std.proofs.Common.{◌≡◌, ℕ, zero, suc, ◌+◌, Bool, true, false, List, [], ◌∷◌, ◌++◌, Option, Some, None, refl, sym, ◌∙◌, ap, subst, arith, eqb-true}
use Rattle.std.specs.Prelude.{slice_get, flat_map, length, nat_eq}
use Rattle.smv_language.specs.Language.{Text, Path, Formula, DeclaredTree, boolean, range, members, instance, DeclTree, ModuleTree, ProgramTree, opposite, Place, Role, Kind, a_formal, a_variable, an_instance, undeclared, kind_declared, kind_in, kind_in_sections, formal_from, kind_after_formals, kind_at, module_of_kind, module_at, find_module, actual_of_kind, plain_name, Each, IsInstance, FlatInstance}
use Rattle.smv_language.specs.Scope.{a_define}
use Rattle.smv_flat_laws.specs.NameResolution.{has_next}
use Rattle.smv_flat_laws.specs.Items.{Item, a_declaration, a_definition, an_assignment, some_constants, an_init, an_invar, a_trans, NumberedItem, items_of, items_named, Visit, visits_of, walk, visits, instances_of}
use Rattle.smv_flat_laws.specs.Looks.{at_actual, plain_of, step_kind, step_of, look_after, ComesBack}
use Rattle.smv_flat_laws.specs.Rules.{a_use, visit_sites, IsKept, IsAccepted, is_missing_instance, is_miscounted, is_other_count, wrong_count, no_such_name, define_loop, next_here, ActualHasNoMeaning, expression_of_kind, expression_in, ActualLoops, SomeActualLoops, LoopsInside}
use Rattle.smv_flat_laws.specs.Model.{root_of_actual, roots_of_actuals, roots_of_type, roots_of_item, roots_of}
use Rattle.smv_flat_laws.proofs.Conditions.{each_flat, each_at, each_from, each_join}
use Rattle.smv_flat_laws.proofs.KindLaws.{sections_kind, DeclaredBy, declared_by}
use Rattle.smv_flat_laws.proofs.Places.{In, VisitFacts, there, Walked, walked, in_items, found_at, all_visit_facts}
use Rattle.smv_flat_laws.proofs.EndLaws.{ended_stays}
use Rattle.smv_flat.proofs.BuildAccepted.{nth_slice, IsGoodRoot, walkable, are, kept_at, ItemAt, item_at, fresh_declared, fresh_defined}
use Rattle.smv_flat_laws.proofs.Meant.{declares_no_formal, formal_is as formal_named, some_next as next_among}
use Rattle.std.proofs.lemmas.Bool.{false_from_ne_true as not_true}
use Rattle.smv_language.proofs.EachLaws.{some_at}
use Rattle.smv_language.proofs.ProgramLaws.{found_named}

counted : (a b : ℕ) → opposite (nat_eq a b) ≡ false → a ≡ b
counted a b h = by_test (nat_eq a b) refl
  where
    by_test : (t : Bool) → nat_eq a b ≡ t → a ≡ b
    by_test true e = eqb-true a b e
    by_test false e = let bad : true ≡ false = rw e at h in cc

pub counts_kept : (p : ProgramTree) (before vs : List Visit) → Each (IsKept p) (visit_sites before vs) → Each (λ (v : Visit). is_miscounted p v.decl.what ≡ false) vs
counts_kept p before [] h = tt
counts_kept p before (v ∷ vs) h = (not_true _ (h.0 wrong_count), counts_kept p (before ++ v ∷ []) vs h.1)

same_decl : (d : DeclTree) (w : DeclaredTree) → d.what ≡ w → d ≡ record { name = d.name; what = w }
same_decl d w e = ap (λ (t : DeclaredTree). let r : DeclTree = record { name = d.name; what = t } in r) e

get_more : (es : List Formula) (k : ℕ) (actuals : List Formula) (e : Formula) → ((i : ℕ) (f : Formula) → slice_get (e ∷ es) i ≡ Some f → slice_get actuals (k + i) ≡ Some f) →
    (i : ℕ) (f : Formula) → slice_get es i ≡ Some f → slice_get actuals (suc k + i) ≡ Some f
get_more es k actuals e at i f h = let same : k + suc i ≡ suc k + i = omega arith in subst (λ n. slice_get actuals n ≡ Some f) same (at (suc i) f h)

module _ (p : ProgramTree) (accepted : IsAccepted p) where
  -- an instance that an item declares has as many actuals as its module has formals
  pub record Counted (m : Text) (actuals : List Formula) : Type 0 where
    pub tree : ModuleTree
    pub found : find_module p m ≡ Some tree
    pub count : length tree.formals ≡ length actuals

  counted_visit : (v : Visit) (m : Text) (actuals : List Formula) → VisitFacts p v → is_miscounted p v.decl.what ≡ false → v.decl.what ≡ instance m actuals → Counted m actuals
  counted_visit v m actuals facts count e =
      let exists : is_missing_instance p (instance m actuals) ≡ false = subst (λ t. is_missing_instance p t ≡ false) e facts.exists in
      let k : (k : ModuleTree) × (find_module p m ≡ Some k) = there p m exists in
      let test : is_other_count (find_module p m) (length actuals) ≡ false = subst (λ t. is_miscounted p t ≡ false) e count in
      record { tree = k.0; found = k.1; count = counted (length k.0.formals) (length actuals) (subst (λ o. is_other_count o (length actuals) ≡ false) k.1 test) }

  pub item_counts : (x : FlatInstance) (j : ℕ) (n : NumberedItem) (role : Role) (d : DeclTree) (m : Text) (actuals : List Formula) → slice_get (items_named p x.module_name) j ≡ Some n →
      ItemAt p accepted x n → n.item ≡ a_declaration role d → d.what ≡ instance m actuals → Counted m actuals
  item_counts x j n role d m actuals f t e what =
      counted_visit visit m actuals (each_at (VisitFacts p) (visits p) within.0 visit (all_visit_facts p (walkable p accepted)) within.1)
      (each_at (λ (v : Visit). is_miscounted p v.decl.what ≡ false) (visits p) within.0 visit (counts_kept p [] (visits p) (walkable p accepted).visits) within.1) what
    where
      w : Walked p (walkable p accepted) x.place t.tree
      w = walked p (walkable p accepted) x.place t.tree t.is

      same : x.module_name ≡ w.name
      same = sym (found_named p x.module_name t.tree t.found) ∙ found_named p w.name t.tree w.found

      visit : Visit
      visit = record { place = x.place; on_path = w.name ∷ w.on; number = n.number; role = role; decl = d }

      within : In visit (visits p)
      within = w.sub visit (in_items p (walkable p accepted) (walk w.left p (w.name ∷ w.on)) (w.name ∷ w.on) x.place visit (items_named p w.name) j n
          (subst (λ y. slice_get (items_named p y) j ≡ Some n) same f)
          (subst (λ i. In visit (visits_of (walk w.left p (w.name ∷ w.on)) (w.name ∷ w.on) x.place n.number i)) (sym e) (0, refl)))

  -- an item that declares an instance, as the rules see it
  abbrev Declares : FlatInstance → NumberedItem → Role → Text → Text → List Formula → Type 0
  Declares x n role own m actuals = IsKept p (a_use x (record n { item = a_declaration role (record { name = own; what = instance m actuals }) }))

  declares : (x : FlatInstance) (n : NumberedItem) (role : Role) (d : DeclTree) (m : Text) (actuals : List Formula) → IsKept p (a_use x n) → n.item ≡ a_declaration role d → d.what ≡ instance m actuals →
      Declares x n role d.name m actuals
  declares x n role d m actuals kept e what =
      subst (λ i. IsKept p (a_use x (record n { item = i }))) (e ∙ ap (a_declaration role) (same_decl d (instance m actuals) what)) kept

  no_loop : (x : FlatInstance) (n : NumberedItem) (role : Role) (own : Text) (m : Text) (actuals : List Formula) → Declares x n role own m actuals → (tree : ModuleTree) → find_module p m ≡ Some tree →
      SomeActualLoops p (own ∷ x.place) tree actuals → ⊥
  no_loop x n role own m actuals kept tree found loops = kept define_loop (subst (LoopsInside p (own ∷ x.place) actuals) (sym found) loops)

  -- the actuals of an instance that are no plain names
  actual_root : (x : FlatInstance) (n : NumberedItem) (role : Role) (own : Text) (m : Text) (actuals : List Formula) → Declares x n role own m actuals → Counted m actuals →
      kind_at (module_at p x.place) own ≡ an_instance m actuals → (k : ℕ) (e : Formula) → slice_get actuals k ≡ Some e → (o : Option Path) → plain_name e ≡ o →
      Each (IsGoodRoot p) (root_of_actual (own ∷ x.place) k n.number o)
  actual_root x n role own m actuals kept count kind k e is (Some name) plain = tt
  actual_root x n role own m actuals kept count kind k e is None plain = (
    record {
      free = λ needs. no_loop x n role own m actuals kept count.tree count.found (record {
        index = k;
        formal = (formal_there count.tree.formals actuals k e count.count is).0;
        actual = e;
        is_formal = (formal_there count.tree.formals actuals k e count.count is).1;
        is_actual = is;
        loops = subst (ActualLoops p (own ∷ x.place) k (formal_there count.tree.formals actuals k e count.count is).0) (sym plain) needs;
      });
      at = x.place;
      written = e;
      is = ap (λ j. expression_in x.place (actual_of_kind j k)) kind ∙ ap (expression_in x.place) (nth_slice actuals k ∙ is);
      now = not_true (has_next e) (λ next. kept next_here (next_among actuals k e is next));
      named = λ bad. kept no_such_name (some_at (λ e. ActualHasNoMeaning p x.place e (plain_name e)) actuals k e is (subst (ActualHasNoMeaning p x.place e) (sym plain) bad));
    },
    tt,
  )
    where
      formal_there : (xs : List Text) (es : List Formula) (k : ℕ) (e : Formula) → length xs ≡ length es → slice_get es k ≡ Some e → (y : Text) × (slice_get xs k ≡ Some y)
      formal_there [] [] k e l h = cc
      formal_there [] (f ∷ es) k e l h = absurd (omega (arith, l))
      formal_there (y ∷ xs) [] k e l h = cc
      formal_there (y ∷ xs) (f ∷ es) zero e l h = (y, refl)
      formal_there (y ∷ xs) (f ∷ es) (suc k) e l h = formal_there xs es k e (omega (arith, l)) h

  actual_roots : (x : FlatInstance) (n : NumberedItem) (role : Role) (own : Text) (m : Text) (actuals : List Formula) → Declares x n role own m actuals → Counted m actuals →
      kind_at (module_at p x.place) own ≡ an_instance m actuals → (k : ℕ) (es : List Formula) → ((i : ℕ) (e : Formula) → slice_get es i ≡ Some e → slice_get actuals (k + i) ≡ Some e) →
      Each (IsGoodRoot p) (roots_of_actuals (own ∷ x.place) k n.number es)
  actual_roots x n role own m actuals kept count kind k [] at = tt
  actual_roots x n role own m actuals kept count kind k (e ∷ es) at =
      let here : k + 0 ≡ k = omega arith in
      each_join (IsGoodRoot p) (root_of_actual (own ∷ x.place) k n.number (plain_name e)) (roots_of_actuals (own ∷ x.place) (suc k) n.number es)
      (actual_root x n role own m actuals kept count kind k e (subst (λ j. slice_get actuals j ≡ Some e) here (at 0 e refl)) (plain_name e) refl)
      (actual_roots x n role own m actuals kept count kind (suc k) es (get_more es k actuals e at))

  declared_roots : (x : FlatInstance) (j : ℕ) (n : NumberedItem) (role : Role) (d : DeclTree) → slice_get (items_named p x.module_name) j ≡ Some n → IsKept p (a_use x n) → ItemAt p accepted x n →
      n.item ≡ a_declaration role d → (what : DeclaredTree) → d.what ≡ what → Each (IsGoodRoot p) (roots_of_type (d.name ∷ x.place) n.number what)
  declared_roots x j n role d f kept t e boolean is = tt
  declared_roots x j n role d f kept t e (range lo hi) is = tt
  declared_roots x j n role d f kept t e (members ms) is = tt
  declared_roots x j n role d f kept t e (instance m actuals) is =
      actual_roots x n role d.name m actuals (declares x n role d m actuals kept e is) (item_counts x j n role d m actuals f t e is)
      (fresh_declared p accepted x n role d t e ∙ ap (kind_declared role) is) 0 actuals (λ i g h. let same : i ≡ 0 + i = omega arith in subst (λ k. slice_get actuals k ≡ Some g) same h)

  item_roots : (x : FlatInstance) (j : ℕ) (n : NumberedItem) → slice_get (items_named p x.module_name) j ≡ Some n → IsKept p (a_use x n) → ItemAt p accepted x n → (item : Item) → n.item ≡ item →
      Each (IsGoodRoot p) (roots_of_item x.place n.number item)
  item_roots x j n f kept t (a_declaration role d) e = declared_roots x j n role d f kept t e d.what refl
  item_roots x j n f kept t (a_definition d) e =
      let defined : IsKept p (a_use x (record n { item = a_definition d })) = subst (λ i. IsKept p (a_use x (record n { item = i }))) e kept in (
        record {
          free = defined define_loop;
          at = x.place;
          written = d.value;
          is = ap (expression_of_kind x.place) (fresh_defined p accepted x n d t e);
          now = not_true (has_next d.value) (defined next_here);
          named = defined no_such_name;
        },
        tt,
      )
  item_roots x j n f kept t (an_assignment a) e = tt
  item_roots x j n f kept t (some_constants xs) e = tt
  item_roots x j n f kept t (an_init g) e = tt
  item_roots x j n f kept t (an_invar g) e = tt
  item_roots x j n f kept t (a_trans g) e = tt

  pub good_roots : Each (IsGoodRoot p) (roots_of p)
  good_roots =
      (each_flat (IsGoodRoot p) (λ x. flat_map (λ (i : NumberedItem). roots_of_item x.place i.number i.item) (items_named p x.module_name)) (instances_of p)).1
      (each_from (λ (x : FlatInstance). Each (IsGoodRoot p) (flat_map (λ (i : NumberedItem). roots_of_item x.place i.number i.item) (items_named p x.module_name))) (instances_of p)
      (λ i x e. (each_flat (IsGoodRoot p) (λ (i : NumberedItem). roots_of_item x.place i.number i.item) (items_named p x.module_name)).1
      (each_from (λ (n : NumberedItem). Each (IsGoodRoot p) (roots_of_item x.place n.number n.item)) (items_named p x.module_name)
      (λ j n f. item_roots x j n f (kept_at p accepted i x e j n f) (item_at p accepted i x e j n f) n.item refl))))

  -- the item that declares an instance
  pub record DeclaredAt (caller : Place) (own : Text) (m : ModuleTree) : Type 0 where
    pub instance_number : ℕ
    pub at : FlatInstance
    pub is_at : slice_get (instances_of p) instance_number ≡ Some at
    pub place : at.place ≡ caller
    pub item_number : ℕ
    pub item : NumberedItem
    pub is_item : slice_get (items_named p at.module_name) item_number ≡ Some item
    pub role : Role
    pub decl : DeclTree
    pub declares : item.item ≡ a_declaration role decl
    pub name : decl.name ≡ own
    pub module_name : Text
    pub actuals : List Formula
    pub what : decl.what ≡ instance module_name actuals
    pub found : find_module p module_name ≡ Some m
    pub kind : kind_at (module_at p caller) own ≡ an_instance module_name actuals

  in_sections : (o : Option ℕ) (k : Kind) (n : Text) (actuals : List Formula) → kind_after_formals o k ≡ an_instance n actuals → k ≡ an_instance n actuals
  in_sections None k n actuals e = e
  in_sections (Some i) k n actuals e = cc

  by_kind : (caller : Place) (own : Text) (m k : ModuleTree) (n : Text) (actuals : List Formula) → IsInstance p caller k → kind_in k own ≡ an_instance n actuals → find_module p n ≡ Some m → DeclaredAt caller own m
  by_kind caller own m k n actuals is kind found = record {
    instance_number = l.0;
    at = l.1;
    is_at = l.2;
    place = l.3;
    item_number = by.place;
    item = item.0;
    is_item = item.1;
    role = by.role;
    decl = by.decl;
    declares = item.2;
    name = by.name;
    module_name = n;
    actuals = actuals;
    what = by.what;
    found = found;
    kind = ap (λ o. kind_at o own) is ∙ kind;
  }
    where
      by : DeclaredBy (items_of k) own n actuals
      by = declared_by (items_of k) own n actuals (sections_kind k.sections own ∙ in_sections (formal_from 0 k.formals own) (kind_in_sections k.sections own) n actuals kind)

      l : (i : ℕ) × (x : FlatInstance) × (slice_get (instances_of p) i ≡ Some x) × (x.place ≡ caller)
      l = (are p accepted).all caller k is

      r : (j : ModuleTree) × IsInstance p l.1.place j × (find_module p l.1.module_name ≡ Some j)
      r = (are p accepted).real l.0 l.1 l.2

      one_module : (j k : ModuleTree) → Some j ≡ Some k → j ≡ k
      one_module j k e = cc

      same : r.0 ≡ k
      same = one_module r.0 k (sym r.1 ∙ ap (module_at p) l.3 ∙ is)

      item : (y : NumberedItem) × (slice_get (items_named p l.1.module_name) by.place ≡ Some y) × (y.item ≡ a_declaration by.role by.decl)
      item = found_at p (walkable p accepted) p 1 [] l.1.module_name k by.place (a_declaration by.role by.decl) (r.2 ∙ ap Some same) by.is

  pub declared_at : (caller : Place) (own : Text) (m : ModuleTree) → IsInstance p (own ∷ caller) m → DeclaredAt caller own m
  declared_at caller own m is = by_module (module_at p caller) refl is
    where
      from_kind : (k : ModuleTree) → module_at p caller ≡ Some k → (kind : Kind) → kind_in k own ≡ kind → module_of_kind p kind ≡ Some m → DeclaredAt caller own m
      from_kind k e (an_instance n actuals) q h = by_kind caller own m k n actuals e q h
      from_kind k e (a_formal i) q h = cc
      from_kind k e (a_variable role what) q h = cc
      from_kind k e (a_define f) q h = cc
      from_kind k e undeclared q h = cc

      by_module : (o : Option ModuleTree) → module_at p caller ≡ o → module_of_kind p (kind_at (module_at p caller) own) ≡ Some m → DeclaredAt caller own m
      by_module None e h = let bad : None ≡ Some m = sym (ap (λ o. module_of_kind p (kind_at o own)) e) ∙ h in cc
      by_module (Some k) e h = from_kind k e (kind_in k own) refl (sym (ap (λ o. module_of_kind p (kind_at o own)) e) ∙ h)

  -- a look-up that ends at once does not come back
  ends : (at : Place) (x : Text) → ComesBack p at x → step_of p at (x ∷ []) ≡ None → ⊥
  ends at x back none =
      let same : back.0 + 1 ≡ suc back.0 = omega arith in
      let ended : look_after (suc back.0) p at (x ∷ []) ≡ None = subst (λ n. look_after n p at (x ∷ []) ≡ None) same (ended_stays back.0 1 p at (x ∷ []) none) in
      let bad : None ≡ Some (record { place = at; name = x ∷ back.1 }) = sym ended ∙ back.2 in cc

  formal_of_kind : (m : ModuleTree) (x : Text) (i : ℕ) (o : Option ℕ) → kind_after_formals o (kind_in_sections m.sections x) ≡ a_formal i → o ≡ Some i
  formal_of_kind m x i (Some j) e = cc
  formal_of_kind m x i None e = absurd (declares_no_formal (items_of m) x i (sections_kind m.sections x ∙ e))

  -- the actual of a formal that comes back
  loops_there : (caller : Place) (own : Text) (m : ModuleTree) (x : Text) (i : ℕ) → DeclaredAt caller own m → slice_get m.formals i ≡ Some x → ComesBack p (own ∷ caller) x →
      (o : Option Formula) → actual_of_kind (kind_at (module_at p caller) own) i ≡ o → (at_actual caller (plain_of o) [] ≡ None → ⊥) → ⊥
  loops_there caller own m x i d is back None e goes = goes refl
  loops_there caller own m x i d is back (Some f) e goes = by_plain (plain_name f) refl
    where
      kept : Declares d.at d.item d.role d.decl.name d.module_name d.actuals
      kept = declares d.at d.item d.role d.decl d.module_name d.actuals (kept_at p accepted d.instance_number d.at d.is_at d.item_number d.item d.is_item) d.declares d.what

      actual : slice_get d.actuals i ≡ Some f
      actual = sym (nth_slice d.actuals i) ∙ sym (ap (λ k. actual_of_kind k i) d.kind) ∙ e

      inside : own ∷ caller ≡ d.decl.name ∷ d.at.place
      inside = ap (λ y. y ∷ caller) (sym d.name) ∙ ap (λ a. d.decl.name ∷ a) (sym d.place)

      by_plain : (o : Option Path) → plain_name f ≡ o → ⊥
      by_plain None n = goes (ap (λ q. at_actual caller q []) n)
      by_plain (Some name) n =
          no_loop d.at d.item d.role d.decl.name d.module_name d.actuals kept m d.found (record {
            index = i;
            formal = x;
            actual = f;
            is_formal = is;
            is_actual = actual;
            loops = subst (ActualLoops p (d.decl.name ∷ d.at.place) i x) (sym n) (subst (λ a. ComesBack p a x) inside back);
          })

  pub no_come_back : (at : Place) (x : Text) → ComesBack p at x → ⊥
  no_come_back at x back = of_kind (kind_at (module_at p at) x) refl
    where
      in_module : (i : ℕ) (bt : Place) → at ≡ bt → (m : ModuleTree) → module_at p at ≡ Some m → kind_in m x ≡ a_formal i → kind_at (module_at p at) x ≡ a_formal i → ⊥
      in_module i [] same m e kind q = ends at x back (ap (λ k. step_kind p at k x []) q ∙ ap (λ a. step_kind p a (a_formal i) x []) same)
      in_module i (own ∷ caller) same m e kind q =
          let place : (j : ℕ) × (i ≡ 0 + j) × (slice_get m.formals j ≡ Some x) = formal_named 0 m.formals x i (formal_of_kind m x i (formal_from 0 m.formals x) kind) in
          let here : place.0 ≡ i = (let eq : i ≡ 0 + place.0 = place.1 in omega (arith, eq)) in
          loops_there caller own m x i (declared_at caller own m (subst (λ a. module_at p a ≡ Some m) same e)) (subst (λ j. slice_get m.formals j ≡ Some x) here place.2) (subst (λ a. ComesBack p a x) same back)
          (actual_of_kind (kind_at (module_at p caller) own) i) refl
          (λ none. ends at x back (ap (λ k. step_kind p at k x []) q ∙ ap (λ a. step_kind p a (a_formal i) x []) same ∙ none))

      by_module : (i : ℕ) (o : Option ModuleTree) → module_at p at ≡ o → kind_at (module_at p at) x ≡ a_formal i → ⊥
      by_module i None e q = let bad : undeclared ≡ a_formal i = sym (ap (λ o. kind_at o x) e) ∙ q in cc
      by_module i (Some m) e q = in_module i at refl m e (sym (ap (λ o. kind_at o x) e) ∙ q) q

      of_kind : (k : Kind) → kind_at (module_at p at) x ≡ k → ⊥
      of_kind (a_formal i) q = by_module i (module_at p at) refl q
      of_kind (a_variable role what) q = ends at x back (ap (λ k. step_kind p at k x []) q)
      of_kind (a_define e) q = ends at x back (ap (λ k. step_kind p at k x []) q)
      of_kind (an_instance m as') q = ends at x back (ap (λ k. step_kind p at k x []) q)
      of_kind undeclared q = ends at x back (ap (λ k. step_kind p at k x []) q)
