-- The rules of modules and of names that are declared, in a woven program.
use Rattle.std.proofs.Common.{◌≡◌, inl, inr, ℕ, suc, ◌+◌, Bool, true, false, ◌||◌, List, [], ◌∷◌, ◌++◌, length, map, flat_map, Option, Some, None, refl, sym, ◌∙◌, ap, subst}
use Rattle.std.specs.Prelude.{codes, option_map}
use Rattle.std.specs.List.{list_any}
use Rattle.std.proofs.lemmas.Grind.{flat_map-append}
use Rattle.smv_language.specs.Language.{Text, DeclTree, DefineTree, AssignmentTree, SectionTree, var, ivar, frozen, define, constants, assign, init, invar, trans, ModuleTree, ProgramTree, same_text, is_among, Role, find_module, is_symbol_of_type, is_missing, Each}
use Rattle.smv_language.proofs.ValueLaws.{same_text_equal}
use Rattle.smv_flat_laws.specs.Items.{Item, a_declaration, a_definition, an_assignment, some_constants, an_init, an_invar, a_trans, NumberedItem, NumberedModule, items_of_section, items_of, numbered_from, modules_from, numbered_items}
use Rattle.smv_flat_laws.specs.Rules.{no_main, main_has_parameters, double_module, double_name, Site, the_program, a_header, an_item, module_sites, is_module_among, names_of_item, is_name_again, IsKept}
use Rattle.smv_flat_laws.proofs.Reaches.{each_left, each_right}
use Rattle.smv_flat_laws.proofs.Conditions.{each_join}
use Rattle.smv_flat_laws.proofs.Lists.{each_of_map, each_map, each_more, map_joined}
use Rattle.fault_instructions.specs.Instructions.{SliceTree, InstructionTree, slices_of, is_affected}
use Rattle.fault_instructions.specs.AddedNames.{own_name, mode_variable}
use Rattle.fault_weave.specs.WovenProgram.{woven_module, woven}
use Rattle.fault_instructions.specs.Weavable.{Among}
use Rattle.fault_weave.proofs.WovenKinds.{find_woven}
use Rattle.fault_instructions.proofs.AmongLaws.{each_at}
use Rattle.fault_weave.proofs.Added.{own_name_same, mode_variable_same}
use Rattle.fault_instructions.proofs.OwnNames.{own_not_mode}
use Rattle.fault_rules.specs.Sites.{item_sites}
use Rattle.fault_rules.specs.Rules.{is_name_of_section, is_name_of_decls, is_name_of_defines, is_name_of_module, is_program_name, broken_at}
use Rattle.fault_rules.specs.FirstBroken.{AllKept}
use Rattle.fault_rules.proofs.ProgramNames.{any_false}
use Rattle.fault_woven_laws.specs.WovenNamesLaws.{OnlyLimits}
use Rattle.fault_woven_laws.proofs.Orders.{EachAfter, after_numbered, numbered_after, after_more, after_two, after_each, each_after, pairs_after, after_pairs}
use Rattle.fault_woven_laws.proofs.WovenNamesItems.{woven_item, slice_items, taken_woven, slice_rules_nothing}
use Rattle.fault_woven_laws.proofs.Slices.{SlicesApart, slices_apart, own_new, mode_new}
use Rattle.std.proofs.lemmas.Bool.{false_from_ne_true as not_true, or_parts as neither}
use Rattle.smv_flat_laws.proofs.KindLaws.{among_split as among_parts}
use Rattle.smv_language.proofs.AmongLaws.{among_none}
use Rattle.smv_flat_laws.proofs.Pairs.{Pairwise, pairs_join}

-- the names of items
abbrev pub names_in : List Item → List Text
names_in items = flat_map names_of_item items

-- each name is new: no formal, and none of the names before it
abbrev IsNew : List Text → List Text → Text → Type 0
IsNew formals before x = is_among (formals ++ before) x ≡ false

abbrev IsFresh : List Text → List Item → Item → Type 0
IsFresh formals before item = is_name_again (formals ++ names_in before) (names_of_item item) ≡ false

nil : (xs : List Text) → xs ++ [] ≡ xs
nil [] = refl
nil (x ∷ xs) = ap (λ ys. x ∷ ys) (nil xs)

no_names : (before : List Item) (item : Item) → names_of_item item ≡ [] → names_in (before ++ item ∷ []) ≡ names_in before
no_names before item e = flat_map-append names_of_item before (item ∷ []) ∙ ap (λ ns. names_in before ++ (ns ++ [])) e ∙ nil (names_in before)

one_name : (before : List Item) (item : Item) (x : Text) → names_of_item item ≡ x ∷ [] → names_in (before ++ item ∷ []) ≡ names_in before ++ x ∷ []
one_name before item x e = flat_map-append names_of_item before (item ∷ []) ∙ ap (λ ns. names_in before ++ (ns ++ [])) e

module _ (formals : List Text) where
  abbrev NewAfter : List Item → List Text → Type 0
  NewAfter items before = EachAfter (IsNew formals) before (names_in items)

  fresh_new : (before items : List Item) → EachAfter (IsFresh formals) before items → NewAfter items (names_in before)
  fresh_new before [] h = tt
  fresh_new before (a_declaration role d ∷ items) h = (h.0, subst (NewAfter items) (one_name before (a_declaration role d) d.name refl) (fresh_new (before ++ a_declaration role d ∷ []) items h.1))
  fresh_new before (a_definition d ∷ items) h = (h.0, subst (NewAfter items) (one_name before (a_definition d) d.name refl) (fresh_new (before ++ a_definition d ∷ []) items h.1))
  fresh_new before (an_assignment a ∷ items) h = subst (NewAfter items) (no_names before (an_assignment a) refl) (fresh_new (before ++ an_assignment a ∷ []) items h.1)
  fresh_new before (some_constants xs ∷ items) h = subst (NewAfter items) (no_names before (some_constants xs) refl) (fresh_new (before ++ some_constants xs ∷ []) items h.1)
  fresh_new before (an_init e ∷ items) h = subst (NewAfter items) (no_names before (an_init e) refl) (fresh_new (before ++ an_init e ∷ []) items h.1)
  fresh_new before (an_invar e ∷ items) h = subst (NewAfter items) (no_names before (an_invar e) refl) (fresh_new (before ++ an_invar e ∷ []) items h.1)
  fresh_new before (a_trans e ∷ items) h = subst (NewAfter items) (no_names before (a_trans e) refl) (fresh_new (before ++ a_trans e ∷ []) items h.1)

  new_fresh : (before items : List Item) → NewAfter items (names_in before) → EachAfter (IsFresh formals) before items
  new_fresh before [] h = tt
  new_fresh before (a_declaration role d ∷ items) h = (h.0, new_fresh (before ++ a_declaration role d ∷ []) items (subst (NewAfter items) (sym (one_name before (a_declaration role d) d.name refl)) h.1))
  new_fresh before (a_definition d ∷ items) h = (h.0, new_fresh (before ++ a_definition d ∷ []) items (subst (NewAfter items) (sym (one_name before (a_definition d) d.name refl)) h.1))
  new_fresh before (an_assignment a ∷ items) h = (refl, new_fresh (before ++ an_assignment a ∷ []) items (subst (NewAfter items) (sym (no_names before (an_assignment a) refl)) h))
  new_fresh before (some_constants xs ∷ items) h = (refl, new_fresh (before ++ some_constants xs ∷ []) items (subst (NewAfter items) (sym (no_names before (some_constants xs) refl)) h))
  new_fresh before (an_init e ∷ items) h = (refl, new_fresh (before ++ an_init e ∷ []) items (subst (NewAfter items) (sym (no_names before (an_init e) refl)) h))
  new_fresh before (an_invar e ∷ items) h = (refl, new_fresh (before ++ an_invar e ∷ []) items (subst (NewAfter items) (sym (no_names before (an_invar e) refl)) h))
  new_fresh before (a_trans e ∷ items) h = (refl, new_fresh (before ++ a_trans e ∷ []) items (subst (NewAfter items) (sym (no_names before (a_trans e) refl)) h))

-- two names
abbrev Unlike : Text → Text → Type 0
Unlike x y = same_text x y ≡ false

unlike : (x y : Text) → (x ≡ y → ⊥) → Unlike x y
unlike x y h = not_true (same_text x y) (λ e. h (same_text_equal x y e))

each_unlike : (xs : List Text) (x : Text) → is_among xs x ≡ false → Each (λ y. Unlike y x) xs
each_unlike [] x h = tt
each_unlike (y ∷ xs) x h = let s : (same_text y x ≡ false) × (is_among xs x ≡ false) = neither _ _ h in (s.0, each_unlike xs x s.1)

unlike_each : (xs : List Text) (x : Text) → Each (λ y. Unlike y x) xs → is_among xs x ≡ false
unlike_each [] x h = refl
unlike_each (y ∷ xs) x h = rw h.0 (unlike_each xs x h.1)

-- names are new one by one where none is a formal and each two differ
new_pairs : (formals xs : List Text) → EachAfter (IsNew formals) [] xs → Each (λ x. is_among formals x ≡ false) xs × Pairwise Unlike xs
new_pairs formals xs h = (
  after_each (λ x. is_among formals x ≡ false) [] xs (after_more (IsNew formals) (λ b x. is_among formals x ≡ false) [] xs (λ b x k. (among_parts formals b x k).0) h),
  (pairs_after Unlike [] xs (after_more (IsNew formals) (λ b x. Each (λ y. Unlike y x) b) [] xs (λ b x k. each_unlike b x (among_parts formals b x k).1) h)).1,
)

pairs_new : (formals xs : List Text) → Each (λ x. is_among formals x ≡ false) xs → Pairwise Unlike xs → EachAfter (IsNew formals) [] xs
pairs_new formals xs h k =
    after_two (λ b x. is_among formals x ≡ false) (λ b x. Each (λ y. Unlike y x) b) (IsNew formals) [] xs (λ b x l r. among_none formals b x l (unlike_each b x r))
    (each_after (λ x. is_among formals x ≡ false) [] xs h) (after_pairs Unlike [] xs tt k)

-- the names of a woven module: those of the module, and two of each slice
abbrev slice_names : SliceTree → List Text
slice_names s = own_name s.target ∷ mode_variable s.name ∷ []

names_same : (affected : Text → Bool) (items : List Item) → names_in (map (woven_item affected) items) ≡ names_in items
names_same affected [] = refl
names_same affected (a_declaration role d ∷ items) = ap (λ ns. d.name ∷ ns) (names_same affected items)
names_same affected (a_definition d ∷ items) = ap (λ ns. d.name ∷ ns) (names_same affected items)
names_same affected (an_assignment a ∷ items) = names_same affected items
names_same affected (some_constants xs ∷ items) = names_same affected items
names_same affected (an_init e ∷ items) = names_same affected items
names_same affected (an_invar e ∷ items) = names_same affected items
names_same affected (a_trans e ∷ items) = names_same affected items

slices_names : (m : ModuleTree) (ss : List SliceTree) → names_in (flat_map (slice_items m) ss) ≡ flat_map slice_names ss
slices_names m [] = refl
slices_names m (s ∷ ss) =
    flat_map-append names_of_item (slice_items m s) (flat_map (slice_items m) ss)
    ∙ (λ j. (own_name s.target ∷ mode_variable s.name ∷ slice_rules_nothing names_of_item s (λ e. refl) (λ e. refl) (λ e. refl) j) ++ slices_names m ss j)

woven_names : (i : InstructionTree) (m : ModuleTree) → names_in (items_of (woven_module i m)) ≡ names_in (items_of m) ++ flat_map slice_names (slices_of i m.name)
woven_names i m = taken_woven names_of_item i m ∙ (λ j. names_same (is_affected i m.name) (items_of m) j ++ slices_names m (slices_of i m.name) j)

-- what holds of both names of each slice
each_slice_name : (P : Text → Type 0) (ss : List SliceTree) → ((s : SliceTree) → Among ss s → P (own_name s.target) × P (mode_variable s.name)) → Each P (flat_map slice_names ss)
each_slice_name P [] h = tt
each_slice_name P (s ∷ ss) h = let here = h s (inl refl) in (here.0, (here.1, each_slice_name P ss (λ t a. h t (inr a))))

slices_unlike : (ss : List SliceTree) → Pairwise SlicesApart ss → Pairwise Unlike (flat_map slice_names ss)
slices_unlike [] h = tt
slices_unlike (s ∷ ss) h = (
  (
    unlike (own_name s.target) (mode_variable s.name) (own_not_mode s.target s.name),
    each_slice_name (Unlike (own_name s.target)) ss
        (λ t a. (
          unlike (own_name s.target) (own_name t.target) (λ e. (each_at (SlicesApart s) ss t h.0 a).1 (own_name_same s.target t.target e)),
          unlike (own_name s.target) (mode_variable t.name) (own_not_mode s.target t.name),
        )),
  ),
  (
    each_slice_name (Unlike (mode_variable s.name)) ss
        (λ t a. (
          unlike (mode_variable s.name) (own_name t.target) (λ e. own_not_mode t.target s.name (sym e)),
          unlike (mode_variable s.name) (mode_variable t.name) (λ e. (each_at (SlicesApart s) ss t h.0 a).0 (mode_variable_same s.name t.name e)),
        )),
    slices_unlike ss h.1,
  ),
)

-- a name that is none of the program's is unlike each name of its modules
module _ (x : Text) where
  decls_unlike : (role : Role) (ds : List DeclTree) → is_name_of_decls ds x ≡ false → Each (λ y. Unlike y x) (names_in (map (a_declaration role) ds))
  decls_unlike role [] h = tt
  decls_unlike role (d ∷ ds) h =
      let s = neither (same_text d.name x || is_symbol_of_type d.what x) (is_name_of_decls ds x) h in
      ((neither (same_text d.name x) (is_symbol_of_type d.what x) s.0).0, decls_unlike role ds s.1)

  defines_unlike : (ds : List DefineTree) → is_name_of_defines ds x ≡ false → Each (λ y. Unlike y x) (names_in (map a_definition ds))
  defines_unlike [] h = tt
  defines_unlike (d ∷ ds) h = let s = neither (same_text d.name x) (is_name_of_defines ds x) h in (s.0, defines_unlike ds s.1)

  assigns_unlike : (xs : List AssignmentTree) → Each (λ y. Unlike y x) (names_in (map an_assignment xs))
  assigns_unlike [] = tt
  assigns_unlike (a ∷ xs) = assigns_unlike xs

  section_unlike : (s : SectionTree) → is_name_of_section x s ≡ false → Each (λ y. Unlike y x) (names_in (items_of_section s))
  section_unlike (var ds) h = decls_unlike _ ds h
  section_unlike (ivar ds) h = decls_unlike _ ds h
  section_unlike (frozen ds) h = decls_unlike _ ds h
  section_unlike (define ds) h = defines_unlike ds h
  section_unlike (constants xs) h = tt
  section_unlike (assign xs) h = assigns_unlike xs
  section_unlike (init e) h = tt
  section_unlike (invar e) h = tt
  section_unlike (trans e) h = tt

  sections_unlike : (ss : List SectionTree) → list_any (is_name_of_section x) ss ≡ false → Each (λ y. Unlike y x) (names_in (flat_map items_of_section ss))
  sections_unlike [] h = tt
  sections_unlike (s ∷ ss) h =
      let parts = neither (is_name_of_section x s) (list_any (is_name_of_section x) ss) h in
      subst (Each (λ y. Unlike y x)) (sym (flat_map-append names_of_item (items_of_section s) (flat_map items_of_section ss)))
      (each_join (λ y. Unlike y x) (names_in (items_of_section s)) (names_in (flat_map items_of_section ss)) (section_unlike s parts.0) (sections_unlike ss parts.1))

  module_unlike : (p : ProgramTree) (m : ModuleTree) → Among p m → is_program_name p x ≡ false → (is_among m.formals x ≡ false) × Each (λ y. Unlike y x) (names_in (items_of m))
  module_unlike p m a h =
      let here : is_name_of_module x m ≡ false = any_false (is_name_of_module x) p m h a in
      let inside = neither (same_text m.name x) (is_among m.formals x || list_any (is_name_of_section x) m.sections) here in
      let parts = neither (is_among m.formals x) (list_any (is_name_of_section x) m.sections) inside.1 in (parts.0, sections_unlike m.sections parts.1)

across_turned : {A B : Type 0} (R : A → B → Type 0) (xs : List A) (ys : List B) → Each (λ y. Each (λ x. R x y) xs) ys → Each (λ x. Each (R x) ys) xs
across_turned R [] ys h = tt
across_turned R (x ∷ xs) ys h = (each_more _ (R x) ys (λ y k. k.0) h, across_turned R xs ys (each_more _ (λ y. Each (λ x. R x y) xs) ys (λ y k. k.1) h))

module _ (p : ProgramTree) (i : InstructionTree) (kept : AllKept (broken_at p) (item_sites i)) where
  -- the names of a woven module are new one by one where those of the module are
  module_fresh : (m : ModuleTree) → Among p m → EachAfter (IsFresh m.formals) [] (items_of m) → EachAfter (IsFresh m.formals) [] (items_of (woven_module i m))
  module_fresh m a h =
      let old = new_pairs m.formals (names_in (items_of m)) (fresh_new m.formals [] (items_of m) h) in
      let new : Each (λ x. (is_among m.formals x ≡ false) × Each (λ y. Unlike y x) (names_in (items_of m))) (flat_map slice_names (slices_of i m.name)) =
      each_slice_name (λ x. (is_among m.formals x ≡ false) × Each (λ y. Unlike y x) (names_in (items_of m))) (slices_of i m.name)
      (λ s b. (module_unlike (own_name s.target) p m a (own_new p i kept m.name s b), module_unlike (mode_variable s.name) p m a (mode_new p i kept m.name s b))) in
      new_fresh m.formals [] (items_of (woven_module i m)) (subst (EachAfter (IsNew m.formals) []) (sym (woven_names i m))
      (pairs_new m.formals (names_in (items_of m) ++ flat_map slice_names (slices_of i m.name))
      (each_join (λ x. is_among m.formals x ≡ false) (names_in (items_of m)) (flat_map slice_names (slices_of i m.name)) old.0 (each_more _ (λ x. is_among m.formals x ≡ false) (flat_map slice_names (slices_of i m.name)) (λ x k. k.0) new))
      (pairs_join Unlike (names_in (items_of m)) (flat_map slice_names (slices_of i m.name)) old.1 (slices_unlike (slices_of i m.name) (slices_apart p i kept m.name))
      (across_turned Unlike (names_in (items_of m)) (flat_map slice_names (slices_of i m.name)) (each_more _ (λ x. Each (λ y. Unlike y x) (names_in (items_of m))) (flat_map slice_names (slices_of i m.name)) (λ x k. k.1) new)))))

  -- modules one by one
  among_woven : (ms : List ModuleTree) (x : Text) → is_module_among (map (woven_module i) ms) x ≡ is_module_among ms x
  among_woven [] x = refl
  among_woven (m ∷ ms) x = ap (λ b. same_text m.name x || b) (among_woven ms x)

  abbrev ModuleSites : NumberedModule → List Site
  ModuleSites m = a_header m ∷ map (an_item m) (numbered_items m)

  header_kept : (n n' : ℕ) (before : List ModuleTree) (m : ModuleTree) → IsKept p (a_header (record { number = n; before = before; tree = m })) →
      OnlyLimits (woven p i) (a_header (record { number = n'; before = map (woven_module i) before; tree = woven_module i m }))
  header_kept n n' before m h main_has_parameters b = absurd (h main_has_parameters b)
  header_kept n n' before m h double_module b = absurd (h double_module (sym (among_woven before m.name) ∙ b))
  header_kept n n' before m h double_name b = absurd (h double_name b)
  header_kept n n' before m h other b = absurd b

  item_kept : (m : NumberedModule) (j : NumberedItem) → IsFresh m.tree.formals j.before j.item → OnlyLimits (woven p i) (an_item m j)
  item_kept m j h double_name b = let bad : true ≡ false = sym b ∙ h in cc
  item_kept m j h other b = absurd b

  module_kept : (n n' : ℕ) (before : List ModuleTree) (m : ModuleTree) → Among p m → Each (IsKept p) (ModuleSites (record { number = n; before = before; tree = m })) →
      Each (OnlyLimits (woven p i)) (ModuleSites (record { number = n'; before = map (woven_module i) before; tree = woven_module i m }))
  module_kept n n' before m a h =
      let of : NumberedModule = record { number = n; before = before; tree = m } in
      let of' : NumberedModule = record { number = n'; before = map (woven_module i) before; tree = woven_module i m } in
      let fresh : EachAfter (IsFresh m.formals) [] (items_of m) = after_numbered (IsFresh m.formals) (suc n) [] (items_of m)
      (each_more (λ j. IsKept p (an_item of j)) (λ (j : NumberedItem). IsFresh m.formals j.before j.item) (numbered_from (suc n) [] (items_of m)) (λ j k. not_true _ (k double_name))
      (each_of_map (IsKept p) (an_item of) (numbered_from (suc n) [] (items_of m)) h.1)) in (
        header_kept n n' before m h.0,
        each_map (OnlyLimits (woven p i)) (an_item of') (numbered_from (suc n') [] (items_of (woven_module i m)))
            (each_more (λ (j : NumberedItem). IsFresh m.formals j.before j.item) (λ j. OnlyLimits (woven p i) (an_item of' j)) (numbered_from (suc n') [] (items_of (woven_module i m))) (λ j k. item_kept of' j k)
            (numbered_after (IsFresh m.formals) (suc n') [] (items_of (woven_module i m)) (module_fresh m a fresh))),
      )

  modules_kept : (q : ProgramTree) (n n' : ℕ) (before : List ModuleTree) → ((m : ModuleTree) → Among q m → Among p m) → Each (IsKept p) (flat_map ModuleSites (modules_from n before q)) →
      Each (OnlyLimits (woven p i)) (flat_map ModuleSites (modules_from n' (map (woven_module i) before) (map (woven_module i) q)))
  modules_kept [] n n' before a h = tt
  modules_kept (m ∷ q) n n' before a h =
      let of : NumberedModule = record { number = n; before = before; tree = m } in
      let of' : NumberedModule = record { number = n'; before = map (woven_module i) before; tree = woven_module i m } in
      let rest : List NumberedModule = modules_from (n + suc (length (items_of m))) (before ++ m ∷ []) q in
      let next : ℕ = n' + suc (length (items_of (woven_module i m))) in
      each_join (OnlyLimits (woven p i)) (ModuleSites of') (flat_map ModuleSites (modules_from next (map (woven_module i) before ++ woven_module i m ∷ []) (map (woven_module i) q)))
      (module_kept n n' before m (a m (inl refl)) (each_left (IsKept p) (ModuleSites of) (flat_map ModuleSites rest) h))
      (subst (λ b. Each (OnlyLimits (woven p i)) (flat_map ModuleSites (modules_from next b (map (woven_module i) q)))) (map_joined (woven_module i) before (m ∷ []))
      (modules_kept q (n + suc (length (items_of m))) next (before ++ m ∷ []) (λ k b. a k (inr b)) (each_right (IsKept p) (ModuleSites of) (flat_map ModuleSites rest) h)))

  -- the rules of modules and of declared names
  pub headers_kept : Each (IsKept p) (module_sites p) → Each (OnlyLimits (woven p i)) (module_sites (woven p i))
  headers_kept h = modules_kept p 1 1 [] (λ m a. a) h

  -- and that of `main`
  pub main_kept : IsKept p the_program → OnlyLimits (woven p i) the_program
  main_kept h no_main b = absurd (h no_main (sym (ap is_missing (find_woven p i (codes "main")) ∙ go (find_module p (codes "main"))) ∙ b))
    where
      go : (o : Option ModuleTree) → is_missing (option_map (woven_module i) o) ≡ is_missing o
      go None = refl
      go (Some m) = refl
  main_kept h other b = absurd b
