-- No variable of a woven module is assigned twice at one time.
use Rattle.std.proofs.Common.{◌≡◌, inl, inr, Bool, true, false, List, [], ◌∷◌, ◌++◌, map, flat_map, refl, sym, ◌∙◌, ap, subst}
use Rattle.std.specs.Prelude.{IsTrue, if◌then◌else◌}
use Rattle.std.proofs.lemmas.Grind.{flat_map-append}
use Rattle.smv_language.specs.declared.program.Moment.{Moment}
use Rattle.smv_language.specs.declared.program.Moment.TheVariants.{Always, First, After}
use Rattle.smv_language.specs.Language.{Text, Path, AssignmentTree, ModuleTree, ProgramTree, Place, state, a_variable, undeclared, kind_in, kind_at, Each, AtSome, IsInstance}
use Rattle.smv_flat_laws.specs.Items.{Item, a_declaration, a_definition, an_assignment, some_constants, an_init, an_invar, a_trans, items_of}
use Rattle.smv_flat_laws.specs.Rules.{may_be_assigned, is_target, at_one_time, Assigns, BreaksOnce}
use Rattle.smv_flat_laws.proofs.Lists.{each_more, each_map}
use Rattle.fault_instructions.specs.Instructions.{SliceTree, InstructionTree, slices_of, is_affected}
use Rattle.fault_instructions.specs.AddedNames.{own_name, mode_variable}
use Rattle.fault_weave.specs.WovenProgram.{rename, woven_module}
use Rattle.fault_instructions.specs.Weavable.{Among, IsLawfulSlice, IsWeavable}
use Rattle.fault_instructions.proofs.AmongLaws.{each_at}
use Rattle.fault_weave.proofs.Added.{own_name_same, mode_variable_same, affected_slice, target_affected}
use Rattle.fault_instructions.proofs.OwnNames.{own_not_mode}
use Rattle.fault_woven_laws.proofs.Orders.{EachAfter, pairs_map, pairs_after, after_pairs}
use Rattle.fault_woven_laws.proofs.WovenNamesItems.{woven_item, slice_items, taken_woven, slice_rules_nothing}
use Rattle.fault_woven_laws.proofs.Slices.{SlicesApart}
use Rattle.fault_woven_laws.proofs.OldItems.{ItemKept}
use Rattle.smv_flat_laws.proofs.KindLaws.{not_assigned_none}
use Rattle.smv_flat_laws.proofs.Pairs.{Pairwise, Across, pairs_join}

-- what an item assigns, and when
abbrev Target : Type 0
Target = Moment × Path

abbrev targets_of : Item → List Target
targets_of (an_assignment a) = (a.when, a.target) ∷ []
targets_of (a_declaration role d) = []
targets_of (a_definition d) = []
targets_of (some_constants xs) = []
targets_of (an_init e) = []
targets_of (an_invar e) = []
targets_of (a_trans e) = []

abbrev targets_in : List Item → List Target
targets_in items = flat_map targets_of items

-- not the same variable at one time
abbrev AreFree : Target → Target → Type 0
AreFree u t = u.1 ≡ t.1 → IsTrue (at_one_time u.0 t.0) → ⊥

abbrev pub IsOnce : List Item → Item → Type 0
IsOnce before item = BreaksOnce before item → ⊥

free_before : (a : AssignmentTree) (before : List Item) → (AtSome (Assigns a) before → ⊥) → Each (λ u. AreFree u (a.when, a.target)) (targets_in before)
free_before a [] h = tt
free_before a (an_assignment b ∷ before) h = ((λ e t. h (inl (e, t))), free_before a before (λ s. h (inr s)))
free_before a (a_declaration role d ∷ before) h = free_before a before (λ s. h (inr s))
free_before a (a_definition d ∷ before) h = free_before a before (λ s. h (inr s))
free_before a (some_constants xs ∷ before) h = free_before a before (λ s. h (inr s))
free_before a (an_init e ∷ before) h = free_before a before (λ s. h (inr s))
free_before a (an_invar e ∷ before) h = free_before a before (λ s. h (inr s))
free_before a (a_trans e ∷ before) h = free_before a before (λ s. h (inr s))

before_free : (a : AssignmentTree) (before : List Item) → Each (λ u. AreFree u (a.when, a.target)) (targets_in before) → AtSome (Assigns a) before → ⊥
before_free a [] h s = s
before_free a (an_assignment b ∷ before) h (inl k) = h.0 k.0 k.1
before_free a (an_assignment b ∷ before) h (inr s) = before_free a before h.1 s
before_free a (a_declaration role d ∷ before) h (inl k) = k
before_free a (a_declaration role d ∷ before) h (inr s) = before_free a before h s
before_free a (a_definition d ∷ before) h (inl k) = k
before_free a (a_definition d ∷ before) h (inr s) = before_free a before h s
before_free a (some_constants xs ∷ before) h (inl k) = k
before_free a (some_constants xs ∷ before) h (inr s) = before_free a before h s
before_free a (an_init e ∷ before) h (inl k) = k
before_free a (an_init e ∷ before) h (inr s) = before_free a before h s
before_free a (an_invar e ∷ before) h (inl k) = k
before_free a (an_invar e ∷ before) h (inr s) = before_free a before h s
before_free a (a_trans e ∷ before) h (inl k) = k
before_free a (a_trans e ∷ before) h (inr s) = before_free a before h s

nil : (xs : List Target) → xs ++ [] ≡ xs
nil [] = refl
nil (x ∷ xs) = ap (λ ys. x ∷ ys) (nil xs)

no_target : (before : List Item) (item : Item) → targets_of item ≡ [] → targets_in (before ++ item ∷ []) ≡ targets_in before
no_target before item e = flat_map-append targets_of before (item ∷ []) ∙ ap (λ ts. targets_in before ++ (ts ++ [])) e ∙ nil (targets_in before)

one_target : (before : List Item) (a : AssignmentTree) → targets_in (before ++ an_assignment a ∷ []) ≡ targets_in before ++ (a.when, a.target) ∷ []
one_target before a = flat_map-append targets_of before (an_assignment a ∷ [])

abbrev FreeAfter : List Item → List Target → Type 0
FreeAfter items before = EachAfter (λ b t. Each (λ u. AreFree u t) b) before (targets_in items)

once_free : (before items : List Item) → EachAfter IsOnce before items → FreeAfter items (targets_in before)
once_free before [] h = tt
once_free before (an_assignment a ∷ items) h = (free_before a before h.0, subst (FreeAfter items) (one_target before a) (once_free (before ++ an_assignment a ∷ []) items h.1))
once_free before (a_declaration role d ∷ items) h = subst (FreeAfter items) (no_target before (a_declaration role d) refl) (once_free (before ++ a_declaration role d ∷ []) items h.1)
once_free before (a_definition d ∷ items) h = subst (FreeAfter items) (no_target before (a_definition d) refl) (once_free (before ++ a_definition d ∷ []) items h.1)
once_free before (some_constants xs ∷ items) h = subst (FreeAfter items) (no_target before (some_constants xs) refl) (once_free (before ++ some_constants xs ∷ []) items h.1)
once_free before (an_init e ∷ items) h = subst (FreeAfter items) (no_target before (an_init e) refl) (once_free (before ++ an_init e ∷ []) items h.1)
once_free before (an_invar e ∷ items) h = subst (FreeAfter items) (no_target before (an_invar e) refl) (once_free (before ++ an_invar e ∷ []) items h.1)
once_free before (a_trans e ∷ items) h = subst (FreeAfter items) (no_target before (a_trans e) refl) (once_free (before ++ a_trans e ∷ []) items h.1)

free_once : (before items : List Item) → FreeAfter items (targets_in before) → EachAfter IsOnce before items
free_once before [] h = tt
free_once before (an_assignment a ∷ items) h = (before_free a before h.0, free_once (before ++ an_assignment a ∷ []) items (subst (FreeAfter items) (sym (one_target before a)) h.1))
free_once before (a_declaration role d ∷ items) h = ((λ b. b), free_once (before ++ a_declaration role d ∷ []) items (subst (FreeAfter items) (sym (no_target before (a_declaration role d) refl)) h))
free_once before (a_definition d ∷ items) h = ((λ b. b), free_once (before ++ a_definition d ∷ []) items (subst (FreeAfter items) (sym (no_target before (a_definition d) refl)) h))
free_once before (some_constants xs ∷ items) h = ((λ b. b), free_once (before ++ some_constants xs ∷ []) items (subst (FreeAfter items) (sym (no_target before (some_constants xs) refl)) h))
free_once before (an_init e ∷ items) h = ((λ b. b), free_once (before ++ an_init e ∷ []) items (subst (FreeAfter items) (sym (no_target before (an_init e) refl)) h))
free_once before (an_invar e ∷ items) h = ((λ b. b), free_once (before ++ an_invar e ∷ []) items (subst (FreeAfter items) (sym (no_target before (an_invar e) refl)) h))
free_once before (a_trans e ∷ items) h = ((λ b. b), free_once (before ++ a_trans e ∷ []) items (subst (FreeAfter items) (sym (no_target before (a_trans e) refl)) h))

-- the targets of a woven module: those of the module, renamed, and three of each slice
abbrev retarget : (Text → Bool) → Target → Target
retarget affected u = (u.0, rename affected u.1)

abbrev slice_targets : SliceTree → List Target
slice_targets s = (First, mode_variable s.name ∷ []) ∷ (After, mode_variable s.name ∷ []) ∷ (Always, s.target ∷ []) ∷ []

targets_renamed : (affected : Text → Bool) (items : List Item) → targets_in (map (woven_item affected) items) ≡ map (retarget affected) (targets_in items)
targets_renamed affected [] = refl
targets_renamed affected (an_assignment a ∷ items) = ap (λ ts. (a.when, rename affected a.target) ∷ ts) (targets_renamed affected items)
targets_renamed affected (a_declaration role d ∷ items) = targets_renamed affected items
targets_renamed affected (a_definition d ∷ items) = targets_renamed affected items
targets_renamed affected (some_constants xs ∷ items) = targets_renamed affected items
targets_renamed affected (an_init e ∷ items) = targets_renamed affected items
targets_renamed affected (an_invar e ∷ items) = targets_renamed affected items
targets_renamed affected (a_trans e ∷ items) = targets_renamed affected items

slices_targets : (m : ModuleTree) (ss : List SliceTree) → targets_in (flat_map (slice_items m) ss) ≡ flat_map slice_targets ss
slices_targets m [] = refl
slices_targets m (s ∷ ss) =
    flat_map-append targets_of (slice_items m s) (flat_map (slice_items m) ss)
    ∙ (λ j. ((First, mode_variable s.name ∷ []) ∷ (After, mode_variable s.name ∷ []) ∷ (Always, s.target ∷ []) ∷ slice_rules_nothing targets_of s (λ e. refl) (λ e. refl) (λ e. refl) j) ++ slices_targets m ss j)

woven_targets : (i : InstructionTree) (m : ModuleTree) →
    targets_in (items_of (woven_module i m)) ≡ map (retarget (is_affected i m.name)) (targets_in (items_of m)) ++ flat_map slice_targets (slices_of i m.name)
woven_targets i m = taken_woven targets_of i m ∙ (λ j. targets_renamed (is_affected i m.name) (items_of m) j ++ slices_targets m (slices_of i m.name) j)

each_slice_target : (P : Target → Type 0) (ss : List SliceTree) →
    ((s : SliceTree) → Among ss s → P (First, mode_variable s.name ∷ []) × P (After, mode_variable s.name ∷ []) × P (Always, s.target ∷ [])) → Each P (flat_map slice_targets ss)
each_slice_target P [] h = tt
each_slice_target P (s ∷ ss) h = let here = h s (inl refl) in (here.0, (here.1, (here.2, each_slice_target P ss (λ t a. h t (inr a)))))

same_head : (x y : Text) → ◌≡◌ {A = Path} (x ∷ []) (y ∷ []) → x ≡ y
same_head x y e = cc

module _ (p : ProgramTree) (i : InstructionTree) (ok : IsWeavable p i) (at : Place) (m : ModuleTree) (here : IsInstance p at m) where
  -- a single name that the module declares
  abbrev IsDeclared : Path → Type 0
  IsDeclared [] = ⊥
  IsDeclared (x ∷ []) = kind_in m x ≡ undeclared → ⊥
  IsDeclared (x ∷ y ∷ path) = ⊥

  target_declared : (when : Moment) (target : Path) → (is_target p at when target ≡ false → ⊥) → IsDeclared target
  target_declared when [] h = h refl
  target_declared when (x ∷ []) h = λ e. h (ap (λ o. may_be_assigned when (kind_at o x)) here ∙ ap (may_be_assigned when) e ∙ not_assigned_none when)
  target_declared when (x ∷ y ∷ path) h = h refl

  targets_declared : (items : List Item) → Each (ItemKept p at) items → Each (λ (u : Target). IsDeclared u.1) (targets_in items)
  targets_declared [] h = tt
  targets_declared (an_assignment a ∷ items) h = (target_declared a.when a.target h.0.target, targets_declared items h.1)
  targets_declared (a_declaration role d ∷ items) h = targets_declared items h.1
  targets_declared (a_definition d ∷ items) h = targets_declared items h.1
  targets_declared (some_constants xs ∷ items) h = targets_declared items h.1
  targets_declared (an_init e ∷ items) h = targets_declared items h.1
  targets_declared (an_invar e ∷ items) h = targets_declared items h.1
  targets_declared (a_trans e ∷ items) h = targets_declared items h.1

  -- what is added is not declared, and the variable of a slice is
  own_undeclared : (x : Text) → is_affected i m.name x ≡ true → kind_in m (own_name x) ≡ undeclared
  own_undeclared x h =
      let s : (s : SliceTree) × Among (slices_of i m.name) s × (s.target ≡ x) = affected_slice (slices_of i m.name) x h in
      subst (λ y. kind_in m (own_name y) ≡ undeclared) s.2 (ok.slices at m s.0 here s.1).own_new

  mode_undeclared : (s : SliceTree) → Among (slices_of i m.name) s → kind_in m (mode_variable s.name) ≡ undeclared
  mode_undeclared s a = (ok.slices at m s here a).mode_new

  variable_declared : (s : SliceTree) → Among (slices_of i m.name) s → kind_in m s.target ≡ undeclared → ⊥
  variable_declared s a e = let lawful : IsLawfulSlice p at m s = ok.slices at m s here a in let bad : undeclared ≡ a_variable state lawful.type = sym e ∙ lawful.target_kind in cc

  -- a name that is declared is none that is not
  other_name : (x y : Text) → (kind_in m x ≡ undeclared → ⊥) → kind_in m y ≡ undeclared → x ≡ y → ⊥
  other_name x y h k e = h (subst (λ z. kind_in m z ≡ undeclared) (sym e) k)

  -- a renamed target
  renamed_same : (x y : Path) → IsDeclared x → IsDeclared y → rename (is_affected i m.name) x ≡ rename (is_affected i m.name) y → x ≡ y
  renamed_same [] y h k e = absurd h
  renamed_same (x ∷ z ∷ path) y h k e = absurd h
  renamed_same (x ∷ []) [] h k e = absurd k
  renamed_same (x ∷ []) (y ∷ z ∷ path) h k e = absurd k
  renamed_same (x ∷ []) (y ∷ []) h k e = ap (λ z. z ∷ []) (by_tests (is_affected i m.name x) refl (is_affected i m.name y) refl e)
    where
      by_tests : (a : Bool) → is_affected i m.name x ≡ a → (b : Bool) → is_affected i m.name y ≡ b → (if a then own_name x ∷ [] else x ∷ []) ≡ (if b then own_name y ∷ [] else y ∷ []) → x ≡ y
      by_tests true s true t q = own_name_same x y (same_head (own_name x) (own_name y) q)
      by_tests true s false t q = absurd (other_name y (own_name x) k (own_undeclared x s) (sym (same_head (own_name x) y q)))
      by_tests false s true t q = absurd (other_name x (own_name y) h (own_undeclared y t) (same_head x (own_name y) q))
      by_tests false s false t q = same_head x y q

  renamed_not_mode : (x : Path) (s : SliceTree) → Among (slices_of i m.name) s → IsDeclared x → rename (is_affected i m.name) x ≡ mode_variable s.name ∷ [] → ⊥
  renamed_not_mode [] s a h e = h
  renamed_not_mode (x ∷ y ∷ path) s a h e = h
  renamed_not_mode (x ∷ []) s a h e = by_test (is_affected i m.name x) e
    where
      by_test : (b : Bool) → (if b then own_name x ∷ [] else x ∷ []) ≡ mode_variable s.name ∷ [] → ⊥
      by_test true q = own_not_mode x s.name (same_head (own_name x) (mode_variable s.name) q)
      by_test false q = other_name x (mode_variable s.name) h (mode_undeclared s a) (same_head x (mode_variable s.name) q)

  renamed_not_variable : (x : Path) (s : SliceTree) → Among (slices_of i m.name) s → IsDeclared x → rename (is_affected i m.name) x ≡ s.target ∷ [] → ⊥
  renamed_not_variable [] s a h e = h
  renamed_not_variable (x ∷ y ∷ path) s a h e = h
  renamed_not_variable (x ∷ []) s a h e = by_test (is_affected i m.name x) refl e
    where
      by_test : (b : Bool) → is_affected i m.name x ≡ b → (if b then own_name x ∷ [] else x ∷ []) ≡ s.target ∷ [] → ⊥
      by_test true t q = other_name s.target (own_name x) (variable_declared s a) (own_undeclared x t) (sym (same_head (own_name x) s.target q))
      by_test false t q =
          let hit : is_affected i m.name x ≡ true = subst (λ y. is_affected i m.name y ≡ true) (sym (same_head x s.target q)) (target_affected (slices_of i m.name) s a) in
          let bad : true ≡ false = sym hit ∙ t in cc

  -- targets of slices
  mode_not_variable : (s t : SliceTree) → Among (slices_of i m.name) s → Among (slices_of i m.name) t → ◌≡◌ {A = Path} (mode_variable s.name ∷ []) (t.target ∷ []) → ⊥
  mode_not_variable s t a b e = other_name t.target (mode_variable s.name) (variable_declared t b) (mode_undeclared s a) (sym (same_head (mode_variable s.name) t.target e))

  slices_free : (ss : List SliceTree) → ((s : SliceTree) → Among ss s → Among (slices_of i m.name) s) → Pairwise SlicesApart ss → Pairwise AreFree (flat_map slice_targets ss)
  slices_free [] all h = tt
  slices_free (s ∷ ss) all h =
      let a : Among (slices_of i m.name) s = all s (inl refl) in
      let apart : (t : SliceTree) → Among ss t → SlicesApart s t = λ t b. each_at (SlicesApart s) ss t h.0 b in
      let other_mode : (t : SliceTree) → Among ss t → ◌≡◌ {A = Path} (mode_variable s.name ∷ []) (mode_variable t.name ∷ []) → ⊥ =
      λ t b e. (apart t b).0 (mode_variable_same s.name t.name (same_head (mode_variable s.name) (mode_variable t.name) e)) in
      let moments : (when : Moment) → Each (AreFree (when, mode_variable s.name ∷ [])) (flat_map slice_targets ss) = λ when. each_slice_target (AreFree (when, mode_variable s.name ∷ [])) ss
      (λ t b. ((λ e k. other_mode t b e), (λ e k. other_mode t b e), (λ e k. mode_not_variable s t a (all t (inr b)) e))) in (
        ((λ e k. cc), ((λ e k. mode_not_variable s s a a e), moments First)),
        (
          ((λ e k. mode_not_variable s s a a e), moments After),
          (
            each_slice_target (AreFree (Always, s.target ∷ [])) ss
                (λ t b. (
                  (λ e k. mode_not_variable t s (all t (inr b)) a (sym e)),
                  (λ e k. mode_not_variable t s (all t (inr b)) a (sym e)),
                  (λ e k. (apart t b).1 (same_head s.target t.target e)),
                )),
            slices_free ss (λ t b. all t (inr b)) h.1,
          ),
        ),
      )

  -- the law: in the woven module nothing is assigned twice at one time
  pub once_kept : Pairwise SlicesApart (slices_of i m.name) → Each (ItemKept p at) (items_of m) → EachAfter IsOnce [] (items_of m) → EachAfter IsOnce [] (items_of (woven_module i m))
  once_kept apart kept h =
      let declared : Each (λ (u : Target). IsDeclared u.1) (targets_in (items_of m)) = targets_declared (items_of m) kept in
      let old : Pairwise AreFree (map (retarget (is_affected i m.name)) (targets_in (items_of m))) = pairs_map (λ (u : Target). IsDeclared u.1) AreFree AreFree (retarget (is_affected i m.name)) (targets_in (items_of m))
      (λ u t g k free e b. free (renamed_same u.1 t.1 g k e) b) declared (pairs_after AreFree [] (targets_in (items_of m)) (once_free [] (items_of m) h)).1 in
      let across : Across AreFree (map (retarget (is_affected i m.name)) (targets_in (items_of m))) (flat_map slice_targets (slices_of i m.name)) =
      each_map (λ u. Each (AreFree u) (flat_map slice_targets (slices_of i m.name))) (retarget (is_affected i m.name)) (targets_in (items_of m))
      (each_more (λ (u : Target). IsDeclared u.1) (λ u. Each (AreFree (retarget (is_affected i m.name) u)) (flat_map slice_targets (slices_of i m.name))) (targets_in (items_of m))
      (λ u g. each_slice_target (AreFree (retarget (is_affected i m.name) u)) (slices_of i m.name)
      (λ s a. ((λ e k. renamed_not_mode u.1 s a g e), (λ e k. renamed_not_mode u.1 s a g e), (λ e k. renamed_not_variable u.1 s a g e)))) declared) in
      free_once [] (items_of (woven_module i m))
      (subst (λ ts. EachAfter (λ b t. Each (λ u. AreFree u t) b) [] ts) (sym (woven_targets i m))
      (after_pairs AreFree [] (map (retarget (is_affected i m.name)) (targets_in (items_of m)) ++ flat_map slice_targets (slices_of i m.name)) tt
      (pairs_join AreFree (map (retarget (is_affected i m.name)) (targets_in (items_of m))) (flat_map slice_targets (slices_of i m.name)) old (slices_free (slices_of i m.name) (λ s a. a) apart) across)))
