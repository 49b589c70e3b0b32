-- Each name of an accepted program has a leaf, which is what the name means, and which stands before.
use Rattle.std.proofs.Common.{◌≡◌, ℕ, suc, ◌<◌, Bool, true, false, List, [], ◌∷◌, ◌++◌, length, Some, None, refl, sym, ◌∙◌, ap, subst, arith, inl, inr}
use Rattle.std.specs.Prelude.{◌⊎◌, slice_get, map}
use Rattle.std.proofs.lemmas.Bool.{lt-ltb}
use Rattle.smv_language.specs.Language.{Tree, Trees, Branches, leaf, not_of, negate, next_of, binary, choice, case_of, set_of, span, no_tree, tree_then, no_branch, branch_then, Path, Formula, ProgramTree, tree_of, Place, Key, Meaning, a_variable_at, an_expression_at, an_instance_at, Means, Each, AtSome, EachBoth, FlatInstance}
use Rattle.smv_language.specs.Tree.{truth, number}
use Rattle.smv_language.specs.Scope.{a_symbol}
use Rattle.smv_flat_laws.specs.NameResolution.{leaves_in, trees_leaves, branches_leaves}
use Rattle.smv_flat_laws.specs.Items.{instances_of, variables_of}
use Rattle.smv_flat_laws.specs.Rules.{IsAccepted, HasNoValue, nothing, only_an_instance, SomeHasNoValue, Needs as NeedsOf, NeedsItself, expression_of}
use Rattle.smv_flat_laws.specs.Model.{Root, roots_of, symbols_of, is_key_among, same_key}
use Rattle.smv_flat_laws.proofs.Reaches.{each_left, each_right}
use Rattle.smv_flat_laws.proofs.Conditions.{each_at, each_from}
use Rattle.smv_flat_laws.proofs.Variables.{both_at, both_at_second}
use Rattle.smv_flat_laws.proofs.Resolving.{same_meaning}
use Rattle.smv_flat_laws.proofs.LookLaws.{meets_loop_nothing}
use Rattle.smv_scope.specs.declared.bounds.Bounds.{Bounds}
use Rattle.smv_scope.specs.declared.walk.Meaning.{Meaning as Found}
use Rattle.smv_scope.specs.declared.walk.Meaning.TheVariants as found
use Rattle.smv_scope.specs.declared.names.Defined.{Defined}
use Rattle.smv_scope.specs.declared.names.Scene.{Scene}
use Rattle.smv_scope.specs.declared.needs.Needs.{Needs}
use Rattle.smv_scope.specs.SceneTree.{Denotes, IsFound, IsDefined, program_of, IsScene}
use Rattle.smv_scope.specs.NeedsTree.{keys_of, IsKeyAt, HasCircle, IsMeant, AreMeant, IsOrder, AreNeeds}
use Rattle.smv_scope.specs.TableLookUps.{found_at}
use Rattle.smv_flat.specs.ResolverOf.{leaf_placed, leaf_found, leaf_at, is_leaf_within, TreeAll, TreesAll, BranchesAll, AreKnown}
use Rattle.smv_scope.proofs.SceneFound.{scene_found}
use Rattle.smv_flat.proofs.BuildOrder.{AllAfter, ordered_after, needs_before, one_place}
use Rattle.smv_flat.proofs.BuildAccepted.{IsGoodRoot}
use Rattle.smv_flat.proofs.BuildRoots.{good_roots, no_come_back}
use Rattle.smv_flat.proofs.BuildUnique.{one_written}
use Rattle.smv_flat_laws.proofs.Lists.{each_more}
use Rattle.smv_flat_laws.proofs.Listed.{key_equal}
use Rattle.std.proofs.lemmas.Option.{slice_get_within as get_less}
use Rattle.smv_language.proofs.ListLaws.{get_mapped, get_map}
use Rattle.smv_language.proofs.EachLaws.{some_at, each_not}
use Rattle.base_values.proofs.ListLaws.{get_within}

key_among : (ks : List Key) (k : Key) → is_key_among ks k ≡ true → (i : ℕ) × (slice_get ks i ≡ Some k)
key_among [] k h = cc
key_among (j ∷ ks) k h = by_test (same_key j k) refl (λ e. key_among ks k e)
  where
    by_test : (b : Bool) → same_key j k ≡ b → (is_key_among ks k ≡ true → (i : ℕ) × (slice_get ks i ≡ Some k)) → (i : ℕ) × (slice_get (j ∷ ks) i ≡ Some k)
    by_test true e rest = (0, ap Some (key_equal j k e))
    by_test false e rest = let r : (i : ℕ) × (slice_get ks i ≡ Some k) = rest (rw e at h) in (suc r.0, r.1)

at_some : {A : Type 0} (P : A → Type 0) (xs : List A) → AtSome P xs → (x : A) × P x
at_some P [] h = absurd h
at_some P (x ∷ xs) (inl h) = (x, h)
at_some P (x ∷ xs) (inr h) = at_some P xs h

-- of each leaf of the list, so of each of the tree
mutual
  pub tree_leaves : {L : Type 0} (P : L → Type 0) (t : Tree L) → Each P (leaves_in t) → TreeAll P t
  tree_leaves P (truth b) h = tt
  tree_leaves P (number n) h = tt
  tree_leaves P (leaf l) h = h.0
  tree_leaves P (not_of a) h = tree_leaves P a h
  tree_leaves P (negate a) h = tree_leaves P a h
  tree_leaves P (next_of a) h = tree_leaves P a h
  tree_leaves P (binary o a b) h = (tree_leaves P a (each_left P (leaves_in a) (leaves_in b) h), tree_leaves P b (each_right P (leaves_in a) (leaves_in b) h))
  tree_leaves P (choice c a b) h =
      let rest : Each P (leaves_in a ++ leaves_in b) = each_right P (leaves_in c) (leaves_in a ++ leaves_in b) h in
      (tree_leaves P c (each_left P (leaves_in c) (leaves_in a ++ leaves_in b) h), tree_leaves P a (each_left P (leaves_in a) (leaves_in b) rest), tree_leaves P b (each_right P (leaves_in a) (leaves_in b) rest))
  tree_leaves P (case_of bs) h = branches_of_leaves P bs h
  tree_leaves P (set_of ts) h = trees_of_leaves P ts h
  tree_leaves P (span lo hi) h = tt

  trees_of_leaves : {L : Type 0} (P : L → Type 0) (ts : Trees L) → Each P (trees_leaves ts) → TreesAll P ts
  trees_of_leaves P no_tree h = tt
  trees_of_leaves P (tree_then t ts) h = (tree_leaves P t (each_left P (leaves_in t) (trees_leaves ts) h), trees_of_leaves P ts (each_right P (leaves_in t) (trees_leaves ts) h))

  branches_of_leaves : {L : Type 0} (P : L → Type 0) (bs : Branches L) → Each P (branches_leaves bs) → BranchesAll P bs
  branches_of_leaves P no_branch h = tt
  branches_of_leaves P (branch_then c a bs) h =
      let rest : Each P (leaves_in a ++ branches_leaves bs) = each_right P (leaves_in c) (leaves_in a ++ branches_leaves bs) h in (
        tree_leaves P c (each_left P (leaves_in c) (leaves_in a ++ branches_leaves bs) h),
        tree_leaves P a (each_left P (leaves_in a) (branches_leaves bs) rest),
        branches_of_leaves P bs (each_right P (leaves_in a) (branches_leaves bs) rest),
      )

-- as many variables and symbols as the program has, and so many definitions
abbrev pub bounds_with : ProgramTree → ℕ → Bounds
bounds_with p i = record { variables = length (variables_of p); symbols = length (symbols_of p); definitions = i }

no_circles : (p : ProgramTree) (roots : List Root) (bs : List Bool) → EachBoth (HasCircle p) (map (λ (r : Root). r.key) roots) bs → Each (IsGoodRoot p) roots → Each (λ b. b ≡ false) bs
no_circles p [] [] h g = tt
no_circles p [] (b ∷ bs) h g = absurd h
no_circles p (r ∷ roots) [] h g = absurd h
no_circles p (r ∷ roots) (b ∷ bs) h g = (not_true b (λ e. g.0.free (h.0.0 e)), no_circles p roots bs h.1 g.1)
  where
    not_true : (b : Bool) → (b ≡ true → ⊥) → b ≡ false
    not_true true h = absurd (h refl)
    not_true false h = refl

module _ (p : ProgramTree) where
  -- a name that means the expression of a definition is found to be one, with its number
  pub record FoundDefinition (key : Key) (f : Found) : Type 0 where
    pub at : ℕ
    pub is : f ≡ found.Definition at
    pub root : Root
    pub is_root : slice_get (roots_of p) at ≡ Some root
    pub same : root.key ≡ key

  of_meaning : (f : Found) (key : Key) (bt : Place) (e : Formula) (m : Meaning) → Denotes p f m → m ≡ an_expression_at key bt e → FoundDefinition key f
  of_meaning (found.Variable i role) key bt e m d same = absurd (subst (Denotes p (found.Variable i role)) same d)
  of_meaning (found.Instance i) key bt e m d same = absurd (subst (Denotes p (found.Instance i)) same d)
  of_meaning (found.Symbol i) key bt e m d same = absurd (subst (Denotes p (found.Symbol i)) same d)
  of_meaning found.Nothing key bt e m d same = absurd (subst (Denotes p found.Nothing) same d)
  of_meaning found.Loop key bt e m d same = absurd (subst (Denotes p found.Loop) same d)
  of_meaning (found.Definition i) key bt e m d same =
      let r : (r : Root) × (slice_get (roots_of p) i ≡ Some r) × (r.key ≡ key) × (expression_of p key ≡ Some (bt, e)) = subst (Denotes p (found.Definition i)) same d in
      record { at = i; is = refl; root = r.0; is_root = r.1; same = r.2 }

  pub found_expression : (at : Place) (name : Path) (f : Found) (key : Key) (bt : Place) (e : Formula) → IsFound p at name f → Means p at name (an_expression_at key bt e) → FoundDefinition key f
  found_expression at name found.Nothing key bt e is means = let none : None ≡ Some (an_expression_at key bt e) = sym (is.no_meaning means.0) ∙ means.1 in cc
  found_expression at name found.Loop key bt e is means = let none : None ≡ Some (an_expression_at key bt e) = sym (meets_loop_nothing p at name is means.0) ∙ means.1 in cc
  found_expression at name (found.Variable i role) key bt e is means =
      of_meaning (found.Variable i role) key bt e is.0 is.2 (same_meaning is.1.0 means.0 p at name is.0 (an_expression_at key bt e) is.1.1 means.1)
  found_expression at name (found.Instance i) key bt e is means =
      of_meaning (found.Instance i) key bt e is.0 is.2 (same_meaning is.1.0 means.0 p at name is.0 (an_expression_at key bt e) is.1.1 means.1)
  found_expression at name (found.Symbol i) key bt e is means =
      of_meaning (found.Symbol i) key bt e is.0 is.2 (same_meaning is.1.0 means.0 p at name is.0 (an_expression_at key bt e) is.1.1 means.1)
  found_expression at name (found.Definition i) key bt e is means =
      of_meaning (found.Definition i) key bt e is.0 is.2 (same_meaning is.1.0 means.0 p at name is.0 (an_expression_at key bt e) is.1.1 means.1)

  -- what a definition that is named for its leaf has to be
  abbrev pub StandsWithin : List ℕ → ℕ → Place → Path → Found → Type 0
  StandsWithin places bound at name f =
      (k : ℕ) → f ≡ found.Definition k → (key : Key) (bt : Place) (e : Formula) → Means p at name (an_expression_at key bt e) → slice_get (keys_of p) k ≡ Some key →
      (i : ℕ) × (slice_get places k ≡ Some i) × (i < bound)

  leaf_of_meaning : (places : List ℕ) (bound : ℕ) (at : Place) (name : Path) (f : Found) (m : Meaning) → Means p at name m → Denotes p f m → (HasNoValue p at name → ⊥) →
      StandsWithin places bound at name f → is_leaf_within (bounds_with p bound) (leaf_found places f) ≡ true
  leaf_of_meaning places bound at name (found.Variable i role) (a_variable_at bt x) means d value within = lt-ltb i (length (variables_of p)) (get_less (variables_of p) i d.0 d.1)
  leaf_of_meaning places bound at name (found.Variable i role) (an_expression_at key bt e) means d value within = absurd d
  leaf_of_meaning places bound at name (found.Variable i role) (an_instance_at bt) means d value within = absurd d
  leaf_of_meaning places bound at name (found.Variable i role) (a_symbol x) means d value within = absurd d
  leaf_of_meaning places bound at name (found.Symbol i) (a_symbol x) means d value within = lt-ltb i (length (symbols_of p)) (get_less (symbols_of p) i x d)
  leaf_of_meaning places bound at name (found.Symbol i) (a_variable_at bt x) means d value within = absurd d
  leaf_of_meaning places bound at name (found.Symbol i) (an_expression_at key bt e) means d value within = absurd d
  leaf_of_meaning places bound at name (found.Symbol i) (an_instance_at bt) means d value within = absurd d
  leaf_of_meaning places bound at name (found.Instance i) (an_instance_at bt) means d value within = absurd (value (only_an_instance bt means))
  leaf_of_meaning places bound at name (found.Instance i) (a_symbol x) means d value within = absurd d
  leaf_of_meaning places bound at name (found.Instance i) (a_variable_at bt x) means d value within = absurd d
  leaf_of_meaning places bound at name (found.Instance i) (an_expression_at key bt e) means d value within = absurd d
  leaf_of_meaning places bound at name (found.Definition k) (an_expression_at key bt e) means d value within =
      let at_key : slice_get (keys_of p) k ≡ Some key = get_map (λ (r : Root). r.key) (roots_of p) k d.0 d.1 ∙ ap Some d.2 in
      let w : (i : ℕ) × (slice_get places k ≡ Some i) × (i < bound) = within k refl key bt e means at_key in
      ap (λ o. is_leaf_within (bounds_with p bound) (leaf_placed o)) w.1 ∙ lt-ltb w.0 bound w.2
  leaf_of_meaning places bound at name (found.Definition k) (a_variable_at bt x) means d value within = absurd d
  leaf_of_meaning places bound at name (found.Definition k) (an_instance_at bt) means d value within = absurd d
  leaf_of_meaning places bound at name (found.Definition k) (a_symbol x) means d value within = absurd d
  leaf_of_meaning places bound at name found.Nothing m means d value within = absurd (no_nothing m d)
    where
      no_nothing : (m : Meaning) → Denotes p found.Nothing m → ⊥
      no_nothing (a_variable_at bt x) d = d
      no_nothing (an_expression_at key bt e) d = d
      no_nothing (an_instance_at bt) d = d
      no_nothing (a_symbol x) d = d
  leaf_of_meaning places bound at name found.Loop m means d value within = absurd (no_loop m d)
    where
      no_loop : (m : Meaning) → Denotes p found.Loop m → ⊥
      no_loop (a_variable_at bt x) d = d
      no_loop (an_expression_at key bt e) d = d
      no_loop (an_instance_at bt) d = d
      no_loop (a_symbol x) d = d

  module _ (accepted : IsAccepted p) where
    -- a name that has a value has a leaf
    pub leaf_within : (places : List ℕ) (bound : ℕ) (at : Place) (name : Path) (f : Found) → IsFound p at name f → (HasNoValue p at name → ⊥) →
        StandsWithin places bound at name f → is_leaf_within (bounds_with p bound) (leaf_found places f) ≡ true
    leaf_within places bound at name found.Nothing is value within = absurd (value (nothing is))
    leaf_within places bound at name found.Loop is value within = absurd (no_come_back p accepted is.1 is.2 is.5)
    leaf_within places bound at name (found.Variable i role) is value within = leaf_of_meaning places bound at name (found.Variable i role) is.0 is.1 is.2 value within
    leaf_within places bound at name (found.Symbol i) is value within = leaf_of_meaning places bound at name (found.Symbol i) is.0 is.1 is.2 value within
    leaf_within places bound at name (found.Instance i) is value within = leaf_of_meaning places bound at name (found.Instance i) is.0 is.1 is.2 value within
    leaf_within places bound at name (found.Definition i) is value within = leaf_of_meaning places bound at name (found.Definition i) is.0 is.1 is.2 value within

-- each name of each definition means something
are_meant : (p : ProgramTree) → IsAccepted p → AreMeant p
are_meant p accepted k key at e is_key is_written =
    let r : (r : Root) × (slice_get (roots_of p) k ≡ Some r) × (r.key ≡ key) = get_mapped (λ (r : Root). r.key) (roots_of p) k key is_key in
    let good : IsGoodRoot p r.0 = each_at (IsGoodRoot p) (roots_of p) k r.0 (good_roots p accepted) r.1 in
    let same : (good.at ≡ at) × (good.written ≡ e) = one_written p key good.at at good.written e (ap (expression_of p) (sym r.2) ∙ good.is) is_written in
    let named : SomeHasNoValue p at e → ⊥ = subst (λ a. SomeHasNoValue p a e → ⊥) same.0 (subst (λ w. SomeHasNoValue p good.at w → ⊥) same.1 good.named) in
    each_more (λ name. HasNoValue p at name → ⊥) (IsMeant p at) (leaves_in e)
    (λ name h. record { something = λ m. h (nothing m); no_loop = λ l. no_come_back p accepted l.1 l.2 l.5 }) (each_not (HasNoValue p at) (leaves_in e) named)

module _ (s : Scene) (n : Needs) (is : IsScene s) (needs : AreNeeds (program_of s) n) (accepted : IsAccepted (program_of s)) where
  pub order : IsOrder (program_of s) n.order.items n.places.items
  order = needs.order (no_circles (program_of s) (roots_of (program_of s)) n.on_circle.items needs.circles (good_roots (program_of s) accepted)) (are_meant (program_of s) accepted)

  -- the keys of definitions
  abbrev pub RootKey : Key → Type 0
  RootKey k = (i : ℕ) × (slice_get (keys_of (program_of s)) i ≡ Some k)

  root_of_key : (k : Key) (i : ℕ) → slice_get (keys_of (program_of s)) i ≡ Some k → (r : Root) × (slice_get (roots_of (program_of s)) i ≡ Some r) × (r.key ≡ k)
  root_of_key k i e = get_mapped (λ (r : Root). r.key) (roots_of (program_of s)) i k e

  root_free : (k : Key) → RootKey k → NeedsItself (program_of s) k → ⊥
  root_free k at itself =
      let r : (r : Root) × (slice_get (roots_of (program_of s)) at.0 ≡ Some r) × (r.key ≡ k) = root_of_key k at.0 at.1 in
      (each_at (IsGoodRoot (program_of s)) (roots_of (program_of s)) at.0 r.0 (good_roots (program_of s) accepted) r.1).free (subst (NeedsItself (program_of s)) (sym r.2) itself)

  -- what a definition needs is a definition
  root_needs : (k other : Key) → RootKey k → NeedsOf (program_of s) k other → RootKey other
  root_needs k other at need = from_found
    where
      r : (r : Root) × (slice_get (roots_of (program_of s)) at.0 ≡ Some r) × (r.key ≡ k)
      r = root_of_key k at.0 at.1

      d : (d : Defined) × (slice_get s.definitions.items at.0 ≡ Some d) × IsDefined (program_of s) r.0 d
      d = both_at (IsDefined (program_of s)) (roots_of (program_of s)) s.definitions.items at.0 r.0 is.set.definitions r.1

      same : (need.place ≡ d.2.at.place) × (need.written ≡ tree_of d.0.value.now)
      same = one_written (program_of s) k need.place d.2.at.place need.written (tree_of d.0.value.now) need.is (ap (expression_of (program_of s)) (sym r.2) ∙ d.2.expression)

      named : (name : Path) × ((bt : Place) × (e : Formula) × Means (program_of s) need.place name (an_expression_at other bt e))
      named = at_some (λ name. (bt : Place) × (e : Formula) × Means (program_of s) need.place name (an_expression_at other bt e)) (leaves_in need.written) need.named

      there : FoundDefinition (program_of s) other (found_at s d.0.spot named.0)
      there = found_expression (program_of s) d.2.at.place named.0 (found_at s d.0.spot named.0) other named.1.0 named.1.1 (scene_found s is named.0 d.0.spot d.2.at d.2.is)
          (subst (λ a. Means (program_of s) a named.0 (an_expression_at other named.1.0 named.1.1)) same.0 named.1.2)

      from_found : RootKey other
      from_found = (there.at, get_map (λ (r : Root). r.key) (roots_of (program_of s)) there.at there.root there.is_root ∙ ap Some there.same)

  pub all_after : AllAfter (program_of s) [] order.ordered
  all_after = ordered_after (program_of s) RootKey root_needs root_free (keys_of (program_of s)) order.ordered (λ k among. key_among (keys_of (program_of s)) k among) order.adds

  -- the place of a key's number, and the key there
  pub key_placed : (k : ℕ) (key : Key) → slice_get (keys_of (program_of s)) k ≡ Some key → (i : ℕ) × (slice_get n.places.items k ≡ Some i) × (slice_get n.order.items i ≡ Some k) × (slice_get order.ordered i ≡ Some key)
  key_placed k key e =
      let less : k < length (keys_of (program_of s)) = get_less (keys_of (program_of s)) k key e in
      let size : length n.places.items ≡ length (keys_of (program_of s)) = order.size in
      let i : (i : ℕ) × (slice_get n.places.items k ≡ Some i) = get_within n.places.items k (omega (arith, less, size)) in
      let o : slice_get n.order.items i.0 ≡ Some k = order.all k i.0 i.1 in
      let b : (j : Key) × (slice_get order.ordered i.0 ≡ Some j) × IsKeyAt (program_of s) k j = both_at (IsKeyAt (program_of s)) n.order.items order.ordered i.0 k order.each o in
      (i.0, i.1, o, b.1 ∙ sym b.2 ∙ e)

  -- each name of a value at an instance has a leaf
  pub value_known : (spot : ℕ) (at : FlatInstance) (e : Formula) → slice_get (instances_of (program_of s)) spot ≡ Some at → (SomeHasNoValue (program_of s) at.place e → ⊥) →
      AreKnown (leaf_at s n spot) (bounds_with (program_of s) (length n.order.items)) e
  value_known spot at e there named =
      tree_leaves (λ name. is_leaf_within (bounds_with (program_of s) (length n.order.items)) (leaf_at s n spot name) ≡ true) e
      (each_from (λ name. is_leaf_within (bounds_with (program_of s) (length n.order.items)) (leaf_at s n spot name) ≡ true) (leaves_in e)
      (λ i name is_name. leaf_within (program_of s) accepted n.places.items (length n.order.items) at.place name (found_at s spot name) (scene_found s is name spot at there)
      (λ bad. named (some_at (HasNoValue (program_of s) at.place) (leaves_in e) i name is_name bad))
      (λ k f key bt g means at_key. let j : (i : ℕ) × (slice_get n.places.items k ≡ Some i) × (slice_get n.order.items i ≡ Some k) × (slice_get order.ordered i ≡ Some key) = key_placed k key at_key in
      (j.0, j.1, get_less n.order.items j.0 k j.2))))

  -- each name of a definition has a leaf that stands before it
  pub definition_known : (j k : ℕ) (d : Defined) → slice_get n.order.items j ≡ Some k → slice_get s.definitions.items k ≡ Some d →
      AreKnown (leaf_at s n d.spot) (bounds_with (program_of s) j) (tree_of d.value.now)
  definition_known j k d ordered defined =
      tree_leaves (λ name. is_leaf_within (bounds_with (program_of s) j) (leaf_at s n d.spot name) ≡ true) (tree_of d.value.now)
      (each_from (λ name. is_leaf_within (bounds_with (program_of s) j) (leaf_at s n d.spot name) ≡ true) (leaves_in (tree_of d.value.now)) at_name)
    where
      r : (r : Root) × (slice_get (roots_of (program_of s)) k ≡ Some r) × IsDefined (program_of s) r d
      r = both_at_second (IsDefined (program_of s)) (roots_of (program_of s)) s.definitions.items k d is.set.definitions defined

      good : IsGoodRoot (program_of s) r.0
      good = each_at (IsGoodRoot (program_of s)) (roots_of (program_of s)) k r.0 (good_roots (program_of s) accepted) r.1

      same : (good.at ≡ r.2.at.place) × (good.written ≡ tree_of d.value.now)
      same = one_written (program_of s) r.0.key good.at r.2.at.place good.written (tree_of d.value.now) good.is r.2.expression

      named : SomeHasNoValue (program_of s) r.2.at.place (tree_of d.value.now) → ⊥
      named bad = good.named (subst (λ a. SomeHasNoValue (program_of s) a good.written) (sym same.0) (subst (SomeHasNoValue (program_of s) r.2.at.place) (sym same.1) bad))

      own : (key : Key) × (slice_get order.ordered j ≡ Some key) × IsKeyAt (program_of s) k key
      own = both_at (IsKeyAt (program_of s)) n.order.items order.ordered j k order.each ordered

      of_option : (a b : Key) → Some a ≡ Some b → a ≡ b
      of_option a b e = cc

      own_key : own.0 ≡ r.0.key
      own_key = of_option own.0 r.0.key (sym own.2 ∙ get_map (λ (r : Root). r.key) (roots_of (program_of s)) k r.0 r.1)

      stands : (i : ℕ) (name : Path) → slice_get (leaves_in (tree_of d.value.now)) i ≡ Some name → (m : ℕ) (key : Key) (bt : Place) (g : Formula) → Means (program_of s) r.2.at.place name (an_expression_at key bt g) →
          slice_get (keys_of (program_of s)) m ≡ Some key → (i : ℕ) × (slice_get n.places.items m ≡ Some i) × (i < j)
      stands i name is_name m key bt g means at_key = by_before (needs_before (program_of s) [] order.ordered j own.0 key all_after own.1 need)
        where
          need : NeedsOf (program_of s) own.0 key
          need = record {
            place = r.2.at.place;
            written = tree_of d.value.now;
            is = ap (expression_of (program_of s)) own_key ∙ r.2.expression;
            named = some_at (λ name. (at : Place) × (e : Formula) × Means (program_of s) r.2.at.place name (an_expression_at key at e)) (leaves_in (tree_of d.value.now)) i name is_name (bt, g, means);
          }

          at_place : (i : ℕ) × (slice_get n.places.items m ≡ Some i) × (slice_get n.order.items i ≡ Some m) × (slice_get order.ordered i ≡ Some key)
          at_place = key_placed m key at_key

          by_before : (is_key_among [] key ≡ true) ⊎ ((i : ℕ) × (i < j) × (slice_get order.ordered i ≡ Some key)) → (i : ℕ) × (slice_get n.places.items m ≡ Some i) × (i < j)
          by_before (inl h) = cc
          by_before (inr b) =
              let one : b.0 ≡ at_place.0 = one_place (program_of s) [] order.ordered b.0 at_place.0 key all_after b.2 at_place.3 in
              (at_place.0, at_place.1, subst (λ i. i < j) one b.1)

      at_name : (i : ℕ) (name : Path) → slice_get (leaves_in (tree_of d.value.now)) i ≡ Some name → is_leaf_within (bounds_with (program_of s) j) (leaf_at s n d.spot name) ≡ true
      at_name i name is_name =
          leaf_within (program_of s) accepted n.places.items j r.2.at.place name (found_at s d.spot name) (scene_found s is name d.spot r.2.at r.2.is)
          (λ bad. named (some_at (HasNoValue (program_of s) r.2.at.place) (leaves_in (tree_of d.value.now)) i name is_name bad))
          (λ m f key bt g means at_key. stands i name is_name m key bt g means at_key)
