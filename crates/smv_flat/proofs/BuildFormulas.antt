-- The formulas that are told are those that the conditions of the program ask for.
use Rattle.std.proofs.Common.{◌≡◌, ℕ, suc, ◌+◌, true, List, [], ◌∷◌, ◌++◌, length, Option, Some, None, refl, sym, ◌∙◌, ap, subst, arith}
use Rattle.std.specs.Prelude.{slice_get, map, flat_map}
use Rattle.smv_language.specs.declared.expr.Op.{Op}
use Rattle.smv_language.specs.declared.expr.Op.TheVariants as op
use Rattle.smv_language.specs.declared.program.Moment.{Moment}
use Rattle.smv_language.specs.declared.program.Moment.TheVariants.{Always, First, After}
use Rattle.smv_language.specs.Language.{Tree, leaf, not_of, negate, next_of, binary, choice, case_of, set_of, span, Text, Path, Formula, DeclaredTree, boolean, range, members, instance, ProgramTree, tree_map, Place, state, input, frozen_role, Meaning, a_variable_at, Means, Each, EachBoth, FlatLeaf, flat_variable, flat_symbol, flat_definition, FlatInstance, FlatFormula, FlatModel, role_of, flat_tree, formula_tree}
use Rattle.smv_language.specs.Tree.{truth, number}
use Rattle.smv_flat_laws.specs.NameResolution.{StandsFor, IsLeafOf, IsResolved}
use Rattle.smv_flat_laws.specs.Items.{Item, a_declaration, a_definition, an_assignment, some_constants, an_init, an_invar, a_trans, NumberedItem, items_named, Visit, instances_of, variables_of}
use Rattle.smv_flat_laws.specs.Rules.{IsAccepted, IsKept, a_use, no_such_name, SomeHasNoValue}
use Rattle.smv_flat_laws.specs.Model.{Condition, plain, now_among, next_among, kept, assigned_first, assigned_each, assigned_step, kept_declared, Written, written_at, conditions, IsVariableNumber, IsConditionTree, IsFormulaOf, symbols_of}
use Rattle.smv_flat_laws.proofs.Resolving.{same_meaning}
use Rattle.smv_language.specs.declared.model.Formula.{Formula as FormulaOf}
use Rattle.smv_scope.specs.declared.walk.Meaning.{Meaning as Found}
use Rattle.smv_scope.specs.declared.walk.Meaning.TheVariants as found
use Rattle.smv_scope.specs.declared.names.Scene.{Scene}
use Rattle.smv_scope.specs.declared.needs.Needs.{Needs}
use Rattle.smv_flat.specs.declared.clauses.AskedFormulas.{AskedFormulas}
use Rattle.smv_flat.specs.declared.clauses.AskedFormulas.TheVariants as asked
use Rattle.smv_scope.specs.SceneTree.{Denotes, IsFound, program_of, IsScene, items_of_instance}
use Rattle.smv_scope.specs.NeedsTree.{AreNeeds}
use Rattle.smv_scope.specs.WalkFindings.{IsDeclaredBy}
use Rattle.smv_scope.specs.TableLookUps.{found_at}
use Rattle.smv_flat.specs.ResolverOf.{leaf_found, leaf_at, leaf_by, resolver}
use Rattle.smv_flat.specs.FormulaLists.{Told, told, conditions_asked, asked_condition, is_variable_within, IsConditionKnown, AreConditionsKnown, asked_conditions, asked_item, asked_items, asked_from}
use Rattle.smv_scope.proofs.SceneFound.{scene_found}
use Rattle.smv_flat.proofs.BuildAccepted.{kept_at, item_at, target_means, declared_means}
use Rattle.smv_flat.proofs.BuildLeaves.{bounds_with, value_known}
use Rattle.smv_flat.proofs.BuildSound.{definitions, leaf_means, resolver_at}
use Rattle.smv_flat_laws.proofs.LookLaws.{meets_loop_nothing}
use Rattle.std.proofs.lemmas.Option.{slice_get_within as get_less}
use Rattle.std.proofs.lemmas.Bool.{lt-ltb}

-- A tree whose leaves are all told is one of a shape only if the tree is.
pub record IsBinary (o : Op) (left right : Tree (Option FlatLeaf)) (t : Tree FlatLeaf) : Type 0 where
  pub first : Tree FlatLeaf
  pub second : Tree FlatLeaf
  pub is : t ≡ binary o first second
  pub first_told : tree_map Some first ≡ left
  pub second_told : tree_map Some second ≡ right

pub of_binary : (o : Op) (left right : Tree (Option FlatLeaf)) (t : Tree FlatLeaf) → tree_map Some t ≡ binary o left right → IsBinary o left right t
of_binary o left right (truth b) e = cc
of_binary o left right (number i) e = cc
of_binary o left right (leaf l) e = cc
of_binary o left right (not_of a) e = cc
of_binary o left right (negate a) e = cc
of_binary o left right (next_of a) e = cc
of_binary o left right (binary o' a b) e =
    let same : o' ≡ o = cc in record { first = a; second = b; is = ap (λ q. binary q a b) same; first_told = cc; second_told = cc }
of_binary o left right (choice c a b) e = cc
of_binary o left right (case_of bs) e = cc
of_binary o left right (set_of ts) e = cc
of_binary o left right (span lo hi) e = cc

pub of_next : (u : Tree (Option FlatLeaf)) (t : Tree FlatLeaf) → tree_map Some t ≡ next_of u → (v : Tree FlatLeaf) × (t ≡ next_of v) × (tree_map Some v ≡ u)
of_next u (truth b) e = cc
of_next u (number i) e = cc
of_next u (leaf l) e = cc
of_next u (not_of a) e = cc
of_next u (negate a) e = cc
of_next u (next_of a) e = (a, refl, cc)
of_next u (binary o a b) e = cc
of_next u (choice c a b) e = cc
of_next u (case_of bs) e = cc
of_next u (set_of ts) e = cc
of_next u (span lo hi) e = cc

pub of_leaf : (o : Option FlatLeaf) (t : Tree FlatLeaf) → tree_map Some t ≡ leaf o → (l : FlatLeaf) × (t ≡ leaf l) × (o ≡ Some l)
of_leaf o (truth b) e = cc
of_leaf o (number i) e = cc
of_leaf o (leaf l) e = (l, refl, let same : o ≡ Some l = cc in same)
of_leaf o (not_of a) e = cc
of_leaf o (negate a) e = cc
of_leaf o (next_of a) e = cc
of_leaf o (binary op' a b) e = cc
of_leaf o (choice c a b) e = cc
of_leaf o (case_of bs) e = cc
of_leaf o (set_of ts) e = cc
of_leaf o (span lo hi) e = cc

-- Two lists that go together.
pub both_join : {A B : Type 0} (R : A → B → Type 0) (xs : List A) (ys : List B) (xs' : List A) (ys' : List B) → EachBoth R xs ys → EachBoth R xs' ys' → EachBoth R (xs ++ xs') (ys ++ ys')
both_join R [] [] xs' ys' h k = k
both_join R [] (y ∷ ys) xs' ys' h k = absurd h
both_join R (x ∷ xs) [] xs' ys' h k = absurd h
both_join R (x ∷ xs) (y ∷ ys) xs' ys' h k = (h.0, both_join R xs ys xs' ys' h.1 k)

pub both_told : {A : Type 0} (R : A → Told → Type 0) (Q : A → FlatFormula → Type 0) (xs : List A) (ts : List Told) (fs : List FormulaOf) → ((x : A) (t : Told) (f : FormulaOf) → R x t → told f ≡ t → Q x (formula_tree f)) →
    EachBoth R xs ts → map told fs ≡ ts → EachBoth Q xs (map formula_tree fs)
both_told R Q [] [] [] h k e = tt
both_told R Q [] [] (f ∷ fs) h k e = cc
both_told R Q [] (t ∷ ts) fs h k e = absurd k
both_told R Q (x ∷ xs) [] fs h k e = absurd k
both_told R Q (x ∷ xs) (t ∷ ts) [] h k e = cc
both_told R Q (x ∷ xs) (t ∷ ts) (f ∷ fs) h k e = let one : told f ≡ t = cc in let rest : map told fs ≡ ts = cc in (h x t f k.0 one, both_told R Q xs ts fs h k.1 rest)

module _ (p : ProgramTree) where
  -- what the rules give for a condition at an instance
  abbrev pub CondFacts : Place → Condition → Type 0
  CondFacts at (plain e) = SomeHasNoValue p at e → ⊥
  CondFacts at (now_among y e) = Means p at (y ∷ []) (a_variable_at at y) × (SomeHasNoValue p at e → ⊥)
  CondFacts at (next_among y e) = Means p at (y ∷ []) (a_variable_at at y) × (SomeHasNoValue p at e → ⊥)
  CondFacts at (kept y) = Means p at (y ∷ []) (a_variable_at at y)

  module _ (accepted : IsAccepted p) where
    first_assigned : (at : Place) (when : Moment) (target : Path) (e : Formula) → ((y : Text) → target ≡ y ∷ [] → Means p at (y ∷ []) (a_variable_at at y)) → (SomeHasNoValue p at e → ⊥) → Each (CondFacts at) (assigned_first when target e)
    first_assigned at First [] e means value = tt
    first_assigned at First (x ∷ []) e means value = ((means x refl, value), tt)
    first_assigned at First (x ∷ y ∷ rest) e means value = tt
    first_assigned at Always target e means value = tt
    first_assigned at After target e means value = tt

    each_assigned : (at : Place) (when : Moment) (target : Path) (e : Formula) → ((y : Text) → target ≡ y ∷ [] → Means p at (y ∷ []) (a_variable_at at y)) → (SomeHasNoValue p at e → ⊥) → Each (CondFacts at) (assigned_each when target e)
    each_assigned at Always [] e means value = tt
    each_assigned at Always (x ∷ []) e means value = ((means x refl, value), tt)
    each_assigned at Always (x ∷ y ∷ rest) e means value = tt
    each_assigned at First target e means value = tt
    each_assigned at After target e means value = tt

    step_assigned : (at : Place) (when : Moment) (target : Path) (e : Formula) → ((y : Text) → target ≡ y ∷ [] → Means p at (y ∷ []) (a_variable_at at y)) → (SomeHasNoValue p at e → ⊥) → Each (CondFacts at) (assigned_step when target e)
    step_assigned at After [] e means value = tt
    step_assigned at After (x ∷ []) e means value = ((means x refl, value), tt)
    step_assigned at After (x ∷ y ∷ rest) e means value = tt
    step_assigned at First target e means value = tt
    step_assigned at Always target e means value = tt

    kept_facts : (at : Place) (y : Text) (what : DeclaredTree) → (((m : Text) (actuals : List Formula) → what ≡ instance m actuals → ⊥) → Means p at (y ∷ []) (a_variable_at at y)) → Each (CondFacts at) (kept_declared y what)
    kept_facts at y boolean means = (means (λ m actuals e. cc), tt)
    kept_facts at y (range lo hi) means = (means (λ m actuals e. cc), tt)
    kept_facts at y (members ms) means = (means (λ m actuals e. cc), tt)
    kept_facts at y (instance m actuals) means = tt

    pub facts_of : (a : AskedFormulas) (i : ℕ) (x : FlatInstance) → slice_get (instances_of p) i ≡ Some x → (j : ℕ) (n : NumberedItem) → slice_get (items_named p x.module_name) j ≡ Some n → (item : Item) → n.item ≡ item →
        Each (CondFacts x.place) (conditions_asked a item)
    facts_of a i x e j n f item is = by_item a item is
      where
        kept_item : (item : Item) → n.item ≡ item → IsKept p (a_use x (record n { item = item }))
        kept_item item is = subst (λ i. IsKept p (a_use x (record n { item = i }))) is (kept_at p accepted i x e j n f)

        by_item : (a : AskedFormulas) (item : Item) → n.item ≡ item → Each (CondFacts x.place) (conditions_asked a item)
        by_item asked.First (an_assignment b) is = first_assigned x.place b.when b.target b.value (λ y t. target_means p accepted x n b y (kept_at p accepted i x e j n f) is t) (kept_item (an_assignment b) is no_such_name)
        by_item asked.Each (an_assignment b) is = each_assigned x.place b.when b.target b.value (λ y t. target_means p accepted x n b y (kept_at p accepted i x e j n f) is t) (kept_item (an_assignment b) is no_such_name)
        by_item asked.Step (an_assignment b) is = step_assigned x.place b.when b.target b.value (λ y t. target_means p accepted x n b y (kept_at p accepted i x e j n f) is t) (kept_item (an_assignment b) is no_such_name)
        by_item asked.Kept (an_assignment b) is = tt
        by_item asked.First (an_init g) is = (kept_item (an_init g) is no_such_name, tt)
        by_item asked.Each (an_init g) is = tt
        by_item asked.Step (an_init g) is = tt
        by_item asked.Kept (an_init g) is = tt
        by_item asked.First (an_invar g) is = tt
        by_item asked.Each (an_invar g) is = (kept_item (an_invar g) is no_such_name, tt)
        by_item asked.Step (an_invar g) is = tt
        by_item asked.Kept (an_invar g) is = tt
        by_item asked.First (a_trans g) is = tt
        by_item asked.Each (a_trans g) is = tt
        by_item asked.Step (a_trans g) is = (kept_item (a_trans g) is no_such_name, tt)
        by_item asked.Kept (a_trans g) is = tt
        by_item asked.First (a_declaration role d) is = tt
        by_item asked.Each (a_declaration role d) is = tt
        by_item asked.Step (a_declaration role d) is = tt
        by_item asked.Kept (a_declaration frozen_role d) is = kept_facts x.place d.name d.what (λ other. declared_means p accepted x n frozen_role d (item_at p accepted i x e j n f) is other)
        by_item asked.Kept (a_declaration state d) is = tt
        by_item asked.Kept (a_declaration input d) is = tt
        by_item asked.First (a_definition d) is = tt
        by_item asked.Each (a_definition d) is = tt
        by_item asked.Step (a_definition d) is = tt
        by_item asked.Kept (a_definition d) is = tt
        by_item asked.First (some_constants xs) is = tt
        by_item asked.Each (some_constants xs) is = tt
        by_item asked.Step (some_constants xs) is = tt
        by_item asked.Kept (some_constants xs) is = tt

  -- a name that means a variable is found to be one
  variable_meaning : (places : List ℕ) (bound : ℕ) (f : Found) (at : Place) (y : Text) (m : Meaning) → Denotes p f m → m ≡ a_variable_at at y → is_variable_within (bounds_with p bound) (leaf_found places f) ≡ true
  variable_meaning places bound (found.Variable i role) at y m d same =
      let v : (v : Visit) × (slice_get (variables_of p) i ≡ Some v) × (v.place ≡ at) × (v.decl.name ≡ y) × (v.role ≡ role_of role) = subst (Denotes p (found.Variable i role)) same d in
      lt-ltb i (length (variables_of p)) (get_less (variables_of p) i v.0 v.1)
  variable_meaning places bound (found.Definition k) at y m d same = absurd (subst (Denotes p (found.Definition k)) same d)
  variable_meaning places bound (found.Instance k) at y m d same = absurd (subst (Denotes p (found.Instance k)) same d)
  variable_meaning places bound (found.Symbol k) at y m d same = absurd (subst (Denotes p (found.Symbol k)) same d)
  variable_meaning places bound found.Nothing at y m d same = absurd (subst (Denotes p found.Nothing) same d)
  variable_meaning places bound found.Loop at y m d same = absurd (subst (Denotes p found.Loop) same d)

  variable_found : (places : List ℕ) (bound : ℕ) (f : Found) (at : Place) (y : Text) → IsFound p at (y ∷ []) f → Means p at (y ∷ []) (a_variable_at at y) → is_variable_within (bounds_with p bound) (leaf_found places f) ≡ true
  variable_found places bound found.Nothing at y is means = let none : None ≡ Some (a_variable_at at y) = sym (is.no_meaning means.0) ∙ means.1 in cc
  variable_found places bound found.Loop at y is means = let none : None ≡ Some (a_variable_at at y) = sym (meets_loop_nothing p at (y ∷ []) is means.0) ∙ means.1 in cc
  variable_found places bound (found.Variable i role) at y is means =
      variable_meaning places bound (found.Variable i role) at y is.0 is.2 (same_meaning is.1.0 means.0 p at (y ∷ []) is.0 (a_variable_at at y) is.1.1 means.1)
  variable_found places bound (found.Definition i) at y is means =
      variable_meaning places bound (found.Definition i) at y is.0 is.2 (same_meaning is.1.0 means.0 p at (y ∷ []) is.0 (a_variable_at at y) is.1.1 means.1)
  variable_found places bound (found.Instance i) at y is means =
      variable_meaning places bound (found.Instance i) at y is.0 is.2 (same_meaning is.1.0 means.0 p at (y ∷ []) is.0 (a_variable_at at y) is.1.1 means.1)
  variable_found places bound (found.Symbol i) at y is means =
      variable_meaning places bound (found.Symbol i) at y is.0 is.2 (same_meaning is.1.0 means.0 p at (y ∷ []) is.0 (a_variable_at at y) is.1.1 means.1)

module _ (s : Scene) (n : Needs) (is : IsScene s) (needs : AreNeeds (program_of s) n) (accepted : IsAccepted (program_of s)) where
  bound : ℕ
  bound = length n.order.items

  -- the names of a condition have leaves
  condition_known : (spot : ℕ) (x : FlatInstance) → slice_get (instances_of (program_of s)) spot ≡ Some x → (c : Condition) → CondFacts (program_of s) x.place c →
      IsConditionKnown (leaf_at s n spot) (bounds_with (program_of s) (length n.order.items)) c
  condition_known spot x e (plain g) facts = value_known s n is needs accepted spot x g e facts
  condition_known spot x e (now_among y g) facts =
      (variable_found (program_of s) n.places.items (length n.order.items) (found_at s spot (y ∷ [])) x.place y (scene_found s is (y ∷ []) spot x e) facts.0, value_known s n is needs accepted spot x g e facts.1)
  condition_known spot x e (next_among y g) facts =
      (variable_found (program_of s) n.places.items (length n.order.items) (found_at s spot (y ∷ [])) x.place y (scene_found s is (y ∷ []) spot x e) facts.0, value_known s n is needs accepted spot x g e facts.1)
  condition_known spot x e (kept y) facts =
      variable_found (program_of s) n.places.items (length n.order.items) (found_at s spot (y ∷ [])) x.place y (scene_found s is (y ∷ []) spot x e) facts

  conditions_known : (spot : ℕ) (x : FlatInstance) → slice_get (instances_of (program_of s)) spot ≡ Some x → (cs : List Condition) → Each (CondFacts (program_of s) x.place) cs →
      Each (IsConditionKnown (leaf_at s n spot) (bounds_with (program_of s) (length n.order.items))) cs
  conditions_known spot x e [] h = tt
  conditions_known spot x e (c ∷ cs) h = (condition_known spot x e c h.0, conditions_known spot x e cs h.1)

  pub all_known : (a : AskedFormulas) → AreConditionsKnown s n (bounds_with (program_of s) (length n.order.items)) (conditions_asked a)
  all_known a spot j i f = by_instance (slice_get (instances_of (program_of s)) spot) refl f
    where
      by_instance : (o : Option FlatInstance) → slice_get (instances_of (program_of s)) spot ≡ o → slice_get (items_of_instance (program_of s) o) j ≡ Some i →
          Each (IsConditionKnown (leaf_at s n spot) (bounds_with (program_of s) (length n.order.items))) (conditions_asked a i.item)
      by_instance None e h = cc
      by_instance (Some x) e h = conditions_known spot x e (conditions_asked a i.item) (facts_of (program_of s) accepted a spot x e j i h i.item refl)

  -- a condition with what is told of its formula
  pub record IsAskedAs (w : Written) (t : Told) : Type 0 where
    pub spot : ℕ
    pub at : FlatInstance
    pub is_at : slice_get (instances_of (program_of s)) spot ≡ Some at
    pub place : at.place ≡ w.place
    pub facts : CondFacts (program_of s) at.place w.condition
    pub told : t ≡ record { tree = asked_condition (leaf_at s n spot) w.condition; item = w.item; number = spot }

  asked_each : (spot : ℕ) (x : FlatInstance) → slice_get (instances_of (program_of s)) spot ≡ Some x → (item : ℕ) (cs : List Condition) → Each (CondFacts (program_of s) x.place) cs →
      EachBoth IsAskedAs (map (λ c. record { place = x.place; item = item; condition = c }) cs) (asked_conditions (leaf_at s n spot) spot item cs)
  asked_each spot x e item [] h = tt
  asked_each spot x e item (c ∷ cs) h = (record { spot = spot; at = x; is_at = e; place = refl; facts = h.0; told = refl }, asked_each spot x e item cs h.1)

  asked_of_items : (a : AskedFormulas) (spot : ℕ) (x : FlatInstance) → slice_get (instances_of (program_of s)) spot ≡ Some x → (items : List NumberedItem) →
      ((j : ℕ) (i : NumberedItem) → slice_get items j ≡ Some i → Each (CondFacts (program_of s) x.place) (conditions_asked a i.item)) →
      EachBoth IsAskedAs (flat_map (written_at (conditions_asked a) x.place) items) (asked_items s n (conditions_asked a) spot items)
  asked_of_items a spot x e [] facts = tt
  asked_of_items a spot x e (i ∷ items) facts =
      both_join IsAskedAs (written_at (conditions_asked a) x.place i) (asked_item (leaf_at s n spot) spot (conditions_asked a) i) (flat_map (written_at (conditions_asked a) x.place) items) (asked_items s n (conditions_asked a) spot items)
      (asked_each spot x e i.number (conditions_asked a i.item) (facts 0 i refl)) (asked_of_items a spot x e items (λ j. facts (suc j)))

  asked_of : (a : AskedFormulas) (k : ℕ) (xs : List FlatInstance) → ((i : ℕ) (x : FlatInstance) → slice_get xs i ≡ Some x → slice_get (instances_of (program_of s)) (k + i) ≡ Some x) →
      EachBoth IsAskedAs (flat_map (λ (at : FlatInstance). flat_map (written_at (conditions_asked a) at.place) (items_named (program_of s) at.module_name)) xs) (asked_from s n (conditions_asked a) k xs)
  asked_of a k [] there = tt
  asked_of a k (x ∷ xs) there =
      let here : k + 0 ≡ k = omega arith in
      let is_x : slice_get (instances_of (program_of s)) k ≡ Some x = subst (λ i. slice_get (instances_of (program_of s)) i ≡ Some x) here (there 0 x refl) in
      both_join IsAskedAs (flat_map (written_at (conditions_asked a) x.place) (items_named (program_of s) x.module_name)) (asked_items s n (conditions_asked a) k (items_named (program_of s) x.module_name))
      (flat_map (λ (at : FlatInstance). flat_map (written_at (conditions_asked a) at.place) (items_named (program_of s) at.module_name)) xs) (asked_from s n (conditions_asked a) (suc k) xs)
      (asked_of_items a k x is_x (items_named (program_of s) x.module_name) (λ j i f. facts_of (program_of s) accepted a k x is_x j i f i.item refl))
      (asked_of a (suc k) xs (λ i y e. let later : k + suc i ≡ suc k + i = omega arith in subst (λ q. slice_get (instances_of (program_of s)) q ≡ Some y) later (there (suc i) y e)))

  pub asked_all : (a : AskedFormulas) → EachBoth IsAskedAs (conditions (conditions_asked a) (program_of s)) (asked_from s n (conditions_asked a) 0 (instances_of (program_of s)))
  asked_all a = asked_of a 0 (instances_of (program_of s)) (λ i x e. let same : i ≡ 0 + i = omega arith in subst (λ q. slice_get (instances_of (program_of s)) q ≡ Some x) same e)

  module _ (m : FlatModel) (variables : EachBoth (IsDeclaredBy (program_of s)) (variables_of (program_of s)) m.variables) (symbols : m.symbols ≡ symbols_of (program_of s)) (instances : m.instances ≡ instances_of (program_of s)) where
    -- a leaf of a name that means a variable is the variable's number
    number_of_leaf : (at : Place) (y : Text) (l : FlatLeaf) → StandsFor m (definitions s n is needs accepted) l (a_variable_at at y) → (i : ℕ) × (l ≡ flat_variable i) × IsVariableNumber m at y i
    number_of_leaf at y (flat_variable i) d = (i, refl, record { variable = d.0; is = d.1; same_place = d.2; same_name = d.3 })
    number_of_leaf at y (flat_symbol i) d = absurd d
    number_of_leaf at y (flat_definition i) d = absurd d

    target_number : (spot : ℕ) (x : FlatInstance) → slice_get (instances_of (program_of s)) spot ≡ Some x → (y : Text) → Means (program_of s) x.place (y ∷ []) (a_variable_at x.place y) →
        (l : FlatLeaf) → leaf_at s n spot (y ∷ []) ≡ Some l → (i : ℕ) × (l ≡ flat_variable i) × IsVariableNumber m x.place y i
    target_number spot x e y means l is_l =
        let d : IsLeafOf (program_of s) m (definitions s n is needs accepted) x.place (y ∷ []) l =
        leaf_means s n is needs accepted m variables symbols x.place (y ∷ []) (found_at s spot (y ∷ [])) (scene_found s is (y ∷ []) spot x e) l is_l in
        let same : d.0 ≡ a_variable_at x.place y = same_meaning d.1.0 means.0 (program_of s) x.place (y ∷ []) d.0 (a_variable_at x.place y) d.1.1 means.1 in
        number_of_leaf x.place y l (subst (StandsFor m (definitions s n is needs accepted) l) same d.2)

    resolved_there : (spot : ℕ) (x : FlatInstance) → slice_get (instances_of (program_of s)) spot ≡ Some x → (e : Formula) (t : Tree FlatLeaf) → tree_map Some t ≡ tree_map (leaf_at s n spot) e → IsResolved (resolver s n x.place) e t
    resolved_there spot x is_x e t h = h ∙ sym (ap (λ o. tree_map (leaf_by s n o) e) (resolver_at s n is needs accepted spot x is_x))

    condition_tree : (spot : ℕ) (x : FlatInstance) → slice_get (instances_of (program_of s)) spot ≡ Some x → (c : Condition) → CondFacts (program_of s) x.place c → (t : Tree FlatLeaf) →
        tree_map Some t ≡ asked_condition (leaf_at s n spot) c → IsConditionTree m (resolver s n) x.place c t
    condition_tree spot x e (plain g) facts t h = resolved_there spot x e g t h
    condition_tree spot x e (now_among y g) facts t h =
        let b : IsBinary op.Within (leaf (leaf_at s n spot (y ∷ []))) (tree_map (leaf_at s n spot) g) t = of_binary op.Within (leaf (leaf_at s n spot (y ∷ []))) (tree_map (leaf_at s n spot) g) t h in
        let l : (l : FlatLeaf) × (b.first ≡ leaf l) × (leaf_at s n spot (y ∷ []) ≡ Some l) = of_leaf (leaf_at s n spot (y ∷ [])) b.first b.first_told in
        let i : (i : ℕ) × (l.0 ≡ flat_variable i) × IsVariableNumber m x.place y i = target_number spot x e y facts.0 l.0 l.2 in
        record {
          number = i.0;
          is_number = i.2;
          value = b.second;
          resolved = resolved_there spot x e g b.second b.second_told;
          is = b.is ∙ ap (λ u. binary op.Within u b.second) (l.1 ∙ ap leaf i.1);
        }
    condition_tree spot x e (next_among y g) facts t h =
        let b : IsBinary op.Within (next_of (leaf (leaf_at s n spot (y ∷ [])))) (tree_map (leaf_at s n spot) g) t = of_binary op.Within (next_of (leaf (leaf_at s n spot (y ∷ [])))) (tree_map (leaf_at s n spot) g) t h in
        let v : (v : Tree FlatLeaf) × (b.first ≡ next_of v) × (tree_map Some v ≡ leaf (leaf_at s n spot (y ∷ []))) = of_next (leaf (leaf_at s n spot (y ∷ []))) b.first b.first_told in
        let l : (l : FlatLeaf) × (v.0 ≡ leaf l) × (leaf_at s n spot (y ∷ []) ≡ Some l) = of_leaf (leaf_at s n spot (y ∷ [])) v.0 v.2 in
        let i : (i : ℕ) × (l.0 ≡ flat_variable i) × IsVariableNumber m x.place y i = target_number spot x e y facts.0 l.0 l.2 in
        record {
          number = i.0;
          is_number = i.2;
          value = b.second;
          resolved = resolved_there spot x e g b.second b.second_told;
          is = b.is ∙ ap (λ u. binary op.Within u b.second) (v.1 ∙ ap next_of (l.1 ∙ ap leaf i.1));
        }
    condition_tree spot x e (kept y) facts t h =
        let b : IsBinary op.Within (next_of (leaf (leaf_at s n spot (y ∷ [])))) (leaf (leaf_at s n spot (y ∷ []))) t = of_binary op.Within (next_of (leaf (leaf_at s n spot (y ∷ [])))) (leaf (leaf_at s n spot (y ∷ []))) t h in
        let v : (v : Tree FlatLeaf) × (b.first ≡ next_of v) × (tree_map Some v ≡ leaf (leaf_at s n spot (y ∷ []))) = of_next (leaf (leaf_at s n spot (y ∷ []))) b.first b.first_told in
        let l : (l : FlatLeaf) × (v.0 ≡ leaf l) × (leaf_at s n spot (y ∷ []) ≡ Some l) = of_leaf (leaf_at s n spot (y ∷ [])) v.0 v.2 in
        let k : (k : FlatLeaf) × (b.second ≡ leaf k) × (leaf_at s n spot (y ∷ []) ≡ Some k) = of_leaf (leaf_at s n spot (y ∷ [])) b.second b.second_told in
        let i : (i : ℕ) × (l.0 ≡ flat_variable i) × IsVariableNumber m x.place y i = target_number spot x e y facts l.0 l.2 in
        let one : k.0 ≡ l.0 = of_option k.0 l.0 (sym k.2 ∙ l.2) in
        record {
          number = i.0;
          is_number = i.2;
          is = b.is ∙ ap (λ u. binary op.Within u b.second) (v.1 ∙ ap next_of (l.1 ∙ ap leaf i.1)) ∙ ap (binary op.Within (next_of (leaf (flat_variable i.0)))) (k.1 ∙ ap leaf (one ∙ i.1));
        }
      where
        of_option : (a b : FlatLeaf) → Some a ≡ Some b → a ≡ b
        of_option a b e = cc

    formula_of : (w : Written) (t : Told) (f : FormulaOf) → IsAskedAs w t → told f ≡ t → IsFormulaOf m (resolver s n) w (formula_tree f)
    formula_of w t f a e =
        let whole : told f ≡ record { tree = asked_condition (leaf_at s n a.spot) w.condition; item = w.item; number = a.spot } = e ∙ a.told in
        let tree : tree_map Some (flat_tree f.value) ≡ asked_condition (leaf_at s n a.spot) w.condition = ap (λ (t : Told). t.tree) whole in
        record {
          tree = subst (λ at. IsConditionTree m (resolver s n) at w.condition (flat_tree f.value)) a.place (condition_tree a.spot a.at a.is_at w.condition a.facts (flat_tree f.value) tree);
          item = ap (λ (t : Told). t.item) whole;
          number = (a.at, ap (slice_get m.instances) (ap (λ (t : Told). t.number) whole) ∙ ap (λ xs. slice_get xs a.spot) instances ∙ a.is_at, a.place);
        }

    -- the formulas of one kind
    pub formulas_are : (a : AskedFormulas) (fs : List FormulaOf) → map told fs ≡ asked_from s n (conditions_asked a) 0 (instances_of (program_of s)) →
        EachBoth (IsFormulaOf m (resolver s n)) (conditions (conditions_asked a) (program_of s)) (map formula_tree fs)
    formulas_are a fs e = both_told IsAskedAs (IsFormulaOf m (resolver s n)) (conditions (conditions_asked a) (program_of s)) (asked_from s n (conditions_asked a) 0 (instances_of (program_of s))) fs formula_of (asked_all a) e

    -- those of two kinds, one after the other
    pub both_are : (a b : AskedFormulas) (fs : List FormulaOf) →
        map told fs ≡ asked_from s n (conditions_asked a) 0 (instances_of (program_of s)) ++ asked_from s n (conditions_asked b) 0 (instances_of (program_of s)) →
        EachBoth (IsFormulaOf m (resolver s n)) (conditions (conditions_asked a) (program_of s) ++ conditions (conditions_asked b) (program_of s)) (map formula_tree fs)
    both_are a b fs e =
        both_told IsAskedAs (IsFormulaOf m (resolver s n)) (conditions (conditions_asked a) (program_of s) ++ conditions (conditions_asked b) (program_of s))
        (asked_from s n (conditions_asked a) 0 (instances_of (program_of s)) ++ asked_from s n (conditions_asked b) 0 (instances_of (program_of s))) fs formula_of
        (both_join IsAskedAs (conditions (conditions_asked a) (program_of s)) (asked_from s n (conditions_asked a) 0 (instances_of (program_of s)))
        (conditions (conditions_asked b) (program_of s)) (asked_from s n (conditions_asked b) 0 (instances_of (program_of s))) (asked_all a) (asked_all b)) e
