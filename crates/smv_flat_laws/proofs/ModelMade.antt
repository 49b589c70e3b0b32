-- An accepted program has a flat model: its lists are those of `ModelLists`, over the order of `OrderMade`.
use Rattle.std.proofs.Common.{◌≡◌, ℕ, ◌≤◌, ◌<◌, arith, true, false, List, [], ◌∷◌, ◌++◌, Some, refl, sym, ◌∙◌, ap, subst, inl, inr}
use Rattle.std.specs.Prelude.{slice_get, map, flat_map, codes, ◌⊎◌}
use Rattle.std.proofs.lemmas.Option.{same_Some}
use Rattle.std.proofs.lemmas.Bool.{true_from_ne_false}
use Rattle.smv_language.specs.declared.program.Moment.{Moment}
use Rattle.smv_language.specs.declared.program.Moment.TheVariants.{Always, First, After}
use Rattle.smv_language.specs.Language.{Text, Path, Formula, DeclaredTree, boolean, range, members, instance, DeclTree, ModuleTree, ProgramTree, Place, Role, state, input, frozen_role, Kind, a_formal, a_variable, an_instance, undeclared, kind_declared, kind_at, module_at, find_module, Key, Meaning, a_variable_at, an_expression_at, an_instance_at, Means, Each, AtSome, EachBoth, IsInstance, FlatLeaf, FlatInstance, FlatFormula, FlatModel}
use Rattle.smv_language.specs.Scope.{a_define, a_symbol}
use Rattle.smv_language.proofs.ListLaws.{get_mapped, get_map}
use Rattle.smv_flat_laws.specs.NameResolution.{leaves_in, has_next, Definition, StandsFor, IsSound, IsBefore, IsResolved, AreDefinitions}
use Rattle.smv_flat_laws.specs.Items.{Item, a_declaration, a_definition, an_assignment, some_constants, an_init, an_invar, a_trans, NumberedItem, items_named, Visit, visits, instances_of, variables_of}
use Rattle.smv_flat_laws.specs.Looks.{MeansNothing}
use Rattle.smv_flat_laws.specs.Rules.{not_a_target, no_such_name, may_be_assigned, is_target, Needs, a_use, visit_sites, use_sites, IsKept, IsWalkable, IsAccepted, expression_of}
use Rattle.smv_flat_laws.specs.Model.{Condition, plain, now_among, next_among, kept, assigned_first, assigned_each, assigned_step, first_conditions, each_conditions, step_conditions, kept_declared, kept_conditions, Written, written_at, conditions, IsFormulaOf, IsConditionTree, IsVariableOf, symbols_of, Root, roots_of, AddsAll, IsDefinitionOf, IsFlatOf}
use Rattle.smv_flat_laws.proofs.Conditions.{each_at, each_flat, each_from, each_join, each_mapped}
use Rattle.smv_flat_laws.proofs.Flattening.{all_instances}
use Rattle.smv_flat_laws.proofs.Found.{among_in}
use Rattle.smv_flat_laws.proofs.KindLaws.{ItemFacts, kind_of_declaration}
use Rattle.smv_flat_laws.proofs.Listed.{all_added}
use Rattle.smv_flat_laws.proofs.Lists.{each_map, each_more, leaves_map}
use Rattle.smv_flat_laws.proofs.LookEnds.{decided}
use Rattle.smv_flat_laws.proofs.MeansListed.{IsThere, means_there, kind_there, written_is, IsGoodKey, good_written}
use Rattle.smv_flat_laws.proofs.ModelLists.{both_mapped, HasInstance, HasVariable, instance_numbered, variable_made, variable_numbered, symbol_place, symbol_numbered, root_numbered, item_of_key, definition_of, definition_is, keys_defined, key_place, key_numbered, leaf_meant, resolver, resolver_means, resolver_found, tree_made, tree_resolved, condition_made, definition_made, model_made}
use Rattle.smv_flat_laws.proofs.OneTree.{leaf_or}
use Rattle.smv_flat_laws.proofs.OrderMade.{all_keys, Naming, Settled, all_settled, Valued, values, AllAdded, ordered}
use Rattle.smv_flat_laws.proofs.Places.{In, facts_named, has_main}
use Rattle.smv_flat_laws.proofs.Reaches.{each_right}
use Rattle.smv_flat_laws.proofs.SymbolLaws.{symbols_among}
use Rattle.smv_flat_laws.proofs.Variables.{listed, RealVariable, real_variables}
use Rattle.smv_flat_laws.proofs.Walkable.{accepted_walkable, main_is_there}

-- only variables may be assigned
assigned_variable : (when : Moment) (k : Kind) → may_be_assigned when k ≡ true → (role : Role) × (what : DeclaredTree) × (k ≡ a_variable role what)
assigned_variable when (a_variable role what) h = (role, what, refl)
assigned_variable Always (a_formal i) h = cc
assigned_variable First (a_formal i) h = cc
assigned_variable After (a_formal i) h = cc
assigned_variable Always (a_define e) h = cc
assigned_variable First (a_define e) h = cc
assigned_variable After (a_define e) h = cc
assigned_variable Always (an_instance m actuals) h = cc
assigned_variable First (an_instance m actuals) h = cc
assigned_variable After (an_instance m actuals) h = cc
assigned_variable Always undeclared h = cc
assigned_variable First undeclared h = cc
assigned_variable After undeclared h = cc

module _ (p : ProgramTree) (accepted : IsAccepted p) where
  walkable : IsWalkable p
  walkable = accepted_walkable p accepted

  pub has_instance : (at : Place) (m : ModuleTree) → IsInstance p at m → HasInstance p at
  has_instance at m is = (all_instances p walkable).all at m is

  has_variable : (at : Place) (x : Text) (role : Role) (what : DeclaredTree) → kind_at (module_at p at) x ≡ a_variable role what → HasVariable p at x
  has_variable at x role what kind =
      let t = kind_there p at x (a_variable role what) kind (λ bad. cc) in
      let l : (v : Visit) × In v (variables_of p) × (v.place ≡ at) × (v.decl.name ≡ x) × (v.role ≡ role) × (v.decl.what ≡ what) = listed p walkable at x role what t in
      (l.0, l.1, l.2, l.3)

  -- What a condition needs at an instance: its names have values, and its variable is one of the instance.
  abbrev HasValues : Place → Formula → Type 0
  HasValues at e = Each (Valued p accepted at) (leaves_in e)

  abbrev Fits : Place → Condition → Type 0
  Fits at (plain e) = HasValues at e
  Fits at (now_among x e) = HasVariable p at x × HasValues at e
  Fits at (next_among x e) = HasVariable p at x × HasValues at e
  Fits at (kept x) = HasVariable p at x

  record AllFit (at : Place) (item : Item) : Type 0 where
    pub first : Each (Fits at) (first_conditions item)
    pub each : Each (Fits at) (each_conditions item)
    pub step : Each (Fits at) (step_conditions item)
    pub kept : Each (Fits at) (kept_conditions item)

  target_there : (at : Place) (when : Moment) (target : Path) (x : Text) → is_target p at when target ≡ true → target ≡ x ∷ [] → HasVariable p at x
  target_there at when target x h same =
      let test : may_be_assigned when (kind_at (module_at p at) x) ≡ true = subst (λ t. is_target p at when t ≡ true) same h in
      let v : (role : Role) × (what : DeclaredTree) × (kind_at (module_at p at) x ≡ a_variable role what) = assigned_variable when (kind_at (module_at p at) x) test in
      has_variable at x v.0 v.1 v.2

  first_fits : (at : Place) (when : Moment) (target : Path) (e : Formula) → is_target p at when target ≡ true → HasValues at e → Each (Fits at) (assigned_first when target e)
  first_fits at First [] e h v = tt
  first_fits at First (x ∷ []) e h v = ((target_there at First (x ∷ []) x h refl, v), tt)
  first_fits at First (x ∷ y ∷ rest) e h v = tt
  first_fits at Always target e h v = tt
  first_fits at After target e h v = tt

  each_fits : (at : Place) (when : Moment) (target : Path) (e : Formula) → is_target p at when target ≡ true → HasValues at e → Each (Fits at) (assigned_each when target e)
  each_fits at Always [] e h v = tt
  each_fits at Always (x ∷ []) e h v = ((target_there at Always (x ∷ []) x h refl, v), tt)
  each_fits at Always (x ∷ y ∷ rest) e h v = tt
  each_fits at First target e h v = tt
  each_fits at After target e h v = tt

  step_fits : (at : Place) (when : Moment) (target : Path) (e : Formula) → is_target p at when target ≡ true → HasValues at e → Each (Fits at) (assigned_step when target e)
  step_fits at After [] e h v = tt
  step_fits at After (x ∷ []) e h v = ((target_there at After (x ∷ []) x h refl, v), tt)
  step_fits at After (x ∷ y ∷ rest) e h v = tt
  step_fits at First target e h v = tt
  step_fits at Always target e h v = tt

  kept_fits : (at : Place) (x : Text) (what : DeclaredTree) → kind_at (module_at p at) x ≡ kind_declared frozen_role what → Each (Fits at) (kept_declared x what)
  kept_fits at x boolean kind = (has_variable at x frozen_role boolean kind, tt)
  kept_fits at x (range lo hi) kind = (has_variable at x frozen_role (range lo hi) kind, tt)
  kept_fits at x (members ms) kind = (has_variable at x frozen_role (members ms) kind, tt)
  kept_fits at x (instance m actuals) kind = tt

  declared_fits : (at : Place) (role : Role) (d : DeclTree) → kind_at (module_at p at) d.name ≡ kind_declared role d.what → AllFit at (a_declaration role d)
  declared_fits at state d kind = record { first = tt; each = tt; step = tt; kept = tt }
  declared_fits at input d kind = record { first = tt; each = tt; step = tt; kept = tt }
  declared_fits at frozen_role d kind = record { first = tt; each = tt; step = tt; kept = kept_fits at d.name d.what kind }

  item_fits : (x : FlatInstance) (m : ModuleTree) → IsInstance p x.place m → (number : ℕ) (before : List Item) (item : Item) → ItemFacts m (record { number = number; before = before; item = item }) →
      IsKept p (a_use x (record { number = number; before = before; item = item })) → AllFit x.place item
  item_fits x m is number before (a_declaration role d) facts keeps =
      declared_fits x.place role d (ap (λ o. kind_at o d.name) is ∙ kind_of_declaration m before role d facts.after facts.among facts.fresh)
  item_fits x m is number before (a_definition d) facts keeps = record { first = tt; each = tt; step = tt; kept = tt }
  item_fits x m is number before (an_assignment a) facts keeps =
      let target : is_target p x.place a.when a.target ≡ true = true_from_ne_false (is_target p x.place a.when a.target) (keeps not_a_target) in
      let v : HasValues x.place a.value = values p accepted x.place a.value (keeps no_such_name) in
      record { first = first_fits x.place a.when a.target a.value target v; each = each_fits x.place a.when a.target a.value target v; step = step_fits x.place a.when a.target a.value target v; kept = tt }
  item_fits x m is number before (some_constants xs) facts keeps = record { first = tt; each = tt; step = tt; kept = tt }
  item_fits x m is number before (an_init e) facts keeps = record { first = (values p accepted x.place e (keeps no_such_name), tt); each = tt; step = tt; kept = tt }
  item_fits x m is number before (an_invar e) facts keeps = record { first = tt; each = (values p accepted x.place e (keeps no_such_name), tt); step = tt; kept = tt }
  item_fits x m is number before (a_trans e) facts keeps = record { first = tt; each = tt; step = (values p accepted x.place e (keeps no_such_name), tt); kept = tt }

  -- a condition at an instance
  abbrev FitsThere : Written → Type 0
  FitsThere w = Fits w.place w.condition × HasInstance p w.place

  uses : Each (IsKept p) (use_sites p)
  uses = each_right (IsKept p) (visit_sites [] (visits p)) (use_sites p) (each_right (IsKept p) _ _ accepted.1)

  uses_of : (i : ℕ) (x : FlatInstance) → slice_get (instances_of p) i ≡ Some x → Each (λ n. IsKept p (a_use x n)) (items_named p x.module_name)
  uses_of i x e =
      (each_mapped (IsKept p) (a_use x) (items_named p x.module_name)).0
      (each_at (λ (x : FlatInstance). Each (IsKept p) (map (a_use x) (items_named p x.module_name))) (instances_of p) i x
      ((each_flat (IsKept p) (λ (x : FlatInstance). map (a_use x) (items_named p x.module_name)) (instances_of p)).0 uses) e)

  all_fit : (what : Item → List Condition) → ((at : Place) (item : Item) → AllFit at item → Each (Fits at) (what item)) → Each FitsThere (conditions what p)
  all_fit what part =
      (each_flat FitsThere (λ (x : FlatInstance). flat_map (written_at what x.place) (items_named p x.module_name)) (instances_of p)).1
      (each_from (λ (x : FlatInstance). Each FitsThere (flat_map (written_at what x.place) (items_named p x.module_name))) (instances_of p) of_instance)
    where
      of_instance : (i : ℕ) (x : FlatInstance) → slice_get (instances_of p) i ≡ Some x → Each FitsThere (flat_map (written_at what x.place) (items_named p x.module_name))
      of_instance i x e =
          let real : (m : ModuleTree) × IsInstance p x.place m × (find_module p x.module_name ≡ Some m) = (all_instances p walkable).real i x e in
          (each_flat FitsThere (written_at what x.place) (items_named p x.module_name)).1
          (each_from (λ (n : NumberedItem). Each FitsThere (written_at what x.place n)) (items_named p x.module_name)
          (λ j n f. let fit : AllFit x.place n.item =
          item_fits x real.0 real.1 n.number n.before n.item (each_at (ItemFacts real.0) (items_named p x.module_name) j n (facts_named p walkable x.module_name real.0 real.2) f)
          (each_at (λ n. IsKept p (a_use x n)) (items_named p x.module_name) j n (uses_of i x e) f) in
          (each_mapped FitsThere (λ c. record { place = x.place; item = n.number; condition = c }) (what n.item)).1
          (each_more (Fits x.place) (λ c. Fits x.place c × HasInstance p x.place) (what n.item) (λ c g. (g, (i, x, e, refl))) (part x.place n.item fit))))

  -- Over an order of the definitions: each good, each after those that it needs, and all of them.
  module _ (ks : List Key) (good : Each (IsGoodKey p) ks) (settled : Settled p ks) (all : Each (λ k. In k ks) (all_keys p)) (adds : AddsAll p [] (all_keys p) ks)
      (decide : (at : Place) (name : Path) → ((m : Meaning) × Means p at name m) ⊎ MeansNothing p at name) where
    listed_key : (key : Key) (bt : Place) (e : Formula) → IsThere p (an_expression_at key bt e) → In key ks
    listed_key key bt e there =
        let is : IsGoodKey p key = good_written p accepted key bt e there in
        each_at (λ k. In k ks) (all_keys p) is.listed.0 key all (get_map (λ (r : Root). r.key) (roots_of p) is.listed.0 is.root is.listed.1 ∙ ap Some is.key)

    -- a leaf that is there stands before a place, where the definitions that are named do
    has_leaf : (m : Meaning) → ((inside : Place) → m ≡ an_instance_at inside → ⊥) → (l : FlatLeaf) × (leaf_meant p ks decide m ≡ Some l)
    has_leaf (a_variable_at at x) value = (_, refl)
    has_leaf (an_expression_at key at e) value = (_, refl)
    has_leaf (an_instance_at at) value = absurd (value at refl)
    has_leaf (a_symbol x) value = (_, refl)

    resolved : (at : Place) (e : Formula) → HasValues at e → IsResolved (resolver p ks decide at) e (tree_made p ks decide at e)
    resolved at e v =
        tree_resolved p ks decide at e
        (each_more (Valued p accepted at) (λ name. Some (leaf_or (resolver p ks decide at name)) ≡ resolver p ks decide at name) (leaves_in e) of_name v)
      where
        of_name : (name : Path) → Valued p accepted at name → Some (leaf_or (resolver p ks decide at name)) ≡ resolver p ks decide at name
        of_name name v =
            let l : (l : FlatLeaf) × (leaf_meant p ks decide v.meaning ≡ Some l) = has_leaf v.meaning v.value in
            let is : resolver p ks decide at name ≡ Some l.0 = resolver_means p ks decide at name v.meaning v.means ∙ l.1 in
            ap (λ o. Some (leaf_or o)) is ∙ sym is

    module _ (j : ℕ) (k : Key) (is_k : slice_get ks j ≡ Some k) (at : Place) where
      meant_before : (name : Path) (m : Meaning) → Means p at name m → ((other : Key) → Naming p at other name → Needs p k other) → IsBefore j (leaf_or (leaf_meant p ks decide m))
      meant_before name (a_variable_at bt x) means into = tt
      meant_before name (an_instance_at bt) means into = tt
      meant_before name (a_symbol x) means into = tt
      meant_before name (an_expression_at key bt e) means into =
          let r : (i : ℕ) × (i < j) × (slice_get ks i ≡ Some key) = settled j k key is_k (into key (bt, e, means)) in
          let least : key_place p ks decide key ≤ r.0 = (key_numbered p ks decide key r.0 r.2).1 in
          let less : r.0 < j = r.1 in
          omega (arith, least, less)

      names_before : (names : List Path) → Each (Valued p accepted at) names → ((other : Key) → AtSome (Naming p at other) names → Needs p k other) →
          Each (λ name. IsBefore j (leaf_or (resolver p ks decide at name))) names
      names_before [] v into = tt
      names_before (name ∷ names) v into = (
        subst (λ o. IsBefore j (leaf_or o)) (sym (resolver_means p ks decide at name v.0.meaning v.0.means)) (meant_before name v.0.meaning v.0.means (λ other h. into other (inl h))),
        names_before names v.1 (λ other h. into other (inr h)),
      )

      tree_before : (e : Formula) → expression_of p k ≡ Some (at, e) → HasValues at e → Each (IsBefore j) (leaves_in (tree_made p ks decide at e))
      tree_before e is v =
          subst (Each (IsBefore j)) (sym (leaves_map (λ name. leaf_or (resolver p ks decide at name)) e))
          (each_map (IsBefore j) (λ name. leaf_or (resolver p ks decide at name)) (leaves_in e) (names_before (leaves_in e) v (λ other h. record { place = at; written = e; is = is; named = h })))

    good_at : (j : ℕ) (k : Key) → slice_get ks j ≡ Some k → IsGoodKey p k
    good_at j k e = each_at (IsGoodKey p) ks j k good e

    good_values : (k : Key) (g : IsGoodKey p k) → HasValues g.place g.written
    good_values k g = values p accepted g.place g.written g.valued

    module _ (m : FlatModel) (instances : m.instances ≡ instances_of p) (variables : m.variables ≡ map (variable_made p) (variables_of p)) (symbols : m.symbols ≡ symbols_of p)
        (definitions : m.definitions ≡ map (definition_made p ks decide) (map (definition_of p) ks)) where
      stands_for : (meaning : Meaning) → IsThere p meaning → (l : FlatLeaf) → leaf_meant p ks decide meaning ≡ Some l → StandsFor m (map (definition_of p) ks) l meaning
      stands_for (a_variable_at at x) there l e =
          let n = variable_numbered p m variables at x (has_variable at x there.0 there.1 there.2) in
          subst (λ l. StandsFor m (map (definition_of p) ks) l (a_variable_at at x)) (same_Some _ l e) (n.variable, n.is, n.same_place, n.same_name)
      stands_for (an_expression_at key at e) there l same =
          let i : In key ks = listed_key key at e there in
          subst (λ l. StandsFor m (map (definition_of p) ks) l (an_expression_at key at e)) (same_Some _ l same)
          (get_map (definition_of p) ks (key_place p ks decide key) key (key_numbered p ks decide key i.0 i.1).0 ∙ ap Some (definition_is p key at e (written_is p key at e there)))
      stands_for (an_instance_at at) there l e = cc
      stands_for (a_symbol x) there l e =
          subst (λ l. StandsFor m (map (definition_of p) ks) l (a_symbol x)) (same_Some _ l e)
          (ap (λ xs. slice_get xs (symbol_place p x)) symbols ∙ symbol_numbered p x (among_in (symbols_of p) x (symbols_among p x ∙ there)))

      sound : IsSound p m (map (definition_of p) ks) (resolver p ks decide)
      sound at name l e =
          let f : (m : Meaning) × Means p at name m × (leaf_meant p ks decide m ≡ Some l) = resolver_found p ks decide at name l e in
          (f.0, f.1, stands_for f.0 (means_there p f.1.0 at name f.0 f.1.1) l f.2)

      -- Definitions.
      abbrev good_definition : (k : Key) → IsGoodKey p k → Definition
      good_definition k g = record { key = k; place = g.place; written = g.written }

      abbrev AtDefinition : ℕ → Definition → Type 0
      AtDefinition j d = (f : FlatFormula) × (slice_get m.definitions j ≡ Some f) × IsResolved (resolver p ks decide d.place) d.written f.value × Each (IsBefore j) (leaves_in f.value) × (has_next d.written ≡ false)

      definitions_are : AreDefinitions p m (map (definition_of p) ks) (resolver p ks decide)
      definitions_are j d e =
          let k : (k : Key) × (slice_get ks j ≡ Some k) × (definition_of p k ≡ d) = get_mapped (definition_of p) ks j d e in
          let g : IsGoodKey p k.0 = good_at j k.0 k.1 in
          let same : good_definition k.0 g ≡ d = sym (definition_is p k.0 g.place g.written g.is) ∙ k.2 in
          subst (AtDefinition j) same (
            definition_made p ks decide (good_definition k.0 g),
            ap (λ fs. slice_get fs j) definitions ∙ get_map (definition_made p ks decide) (map (definition_of p) ks) j (good_definition k.0 g) (e ∙ ap Some (sym same)),
            resolved g.place g.written (good_values k.0 g),
            tree_before j k.0 k.1 g.place g.written g.is (good_values k.0 g),
            g.now,
          )

      definition_placed : (k : Key) → IsGoodKey p k → IsDefinitionOf p m (definition_of p k) (definition_made p ks decide (definition_of p k))
      definition_placed k g =
          let r : (s : Root) × In s (roots_of p) × (s.key ≡ k) × (item_of_key p k ≡ s.item) = root_numbered p k g.root g.listed g.key in
          subst (λ d. IsDefinitionOf p m d (definition_made p ks decide d)) (sym (definition_is p k g.place g.written g.is))
          (record { expression = g.is; root = (r.0, r.1, r.2, r.3); number = instance_numbered p m instances g.place (has_instance g.place g.tree g.inside) })

      placed : EachBoth (IsDefinitionOf p m) (map (definition_of p) ks) (map (definition_made p ks decide) (map (definition_of p) ks))
      placed =
          both_mapped (IsDefinitionOf p m) (definition_made p ks decide) (map (definition_of p) ks)
          (each_map (λ d. IsDefinitionOf p m d (definition_made p ks decide d)) (definition_of p) ks
          (each_more (IsGoodKey p) (λ k. IsDefinitionOf p m (definition_of p k) (definition_made p ks decide (definition_of p k))) ks definition_placed good))

      -- Formulas.
      condition_is : (at : Place) (c : Condition) → Fits at c → IsConditionTree m (resolver p ks decide) at c (condition_made p ks decide (record { place = at; item = 0; condition = c })).value
      condition_is at (plain e) fit = resolved at e fit
      condition_is at (now_among x e) fit =
          record { number = _; is_number = variable_numbered p m variables at x fit.0; value = tree_made p ks decide at e; resolved = resolved at e fit.1; is = refl }
      condition_is at (next_among x e) fit =
          record { number = _; is_number = variable_numbered p m variables at x fit.0; value = tree_made p ks decide at e; resolved = resolved at e fit.1; is = refl }
      condition_is at (kept x) fit = record { number = _; is_number = variable_numbered p m variables at x fit; is = refl }

      formula_is : (w : Written) → FitsThere w → IsFormulaOf m (resolver p ks decide) w (condition_made p ks decide w)
      formula_is w fit = record { tree = condition_is w.place w.condition fit.0; item = refl; number = instance_numbered p m instances w.place fit.1 }

      formulas_are : (ws : List Written) → Each FitsThere ws → EachBoth (IsFormulaOf m (resolver p ks decide)) ws (map (condition_made p ks decide) ws)
      formulas_are ws fit =
          both_mapped (IsFormulaOf m (resolver p ks decide)) (condition_made p ks decide) ws (each_more FitsThere (λ w. IsFormulaOf m (resolver p ks decide) w (condition_made p ks decide w)) ws formula_is fit)

      -- Variables.
      variable_is : (v : Visit) → RealVariable p v → IsVariableOf m v (variable_made p v)
      variable_is v real = record { place = refl; name = refl; role = refl; declared = refl; item = refl; number = instance_numbered p m instances v.place (has_instance v.place real.0 real.1) }

      variables_are : EachBoth (IsVariableOf m) (variables_of p) (map (variable_made p) (variables_of p))
      variables_are =
          let main : (k : ModuleTree) × (find_module p (codes "main") ≡ Some k) = main_is_there p walkable in
          both_mapped (IsVariableOf m) (variable_made p) (variables_of p)
          (each_more (RealVariable p) (λ v. IsVariableOf m v (variable_made p v)) (variables_of p) variable_is (real_variables p (visits p) (has_main p walkable main.0 main.1)))

    model_is : IsFlatOf p (model_made p ks decide)
    model_is = record {
      resolver = resolver p ks decide;
      written = map (definition_of p) ks;
      sound = sound (model_made p ks decide) refl refl refl refl;
      instances = refl;
      variables = variables_are (model_made p ks decide) refl refl refl refl;
      symbols = refl;
      order = subst (AddsAll p [] (all_keys p)) (sym (keys_defined p ks)) adds;
      placed = placed (model_made p ks decide) refl refl refl refl;
      definitions = definitions_are (model_made p ks decide) refl refl refl refl;
      at_first = formulas_are (model_made p ks decide) refl refl refl refl (conditions first_conditions p) (all_fit first_conditions (λ at item fit. fit.first));
      at_each = formulas_are (model_made p ks decide) refl refl refl refl (conditions each_conditions p) (all_fit each_conditions (λ at item fit. fit.each));
      at_step = formulas_are (model_made p ks decide) refl refl refl refl (conditions step_conditions p ++ conditions kept_conditions p)
          (each_join FitsThere (conditions step_conditions p) (conditions kept_conditions p) (all_fit step_conditions (λ at item fit. fit.step)) (all_fit kept_conditions (λ at item fit. fit.kept)));
    }

pub has_model : (p : ProgramTree) → IsAccepted p → (m : FlatModel) × IsFlatOf p m
has_model p accepted =
    let order : AllAdded p accepted [] (all_keys p) = ordered p accepted in (
      model_made p order.after (decided p accepted),
      model_is p accepted order.after order.good (all_settled p [] (all_keys p) order.after order.adds (λ j k other e n. cc)) (all_added p [] (all_keys p) order.after order.adds).0 order.adds (decided p accepted),
    )
