-- The lists that are made are the flat model of the scene's program.
use Rattle.std.proofs.Common.{◌≡◌, ℕ, zero, suc, ◌+◌, ◌<◌, true, false, ◌&&◌, List, [], ◌∷◌, ◌++◌, length, Option, Some, None, refl, sym, ◌∙◌, ap, subst, arith}
use Rattle.std.specs.Prelude.{slice_get, map, flat_map}
use Rattle.std.proofs.lemmas.Bool.{ltb-true}
use Rattle.std.proofs.lemmas.List.{length-map}
use Rattle.smv_language.specs.Language.{Tree, Trees, Branches, leaf, not_of, negate, next_of, binary, choice, case_of, set_of, span, no_tree, tree_then, no_branch, branch_then, Text, Formula, ModuleTree, tree_map, trees_map, branches_map, tree_of, Place, Key, Each, EachBoth, FlatInstance, FlatVariable, FlatFormula, FlatModel, leaf_of, flat_tree, place_of, instance_tree, variable_tree, formula_tree, model_tree, texts}
use Rattle.smv_language.specs.Tree.{truth, number}
use Rattle.smv_flat_laws.specs.NameResolution.{leaves_in, trees_leaves, branches_leaves, has_next, Definition, IsBefore, IsResolved, AreDefinitions}
use Rattle.smv_flat_laws.specs.Items.{modules_of, Visit, instances_of, variables_of}
use Rattle.smv_flat_laws.specs.Rules.{IsAccepted, expression_of}
use Rattle.smv_flat_laws.specs.Model.{Root, roots_of, symbols_of, AddsAll, IsInstanceNumber, IsVariableOf, IsDefinitionOf, IsFlatOf}
use Rattle.smv_flat_laws.proofs.Conditions.{each_at, each_join}
use Rattle.smv_flat_laws.proofs.Variables.{both_at, both_at_second}
use Rattle.smv_scope.specs.declared.bounds.Bounds.{Bounds}
use Rattle.smv_language.specs.declared.model.Flat.{Flat}
use Rattle.smv_language.specs.declared.model.Flat.TheVariants.{Var, Symbol, Definition as DefinitionOf}
use Rattle.smv_language.specs.declared.model.Formula.{Formula as FormulaOf}
use Rattle.smv_language.specs.declared.model.Variable.{Variable}
use Rattle.smv_language.specs.declared.model.FlatModel.{FlatModel as FlatModelOf}
use Rattle.smv_scope.specs.declared.modules.ModuleNames.{ModuleNames}
use Rattle.smv_scope.specs.declared.walk.Spot.{Spot}
use Rattle.smv_scope.specs.declared.names.Defined.{Defined}
use Rattle.smv_scope.specs.declared.names.Scene.{Scene}
use Rattle.smv_scope.specs.declared.needs.Needs.{Needs}
use Rattle.smv_flat.specs.declared.clauses.AskedFormulas.{AskedFormulas}
use Rattle.smv_flat.specs.declared.clauses.AskedFormulas.TheVariants as asked
use Rattle.smv_scope.specs.ClosedModels.{is_within, tree_all, trees_all, branches_all, is_closed, are_earlier}
use Rattle.smv_scope.specs.SceneTree.{HasNames, IsPlaced, IsSpot, IsDefined, program_of, IsScene}
use Rattle.smv_scope.specs.NeedsTree.{keys_of, IsKeyAt, AreNeeds}
use Rattle.smv_scope.specs.WalkFindings.{IsDeclaredBy, AreDeclared}
use Rattle.smv_flat.specs.ResolverOf.{leaf_at, leaf_by, resolver}
use Rattle.smv_flat.specs.FormulaLists.{Told, told, asked_defined, asked_definition, AreReady, AreConditionsKnown, conditions_asked, asked_from, instance_in, instance_told}
use Rattle.smv_flat.proofs.BuildAccepted.{IsGoodRoot}
use Rattle.smv_flat.proofs.BuildRoots.{good_roots}
use Rattle.smv_flat.proofs.BuildLeaves.{order, bounds_with, definition_known}
use Rattle.smv_scope.proofs.SceneItems.{both_more}
use Rattle.smv_flat.proofs.BuildSound.{definition_of, keys_of_definitions, definitions, definition_at, sound, resolver_at}
use Rattle.smv_flat.proofs.BuildFormulas.{all_known, formulas_are, both_are}
use Rattle.smv_scope.proofs.SceneNeeds.{both_from}
use Rattle.std.proofs.lemmas.Option.{slice_get_within as get_less}
use Rattle.smv_language.proofs.ListLaws.{get_mapped, get_map}
use Rattle.smv_language.proofs.BoolLaws.{left_true, right_true}
use Rattle.smv_language.proofs.ProgramLaws.{found_named}
use Rattle.smv_flat_laws.proofs.BothLaws.{both_size}
use Rattle.base_values.proofs.ListLaws.{get_within}

abbrev pub bounds_made : ℕ → ℕ → ℕ → Bounds
bounds_made v t d = record { variables = v; symbols = t; definitions = d }

abbrev made_instance : Place → Text → FlatInstance
made_instance at x = record { place = at; module_name = x }

-- A closed definition names those before it alone.
mutual
  names_before : (b : Bounds) (t : Tree Flat) → tree_all (is_within b) t ≡ true → Each (IsBefore b.definitions) (leaves_in (tree_map leaf_of t))
  names_before b (truth x) h = tt
  names_before b (number n) h = tt
  names_before b (leaf (Var i)) h = (tt, tt)
  names_before b (leaf (Symbol i)) h = (tt, tt)
  names_before b (leaf (DefinitionOf i)) h = (ltb-true i b.definitions h, tt)
  names_before b (not_of t) h = names_before b t h
  names_before b (negate t) h = names_before b t h
  names_before b (next_of t) h = names_before b t h
  names_before b (binary o t u) h =
      each_join (IsBefore b.definitions) (leaves_in (tree_map leaf_of t)) (leaves_in (tree_map leaf_of u)) (names_before b t (left_true _ _ h)) (names_before b u (right_true _ _ h))
  names_before b (choice c t u) h =
      let rest : (tree_all (is_within b) t && tree_all (is_within b) u) ≡ true = right_true _ _ h in
      each_join (IsBefore b.definitions) (leaves_in (tree_map leaf_of c)) (leaves_in (tree_map leaf_of t) ++ leaves_in (tree_map leaf_of u)) (names_before b c (left_true _ _ h))
      (each_join (IsBefore b.definitions) (leaves_in (tree_map leaf_of t)) (leaves_in (tree_map leaf_of u)) (names_before b t (left_true _ _ rest)) (names_before b u (right_true _ _ rest)))
  names_before b (case_of bs) h = branches_before b bs h
  names_before b (set_of ts) h = trees_before b ts h
  names_before b (span lo hi) h = tt

  trees_before : (b : Bounds) (ts : Trees Flat) → trees_all (is_within b) ts ≡ true → Each (IsBefore b.definitions) (trees_leaves (trees_map leaf_of ts))
  trees_before b no_tree h = tt
  trees_before b (tree_then t ts) h =
      each_join (IsBefore b.definitions) (leaves_in (tree_map leaf_of t)) (trees_leaves (trees_map leaf_of ts)) (names_before b t (left_true _ _ h)) (trees_before b ts (right_true _ _ h))

  branches_before : (b : Bounds) (bs : Branches Flat) → branches_all (is_within b) bs ≡ true → Each (IsBefore b.definitions) (branches_leaves (branches_map leaf_of bs))
  branches_before b no_branch h = tt
  branches_before b (branch_then c t bs) h =
      let rest : (tree_all (is_within b) t && branches_all (is_within b) bs) ≡ true = right_true _ _ h in
      each_join (IsBefore b.definitions) (leaves_in (tree_map leaf_of c)) (leaves_in (tree_map leaf_of t) ++ branches_leaves (branches_map leaf_of bs)) (names_before b c (left_true _ _ h))
      (each_join (IsBefore b.definitions) (leaves_in (tree_map leaf_of t)) (branches_leaves (branches_map leaf_of bs)) (names_before b t (left_true _ _ rest)) (branches_before b bs (right_true _ _ rest)))

earlier_at : (v s k : ℕ) (ds : List FormulaOf) (j : ℕ) (f : FormulaOf) → are_earlier v s k ds ≡ true → slice_get ds j ≡ Some f →
    is_closed (record { variables = v; symbols = s; definitions = k + j }) f.value ≡ true
earlier_at v s k [] j f h e = cc
earlier_at v s k (d ∷ ds) zero f h e =
    let same : d ≡ f = cc in
    let here : k ≡ k + 0 = omega arith in
    subst (λ n. is_closed (record { variables = v; symbols = s; definitions = n }) f.value ≡ true) here
    (subst (λ (g : FormulaOf). is_closed (record { variables = v; symbols = s; definitions = k }) g.value ≡ true) same (left_true _ _ h))
earlier_at v s k (d ∷ ds) (suc j) f h e =
    let later : suc k + j ≡ k + suc j = omega arith in
    subst (λ n. is_closed (record { variables = v; symbols = s; definitions = n }) f.value ≡ true) later (earlier_at v s (suc k) ds j f (right_true _ _ h) e)

-- an expression has no `next`
abbrev Next : Option (Place × Formula) → Type 0
Next None = Unit {0}
Next (Some w) = has_next w.1 ≡ false

module _ (s : Scene) (n : Needs) (is : IsScene s) (needs : AreNeeds (program_of s) n) (accepted : IsAccepted (program_of s)) where
  -- what is known of the definition at a place of the order
  pub record AtPlace (j : ℕ) : Type 0 where
    pub number : ℕ
    pub is_number : slice_get n.order.items j ≡ Some number
    pub root : Root
    pub is_root : slice_get (roots_of (program_of s)) number ≡ Some root
    pub defined : Defined
    pub is_defined : slice_get s.definitions.items number ≡ Some defined
    pub fits : IsDefined (program_of s) root defined

  pub at_place : (j k : ℕ) → slice_get n.order.items j ≡ Some k → AtPlace j
  at_place j k e =
      let b : (key : Key) × (slice_get (order s n is needs accepted).ordered j ≡ Some key) × IsKeyAt (program_of s) k key =
      both_at (IsKeyAt (program_of s)) n.order.items (order s n is needs accepted).ordered j k (order s n is needs accepted).each e in
      let r : (r : Root) × (slice_get (roots_of (program_of s)) k ≡ Some r) × (r.key ≡ b.0) = get_mapped (λ (r : Root). r.key) (roots_of (program_of s)) k b.0 b.2 in
      let d : (d : Defined) × (slice_get s.definitions.items k ≡ Some d) × IsDefined (program_of s) r.0 d =
      both_at (IsDefined (program_of s)) (roots_of (program_of s)) s.definitions.items k r.0 is.set.definitions r.1 in
      record { number = k; is_number = e; root = r.0; is_root = r.1; defined = d.0; is_defined = d.1; fits = d.2 }

  -- each definition is there, over those before it
  pub ready : AreReady s n (length (variables_of (program_of s))) (length (symbols_of (program_of s)))
  ready j k e =
      let a : AtPlace j = at_place j k e in
      let same : a.number ≡ k = of_option a.number k (sym a.is_number ∙ e) in
      let is_d : slice_get s.definitions.items k ≡ Some a.defined = subst (λ i. slice_get s.definitions.items i ≡ Some a.defined) same a.is_defined in
      record { defined = a.defined; is = is_d; known = definition_known s n is needs accepted j k a.defined e is_d }
    where
      of_option : (a b : ℕ) → Some a ≡ Some b → a ≡ b
      of_option a b e = cc

  -- Instances.
  name_there : (i : FlatInstance) (spot : Spot) (placed : IsPlaced (program_of s) i spot) → instance_told s spot ≡ i ∷ []
  name_there i spot placed =
      let b : (names : ModuleNames) × (slice_get s.modules.list.items spot.«module» ≡ Some names) × HasNames placed.tree names =
      both_at HasNames (modules_of (program_of s)) s.modules.list.items spot.«module» placed.tree is.set.modules.list placed.is in
      let name : b.0.«module».now.name ≡ i.module_name = ap (λ (m : ModuleTree). m.name) b.2.tree ∙ found_named (program_of s) i.module_name placed.tree.tree placed.named in
      ap (instance_in spot) b.1 ∙ ap (λ x. x ∷ []) (same_instance (place_of spot.path) i.place b.0.«module».now.name i.module_name placed.path name)
    where
      same_instance : (at bt : Place) (x y : Text) → at ≡ bt → x ≡ y → made_instance at x ≡ made_instance bt y
      same_instance at bt x y e f = cc

  instances_told : (xs : List FlatInstance) (spots : List Spot) → EachBoth (IsSpot (program_of s)) xs spots → flat_map (instance_told s) spots ≡ xs
  instances_told [] [] h = refl
  instances_told [] (y ∷ ys) h = absurd h
  instances_told (x ∷ xs) [] h = absurd h
  instances_told (x ∷ xs) (y ∷ ys) h = ap (λ zs. zs ++ flat_map (instance_told s) ys) (name_there x y h.0.placed) ∙ ap (λ zs. x ∷ zs) (instances_told xs ys h.1)

  pub all_instances : flat_map (instance_told s) s.spots.items ≡ instances_of (program_of s)
  all_instances = instances_told (instances_of (program_of s)) s.spots.items is.set.spots

  -- the definitions that are told are those of the program
  module _ (m : FlatModel) (instances : m.instances ≡ instances_of (program_of s)) (ds : List FormulaOf) (all : map told ds ≡ map (asked_definition s n) n.order.items) (v t : ℕ) (earlier : are_earlier v t 0 ds ≡ true) where
    pub record DefinitionAt (j : ℕ) (d : Definition) (f : FormulaOf) : Type 0 where
      pub at : AtPlace j
      pub written : d ≡ record { key = at.root.key; place = at.fits.at.place; written = tree_of at.defined.value.now }
      pub made : told f ≡ record { tree = tree_map (leaf_at s n at.defined.spot) (tree_of at.defined.value.now); item = at.defined.item; number = at.defined.spot }
      pub before : Each (IsBefore j) (leaves_in (flat_tree f.value))

    of_definition : (a b : Definition) → Some a ≡ Some b → a ≡ b
    of_definition a b e = cc

    of_told : (a b : Told) → Some a ≡ Some b → a ≡ b
    of_told a b e = cc

    definition_made : (j : ℕ) (d : Definition) (f : FormulaOf) → slice_get (definitions s n is needs accepted) j ≡ Some d → slice_get ds j ≡ Some f → DefinitionAt j d f
    definition_made j d f e g = record { at = a; written = written; made = is_told; before = before }
      where
        k : (k : Key) × (slice_get (order s n is needs accepted).ordered j ≡ Some k) × (definition_of (program_of s) k ≡ d)
        k = get_mapped (definition_of (program_of s)) (order s n is needs accepted).ordered j d e

        o : (i : ℕ) × (slice_get n.order.items j ≡ Some i) × IsKeyAt (program_of s) i k.0
        o = both_at_second (IsKeyAt (program_of s)) n.order.items (order s n is needs accepted).ordered j k.0 (order s n is needs accepted).each k.1

        a : AtPlace j
        a = at_place j o.0 o.1

        written : d ≡ record { key = a.root.key; place = a.fits.at.place; written = tree_of a.defined.value.now }
        written = of_definition d (record { key = a.root.key; place = a.fits.at.place; written = tree_of a.defined.value.now })
            (sym e ∙ definition_at s n is needs accepted a.number j a.root.key a.fits.at.place (tree_of a.defined.value.now) a.is_number
            (get_map (λ (r : Root). r.key) (roots_of (program_of s)) a.number a.root a.is_root) a.fits.expression)

        is_told : told f ≡ record { tree = tree_map (leaf_at s n a.defined.spot) (tree_of a.defined.value.now); item = a.defined.item; number = a.defined.spot }
        is_told = of_told (told f) (asked_defined s n (Some a.defined))
            (sym (get_map told ds j f g) ∙ ap (λ ts. slice_get ts j) all ∙ get_map (asked_definition s n) n.order.items j a.number a.is_number ∙ ap (λ x. Some (asked_defined s n x)) a.is_defined)

        before : Each (IsBefore j) (leaves_in (flat_tree f.value))
        before =
            let here : 0 + j ≡ j = omega arith in
            subst (λ i. Each (IsBefore i) (leaves_in (flat_tree f.value))) here
            (names_before (record { variables = v; symbols = t; definitions = 0 + j }) (tree_of f.value) (earlier_at v t 0 ds j f earlier g))

    same_many : length (definitions s n is needs accepted) ≡ length (map formula_tree ds)
    same_many =
        length-map (order s n is needs accepted).ordered (definition_of (program_of s)) ∙ sym (both_size (IsKeyAt (program_of s)) n.order.items (order s n is needs accepted).ordered (order s n is needs accepted).each)
        ∙ sym (length-map n.order.items (asked_definition s n)) ∙ ap (λ (ts : List Told). length ts) (sym all) ∙ length-map ds told ∙ sym (length-map ds formula_tree)

    is_instance : (d : Definition) (f : FormulaOf) (j : ℕ) → DefinitionAt j d f → IsInstanceNumber m d.place f.«instance»
    is_instance d f j a =
        (a.at.fits.at, ap (slice_get m.instances) (ap (λ (t : Told). t.number) a.made) ∙ ap (λ xs. slice_get xs a.at.defined.spot) instances ∙ a.at.fits.is, sym (ap (λ (d : Definition). d.place) a.written))

    placed_one : (j : ℕ) (d : Definition) (f : FormulaOf) → DefinitionAt j d f → IsDefinitionOf (program_of s) m d (formula_tree f)
    placed_one j d f a = record {
      expression = subst (λ (d : Definition). expression_of (program_of s) d.key ≡ Some (d.place, d.written)) (sym a.written) a.at.fits.expression;
      root = (a.at.root, (a.at.number, a.at.is_root), sym (ap (λ (d : Definition). d.key) a.written), ap (λ (t : Told). t.item) a.made ∙ a.at.fits.item);
      number = is_instance d f j a;
    }

    pub definitions_placed : EachBoth (IsDefinitionOf (program_of s) m) (definitions s n is needs accepted) (map formula_tree ds)
    definitions_placed = both_from (IsDefinitionOf (program_of s) m) (definitions s n is needs accepted) (map formula_tree ds) same_many of_place
      where
        of_place : (i : ℕ) (d : Definition) (f : FlatFormula) → slice_get (definitions s n is needs accepted) i ≡ Some d → slice_get (map formula_tree ds) i ≡ Some f → IsDefinitionOf (program_of s) m d f
        of_place i d f e g =
            let made : (x : FormulaOf) × (slice_get ds i ≡ Some x) × (formula_tree x ≡ f) = get_mapped formula_tree ds i f g in
            subst (IsDefinitionOf (program_of s) m d) made.2 (placed_one i d made.0 (definition_made i d made.0 e made.1))

    pub definitions_are : m.definitions ≡ map formula_tree ds → AreDefinitions (program_of s) m (definitions s n is needs accepted) (resolver s n)
    definitions_are same k d e = (formula_tree x.0, ap (λ fs. slice_get fs k) same ∙ get_map formula_tree ds k x.0 x.1, resolved, a.before, now)
      where
        less : k < length ds
        less =
            let here : k < length (definitions s n is needs accepted) = get_less (definitions s n is needs accepted) k d e in
            let many : length (definitions s n is needs accepted) ≡ length (map formula_tree ds) = same_many in
            let mapped : length (map formula_tree ds) ≡ length ds = length-map ds formula_tree in
            omega (arith, here, many, mapped)

        x : (x : FormulaOf) × (slice_get ds k ≡ Some x)
        x = get_within ds k less

        a : DefinitionAt k d x.0
        a = definition_made k d x.0 e x.1

        resolved : IsResolved (resolver s n d.place) d.written (flat_tree x.0.value)
        resolved =
            subst (λ (d : Definition). IsResolved (resolver s n d.place) d.written (flat_tree x.0.value)) (sym a.written)
            (ap (λ (t : Told). t.tree) a.made ∙ sym (ap (λ o. tree_map (leaf_by s n o) (tree_of a.at.defined.value.now)) (resolver_at s n is needs accepted a.at.defined.spot a.at.fits.at a.at.fits.is)))

        good : IsGoodRoot (program_of s) a.at.root
        good = each_at (IsGoodRoot (program_of s)) (roots_of (program_of s)) a.at.number a.at.root (good_roots (program_of s) accepted) a.at.is_root

        now : has_next d.written ≡ false
        now = subst (λ (d : Definition). has_next d.written ≡ false) (sym a.written) (subst Next (sym good.is ∙ a.at.fits.expression) good.now)

  -- the whole
  pub is_flat : (m : FlatModelOf) → AreDeclared (program_of s) m.variables → map instance_tree m.instances ≡ flat_map (instance_told s) s.spots.items → m.symbols ≡ texts s.symbols.keys →
      map told m.definitions ≡ map (asked_definition s n) n.order.items → (v t : ℕ) → are_earlier v t 0 m.definitions ≡ true →
      map told m.init ≡ asked_from s n (conditions_asked asked.First) 0 (instances_of (program_of s)) →
      map told m.invar ≡ asked_from s n (conditions_asked asked.Each) 0 (instances_of (program_of s)) →
      map told m.trans ≡ asked_from s n (conditions_asked asked.Step) 0 (instances_of (program_of s)) ++ asked_from s n (conditions_asked asked.Kept) 0 (instances_of (program_of s)) →
      IsFlatOf (program_of s) (model_tree m)
  is_flat m variables told_instances told_symbols told_definitions v t earlier told_init told_invar told_trans = record {
    resolver = resolver s n;
    written = definitions s n is needs accepted;
    sound = sound s n is needs accepted (model_tree m) variables symbols;
    instances = instances;
    variables = both_more (IsDeclaredBy (program_of s)) (IsVariableOf (model_tree m)) (variables_of (program_of s)) (map variable_tree m.variables) of_variable variables;
    symbols = symbols;
    order = subst (AddsAll (program_of s) [] (keys_of (program_of s))) (sym (keys_of_definitions (program_of s) (order s n is needs accepted).ordered)) (order s n is needs accepted).adds;
    placed = definitions_placed (model_tree m) instances m.definitions told_definitions v t earlier;
    definitions = definitions_are (model_tree m) instances m.definitions told_definitions v t earlier refl;
    at_first = formulas_are s n is needs accepted (model_tree m) variables symbols instances asked.First m.init told_init;
    at_each = formulas_are s n is needs accepted (model_tree m) variables symbols instances asked.Each m.invar told_invar;
    at_step = both_are s n is needs accepted (model_tree m) variables symbols instances asked.Step asked.Kept m.trans told_trans;
  }
    where
      instances : (model_tree m).instances ≡ instances_of (program_of s)
      instances = told_instances ∙ all_instances

      symbols : (model_tree m).symbols ≡ symbols_of (program_of s)
      symbols = told_symbols ∙ is.set.symbols

      of_variable : (w : Visit) (x : FlatVariable) → IsDeclaredBy (program_of s) w x → IsVariableOf (model_tree m) w x
      of_variable w x d = record {
        place = d.place;
        name = d.name;
        role = d.role;
        declared = d.declared;
        item = d.item;
        number = (d.at, ap (λ xs. slice_get xs x.number) instances ∙ d.is, d.at_place);
      }

  -- The bounds that are read off the lists.
  pub many_variables : (vs : List Variable) → AreDeclared (program_of s) vs → length vs ≡ length (variables_of (program_of s))
  many_variables vs declared =
      sym (length-map vs variable_tree) ∙ sym (both_size (IsDeclaredBy (program_of s)) (variables_of (program_of s)) (map variable_tree vs) declared)

  pub many_symbols : (xs : List Text) → xs ≡ texts s.symbols.keys → length xs ≡ length (symbols_of (program_of s))
  many_symbols xs e = ap (λ (ys : List Text). length ys) (e ∙ is.set.symbols)

  many_definitions : (ds : List FormulaOf) → map told ds ≡ map (asked_definition s n) n.order.items → length ds ≡ length n.order.items
  many_definitions ds e = sym (length-map ds told) ∙ ap (λ (ts : List Told). length ts) e ∙ length-map n.order.items (asked_definition s n)

  pub ready_within : (v t : ℕ) → v ≡ length (variables_of (program_of s)) → t ≡ length (symbols_of (program_of s)) → AreReady s n v t
  ready_within v t e f = subst (λ v. AreReady s n v t) (sym e) (subst (AreReady s n (length (variables_of (program_of s)))) (sym f) ready)

  bounds_known : (v t d : ℕ) → v ≡ length (variables_of (program_of s)) → t ≡ length (symbols_of (program_of s)) → d ≡ length n.order.items → (a : AskedFormulas) →
      AreConditionsKnown s n (record { variables = v; symbols = t; definitions = d }) (conditions_asked a)
  bounds_known v t d e f g a =
      subst (λ (b : Bounds). AreConditionsKnown s n b (conditions_asked a)) same (all_known s n is needs accepted a)
    where
      same : bounds_with (program_of s) (length n.order.items) ≡ bounds_made v t d
      same = cc

  pub known_within : (vs : List Variable) (xs : List Text) (ds : List FormulaOf) (v t d : ℕ) → v ≡ length vs → t ≡ length xs → d ≡ length ds → AreDeclared (program_of s) vs →
      xs ≡ texts s.symbols.keys → map told ds ≡ map (asked_definition s n) n.order.items → (a : AskedFormulas) →
      AreConditionsKnown s n (record { variables = v; symbols = t; definitions = d }) (conditions_asked a)
  known_within vs xs ds v t d e f g declared symbols told_definitions a =
      bounds_known v t d (e ∙ many_variables vs declared) (f ∙ many_symbols xs symbols) (g ∙ many_definitions ds told_definitions) a
