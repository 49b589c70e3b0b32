-- What a program costs at least is counted by the items of its instances, and is too much where they are too many.
use Rattle.std.proofs.Common.{◌≡◌, ℕ, suc, ◌+◌, ◌<◌, arith, List, [], ◌∷◌, Option, Some, None, refl, ◌∙◌, ap, lt-ltb}
use Rattle.std.specs.Prelude.{slice_get, flat_map, sum_by, nat_lt, ◌||◌}
use Rattle.std.proofs.lemmas.List.Sums.{sum_by-cons, sum_by-append}
use Rattle.base_values.specs.declared.limits.TheConstants.{MOST_COST, MOST_BITS}
use Rattle.smv_language.specs.Language.{Text, Path, Formula, DeclaredTree, boolean, range, members, instance, ModuleTree, ProgramTree, Place, Role, define_key, actual_key, kind_declared, kind_at, module_at, nth_formula, actual_of_kind, plain_name, find_module, IsInstance, FlatInstance}
use Rattle.smv_language.specs.Scope.{a_define}
use Rattle.smv_flat_laws.specs.Items.{Item, a_declaration, a_definition, an_assignment, some_constants, an_init, an_invar, a_trans, NumberedItem, items_of, items_named, instances_of}
use Rattle.smv_flat_laws.specs.Rules.{expression_of_kind, expression_in}
use Rattle.smv_flat_laws.specs.Model.{written_at, conditions, first_conditions, each_conditions, step_conditions, kept_conditions, Root, root_of_actual, roots_of_actuals, roots_of_type, roots_of_item}
use Rattle.smv_flat_laws.proofs.Conditions.{each_from}
use Rattle.smv_flat_laws.proofs.Lists.{each_more}
use Rattle.smv_flat_laws.proofs.Flattening.{all_instances}
use Rattle.smv_flat_laws.proofs.KindLaws.{ItemFacts, kind_of_declaration, kind_of_definition}
use Rattle.smv_flat_laws.proofs.Places.{facts_named}
use Rattle.smv_type_laws.specs.Costs.{cost_of, declared_cost, model_cost, state_bits}
use Rattle.smv_type_laws.specs.Counted.{written_cost, expression_cost, key_cost}
use Rattle.smv_type_laws.specs.CountedItems.{of_variable, actual_cost, handed_cost, definition_cost, asked_cost, item_cost, over_module, over_instances, DefinitionsByItems, ConditionsByItems, CountedByItems, CountedIsTooLarge}
use Rattle.smv_type_laws.proofs.Counted.{costs_as_counted, twice}
use Rattle.smv_type_laws.proofs.Summed.{sum_flat, sum_mapped, sum_each, sum_same, sum_both, named_sum}
use Rattle.smv_type_laws.proofs.VariableSums.{variables_by_items}

-- Conditions.
pub conditions_by_items : ConditionsByItems
conditions_by_items p what =
    sum_flat written_cost (λ (at : FlatInstance). flat_map (written_at what at.place) (items_named p at.module_name)) (instances_of p)
    ∙ sum_same (λ (at : FlatInstance). sum_by written_cost (flat_map (written_at what at.place) (items_named p at.module_name)))
    (λ (at : FlatInstance). over_module (asked_cost what) (find_module p at.module_name)) (instances_of p) at_instance
  where
    at_item : (at : Place) (i : NumberedItem) → sum_by written_cost (written_at what at i) ≡ asked_cost what i.item
    at_item at i = sum_mapped written_cost (λ c. record { place = at; item = i.number; condition = c }) (what i.item)

    at_instance : (at : FlatInstance) → sum_by written_cost (flat_map (written_at what at.place) (items_named p at.module_name)) ≡ over_module (asked_cost what) (find_module p at.module_name)
    at_instance at =
        sum_flat written_cost (written_at what at.place) (items_named p at.module_name)
        ∙ sum_same (λ i. sum_by written_cost (written_at what at.place i)) (λ (i : NumberedItem). asked_cost what i.item) (items_named p at.module_name) (at_item at.place)
        ∙ named_sum (asked_cost what) p at.module_name

-- Definitions.
module _ (p : ProgramTree) where
  abbrev of_root : Root → ℕ
  of_root r = key_cost p r.key

  -- actuals from one of them on
  actuals_sum : (own : Text) (at : Place) (item i : ℕ) (es : List Formula) →
      ((j : ℕ) → key_cost p (actual_key (own ∷ at) (i + j)) ≡ expression_cost (expression_in at (nth_formula es j))) →
      sum_by of_root (roots_of_actuals (own ∷ at) i item es) ≡ sum_by (λ e. actual_cost (plain_name e) e) es
  actuals_sum own at item i [] h = refl
  actuals_sum own at item i (e ∷ es) h =
      omega (
        arith,
        sum_by-append of_root (root_of_actual (own ∷ at) i item (plain_name e)) (roots_of_actuals (own ∷ at) (suc i) item es),
        sum_by-cons (λ e. actual_cost (plain_name e) e) e es,
        of_one (plain_name e),
        actuals_sum own at item (suc i) es more,
      )
    where
      here : i ≡ i + 0
      here = omega arith

      of_one : (o : Option Path) → sum_by of_root (root_of_actual (own ∷ at) i item o) ≡ actual_cost o e
      of_one None = omega (arith, sum_by-cons of_root (record { key = actual_key (own ∷ at) i; item = item }) [], ap (λ k. key_cost p (actual_key (own ∷ at) k)) here ∙ h 0)
      of_one (Some name) = refl

      more : (j : ℕ) → key_cost p (actual_key (own ∷ at) (suc i + j)) ≡ expression_cost (expression_in at (nth_formula es j))
      more j = let on : suc i + j ≡ i + suc j = omega arith in ap (λ k. key_cost p (actual_key (own ∷ at) k)) on ∙ h (suc j)

  type_sum : (at : Place) (own : Text) (item : ℕ) (role : Role) (what : DeclaredTree) → kind_at (module_at p at) own ≡ kind_declared role what →
      sum_by of_root (roots_of_type (own ∷ at) item what) ≡ handed_cost what
  type_sum at own item role boolean e = refl
  type_sum at own item role (range lo hi) e = refl
  type_sum at own item role (members ms) e = refl
  type_sum at own item role (instance n actuals) e = actuals_sum own at item 0 actuals from_first
    where
      from_first : (j : ℕ) → key_cost p (actual_key (own ∷ at) (0 + j)) ≡ expression_cost (expression_in at (nth_formula actuals j))
      from_first j =
          let on : 0 + j ≡ j = omega arith in
          ap (λ k. key_cost p (actual_key (own ∷ at) k)) on ∙ ap (λ k. expression_cost (expression_in at (actual_of_kind k j))) e

  item_sum : (at : Place) (m : ModuleTree) (n : ℕ) (before : List Item) (i : Item) → module_at p at ≡ Some m → ItemFacts m (record { number = n; before = before; item = i }) →
      sum_by of_root (roots_of_item at n i) ≡ definition_cost i
  item_sum at m n before (a_declaration role d) is facts =
      type_sum at d.name n role d.what (ap (λ o. kind_at o d.name) is ∙ kind_of_declaration m before role d facts.after facts.among facts.fresh)
  item_sum at m n before (a_definition d) is facts =
      let kind : kind_at (module_at p at) d.name ≡ a_define d.value = ap (λ o. kind_at o d.name) is ∙ kind_of_definition m before d facts.after facts.among facts.fresh in
      let cost : key_cost p (define_key at d.name) ≡ cost_of d.value = ap (λ k. expression_cost (expression_of_kind at k)) kind in
      omega (arith, sum_by-cons of_root (record { key = define_key at d.name; item = n }) [], cost)
  item_sum at m n before (an_assignment a) is facts = refl
  item_sum at m n before (some_constants xs) is facts = refl
  item_sum at m n before (an_init e) is facts = refl
  item_sum at m n before (an_invar e) is facts = refl
  item_sum at m n before (a_trans e) is facts = refl

pub definitions_by_items : DefinitionsByItems
definitions_by_items p walkable =
    sum_flat (of_root p) (λ (at : FlatInstance). flat_map (λ (i : NumberedItem). roots_of_item at.place i.number i.item) (items_named p at.module_name)) (instances_of p)
    ∙ sum_each (λ (at : FlatInstance). sum_by (of_root p) (flat_map (λ (i : NumberedItem). roots_of_item at.place i.number i.item) (items_named p at.module_name)))
    (λ (at : FlatInstance). over_module definition_cost (find_module p at.module_name)) (instances_of p)
    (each_from (λ (at : FlatInstance). sum_by (of_root p) (flat_map (λ (i : NumberedItem). roots_of_item at.place i.number i.item) (items_named p at.module_name)) ≡ over_module definition_cost (find_module p at.module_name)) (instances_of p) at_instance)
  where
    at_instance : (k : ℕ) (at : FlatInstance) → slice_get (instances_of p) k ≡ Some at →
        sum_by (of_root p) (flat_map (λ (i : NumberedItem). roots_of_item at.place i.number i.item) (items_named p at.module_name)) ≡ over_module definition_cost (find_module p at.module_name)
    at_instance k at e =
        let real : (m : ModuleTree) × IsInstance p at.place m × (find_module p at.module_name ≡ Some m) = (all_instances p walkable).real k at e in
        sum_flat (of_root p) (λ (i : NumberedItem). roots_of_item at.place i.number i.item) (items_named p at.module_name)
        ∙ sum_each (λ (i : NumberedItem). sum_by (of_root p) (roots_of_item at.place i.number i.item)) (λ (i : NumberedItem). definition_cost i.item) (items_named p at.module_name)
        (each_more (ItemFacts real.0) (λ (i : NumberedItem). sum_by (of_root p) (roots_of_item at.place i.number i.item) ≡ definition_cost i.item) (items_named p at.module_name)
        (λ i facts. item_sum p at.place real.0 i.number i.before i.item real.1 facts) (facts_named p walkable at.module_name real.0 real.2))
        ∙ named_sum definition_cost p at.module_name

-- All together.
over_both : (f g : Item → ℕ) (p : ProgramTree) → over_instances (λ i. f i + g i) p ≡ over_instances f p + over_instances g p
over_both f g p =
    sum_same (λ (at : FlatInstance). over_module (λ i. f i + g i) (find_module p at.module_name))
    (λ (at : FlatInstance). over_module f (find_module p at.module_name) + over_module g (find_module p at.module_name)) (instances_of p) (λ at. in_module (find_module p at.module_name))
    ∙ sum_both (λ (at : FlatInstance). over_module f (find_module p at.module_name)) (λ (at : FlatInstance). over_module g (find_module p at.module_name)) (instances_of p)
  where
    in_module : (o : Option ModuleTree) → over_module (λ i. f i + g i) o ≡ over_module f o + over_module g o
    in_module None = omega arith
    in_module (Some m) = sum_both f g (items_of m)

abbrev of_type_cost : Item → ℕ
of_type_cost i = of_variable (λ role what. declared_cost what) i

items_together : (p : ProgramTree) → over_instances item_cost p
    ≡ over_instances of_type_cost p + over_instances definition_cost p + over_instances (asked_cost first_conditions) p + over_instances (asked_cost each_conditions) p
    + (over_instances (asked_cost step_conditions) p + over_instances (asked_cost kept_conditions) p)
items_together p =
    omega (
      arith,
      over_both (λ i. of_type_cost i + definition_cost i + asked_cost first_conditions i + asked_cost each_conditions i) (λ i. asked_cost step_conditions i + asked_cost kept_conditions i) p,
      over_both (λ i. of_type_cost i + definition_cost i + asked_cost first_conditions i) (asked_cost each_conditions) p,
      over_both (λ i. of_type_cost i + definition_cost i) (asked_cost first_conditions) p,
      over_both of_type_cost definition_cost p,
      over_both (asked_cost step_conditions) (asked_cost kept_conditions) p,
    )

pub counted_by_items : CountedByItems
counted_by_items p walkable =
    omega (
      arith,
      items_together p,
      variables_by_items p walkable (λ role what. declared_cost what),
      definitions_by_items p walkable,
      conditions_by_items p first_conditions,
      conditions_by_items p each_conditions,
      sum_by-append written_cost (conditions step_conditions p) (conditions kept_conditions p),
      conditions_by_items p step_conditions,
      conditions_by_items p kept_conditions,
    )

pub counted_is_too_large : CountedIsTooLarge
counted_is_too_large p m walkable is large =
    let more : MOST_COST < model_cost m = omega (arith, large, counted_by_items p walkable, costs_as_counted p m walkable is) in
    ap (λ b. b || nat_lt MOST_BITS (state_bits m)) (lt-ltb MOST_COST (model_cost m) more)

-- each of the two instances costs 3 for n, 2 for d and 1 for its condition, and the main module nothing more
example : over_instances item_cost twice ≡ 12
example = refl
