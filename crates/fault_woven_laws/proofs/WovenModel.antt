-- The woven program's flat model breaks no rule of kinds but, it may be, that of its size.
use Rattle.std.proofs.Common.{◌≡◌, ◌≢◌, ◌⊎◌, inl, inr, ℕ, suc, ◌<◌, arith, Bool, false, List, [], ◌∷◌, ◌++◌, length, map, flat_map, Option, Some, None, refl, sym, ap, ◌∙◌, subst}
use Rattle.std.specs.Prelude.{slice_get, codes}
use Rattle.std.proofs.lemmas.Option.{slice_get_within}
use Rattle.smv_language.specs.declared.expr.Op.TheVariants as op
use Rattle.smv_language.specs.Language.{leaf, next_of, binary, Text, Path, Formula, DeclaredTree, boolean, range, members, instance, ModuleTree, ProgramTree, IsType, Place, Key, Role, state, input, frozen_role, Kind as NameKind, a_formal, a_variable, an_instance, undeclared, kind_in, kind_in_sections, kind_at as name_kind_at, module_at, plain_name, Each, IsInstance, IsVariable, flat_variable, FlatInstance, FlatVariable, FlatFormula, FlatModel}
use Rattle.smv_language.specs.Scope.{a_define}
use Rattle.fault_instructions.specs.declared.instructions.Start.{Start}
use Rattle.fault_instructions.specs.declared.instructions.Start.TheVariants.{Nominal, Any}
use Rattle.fault_instructions.specs.Instructions.{EffectTree, ModeTree, SliceTree, InstructionTree, slices_of, is_affected}
use Rattle.fault_instructions.specs.AddedNames.{own_name}
use Rattle.fault_instructions.specs.declared.effects.EffectRule.{EffectRule}
use Rattle.fault_instructions.specs.declared.effects.EffectRule.TheVariants.{NotOwn, AsBefore, AsEntered, Falling}
use Rattle.fault_instructions.specs.Effects.{rule_of}
use Rattle.fault_instructions.specs.Templates.{rules, rule_trees, first_trees}
use Rattle.fault_weave.specs.WovenProgram.{mode_type, start_rules, mode_rules, slice_sections, added_sections, woven}
use Rattle.fault_instructions.specs.KindTypes.{type_of_kind}
use Rattle.fault_instructions.specs.Weavable.{Among, IsLawfulMode, IsWeavable}
use Rattle.fault_instructions.proofs.AmongLaws.{each_all}
use Rattle.fault_weave.proofs.LeafValues.{mode_variable_kind}
use Rattle.fault_weave.proofs.WovenKinds.{kind_or, kind_woven, Adds, IsAddedBy, added_or_not}
use Rattle.fault_weave.proofs.WovenMoments.{all_instances}
use Rattle.fault_rules.specs.Sites.{owned, item_sites}
use Rattle.fault_rules.specs.Rules.{broken_at}
use Rattle.fault_rules.specs.FirstBroken.{AllKept}
use Rattle.smv_flat_laws.specs.Items.{Item, a_declaration, a_definition, an_assignment, some_constants, an_init, an_invar, a_trans, NumberedItem, items_of_section, items_of, items_named, instances_of}
use Rattle.smv_flat_laws.specs.NameResolution.{Definition, Resolver}
use Rattle.smv_flat_laws.specs.Rules.{IsWalkable}
use Rattle.smv_flat_laws.specs.Model.{Condition, kept, kept_declared, first_conditions, each_conditions, step_conditions, kept_conditions, Written, conditions, Root, root_of_actual, roots_of_actuals, roots_of_type, roots_of_item, roots_of, IsDefinitionOf, IsFlatOf}
use Rattle.smv_flat_laws.proofs.Conditions.{each_at, each_from, each_flat, each_join}
use Rattle.smv_flat_laws.proofs.Listed.{root_written}
use Rattle.smv_flat_laws.proofs.Lists.{each_more, each_map}
use Rattle.smv_flat_laws.proofs.Places.{In}
use Rattle.smv_flat_laws.proofs.Reaches.{each_left, each_right}
use Rattle.smv_flat_laws.proofs.Variables.{both_at}
use Rattle.smv_type_laws.specs.ExpressionKinds.{Judged}
use Rattle.smv_type_laws.specs.DeclaredKinds.{judged_declared}
use Rattle.smv_type_laws.specs.Models.{judged_variables, judged_definitions, judged_in, broken_condition, breaches}
use Rattle.smv_type_laws.proofs.ModelLaws.{IsRight, after_length}
use Rattle.fault_extend_laws.specs.Expressions.{AllUsesKept}
use Rattle.fault_woven_laws.proofs.Rightly.{Rightly, condition_right, same_right}
use Rattle.smv_type_laws.proofs.Leaves.{declared_so}
use Rattle.fault_woven_laws.proofs.Definitions.{slice_finite, definitions_agree}
use Rattle.smv_type_laws.proofs.StandFor.{variable_there}
use Rattle.fault_woven_laws.proofs.Items.{over_items, over_conditions, IsKeptAt, KeepsAt, conditions_there, conditions_keep, parts_of, none_broken}
use Rattle.fault_woven_laws.proofs.Kept.{EachAsked, own_kind_at, target_kind_at, item_keeps}
use Rattle.fault_woven_laws.proofs.Sites.{mode_type_right}
use Rattle.fault_woven_laws.proofs.Uses.{type_right, kept_items}
use Rattle.fault_woven_laws.proofs.Added.{added_keep}
use Rattle.fault_woven_laws.proofs.WovenNamesItems.{woven_item, sections_woven}
use Rattle.smv_flat_laws.proofs.BothLaws.{both_size}
use Rattle.base_values.proofs.ListLaws.{get_within}

each_three : {A : Type 0} (P Q R : A → Type 0) (xs : List A) → Each P xs → Each Q xs → Each R xs → Each (λ x. P x × Q x × R x) xs
each_three P Q R [] h g j = tt
each_three P Q R (x ∷ xs) h g j = ((h.0, g.0, j.0), each_three P Q R xs h.1 g.1 j.1)

-- what is judged as something right is right
right_as : (js ks : List Judged) (i j : ℕ) (judged : Judged) → Each IsRight js → slice_get js i ≡ slice_get ks j → slice_get ks j ≡ Some judged → judged.broken ≡ []
right_as js ks i j judged h same e = each_at IsRight js i judged h (same ∙ e)

keys_joined : (a b c : Key) → a ≡ b → b ≡ c → a ≡ c
keys_joined a b c e f = e ∙ f

-- A frozen variable is asked to stay, which breaks no rule.
kept_keeps : (m : FlatModel) (r : Resolver) (at : Place) (x : Text) → KeepsAt m r at (kept x)
kept_keeps m r at x flat is =
    let l = leaf (flat_variable is.number) in
    let one : Rightly (judged_in m false l).kind.class (judged_in m false l) = record { kept = refl; class = refl } in
    ap (λ f. broken_condition (judged_in m false f)) is.is
    ∙ condition_right (judged_in m false (binary op.Within (next_of l) l)) (same_right (judged_in m false l).kind.class (judged_in m false l) (judged_in m false l) one one)

kept_items_keep : (m : FlatModel) (r : Resolver) (at : Place) (item : Item) → Each (KeepsAt m r at) (kept_conditions item)
kept_items_keep m r at (a_declaration state d) = tt
kept_items_keep m r at (a_declaration input d) = tt
kept_items_keep m r at (a_declaration frozen_role d) = by d.what
  where
    by : (what : DeclaredTree) → Each (KeepsAt m r at) (kept_declared d.name what)
    by boolean = (kept_keeps m r at d.name, tt)
    by (range lo hi) = (kept_keeps m r at d.name, tt)
    by (members ms) = (kept_keeps m r at d.name, tt)
    by (instance n es) = tt
kept_items_keep m r at (a_definition d) = tt
kept_items_keep m r at (an_assignment a) = tt
kept_items_keep m r at (some_constants xs) = tt
kept_items_keep m r at (an_init e) = tt
kept_items_keep m r at (an_invar e) = tt
kept_items_keep m r at (a_trans e) = tt

-- The keys of definitions do not hang on the numbers of items.
module _ (G : Key → Type 0) where
  abbrev OfKey : Root → Type 0
  OfKey root = G root.key

  actual_numbered : (inside : Place) (j n n' : ℕ) (o : Option Path) → Each OfKey (root_of_actual inside j n o) → Each OfKey (root_of_actual inside j n' o)
  actual_numbered inside j n n' None h = (h.0, tt)
  actual_numbered inside j n n' (Some name) h = tt

  actuals_numbered : (inside : Place) (j n n' : ℕ) (es : List Formula) → Each OfKey (roots_of_actuals inside j n es) → Each OfKey (roots_of_actuals inside j n' es)
  actuals_numbered inside j n n' [] h = tt
  actuals_numbered inside j n n' (e ∷ es) h =
      each_join OfKey (root_of_actual inside j n' (plain_name e)) (roots_of_actuals inside (suc j) n' es)
      (actual_numbered inside j n n' (plain_name e) (each_left OfKey (root_of_actual inside j n (plain_name e)) (roots_of_actuals inside (suc j) n es) h))
      (actuals_numbered inside (suc j) n n' es (each_right OfKey (root_of_actual inside j n (plain_name e)) (roots_of_actuals inside (suc j) n es) h))

  type_numbered : (inside : Place) (n n' : ℕ) (what : DeclaredTree) → Each OfKey (roots_of_type inside n what) → Each OfKey (roots_of_type inside n' what)
  type_numbered inside n n' boolean h = tt
  type_numbered inside n n' (range lo hi) h = tt
  type_numbered inside n n' (members ms) h = tt
  type_numbered inside n n' (instance k es) h = actuals_numbered inside 0 n n' es h

  item_numbered : (at : Place) (n n' : ℕ) (item : Item) → Each OfKey (roots_of_item at n item) → Each OfKey (roots_of_item at n' item)
  item_numbered at n n' (a_declaration role d) h = type_numbered (d.name ∷ at) n n' d.what h
  item_numbered at n n' (a_definition d) h = (h.0, tt)
  item_numbered at n n' (an_assignment a) h = tt
  item_numbered at n n' (some_constants xs) h = tt
  item_numbered at n n' (an_init e) h = tt
  item_numbered at n n' (an_invar e) h = tt
  item_numbered at n n' (a_trans e) h = tt

  -- the definitions of an item, whatever its number
  abbrev pub ItemHas : Place → Item → Type 0
  ItemHas at item = (n : ℕ) → Each OfKey (roots_of_item at n item)

  pub roots_down : (q : ProgramTree) (walkable : IsWalkable q) → Each OfKey (roots_of q) → (at : Place) (k : ModuleTree) → IsInstance q at k → Each (ItemHas at) (items_of k)
  roots_down q walkable h =
      (over_items q walkable ItemHas).0
      (each_more (λ (x : FlatInstance). Each OfKey (flat_map (λ (j : NumberedItem). roots_of_item x.place j.number j.item) (items_named q x.module_name)))
      (λ (x : FlatInstance). Each (λ (j : NumberedItem). ItemHas x.place j.item) (items_named q x.module_name)) (instances_of q)
      (λ x g. each_more (λ (j : NumberedItem). Each OfKey (roots_of_item x.place j.number j.item)) (λ (j : NumberedItem). ItemHas x.place j.item) (items_named q x.module_name)
      (λ j g' n. item_numbered x.place j.number n j.item g') ((each_flat OfKey (λ (j : NumberedItem). roots_of_item x.place j.number j.item) (items_named q x.module_name)).0 g))
      ((each_flat OfKey (λ (x : FlatInstance). flat_map (λ (j : NumberedItem). roots_of_item x.place j.number j.item) (items_named q x.module_name)) (instances_of q)).0 h))

  pub roots_up : (q : ProgramTree) (walkable : IsWalkable q) → ((at : Place) (k : ModuleTree) → IsInstance q at k → Each (ItemHas at) (items_of k)) → Each OfKey (roots_of q)
  roots_up q walkable h =
      (each_flat OfKey (λ (x : FlatInstance). flat_map (λ (j : NumberedItem). roots_of_item x.place j.number j.item) (items_named q x.module_name)) (instances_of q)).1
      (each_more (λ (x : FlatInstance). Each (λ (j : NumberedItem). ItemHas x.place j.item) (items_named q x.module_name))
      (λ (x : FlatInstance). Each OfKey (flat_map (λ (j : NumberedItem). roots_of_item x.place j.number j.item) (items_named q x.module_name))) (instances_of q)
      (λ x g. (each_flat OfKey (λ (j : NumberedItem). roots_of_item x.place j.number j.item) (items_named q x.module_name)).1
      (each_more (λ (j : NumberedItem). ItemHas x.place j.item) (λ (j : NumberedItem). Each OfKey (roots_of_item x.place j.number j.item)) (items_named q x.module_name) (λ j g'. g' j.number) g))
      ((over_items q walkable ItemHas).1 h))

  -- what is woven keeps an item's definitions
  woven_has : (affected : Text → Bool) (at : Place) (item : Item) → ItemHas at item → ItemHas at (woven_item affected item)
  woven_has affected at (a_declaration role d) h = h
  woven_has affected at (a_definition d) h = h
  woven_has affected at (an_assignment a) h = h
  woven_has affected at (some_constants xs) h = h
  woven_has affected at (an_init e) h = h
  woven_has affected at (an_invar e) h = h
  woven_has affected at (a_trans e) h = h

  rules_have : (at : Place) (r : Option EffectRule) (slice mode target : Text) → Each (ItemHas at) (flat_map items_of_section (rule_trees r slice mode target))
  rules_have at None slice mode target = tt
  rules_have at (Some NotOwn) slice mode target = (λ n. tt, tt)
  rules_have at (Some AsBefore) slice mode target = (λ n. tt, tt)
  rules_have at (Some AsEntered) slice mode target = (λ n. tt, tt)
  rules_have at (Some (Falling d f)) slice mode target = (λ n. tt, tt)

  first_rules_have : (at : Place) (r : Option EffectRule) (slice mode target : Text) → Each (ItemHas at) (flat_map items_of_section (first_trees r slice mode target))
  first_rules_have at None slice mode target = tt
  first_rules_have at (Some NotOwn) slice mode target = tt
  first_rules_have at (Some AsBefore) slice mode target = (λ n. tt, tt)
  first_rules_have at (Some AsEntered) slice mode target = tt
  first_rules_have at (Some (Falling d f)) slice mode target = (λ n. tt, tt)

  start_rules_have : (at : Place) (start : Start) (e : EffectTree) (slice mode target : Text) → Each (ItemHas at) (flat_map items_of_section (start_rules start e slice mode target))
  start_rules_have at Nominal e slice mode target = tt
  start_rules_have at Any e slice mode target = first_rules_have at (rule_of e) slice mode target

  all_rules_have : (at : Place) (s : SliceTree) (ms : List ModeTree) → Each (λ section. Each (ItemHas at) (items_of_section section)) (flat_map (λ mode. mode_rules s.start mode.effect s.name mode.name s.target) ms)
  all_rules_have at s [] = tt
  all_rules_have at s (mode ∷ ms) =
      each_join (λ section. Each (ItemHas at) (items_of_section section)) (mode_rules s.start mode.effect s.name mode.name s.target) (flat_map (λ n. mode_rules s.start n.effect s.name n.name s.target) ms)
      (each_join (λ section. Each (ItemHas at) (items_of_section section)) (rules mode.effect s.name mode.name s.target) (start_rules s.start mode.effect s.name mode.name s.target)
      ((each_flat (ItemHas at) items_of_section (rules mode.effect s.name mode.name s.target)).0 (rules_have at (rule_of mode.effect) s.name mode.name s.target))
      ((each_flat (ItemHas at) items_of_section (start_rules s.start mode.effect s.name mode.name s.target)).0 (start_rules_have at s.start mode.effect s.name mode.name s.target)))
      (all_rules_have at s ms)

  finite_has : (inside : Place) (n : ℕ) (what : DeclaredTree) → IsType what → Each OfKey (roots_of_type inside n what)
  finite_has inside n boolean h = tt
  finite_has inside n (range lo hi) h = tt
  finite_has inside n (members ms) h = tt
  finite_has inside n (instance k es) h = absurd h

  slice_has : (at : Place) (k : ModuleTree) (s : SliceTree) → IsType (type_of_kind (kind_in k s.target)) → Each (λ section. Each (ItemHas at) (items_of_section section)) (slice_sections k s)
  slice_has at k s finite =
      (((λ n. finite_has (own_name s.target ∷ at) n (type_of_kind (kind_in k s.target)) finite), ((λ n. tt), tt)), (((λ n. tt), ((λ n. tt), ((λ n. tt), tt))), all_rules_have at s s.modes))

module _ (p : ProgramTree) (i : InstructionTree) (ok : IsWeavable p i) (m w : FlatModel) (walkable : IsWalkable p) (also : IsWalkable (woven p i)) (is : IsFlatOf p m) (iw : IsFlatOf (woven p i) w)
    (right : breaches m ≡ []) (rules : AllKept (broken_at p) (item_sites i)) (used : AllUsesKept p m i) where
  -- Variables.
  added_right : (at : Place) (k : ModuleTree) (here : IsInstance p at k) (x : Text) (role : Role) (type : DeclaredTree) (s : SliceTree) → Among (slices_of i k.name) s → IsAddedBy s x →
      name_kind_at (module_at (woven p i) at) x ≡ a_variable role type → (judged_declared type).broken ≡ []
  added_right at k here x role type s a (inl e) kind =
      let lawful = ok.slices at k s here a in
      let own : a_variable state lawful.type ≡ a_variable role type = sym (own_kind_at p i ok at k s here a) ∙ subst (λ y. name_kind_at (module_at (woven p i) at) y ≡ a_variable role type) (sym e) kind in
      let same : lawful.type ≡ type = ap type_of_kind own in
      subst (λ t. (judged_declared t).broken ≡ []) same
      (type_right p m walkable is right at s.target state lawful.type (variable_there p at s.target state lawful.type (target_kind_at p i ok at k s here a)))
  added_right at k here x role type s a (inr e) kind =
      let lawful = ok.slices at k s here a in
      let mode : a_variable state (mode_type s) ≡ a_variable role type = sym (mode_variable_kind p i ok at k s here a) ∙ subst (λ y. name_kind_at (module_at (woven p i) at) y ≡ a_variable role type) (sym e) kind in
      let same : mode_type s ≡ type = ap type_of_kind mode in
      let items = kept_items p i rules k s a in
      let others : Each (λ (mode : ModeTree). mode.name ≢ codes "nominal") s.modes = each_more (IsLawfulMode p at k lawful.type) (λ (mode : ModeTree). mode.name ≢ codes "nominal") s.modes (λ mode h. h.not_nominal) lawful.modes in
      subst (λ t. (judged_declared t).broken ≡ []) same (mode_type_right p items.before (owned k.name s) items.modes others)

  -- each variable of the woven program has a type that breaks no rule
  variable_right : (at : Place) (x : Text) (role : Role) (type : DeclaredTree) (k' : ModuleTree) → IsInstance (woven p i) at k' → kind_in k' x ≡ a_variable role type → (judged_declared type).broken ≡ []
  variable_right at x role type =
      λ k' there kind. (all_instances p i ok (λ at k. name_kind_at (module_at (woven p i) at) x ≡ a_variable role type → kind_in k x ≡ a_variable role type → (judged_declared type).broken ≡ [])).1
      (λ at k here kind' kind. by at k here kind' (kind_in k x) refl (sym (kind_woven i k x) ∙ kind)) at k' there (ap (λ o. name_kind_at o x) there ∙ kind) kind
    where
      new : (at : Place) (k : ModuleTree) (here : IsInstance p at k) → name_kind_at (module_at (woven p i) at) x ≡ a_variable role type →
          (kind_in_sections (added_sections i k) x ≡ undeclared) ⊎ Adds (slices_of i k.name) x → kind_in_sections (added_sections i k) x ≡ a_variable role type → (judged_declared type).broken ≡ []
      new at k here kind' (inl none) kind = let both : undeclared ≡ a_variable role type = sym none ∙ kind in cc
      new at k here kind' (inr adds) kind = added_right at k here x role type adds.0 adds.1 adds.2 kind'

      by : (at : Place) (k : ModuleTree) (here : IsInstance p at k) → name_kind_at (module_at (woven p i) at) x ≡ a_variable role type → (c : NameKind) → kind_in k x ≡ c →
          kind_or c (kind_in_sections (added_sections i k) x) ≡ a_variable role type → (judged_declared type).broken ≡ []
      by at k here kind' undeclared e kind = new at k here kind' (added_or_not k (slices_of i k.name) x) kind
      by at k here kind' (a_variable r t) e kind = type_right p m walkable is right at x role type (k, here, e ∙ kind)
      by at k here kind' (a_formal j) e kind = cc
      by at k here kind' (a_define f) e kind = cc
      by at k here kind' (an_instance n es) e kind = cc

  variables_right : Each (λ (x : FlatVariable). (judged_declared x.declared).broken ≡ []) w.variables
  variables_right =
      each_from (λ (x : FlatVariable). (judged_declared x.declared).broken ≡ []) w.variables
      (λ j v e. let so : IsVariable (woven p i) v.place v.name v.role v.declared = declared_so (woven p i) w also iw j v e in variable_right v.place v.name v.role v.declared so.0 so.1 so.2)

  -- Definitions.
  abbrev HasDefinition : Key → Type 0
  HasDefinition key = (d : Definition) × In d is.written × (d.key ≡ key)

  written_roots : Each (λ (root : Root). HasDefinition root.key) (roots_of p)
  written_roots = each_from (λ (root : Root). HasDefinition root.key) (roots_of p) (λ j root e. root_written p m is root (j, e))

  woven_roots : Each (λ (root : Root). HasDefinition root.key) (roots_of (woven p i))
  woven_roots =
      roots_up HasDefinition (woven p i) also
      ((all_instances p i ok (λ at k. Each (ItemHas HasDefinition at) (items_of k))).1
      (λ at k here. subst (Each (ItemHas HasDefinition at)) (sym (sections_woven (is_affected i k.name) k.sections (added_sections i k)))
      (each_join (ItemHas HasDefinition at) (map (woven_item (is_affected i k.name)) (items_of k)) (flat_map items_of_section (added_sections i k))
      (each_map (ItemHas HasDefinition at) (woven_item (is_affected i k.name)) (items_of k)
      (each_more (ItemHas HasDefinition at) (λ item. ItemHas HasDefinition at (woven_item (is_affected i k.name) item)) (items_of k) (woven_has HasDefinition (is_affected i k.name) at)
      (roots_down HasDefinition p walkable written_roots at k here)))
      ((each_flat (ItemHas HasDefinition at) items_of_section (added_sections i k)).1
      ((each_flat (λ section. Each (ItemHas HasDefinition at) (items_of_section section)) (slice_sections k) (slices_of i k.name)).1
      (each_all (λ s. Each (λ section. Each (ItemHas HasDefinition at) (items_of_section section)) (slice_sections k s)) (slices_of i k.name) (λ s a. slice_has HasDefinition at k s (slice_finite p i ok at k here s a))))))))

  -- each definition is one of the program's, and is judged the same
  definition_right : (j : ℕ) (judged : Judged) → slice_get (judged_definitions w) j ≡ Some judged → judged.broken ≡ []
  definition_right j judged e =
      let below : j < length (judged_definitions w) = slice_get_within (judged_definitions w) j judged e in
      let many = after_length (judged_variables w.variables) [] w.definitions in
      let many' = both_size (IsDefinitionOf (woven p i) w) iw.written w.definitions iw.placed in
      let d' : (d : Definition) × (slice_get iw.written j ≡ Some d) = get_within iw.written j (omega arith) in
      let of : (f : FlatFormula) × (slice_get w.definitions j ≡ Some f) × IsDefinitionOf (woven p i) w d'.0 f = both_at (IsDefinitionOf (woven p i) w) iw.written w.definitions j d'.0 iw.placed d'.1 in
      let root = of.2.root in
      let d : HasDefinition root.0.key = each_at (λ (r : Root). HasDefinition r.key) (roots_of (woven p i)) root.1.0 root.0 woven_roots root.1.1 in
      let same : slice_get (judged_definitions m) d.1.0 ≡ slice_get (judged_definitions w) j =
      definitions_agree p i ok m w walkable also is iw (suc d.1.0) d.1.0 j d.0 d'.0 (omega arith) d.1.1 d'.1 (keys_joined d.0.key root.0.key d'.0.key d.2 root.2) in
      right_as (judged_definitions m) (judged_definitions w) d.1.0 j judged (parts_of m right).definitions same e

  -- Conditions.
  asked_before : (at : Place) (k : ModuleTree) → IsInstance p at k → Each (EachAsked (IsKeptAt m is.resolver at)) (items_of k)
  asked_before at k here =
      let parts = parts_of m right in
      let step : Each (λ (c : Written). IsKeptAt m is.resolver c.place c.condition) (conditions step_conditions p) =
      each_left (λ (c : Written). IsKeptAt m is.resolver c.place c.condition) (conditions step_conditions p) (conditions kept_conditions p)
      (conditions_there m is.resolver (conditions step_conditions p ++ conditions kept_conditions p) m.at_step is.at_step parts.at_step) in
      each_three (λ item. Each (IsKeptAt m is.resolver at) (first_conditions item)) (λ item. Each (IsKeptAt m is.resolver at) (each_conditions item)) (λ item. Each (IsKeptAt m is.resolver at) (step_conditions item)) (items_of k)
      ((over_conditions p walkable (IsKeptAt m is.resolver) first_conditions).0 (conditions_there m is.resolver (conditions first_conditions p) m.at_first is.at_first parts.at_first) at k here)
      ((over_conditions p walkable (IsKeptAt m is.resolver) each_conditions).0 (conditions_there m is.resolver (conditions each_conditions p) m.at_each is.at_each parts.at_each) at k here)
      ((over_conditions p walkable (IsKeptAt m is.resolver) step_conditions).0 step at k here)

  asked_after : (at : Place) (k : ModuleTree) → IsInstance (woven p i) at k → Each (EachAsked (KeepsAt w iw.resolver at)) (items_of k)
  asked_after =
      (all_instances p i ok (λ at k. Each (EachAsked (KeepsAt w iw.resolver at)) (items_of k))).1
      (λ at k here. subst (Each (EachAsked (KeepsAt w iw.resolver at))) (sym (sections_woven (is_affected i k.name) k.sections (added_sections i k)))
      (each_join (EachAsked (KeepsAt w iw.resolver at)) (map (woven_item (is_affected i k.name)) (items_of k)) (flat_map items_of_section (added_sections i k))
      (each_map (EachAsked (KeepsAt w iw.resolver at)) (woven_item (is_affected i k.name)) (items_of k)
      (each_more (EachAsked (IsKeptAt m is.resolver at)) (λ item. EachAsked (KeepsAt w iw.resolver at) (woven_item (is_affected i k.name) item)) (items_of k)
      (item_keeps p i ok m w walkable also is iw at k here) (asked_before at k here)))
      (added_keep p i ok m w walkable also is iw right rules used at k here)))

  abbrev WrittenKeeps : Written → Type 0
  WrittenKeeps c = KeepsAt w iw.resolver c.place c.condition

  asked_of : (what : Item → List Condition) → ((at : Place) (item : Item) → EachAsked (KeepsAt w iw.resolver at) item → Each (KeepsAt w iw.resolver at) (what item)) → Each WrittenKeeps (conditions what (woven p i))
  asked_of what f =
      (over_conditions (woven p i) also (KeepsAt w iw.resolver) what).1
      (λ at k here. each_more (EachAsked (KeepsAt w iw.resolver at)) (λ item. Each (KeepsAt w iw.resolver at) (what item)) (items_of k) (f at) (asked_after at k here))

  -- the woven program's flat model breaks no rule at an item
  pub woven_kept : breaches w ≡ []
  woven_kept =
      none_broken w (record {
        variables = variables_right;
        definitions = each_from IsRight (judged_definitions w) definition_right;
        at_first = conditions_keep w iw.resolver (conditions first_conditions (woven p i)) w.at_first iw.at_first (asked_of first_conditions (λ at item h. h.0));
        at_each = conditions_keep w iw.resolver (conditions each_conditions (woven p i)) w.at_each iw.at_each (asked_of each_conditions (λ at item h. h.1));
        at_step = conditions_keep w iw.resolver (conditions step_conditions (woven p i) ++ conditions kept_conditions (woven p i)) w.at_step iw.at_step
            (each_join WrittenKeeps (conditions step_conditions (woven p i)) (conditions kept_conditions (woven p i)) (asked_of step_conditions (λ at item h. h.2))
            (asked_of kept_conditions (λ at item h. kept_items_keep w iw.resolver at item)));
      })
