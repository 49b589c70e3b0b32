-- A model breaks no rule where its variables, its definitions and the conditions at its instances do not.
use Rattle.std.proofs.Common.{◌≡◌, ◌↔◌, ℕ, arith, false, List, [], ◌∷◌, ◌++◌, flat_map, Some, refl, sym, ap, ◌∙◌, subst}
use Rattle.std.specs.Prelude.{slice_get}
use Rattle.smv_language.specs.Language.{Tree, ModuleTree, ProgramTree, Place, find_module, Each, IsInstance, EachBoth, FlatLeaf, FlatInstance, FlatVariable, FlatFormula, FlatModel}
use Rattle.smv_flat_laws.specs.Items.{Item, NumberedItem, items_of, items_named, instances_of}
use Rattle.smv_flat_laws.specs.NameResolution.{Resolver}
use Rattle.smv_flat_laws.specs.Rules.{IsWalkable}
use Rattle.smv_flat_laws.specs.Model.{Condition, Written, written_at, conditions, IsConditionTree, IsFormulaOf}
use Rattle.smv_flat_laws.proofs.Conditions.{each_iff, each_at, each_from, each_flat, each_mapped}
use Rattle.smv_flat_laws.proofs.Sections.{items_are}
use Rattle.smv_type_laws.specs.ExpressionKinds.{Judged}
use Rattle.smv_type_laws.specs.DeclaredKinds.{judged_declared}
use Rattle.smv_type_laws.specs.Models.{judged_definitions, judged_variables, judged_in, broken_condition, breaches_at, variable_breaches, definition_breaches, condition_breaches, breaches}
use Rattle.smv_type_laws.proofs.ModelLaws.{IsRight, after_length}
use Rattle.smv_type_laws.proofs.Parts.{none_first, none_second}
use Rattle.fault_woven_laws.proofs.Rightly.{none_joined}
use Rattle.smv_type_laws.proofs.Typed.{none_at as no_breach, definitions_right}
use Rattle.smv_type_laws.proofs.VariableTypes.{types_right}
use Rattle.smv_language.proofs.BoolLaws.{iff_trans}
use Rattle.smv_flat_laws.proofs.Flattening.{all_instances}

pub one_module : (p : ProgramTree) (k m : ModuleTree) (at bt : Place) → bt ≡ at → IsInstance p bt k → IsInstance p at m → k ≡ m
one_module p k m at bt e a b = let there : IsInstance p at k = subst (λ q. IsInstance p q k) e a in let both : Some k ≡ Some m = sym there ∙ b in cc

module _ (p : ProgramTree) (walkable : IsWalkable p) where
  -- over the items of the listed instances is over the items of all instances
  pub over_items : (C : Place → Item → Type 0) →
      (Each (λ (x : FlatInstance). Each (λ (i : NumberedItem). C x.place i.item) (items_named p x.module_name)) (instances_of p)
      ↔ ((at : Place) (m : ModuleTree) → IsInstance p at m → Each (C at) (items_of m)))
  over_items C = (
    (λ h at m is. let l : (i : ℕ) × (x : FlatInstance) × (slice_get (instances_of p) i ≡ Some x) × (x.place ≡ at) = (all_instances p walkable).all at m is in
        let k : (k : ModuleTree) × IsInstance p l.1.place k × (find_module p l.1.module_name ≡ Some k) = (all_instances p walkable).real l.0 l.1 l.2 in
        let same : k.0 ≡ m = one_module p k.0 m at l.1.place l.3 k.1 is in
        subst (λ a. Each (C a) (items_of m)) l.3 ((items_are (C l.1.place) p 1 [] l.1.module_name m (subst (λ q. find_module p l.1.module_name ≡ Some q) same k.2)).0
        (each_at (λ (x : FlatInstance). Each (λ (i : NumberedItem). C x.place i.item) (items_named p x.module_name)) (instances_of p) l.0 l.1 h l.2))),
    (λ h. each_from (λ (x : FlatInstance). Each (λ (i : NumberedItem). C x.place i.item) (items_named p x.module_name)) (instances_of p)
        (λ i x e. let k : (k : ModuleTree) × IsInstance p x.place k × (find_module p x.module_name ≡ Some k) = (all_instances p walkable).real i x e in
        (items_are (C x.place) p 1 [] x.module_name k.0 k.2).1 (h x.place k.0 k.1))),
  )

  -- and so it is with their conditions
  pub over_conditions : (A : Place → Condition → Type 0) (what : Item → List Condition) →
      (Each (λ (c : Written). A c.place c.condition) (conditions what p) ↔ ((at : Place) (m : ModuleTree) → IsInstance p at m → Each (λ item. Each (A at) (what item)) (items_of m)))
  over_conditions A what =
      iff_trans (each_flat (λ (c : Written). A c.place c.condition) (λ (x : FlatInstance). flat_map (written_at what x.place) (items_named p x.module_name)) (instances_of p))
      (iff_trans (each_iff (λ (x : FlatInstance). Each (λ (c : Written). A c.place c.condition) (flat_map (written_at what x.place) (items_named p x.module_name)))
      (λ (x : FlatInstance). Each (λ (i : NumberedItem). Each (A x.place) (what i.item)) (items_named p x.module_name)) (instances_of p)
      (λ x. iff_trans (each_flat (λ (c : Written). A c.place c.condition) (written_at what x.place) (items_named p x.module_name))
      (each_iff (λ (i : NumberedItem). Each (λ (c : Written). A c.place c.condition) (written_at what x.place i)) (λ (i : NumberedItem). Each (A x.place) (what i.item)) (items_named p x.module_name)
      (λ i. each_mapped (λ (c : Written). A c.place c.condition) (λ c. record { place = x.place; item = i.number; condition = c }) (what i.item)))))
      (over_items (λ at i. Each (A at) (what i))))

-- Conditions.
-- a condition has a flat form, which breaks no rule
abbrev pub IsKeptAt : FlatModel → Resolver → Place → Condition → Type 0
IsKeptAt m r at c = (flat : Tree FlatLeaf) × IsConditionTree m r at c flat × (broken_condition (judged_in m false flat) ≡ [])

-- whatever is its flat form, it breaks no rule
abbrev pub KeepsAt : FlatModel → Resolver → Place → Condition → Type 0
KeepsAt m r at c = (flat : Tree FlatLeaf) → IsConditionTree m r at c flat → broken_condition (judged_in m false flat) ≡ []

pub conditions_there : (m : FlatModel) (r : Resolver) (ws : List Written) (fs : List FlatFormula) → EachBoth (IsFormulaOf m r) ws fs → condition_breaches m fs ≡ [] →
    Each (λ (c : Written). IsKeptAt m r c.place c.condition) ws
conditions_there m r [] [] b e = tt
conditions_there m r [] (f ∷ fs) b e = absurd b
conditions_there m r (c ∷ ws) [] b e = absurd b
conditions_there m r (c ∷ ws) (f ∷ fs) b e =
    let here = breaches_at f.number f.item (broken_condition (judged_in m false f.value)) in
    ((f.value, b.0.tree, no_breach f.number f.item (broken_condition (judged_in m false f.value)) (none_first here (condition_breaches m fs) e)), conditions_there m r ws fs b.1 (none_second here (condition_breaches m fs) e))

pub conditions_keep : (m : FlatModel) (r : Resolver) (ws : List Written) (fs : List FlatFormula) → EachBoth (IsFormulaOf m r) ws fs → Each (λ (c : Written). KeepsAt m r c.place c.condition) ws → condition_breaches m fs ≡ []
conditions_keep m r [] [] b h = refl
conditions_keep m r [] (f ∷ fs) b h = absurd b
conditions_keep m r (c ∷ ws) [] b h = absurd b
conditions_keep m r (c ∷ ws) (f ∷ fs) b h =
    none_joined (breaches_at f.number f.item (broken_condition (judged_in m false f.value))) (condition_breaches m fs) (ap (breaches_at f.number f.item) (h.0 f.value b.0.tree)) (conditions_keep m r ws fs b.1 h.1)

pub variables_keep : (xs : List FlatVariable) → Each (λ x. (judged_declared x.declared).broken ≡ []) xs → variable_breaches xs ≡ []
variables_keep [] h = refl
variables_keep (x ∷ xs) h = none_joined (breaches_at x.number x.item (judged_declared x.declared).broken) (variable_breaches xs) (ap (breaches_at x.number x.item) h.0) (variables_keep xs h.1)

definitions_keep : (ds : List FlatFormula) (js : List Judged) → Each IsRight js → definition_breaches ds js ≡ []
definitions_keep [] js h = refl
definitions_keep (d ∷ ds) [] h = refl
definitions_keep (d ∷ ds) (j ∷ js) h = none_joined (breaches_at d.number d.item j.broken) (definition_breaches ds js) (ap (breaches_at d.number d.item) h.0) (definitions_keep ds js h.1)

-- the parts of a model that breaks no rule
pub record AreKept (m : FlatModel) : Type 0 where
  pub variables : Each (λ x. (judged_declared x.declared).broken ≡ []) m.variables
  pub definitions : Each IsRight (judged_definitions m)
  pub at_first : condition_breaches m m.at_first ≡ []
  pub at_each : condition_breaches m m.at_each ≡ []
  pub at_step : condition_breaches m m.at_step ≡ []

pub parts_of : (m : FlatModel) → breaches m ≡ [] → AreKept m
parts_of m kept =
    let a = variable_breaches m.variables in
    let b = definition_breaches m.definitions (judged_definitions m) in
    let c = condition_breaches m m.at_first in
    let d = condition_breaches m m.at_each in
    let f = condition_breaches m m.at_step in
    let p = none_second a (b ++ (c ++ (d ++ f))) kept in
    let q = none_second b (c ++ (d ++ f)) p in
    let r = none_second c (d ++ f) q in
    let as_many = after_length (judged_variables m.variables) [] m.definitions in
    record {
      variables = types_right m.variables (none_first a _ kept);
      definitions = definitions_right m.definitions (judged_definitions m) (none_first b _ p) (omega (arith, as_many));
      at_first = none_first c _ q;
      at_each = none_first d f r;
      at_step = none_second d f r;
    }

pub none_broken : (m : FlatModel) → AreKept m → breaches m ≡ []
none_broken m k =
    let a = variable_breaches m.variables in
    let b = definition_breaches m.definitions (judged_definitions m) in
    let c = condition_breaches m m.at_first in
    let d = condition_breaches m m.at_each in
    let f = condition_breaches m m.at_step in
    none_joined a (b ++ (c ++ (d ++ f))) (variables_keep m.variables k.variables)
    (none_joined b (c ++ (d ++ f)) (definitions_keep m.definitions (judged_definitions m) k.definitions) (none_joined c (d ++ f) k.at_first (none_joined d f k.at_each k.at_step)))
