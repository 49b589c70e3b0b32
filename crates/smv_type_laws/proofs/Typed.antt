-- The laws of typed models.
use Rattle.std.proofs.Common.{◌≡◌, ℕ, suc, ◌+◌, ◌<◌, ◌≤◌, arith, true, false, List, [], ◌∷◌, ◌++◌, length, refl, sym, ap, ◌∙◌, subst, inl, inr, ◌⊎◌}
use Rattle.smv_language.specs.Language.{Each, AtSome, EachBoth, Value, Values, has, AllLeaves, FlatLeaf, flat_variable, flat_symbol, flat_definition, FlatVariable, FlatFormula, FlatModel, table_after, leaves_at}
use Rattle.smv_flat_laws.proofs.Lists.{length_end}
use Rattle.smv_flat_laws.specs.FlatTrace.{AreInDomains}
use Rattle.smv_type_laws.specs.ExpressionKinds.{KindRule, number_of, truth_class, not_boolean, unless_class, Judged, judge}
use Rattle.smv_type_laws.specs.DeclaredKinds.{judged_declared}
use Rattle.smv_type_laws.specs.Models.{kind_at, leaf_kind, judged_variables, judged_after, judged_definitions, kind_of_leaf, judged_in, broken_condition, Breach, breaches_at, variable_breaches, definition_breaches, condition_breaches, breaches, IsNoLater, at_an_item, of_its_size, IsTyped}
use Rattle.smv_type_laws.specs.Laws.{IsKnown, AreInOrder, ReadOwn, IsClosed, IsDecided, IsDefined, ValuesLieInKinds, ConditionsAreDecided, DefinitionsAreDefined, OneFault, TypedHasNoFault}
use Rattle.smv_type_laws.proofs.Parts.{none_first, none_second, class_kept}
use Rattle.smv_type_laws.proofs.Rows.{truth_given}
use Rattle.smv_type_laws.proofs.TreeLaws.{Hold, sound, single}
use Rattle.smv_type_laws.proofs.SafeLaws.{safe}
use Rattle.smv_type_laws.proofs.VariableLaws.{variable_holds}
use Rattle.smv_type_laws.proofs.ModelLaws.{after_keeps, after_length, each_before, each_end, judge_agrees, all_leaves_more, ValueHolds, IsRight, names_hold, table_holds}
use Rattle.base_values.proofs.ListLaws.{get_within}
use Rattle.smv_language.proofs.EachLaws.{each_of}

pub none_at : (number item : ℕ) (rules : List KindRule) → breaches_at number item rules ≡ [] → rules ≡ []
none_at number item [] e = refl
none_at number item (r ∷ rules) e = cc

pub variables_hold : (xs : List FlatVariable) (v : List Value) → variable_breaches xs ≡ [] → AreInDomains xs v → EachBoth ValueHolds (judged_variables xs) v
variables_hold [] [] e h = tt
variables_hold [] (w ∷ v) e h = h
variables_hold (x ∷ xs) [] e h = h
variables_hold (x ∷ xs) (w ∷ v) e h =
    let here = breaches_at x.number x.item (judged_declared x.declared).broken in
    (variable_holds x.declared w (none_at x.number x.item _ (none_first here _ e)) h.0, variables_hold xs v (none_second here _ e) h.1)

pub definitions_right : (ds : List FlatFormula) (js : List Judged) → definition_breaches ds js ≡ [] → length ds ≡ length js → Each IsRight js
definitions_right [] [] e l = tt
definitions_right [] (j ∷ js) e l = absurd (omega (arith, l))
definitions_right (d ∷ ds) [] e l = absurd (omega (arith, l))
definitions_right (d ∷ ds) (j ∷ js) e l =
    let here = breaches_at d.number d.item j.broken in
    (none_at d.number d.item j.broken (none_first here _ e), definitions_right ds js (none_second here _ e) (omega (arith, l)))

-- the parts of a model that breaks no rule
pub record Parts (m : FlatModel) : Type 0 where
  pub variables : variable_breaches m.variables ≡ []
  pub definitions : Each IsRight (judged_definitions m)
  pub at_first : condition_breaches m m.at_first ≡ []
  pub at_each : condition_breaches m m.at_each ≡ []
  pub at_step : condition_breaches m m.at_step ≡ []

pub parts_of : (m : FlatModel) → IsTyped m → Parts m
parts_of m t =
    let a = variable_breaches m.variables in
    let b = definition_breaches m.definitions (judged_definitions m) in
    let c = condition_breaches m m.at_first in
    let d = condition_breaches m m.at_each in
    let f = condition_breaches m m.at_step in
    let p = none_second a (b ++ (c ++ (d ++ f))) t.kept in
    let q = none_second b (c ++ (d ++ f)) p in
    let r = none_second c (d ++ f) q in
    let as_many = after_length (judged_variables m.variables) [] m.definitions in
    record {
      variables = none_first a _ t.kept;
      definitions = definitions_right m.definitions (judged_definitions m) (none_first b _ p) (omega (arith, as_many));
      at_first = none_first c _ q;
      at_each = none_first d f r;
      at_step = none_second d f r;
    }

pub as_many_variables : (xs : List FlatVariable) → length (judged_variables xs) ≡ length xs
as_many_variables [] = refl
as_many_variables (x ∷ xs) = ap suc (as_many_variables xs)

-- at values of their domains a typed model's names have values of their kinds
pub model_holds : (m : FlatModel) → IsClosed m → IsTyped m → (v : List Value) → AreInDomains m.variables v →
    Hold FlatLeaf (kind_of_leaf m) (IsKnown (length m.variables) (length m.symbols) (length m.definitions)) (leaves_at m v)
model_holds m closed t v h =
    let parts = parts_of m t in
    let vs = judged_variables m.variables in
    let hv = variables_hold m.variables v parts.variables h in
    let nv = as_many_variables m.variables in
    let order = subst (λ n. AreInOrder n (length m.symbols) 0 m.definitions) (sym nv) closed.definitions in
    let hd = table_holds m.symbols v vs hv m.definitions [] [] tt parts.definitions order in
    let nd : length (judged_definitions m) ≡ length m.definitions = after_length vs [] m.definitions ∙ omega arith in
    subst (λ n. Hold FlatLeaf (kind_of_leaf m) (IsKnown (length m.variables) (length m.symbols) n) (leaves_at m v)) nd
    (subst (λ n. Hold FlatLeaf (kind_of_leaf m) (IsKnown n (length m.symbols) (length (judged_definitions m))) (leaves_at m v)) nv
    (names_hold m.symbols v vs (judged_definitions m) (table_after m.symbols v [] m.definitions) hv hd))

pub values_lie : ValuesLieInKinds
values_lie m closed t v w hv hw sets e own right =
    let good = IsKnown (length m.variables) (length m.symbols) (length m.definitions) in
    let now = model_holds m closed t v hv in
    let next = model_holds m closed t w hw in
    let s = sound FlatLeaf (kind_of_leaf m) good (leaves_at m v) (leaves_at m w) now next sets e own right in
    record {
      of_kind = λ x may. let same : may.0 ≡ s.gives.values = cc (may.1, s.gives.is) in s.gives.of_kind x (subst (λ (vs : Values). has vs x ≡ true) same may.2);
      values = s.gives.values;
      gives = s.gives.is;
      alone = λ f. let g = s.alone f in (g.value, g.is);
      safe = safe FlatLeaf (kind_of_leaf m) good (leaves_at m v) (leaves_at m w) now next sets e own right;
    }

pub decided : (m : FlatModel) (v w : List Value) → IsClosed m → IsTyped m → AreInDomains m.variables v → AreInDomains m.variables w → (fs : List FlatFormula) → condition_breaches m fs ≡ [] → ReadOwn m fs → Each (IsDecided m v w) fs
decided m v w closed t hv hw [] e own = tt
decided m v w closed t hv hw (f ∷ fs) e own =
    let j = judged_in m false f.value in
    let here = breaches_at f.number f.item (broken_condition j) in
    let none = none_at f.number f.item (broken_condition j) (none_first here _ e) in
    let class = unless_class truth_class not_boolean j.kind in
    let right = none_second class j.broken none in
    let good = IsKnown (length m.variables) (length m.symbols) (length m.definitions) in
    let now = model_holds m closed t v hv in
    let next = model_holds m closed t w hw in
    let a = single (kind_of_leaf m) f.value _ (sound FlatLeaf (kind_of_leaf m) good (leaves_at m v) (leaves_at m w) now next false f.value own.0) right in
    let b = truth_given a (class_kept truth_class not_boolean j.kind (none_first class j.broken none)) in (
      record { value = b.0; gives = b.1; safe = safe FlatLeaf (kind_of_leaf m) good (leaves_at m v) (leaves_at m w) now next false f.value own.0 right },
      decided m v w closed t hv hw fs (none_second here _ e) own.1,
    )

pub conditions_decided : ConditionsAreDecided
conditions_decided m closed t v w hv hw =
    let parts = parts_of m t in (
      decided m v w closed t hv hw m.at_first parts.at_first closed.at_first,
      decided m v w closed t hv hw m.at_each parts.at_each closed.at_each,
      decided m v w closed t hv hw m.at_step parts.at_step closed.at_step,
    )

-- A definition judged over those before it is judged as over all.
same_kind : (vs js : List Judged) (ds : List FlatFormula) (nv ns : ℕ) (l : FlatLeaf) → IsKnown nv ns (length js) l → leaf_kind vs js l ≡ leaf_kind vs (judged_after vs js ds) l
same_kind vs js ds nv ns (flat_variable i) h = refl
same_kind vs js ds nv ns (flat_symbol i) h = refl
same_kind vs js ds nv ns (flat_definition i) h =
    let x = get_within js i h in
    ap kind_at (x.1 ∙ sym (after_keeps vs js ds i x.0 x.1))

pub known_more : (nv ns k d : ℕ) → k ≤ d → (l : FlatLeaf) → IsKnown nv ns k l → IsKnown nv ns d l
known_more nv ns k d p (flat_variable i) h = h
known_more nv ns k d p (flat_symbol i) h = h
known_more nv ns k d p (flat_definition i) h = omega arith

-- what is known of a definition among all
pub record Placed (vs all : List Judged) (nv ns nd : ℕ) (d : FlatFormula) : Type 0 where
  pub right : (judge (leaf_kind vs all) false d.value).broken ≡ []
  pub own : AllLeaves (IsKnown nv ns nd) d.value

pub placed : (vs : List Judged) (nv ns nd : ℕ) (ds : List FlatFormula) (js : List Judged) → length js + length ds ≡ nd → Each IsRight (judged_after vs js ds) → AreInOrder nv ns (length js) ds →
    Each (Placed vs (judged_after vs js ds) nv ns nd) ds
placed vs nv ns nd [] js n r o = tt
placed vs nv ns nd (d ∷ ds) js n r o =
    let k = leaf_kind vs js in
    let j = judge k false d.value in
    let all = judged_after vs js (d ∷ ds) in
    let right = (each_end IsRight js j (each_before IsRight vs (js ++ j ∷ []) ds r)).1 in
    let agrees = judge_agrees k (leaf_kind vs all) false d.value (all_leaves_more (IsKnown nv ns (length js)) (λ l. k l ≡ leaf_kind vs all l) (same_kind vs js (d ∷ ds) nv ns) d.value o.0) in (
      record { right = subst (λ (i : Judged). i.broken ≡ []) agrees right; own = all_leaves_more (IsKnown nv ns (length js)) (IsKnown nv ns nd) (known_more nv ns (length js) nd (omega arith)) d.value o.0 },
      placed vs nv ns nd ds (js ++ j ∷ []) (ap (λ k. k + length ds) (length_end js j) ∙ omega arith) r (subst (λ n. AreInOrder nv ns n ds) (sym (length_end js j)) o.1),
    )

defined : (m : FlatModel) (v : List Value) → IsClosed m → IsTyped m → AreInDomains m.variables v → (ds : List FlatFormula) →
    Each (Placed (judged_variables m.variables) (judged_definitions m) (length m.variables) (length m.symbols) (length m.definitions)) ds → Each (IsDefined m v) ds
defined m v closed t hv [] h = tt
defined m v closed t hv (d ∷ ds) h =
    let good = IsKnown (length m.variables) (length m.symbols) (length m.definitions) in
    let now = model_holds m closed t v hv in
    let a = single (kind_of_leaf m) d.value _ (sound FlatLeaf (kind_of_leaf m) good (leaves_at m v) (leaves_at m v) now now false d.value h.0.own) h.0.right in (
      record { value = a.gives.value; gives = a.gives.is; of_kind = a.gives.of_kind; safe = safe FlatLeaf (kind_of_leaf m) good (leaves_at m v) (leaves_at m v) now now false d.value h.0.own h.0.right },
      defined m v closed t hv ds h.1,
    )

pub definitions_defined : DefinitionsAreDefined
definitions_defined m closed t v hv =
    let vs = judged_variables m.variables in
    defined m v closed t hv m.definitions (placed vs (length m.variables) (length m.symbols) (length m.definitions) m.definitions [] (omega arith) (parts_of m t).definitions closed.definitions)

-- each no later than the other: the same item and rule
same_place : (a b : Breach) → IsNoLater a b → IsNoLater b a → (number_of a.rule ≡ number_of b.rule) × (a.item ≡ b.item)
same_place a b (inl p) (inl q) = absurd (omega (arith, p, q))
same_place a b (inl p) (inr q) = absurd (omega (arith, p, q.0))
same_place a b (inr p) (inl q) = absurd (omega (arith, p.0, q))
same_place a b (inr p) (inr q) = within p.1 q.1
  where
    within : (a.item < b.item) ⊎ ((a.item ≡ b.item) × (number_of a.rule ≤ number_of b.rule)) → (b.item < a.item) ⊎ ((b.item ≡ a.item) × (number_of b.rule ≤ number_of a.rule)) →
        (number_of a.rule ≡ number_of b.rule) × (a.item ≡ b.item)
    within (inl r) (inl s) = absurd (omega (arith, r, s))
    within (inl r) (inr s) = absurd (omega (arith, r, s.0))
    within (inr r) (inl s) = absurd (omega (arith, r.0, s))
    within (inr r) (inr s) = (omega (arith, r.1, s.1), r.0)

not_empty : {A : Type 0} (P : A → Type 0) (xs : List A) → AtSome P xs → xs ≡ [] → ⊥
not_empty P [] s e = s
not_empty P (x ∷ xs) s e = cc

pub one_fault : OneFault
one_fault m r q i j (at_an_item a fa ra ia) (at_an_item b fb rb ib) =
    let same = same_place a b (each_of (IsNoLater a) b (breaches m) fa.earliest fb.among) (each_of (IsNoLater b) a (breaches m) fb.earliest fa.among) in
    (ap number_of ra ∙ same.0 ∙ sym (ap number_of rb), ia ∙ same.1 ∙ sym ib)
one_fault m r q i j (at_an_item a fa ra ia) (of_its_size none big rb ib) = absurd (not_empty _ (breaches m) fa.among none)
one_fault m r q i j (of_its_size none big ra ia) (at_an_item b fb rb ib) = absurd (not_empty _ (breaches m) fb.among none)
one_fault m r q i j (of_its_size none big ra ia) (of_its_size none' big' rb ib) = (ap number_of (ra ∙ sym rb), ia ∙ sym ib)

pub typed_has_none : TypedHasNoFault
typed_has_none m r i t (at_an_item a fa ra ia) = not_empty _ (breaches m) fa.among t.kept
typed_has_none m r i t (of_its_size none big ra ia) = cc (big, t.small)
