-- The table that is computed at a moment has what each definition gives there.
use Rattle.std.proofs.Common.{◌≡◌, ℕ, suc, ◌<◌, false, List, [], ◌∷◌, ◌++◌, length, map, Option, Some, refl, sym, ap, ◌∙◌, subst}
use Rattle.std.specs.Prelude.{slice_get, All}
use Rattle.std.proofs.lemmas.List.Elements.{All-nil, All-cons}
use Rattle.smv_language.specs.Language.{Text, Tree, Each, EachBoth, Values, one, evaluate, tree_of, FlatLeaf, flat_variable, flat_symbol, flat_definition, FlatVariable, FlatModel as ModelTree, flat_leaves, table_after, leaf_of, flat_tree, formula_tree, variable_tree, model_tree, AreApart, told_moment, told_value}
use Rattle.smv_language.specs.Values as told
use Rattle.base_values.specs.declared.value.Value.{Value}
use Rattle.smv_flat_laws.specs.FlatTrace.{AreInDomains}
use Rattle.smv_flat_laws.proofs.Lists.{length_end, map_joined}
use Rattle.smv_language.specs.declared.model.Formula.{Formula}
use Rattle.smv_language.specs.declared.model.FlatModel.{FlatModel}
use Rattle.smv_type_laws.specs.ExpressionKinds.{Judged, judge}
use Rattle.smv_type_laws.specs.Models.{leaf_kind, judged_variables, judged_after, IsTyped}
use Rattle.smv_type_laws.specs.Laws.{IsKnown, AreInOrder}
use Rattle.smv_type_laws.proofs.Parts.{Alone}
use Rattle.smv_type_laws.proofs.TreeLaws.{sound, single}
use Rattle.smv_type_laws.proofs.SafeLaws.{safe}
use Rattle.smv_type_laws.proofs.ModelLaws.{each_end, each_before, ValueHolds, GivenHolds, IsRight, names_hold}
use Rattle.smv_type_laws.proofs.Typed.{variables_hold, parts_of, as_many_variables}
use Rattle.smv_evaluation.specs.declared.ask.AskedValue.TheVariants.{ItsValue}
use Rattle.smv_evaluation.specs.Evaluation.{leaf_value, asked_of}
use Rattle.smv_evaluation.specs.SymbolTests.{HasVariable}
use Rattle.smv_evaluation.specs.MomentTables.{definition_value, definition_values, filled, HasValues}
use Rattle.smv_evaluation.specs.EvaluableModels.{gives_one, IsNumbered, IsEvaluable, IsLawful, IsFilled}
use Rattle.smv_evaluation.proofs.Rows.{Is}
use Rattle.smv_evaluation.proofs.Answered.{Knows, answered}
use Rattle.smv_evaluation.proofs.Mapped.{asked_mapped}
use Rattle.smv_flat_laws.proofs.Conditions.{each_at}
use Rattle.smv_language.proofs.EachLaws.{each_end as each_join}
use Rattle.smv_language.proofs.ListLaws.{get_map, map_length}
use Rattle.smv_flat_laws.proofs.BothLaws.{both_push, both_size}
use Rattle.base_values.proofs.ListLaws.{get_within}

pub domains_length : (xs : List FlatVariable) (v : List told.Value) → AreInDomains xs v → length xs ≡ length v
domains_length [] [] h = refl
domains_length [] (y ∷ v) h = absurd h
domains_length (x ∷ xs) [] h = absurd h
domains_length (x ∷ xs) (y ∷ v) h = ap suc (domains_length xs v h.1)

-- a lawful valuation has each variable
pub lawful_is : (m : ModelTree) (v : List Value) → IsLawful m v → length v ≡ length m.variables
lawful_is m v p = sym (map_length (told_value m.symbols) v) ∙ sym (domains_length m.variables (told_moment m.symbols v) p.domains)

pub lawful_length : (m : ModelTree) (v : List Value) → IsLawful m v → (i : ℕ) → i < length m.variables → i < length v
lawful_length m v p i h = subst (λ n. i < n) (sym (lawful_is m v p)) h

-- A table has the values of names.
module _ (symbols : List Text) (apart : AreApart symbols) where
  pub knows : (nv nd : ℕ) (v done : List Value) → length v ≡ nv → length done ≡ nd → Each (IsNumbered symbols) v → Each (IsNumbered symbols) done →
      Knows FlatLeaf symbols apart (IsKnown nv (length symbols) nd) (flat_leaves symbols (told_moment symbols v) (map (gives_one symbols) done)) (leaf_value v done)
  knows nv nd v done lv ld p q (flat_variable i) known =
      let x : (x : Value) × (slice_get v i ≡ Some x) = get_within v i (subst (λ n. i < n) (sym lv) known) in
      record { numbered = rw x.1 (each_at (IsNumbered symbols) v i x.0 p x.1); gives = rw (x.1, get_map (told_value symbols) v i x.0 x.1) refl }
  knows nv nd v done lv ld p q (flat_symbol i) known =
      let x : (x : Text) × (slice_get symbols i ≡ Some x) = get_within symbols i known in
      record { numbered = record { text = x.0; there = x.1 }; gives = rw x.1 refl }
  knows nv nd v done lv ld p q (flat_definition i) known =
      let x : (x : Value) × (slice_get done i ≡ Some x) = get_within done i (subst (λ n. i < n) (sym ld) known) in
      record { numbered = rw x.1 (each_at (IsNumbered symbols) done i x.0 q x.1); gives = rw (x.1, get_map (gives_one symbols) done i x.0 x.1) refl }

  -- what is filled in for definitions
  pub record IsFilledIn (variables : List told.Value) (ds : List Formula) (done all : List Value) : Type 0 where
    pub gives : map (gives_one symbols) all ≡ table_after symbols variables (map (gives_one symbols) done) (map formula_tree ds)
    pub numbered : Each (IsNumbered symbols) all

  pub filled_in : (v : List Value) (vs : List Judged) → EachBoth ValueHolds vs (told_moment symbols v) → Each (IsNumbered symbols) v → (ds : List Formula) (js : List Judged) (done : List Value) →
      EachBoth GivenHolds js (map (gives_one symbols) done) → Each (IsNumbered symbols) done → Each IsRight (judged_after vs js (map formula_tree ds)) →
      AreInOrder (length vs) (length symbols) (length js) (map formula_tree ds) → IsFilledIn (told_moment symbols v) ds done (definition_values v done ds)
  filled_in v vs hv nv [] js done hj nj r o = record { gives = refl; numbered = nj }
  filled_in v vs hv nv (d ∷ ds) js done hj nj r o =
      let e : Tree FlatLeaf = flat_tree d.value in
      let k = leaf_kind vs js in
      let j : Judged = judge k false e in
      let table : List (Option Values) = map (gives_one symbols) done in
      let variables : List told.Value = told_moment symbols v in
      let leaves = flat_leaves symbols variables table in
      let right = (each_end IsRight js j (each_before IsRight vs (js ++ j ∷ []) (map formula_tree ds) r)).1 in
      let hold = names_hold symbols variables vs js table hv hj in
      let good = IsKnown (length vs) (length symbols) (length js) in
      let given : Alone j (evaluate leaves leaves e) = single k e (evaluate leaves leaves e) (sound FlatLeaf k good leaves leaves hold hold false e o.0) right in
      let small = safe FlatLeaf k good leaves leaves hold hold false e o.0 right in
      let as_many : length v ≡ length vs = sym (map_length (told_value symbols) v) ∙ sym (both_size ValueHolds vs variables hv) in
      let so_many : length done ≡ length js = sym (map_length (gives_one symbols) done) ∙ sym (both_size GivenHolds js table hj) in
      let known = knows (length vs) (length js) v done as_many so_many nv nj in
      let x : Value = definition_value v done d in
      let told_x : Is symbols (asked_of (leaf_value v done) (leaf_value v done) ItsValue e) given.gives.value =
      answered FlatLeaf symbols apart good leaves leaves (leaf_value v done) (leaf_value v done) known known ItsValue e o.0 small given.gives.value given.gives.is in
      let is : Is symbols x given.gives.value = subst (λ y. Is symbols y given.gives.value) (asked_mapped leaf_of (leaf_value v done) (leaf_value v done) ItsValue (tree_of d.value)) told_x in
      let gives_x : evaluate leaves leaves e ≡ gives_one symbols x = given.gives.is ∙ ap (λ y. Some (one y)) (sym is.name) in
      let longer : map (gives_one symbols) (done ++ x ∷ []) ≡ table ++ evaluate leaves leaves e ∷ [] = map_joined (gives_one symbols) done (x ∷ []) ∙ ap (λ g. table ++ g ∷ []) (sym gives_x) in
      let held : EachBoth GivenHolds (js ++ j ∷ []) (map (gives_one symbols) (done ++ x ∷ [])) =
      subst (λ t. EachBoth GivenHolds (js ++ j ∷ []) t) (sym longer) (both_push GivenHolds js table j (evaluate leaves leaves e) hj (record { bounded = given.bounded; gives = given.gives })) in
      let rest = filled_in v vs hv nv ds (js ++ j ∷ []) (done ++ x ∷ []) held (each_join (IsNumbered symbols) done x nj is.numbered) r
      (subst (λ n. AreInOrder (length vs) (length symbols) n (map formula_tree ds)) (sym (length_end js j)) o.1) in
      record { gives = rest.gives ∙ ap (λ t. table_after symbols variables t (map formula_tree ds)) longer; numbered = rest.numbered }

pub filled_law : (m : FlatModel) (v : List Value) → IsEvaluable (model_tree m) → IsTyped (model_tree m) → IsLawful (model_tree m) v → IsFilled (model_tree m) (filled m v)
filled_law m v able t lawful =
    let tree : ModelTree = model_tree m in
    let parts = parts_of tree t in
    let vs : List Judged = judged_variables tree.variables in
    let hv = variables_hold tree.variables (told_moment m.symbols v) parts.variables lawful.domains in
    let order = subst (λ n. AreInOrder n (length m.symbols) 0 tree.definitions) (sym (as_many_variables tree.variables)) able.closed.definitions in
    let all = filled_in m.symbols able.apart v vs hv lawful.numbered m.definitions [] [] tt tt parts.definitions order in
    record { lawful = lawful; definitions = all.gives; numbered = all.numbered }

-- a lawful valuation has a value for each variable
pub lawful_values : (m : FlatModel) (v : List Value) → IsLawful (model_tree m) v → HasValues m v
lawful_values m v h = lawful_is (model_tree m) v h ∙ map_length variable_tree m.variables

-- a variable of the model is one of its tree
pub variable_of : (m : FlatModel) (i : ℕ) → i < length m.variables → i < length (map variable_tree m.variables)
variable_of m i h = subst (λ n. i < n) (sym (map_length variable_tree m.variables)) h

-- a list of lawful valuations
pub all_lawful : (m : FlatModel) (trace : List (List Value)) → Each (IsLawful (model_tree m)) trace → All (HasValues m) trace
all_lawful m [] h = All-nil (HasValues m)
all_lawful m (v ∷ vs) h = All-cons (HasValues m) v vs (lawful_values m v h.0) (all_lawful m vs h.1)

-- each of them has a variable of the model
pub all_have : (m : ModelTree) (i : ℕ) → i < length m.variables → (trace : List (List Value)) → Each (IsLawful m) trace → All (HasVariable i) trace
all_have m i p [] h = All-nil (HasVariable i)
all_have m i p (v ∷ vs) h = All-cons (HasVariable i) v vs (lawful_length m v h.0 i p) (all_have m i p vs h.1)
