-- What is answered from filled tables is what an expression of a typed model gives.
use Rattle.std.proofs.Common.{◌≡◌, ◌↔◌, ◌+◌, arith, Bool, true, false, List, [], ◌∷◌, ◌++◌, length, Option, Some, IsTrue, sym, ap, ◌∙◌, subst}
use Rattle.smv_language.specs.Language.{Text, Tree, Values, one, has, evaluate, tree_of, FlatLeaf, FlatFormula, FlatModel, flat_leaves, definition_gives, table_after, leaves_at, FlatGives, FlatMay, leaf_of, flat_tree, told_moment, told_value}
use Rattle.smv_language.specs.Values as told
use Rattle.smv_language.specs.declared.expr.Expr.{Expr}
use Rattle.base_values.specs.declared.value.Value.{Value}
use Rattle.smv_flat_laws.proofs.Lists.{length_end}
use Rattle.smv_language.specs.declared.model.Flat.{Flat}
use Rattle.smv_type_laws.specs.Models.{kind_of_leaf, judged_in, IsTyped}
use Rattle.smv_type_laws.specs.Laws.{IsKnown, ReadsOwn, KeepsKind}
use Rattle.smv_type_laws.specs.KindValues.{IsSafe}
use Rattle.smv_type_laws.proofs.TreeLaws.{no_set}
use Rattle.smv_type_laws.proofs.Typed.{values_lie}
use Rattle.smv_evaluation.specs.declared.ask.AskedValue.{AskedValue}
use Rattle.smv_evaluation.specs.declared.ask.AskedValue.TheVariants.{ItsValue, Whether}
use Rattle.smv_evaluation.specs.OperatorValues.{is_true}
use Rattle.smv_evaluation.specs.Evaluation.{leaf_value}
use Rattle.smv_evaluation.specs.Entries.{Entries}
use Rattle.smv_evaluation.specs.MomentTables.{answer_in}
use Rattle.smv_evaluation.specs.EvaluableModels.{gives_one, IsNumbered, IsEvaluable, IsFilled, Gives}
use Rattle.smv_evaluation.proofs.Rows.{Is, Answers}
use Rattle.smv_evaluation.proofs.Answered.{Knows, answered}
use Rattle.smv_evaluation.proofs.Mapped.{asked_mapped}
use Rattle.smv_evaluation.proofs.FilledLaws.{lawful_is, knows}
use Rattle.smv_language.proofs.ListLaws.{map_length}

table_length : (symbols : List Text) (v : List told.Value) (table : List (Option Values)) (ds : List FlatFormula) → length (table_after symbols v table ds) ≡ length table + length ds
table_length symbols v table [] = omega arith
table_length symbols v table (d ∷ ds) =
    let longer = length_end table (definition_gives symbols v table d) in
    table_length symbols v (table ++ definition_gives symbols v table d ∷ []) ds ∙ ap (λ n. n + length ds) longer ∙ omega arith

-- a filled table knows the model's names
filled_knows : (m : FlatModel) (able : IsEvaluable m) (e : Entries) → IsFilled m e →
    Knows FlatLeaf m.symbols able.apart (IsKnown (length m.variables) (length m.symbols) (length m.definitions)) (leaves_at m (told_moment m.symbols e.variables)) (leaf_value e.variables e.definitions)
filled_knows m able e f =
    let as_many : length e.variables ≡ length m.variables = lawful_is m e.variables f.lawful in
    let so_many : length e.definitions ≡ length m.definitions =
    sym (map_length (gives_one m.symbols) e.definitions) ∙ (ap length f.definitions ∙ (table_length m.symbols (told_moment m.symbols e.variables) [] m.definitions ∙ omega arith)) in
    subst (λ t. Knows FlatLeaf m.symbols able.apart (IsKnown (length m.variables) (length m.symbols) (length m.definitions)) (flat_leaves m.symbols (told_moment m.symbols e.variables) t) (leaf_value e.variables e.definitions))
    f.definitions (knows m.symbols able.apart (length m.variables) (length m.definitions) e.variables e.definitions as_many so_many f.lawful.numbered f.numbered)

-- what is answered of an expression that is safe
pub answers : (m : FlatModel) → IsEvaluable m → (now next : Entries) → IsFilled m now → IsFilled m next → (asked : AskedValue) (e : Expr Flat) → ReadsOwn m (flat_tree e) →
    IsSafe (leaves_at m (told_moment m.symbols now.variables)) (leaves_at m (told_moment m.symbols next.variables)) (flat_tree e) →
    Answers m.symbols asked (evaluate (leaves_at m (told_moment m.symbols now.variables)) (leaves_at m (told_moment m.symbols next.variables)) (flat_tree e)) (answer_in now next asked (tree_of e))
answers m able now next p q asked e own safe =
    let v = leaf_value now.variables now.definitions in
    let w = leaf_value next.variables next.definitions in
    let before = leaves_at m (told_moment m.symbols now.variables) in
    let after = leaves_at m (told_moment m.symbols next.variables) in
    subst (λ r. Answers m.symbols asked (evaluate before after (flat_tree e)) r) (asked_mapped leaf_of v w asked (tree_of e))
    (answered FlatLeaf m.symbols able.apart (IsKnown (length m.variables) (length m.symbols) (length m.definitions)) before after v w (filled_knows m able now p) (filled_knows m able next q) asked (flat_tree e) own safe)

keeps : (m : FlatModel) → IsEvaluable m → IsTyped m → (now next : Entries) → IsFilled m now → IsFilled m next → (sets : Bool) (e : Tree FlatLeaf) → ReadsOwn m e → (judged_in m sets e).broken ≡ [] →
    KeepsKind m (told_moment m.symbols now.variables) (told_moment m.symbols next.variables) (judged_in m sets e) e
keeps m able t now next p q sets e own right = values_lie m able.closed t _ _ p.lawful.domains q.lawful.domains sets e own right

-- The value of an expression that is no set.
pub value_law : (m : FlatModel) → IsEvaluable m → IsTyped m → (now next : Entries) → IsFilled m now → IsFilled m next → (e : Expr Flat) → ReadsOwn m (flat_tree e) →
    (judged_in m false (flat_tree e)).broken ≡ [] → Gives m now next (flat_tree e) (answer_in now next ItsValue (tree_of e))
value_law m able t now next p q e own right =
    let k = keeps m able t now next p q false (flat_tree e) own right in
    let alone = k.alone (no_set (kind_of_leaf m) (flat_tree e) right) in
    let is : Is m.symbols (answer_in now next ItsValue (tree_of e)) alone.0 = answers m able now next p q ItsValue e own k.safe alone.0 alone.1 in
    record { gives = alone.1 ∙ ap (λ y. Some (one y)) (sym is.name); numbered = is.numbered }

-- Whether an expression may have a value.
pub may_law : (m : FlatModel) → IsEvaluable m → IsTyped m → (now next : Entries) → IsFilled m now → IsFilled m next → (e : Expr Flat) → ReadsOwn m (flat_tree e) →
    (judged_in m true (flat_tree e)).broken ≡ [] → (x : Value) → IsNumbered m.symbols x →
    (IsTrue (is_true (answer_in now next (Whether x) (tree_of e))) ↔ FlatMay m (told_moment m.symbols now.variables) (told_moment m.symbols next.variables) (flat_tree e) (told_value m.symbols x))
may_law m able t now next p q e own right x numbered = (there, back)
  where
    k : KeepsKind m (told_moment m.symbols now.variables) (told_moment m.symbols next.variables) (judged_in m true (flat_tree e)) (flat_tree e)
    k = keeps m able t now next p q true (flat_tree e) own right

    is : (vs : Values) → FlatGives m (told_moment m.symbols now.variables) (told_moment m.symbols next.variables) (flat_tree e) vs →
        is_true (answer_in now next (Whether x) (tree_of e)) ≡ has vs (told_value m.symbols x)
    is vs g = ap is_true (answers m able now next p q (Whether x) e own k.safe vs g numbered)

    there : IsTrue (is_true (answer_in now next (Whether x) (tree_of e))) → FlatMay m (told_moment m.symbols now.variables) (told_moment m.symbols next.variables) (flat_tree e) (told_value m.symbols x)
    there h = (k.values, k.gives, sym (is k.values k.gives) ∙ h)

    back : FlatMay m (told_moment m.symbols now.variables) (told_moment m.symbols next.variables) (flat_tree e) (told_value m.symbols x) → IsTrue (is_true (answer_in now next (Whether x) (tree_of e)))
    back may = is may.0 may.1 ∙ may.2
