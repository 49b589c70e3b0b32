-- A model with history is typed where the model is.
use Rattle.std.proofs.Common.{◌≡◌, ℕ, zero, suc, ◌+◌, ◌<◌, ◌≤◌, true, false, List, [], ◌∷◌, ◌++◌, length, None, Some, refl, ◌∙◌, ap, arith}
use Rattle.std.specs.Prelude.{slice_get}
use Rattle.smv_language.specs.declared.expr.Op.TheVariants as op
use Rattle.smv_language.specs.Language.{Each, FlatLeaf, flat_variable, flat_symbol, flat_definition, FlatVariable, FlatFormula, FlatModel}
use Rattle.smv_flat_laws.specs.History.{Mode, bit_variables, bits_at_first, bits_at_step, with_history}
use Rattle.smv_type_laws.specs.ExpressionKinds.{Class, truth_class, symbol_class, Judged, judge, judged_binary}
use Rattle.smv_type_laws.specs.DeclaredKinds.{judged_declared}
use Rattle.smv_type_laws.specs.Models.{kind_at, leaf_kind, judged_variables, judged_after, judged_definitions, kind_of_leaf, judged_in, broken_condition, breaches_at, variable_breaches, definition_breaches, condition_breaches}
use Rattle.smv_type_laws.specs.Laws.{IsKnown, AreInOrder, ReadOwn, IsClosed}
use Rattle.smv_type_laws.proofs.Parts.{none_first, none_second}
use Rattle.smv_type_laws.proofs.ModelLaws.{judge_agrees, all_leaves_more}
use Rattle.smv_type_laws.proofs.Typed.{parts_of}
use Rattle.sat_encoding_laws.specs.HistoryBits.{IsSymbolMode, HistoryKeepsTyped}
use Rattle.sat_encoding_laws.proofs.HistoryPlaces.{is_bit}
use Rattle.base_values.proofs.ListLaws.{get_left}

-- the kind of a variable, where there are more after it
pub got_same : (xs ys : List FlatVariable) (i : ℕ) → i < length xs → slice_get (judged_variables (xs ++ ys)) i ≡ slice_get (judged_variables xs) i
got_same [] ys i h = absurd (omega (arith, h))
got_same (x ∷ xs) ys zero h = refl
got_same (x ∷ xs) ys (suc i) h = got_same xs ys i (omega (arith, h))

pub got_judged : (xs : List FlatVariable) (i : ℕ) (x : FlatVariable) → slice_get xs i ≡ Some x → slice_get (judged_variables xs) i ≡ Some (judged_declared x.declared)
got_judged [] i x e = cc
got_judged (y ∷ xs) zero x e = let same : y ≡ x = cc in ap (λ (z : FlatVariable). Some (judged_declared z.declared)) same
got_judged (y ∷ xs) (suc i) x e = got_judged xs i x e

pub same_kind : (xs ys : List FlatVariable) (js : List Judged) (ns k : ℕ) (l : FlatLeaf) → IsKnown (length xs) ns k l → leaf_kind (judged_variables (xs ++ ys)) js l ≡ leaf_kind (judged_variables xs) js l
same_kind xs ys js ns k (flat_variable i) known = ap kind_at (got_same xs ys i known)
same_kind xs ys js ns k (flat_symbol i) known = refl
same_kind xs ys js ns k (flat_definition i) known = refl

pub same_definitions : (xs ys : List FlatVariable) (js : List Judged) (ns k : ℕ) (ds : List FlatFormula) → AreInOrder (length xs) ns k ds
    → judged_after (judged_variables (xs ++ ys)) js ds ≡ judged_after (judged_variables xs) js ds
same_definitions xs ys js ns k [] o = refl
same_definitions xs ys js ns k (d ∷ ds) o =
    let here : judge (leaf_kind (judged_variables (xs ++ ys)) js) false d.value ≡ judge (leaf_kind (judged_variables xs) js) false d.value =
    judge_agrees (leaf_kind (judged_variables (xs ++ ys)) js) (leaf_kind (judged_variables xs) js) false d.value
    (all_leaves_more (IsKnown (length xs) ns k) (λ l. leaf_kind (judged_variables (xs ++ ys)) js l ≡ leaf_kind (judged_variables xs) js l) (same_kind xs ys js ns k) d.value o.0) in
    ap (λ j. judged_after (judged_variables (xs ++ ys)) (js ++ j ∷ []) ds) here ∙ same_definitions xs ys (js ++ judge (leaf_kind (judged_variables xs) js) false d.value ∷ []) ns (suc k) ds o.1

-- booleans break no rule
bits_right : (k : ℕ) (fs : List Mode) → variable_breaches (bit_variables k fs) ≡ []
bits_right k [] = refl
bits_right k (f ∷ fs) = bits_right (suc k) fs

variables_right : (xs : List FlatVariable) (k : ℕ) (fs : List Mode) → variable_breaches (xs ++ bit_variables k fs) ≡ variable_breaches xs
variables_right [] k fs = bits_right k fs
variables_right (x ∷ xs) k fs = ap (λ r. breaches_at x.number x.item (judged_declared x.declared).broken ++ r) (variables_right xs k fs)

-- what a list and another break
pub conditions_joined : (m : FlatModel) (gs hs : List FlatFormula) → condition_breaches m gs ≡ [] → condition_breaches m hs ≡ [] → condition_breaches m (gs ++ hs) ≡ []
conditions_joined m [] hs a b = b
conditions_joined m (g ∷ gs) hs a b =
    let here = breaches_at g.number g.item (broken_condition (judged_in m false g.value)) in
    let first : here ≡ [] = none_first here _ a in
    let rest : condition_breaches m (gs ++ hs) ≡ [] = conditions_joined m gs hs (none_second here _ a) b in
    (λ j. first j ++ rest j)

-- of a class, and no number
abbrev of_class : Class → Judged
of_class c = record { kind = record { class = c; interval = None }; is_set = false; broken = [] }

module _ (m : FlatModel) (fs : List Mode) (closed : IsClosed m) (modes : Each (IsSymbolMode m) fs) where
  same_judged : judged_definitions (with_history m fs) ≡ judged_definitions m
  same_judged = same_definitions m.variables (bit_variables 0 fs) [] (length m.symbols) 0 m.definitions closed.definitions

  same_name : (l : FlatLeaf) → IsKnown (length m.variables) (length m.symbols) (length m.definitions) l → kind_of_leaf (with_history m fs) l ≡ kind_of_leaf m l
  same_name l known =
      ap (λ js. leaf_kind (judged_variables (m.variables ++ bit_variables 0 fs)) js l) same_judged
      ∙ same_kind m.variables (bit_variables 0 fs) (judged_definitions m) (length m.symbols) (length m.definitions) l known

  conditions_same : (gs : List FlatFormula) → ReadOwn m gs → condition_breaches (with_history m fs) gs ≡ condition_breaches m gs
  conditions_same [] own = refl
  conditions_same (g ∷ gs) own =
      let here : judged_in (with_history m fs) false g.value ≡ judged_in m false g.value =
      judge_agrees (kind_of_leaf (with_history m fs)) (kind_of_leaf m) false g.value
      (all_leaves_more (IsKnown (length m.variables) (length m.symbols) (length m.definitions)) (λ l. kind_of_leaf (with_history m fs) l ≡ kind_of_leaf m l) same_name g.value own.0) in
      let rest = conditions_same gs own.1 in
      (λ j. breaches_at g.number g.item (broken_condition (here j)) ++ rest j)

  bit_class : (i : ℕ) → i < length fs → (kind_of_leaf (with_history m fs) (flat_variable (length m.variables + i))).class ≡ truth_class
  bit_class i h =
      let b = is_bit m fs i h in
      ap (λ o. (kind_at o).class) (got_judged (m.variables ++ bit_variables 0 fs) (length m.variables + i) b.variable b.is_variable) ∙ ap (λ d. (judged_declared d).kind.class) b.is_boolean

  mode_class : (f : Mode) → IsSymbolMode m f → (kind_of_leaf (with_history m fs) (flat_variable f.variable)).class ≡ symbol_class
  mode_class f s =
      ap (λ o. (kind_at o).class)
      (got_judged (m.variables ++ bit_variables 0 fs) f.variable s.variable (get_left m.variables (bit_variables 0 fs) f.variable s.variable s.is_variable))
      ∙ s.has_symbols

  first_right : (gs : List Mode) (i : ℕ) → i + length gs ≤ length fs → Each (IsSymbolMode m) gs → (n : ℕ) → n ≡ length m.variables + i → condition_breaches (with_history m fs) (bits_at_first n gs) ≡ []
  first_right [] i h s n e = refl
  first_right (f ∷ gs) i h s n e =
      let of_bit = ap (λ k. (kind_of_leaf (with_history m fs) (flat_variable k)).class) e ∙ bit_class i (omega (arith, h)) in
      let of_mode = mode_class f s.0 in
      let rest = first_right gs (suc i) (omega (arith, h)) s.1 (suc n) (omega (arith, e)) in
      (λ j.
      breaches_at 0 0 (broken_condition (judged_binary false op.Within (of_class (of_bit j)) (judged_binary true op.Equal (of_class (of_mode j)) (of_class symbol_class))))
      ++ rest j)

  step_right : (gs : List Mode) (i : ℕ) → i + length gs ≤ length fs → Each (IsSymbolMode m) gs → (n : ℕ) → n ≡ length m.variables + i → condition_breaches (with_history m fs) (bits_at_step n gs) ≡ []
  step_right [] i h s n e = refl
  step_right (f ∷ gs) i h s n e =
      let of_bit = ap (λ k. (kind_of_leaf (with_history m fs) (flat_variable k)).class) e ∙ bit_class i (omega (arith, h)) in
      let of_mode = mode_class f s.0 in
      let rest = step_right gs (suc i) (omega (arith, h)) s.1 (suc n) (omega (arith, e)) in
      (λ j.
      breaches_at 0 0
      (broken_condition
      (judged_binary false op.Within (of_class (of_bit j))
      (judged_binary true op.Or (of_class (of_bit j)) (judged_binary false op.Equal (of_class (of_mode j)) (of_class symbol_class)))))
      ++ rest j)

pub history_typed : HistoryKeepsTyped
history_typed m fs closed typed modes small =
    let parts = parts_of m typed in
    let start : length m.variables ≡ length m.variables + 0 = omega arith in
    let a = variable_breaches m.variables in
    let b = definition_breaches m.definitions (judged_definitions m) in
    let defined : b ≡ [] = none_first b _ (none_second a _ typed.kept) in
    let variables = variables_right m.variables 0 fs ∙ parts.variables in
    let definitions = ap (definition_breaches m.definitions) (same_judged m fs closed modes) ∙ defined in
    let first = conditions_joined (with_history m fs) m.at_first (bits_at_first (length m.variables) fs) (conditions_same m fs closed modes m.at_first closed.at_first ∙ parts.at_first)
    (first_right m fs closed modes fs 0 (omega arith) modes (length m.variables) start) in
    let each = conditions_same m fs closed modes m.at_each closed.at_each ∙ parts.at_each in
    let step = conditions_joined (with_history m fs) m.at_step (bits_at_step (length m.variables) fs) (conditions_same m fs closed modes m.at_step closed.at_step ∙ parts.at_step)
    (step_right m fs closed modes fs 0 (omega arith) modes (length m.variables) start) in
    record { kept = (λ j. variables j ++ (definitions j ++ (first j ++ (each j ++ step j)))); small = small }
