-- A model with the history of its modes breaks no rule at an item where the model breaks none.
use Rattle.std.proofs.Common.{◌≡◌, ℕ, zero, suc, ◌+◌, ◌<◌, arith, false, List, [], ◌∷◌, ◌++◌, length, map, Some, refl, sym, ap, ◌∙◌, subst}
use Rattle.std.specs.Prelude.{slice_get}
use Rattle.smv_language.specs.declared.expr.Op.TheVariants as op
use Rattle.smv_language.specs.Language.{Tree, leaf, binary, boolean, Each, FlatLeaf, flat_variable, flat_symbol, flat_definition, FlatVariable, FlatFormula, FlatModel}
use Rattle.smv_flat_laws.specs.History.{Mode, stands_now, stands_next, bit_variables, bits_at_first, bits_at_step, bit_at_first, bit_at_step, with_history}
use Rattle.smv_flat_laws.proofs.Conditions.{each_join}
use Rattle.smv_flat_laws.proofs.Lists.{length_end}
use Rattle.smv_type_laws.specs.ExpressionKinds.{Class, truth_class, symbol_class, Judged, judge}
use Rattle.smv_type_laws.specs.DeclaredKinds.{judged_declared}
use Rattle.smv_type_laws.specs.Laws.{IsKnown, ReadsOwn, AreInOrder, ReadOwn, IsClosed}
use Rattle.smv_type_laws.specs.Models.{kind_at, leaf_kind, judged_variables, judged_after, judged_definitions, kind_of_leaf, judged_in, broken_condition, breaches_at, condition_breaches, breaches}
use Rattle.smv_type_laws.proofs.ModelLaws.{IsRight, judge_agrees, all_leaves_more}
use Rattle.fault_woven_laws.specs.Modes.{HasSymbols}
use Rattle.fault_woven_laws.proofs.Rightly.{Rightly, none_joined, condition_right, connective_right, same_right}
use Rattle.fault_woven_laws.proofs.Items.{parts_of, none_broken}
use Rattle.sat_encoding_laws.proofs.HistoryTyped.{conditions_joined as joined_breaches}
use Rattle.smv_language.proofs.ListLaws.{get_map}
use Rattle.base_values.proofs.ListLaws.{get_left}

-- What is judged of the first variables stays with more.
same_below : {A B : Type 0} (f : A → B) (xs ys : List A) (i : ℕ) → i < length xs → slice_get (map f (xs ++ ys)) i ≡ slice_get (map f xs) i
same_below f [] ys i h = absurd (omega (arith, h))
same_below f (x ∷ xs) ys zero h = refl
same_below f (x ∷ xs) ys (suc i) h = same_below f xs ys i (omega (arith, h))

module _ (vs vs' : List Judged) (variables symbols : ℕ) (same : (i : ℕ) → i < variables → slice_get vs' i ≡ slice_get vs i) where
  known_kind : (js : List Judged) (n : ℕ) (l : FlatLeaf) → IsKnown variables symbols n l → leaf_kind vs' js l ≡ leaf_kind vs js l
  known_kind js n (flat_variable i) h = ap kind_at (same i h)
  known_kind js n (flat_symbol i) h = refl
  known_kind js n (flat_definition i) h = refl

  same_definitions : (ds : List FlatFormula) (js : List Judged) (n : ℕ) → length js ≡ n → AreInOrder variables symbols n ds → judged_after vs' js ds ≡ judged_after vs js ds
  same_definitions [] js n e h = refl
  same_definitions (d ∷ ds) js n e h =
      let j = judge (leaf_kind vs js) false d.value in
      let here = judge_agrees (leaf_kind vs' js) (leaf_kind vs js) false d.value (all_leaves_more (IsKnown variables symbols n) (λ l. leaf_kind vs' js l ≡ leaf_kind vs js l) (known_kind js n) d.value h.0) in
      ap (λ x. judged_after vs' (js ++ x ∷ []) ds) here ∙ same_definitions ds (js ++ j ∷ []) (suc n) (length_end js j ∙ ap suc e) h.1

-- A bit is a truth value.
bit_there : (xs : List FlatVariable) (i : ℕ) (fs : List Mode) (j : ℕ) → j < length fs → slice_get (judged_variables (xs ++ bit_variables i fs)) (length xs + j) ≡ Some (judged_declared boolean)
bit_there [] i [] j h = absurd (omega (arith, h))
bit_there [] i (f ∷ fs) zero h = refl
bit_there [] i (f ∷ fs) (suc j) h =
    let place : 0 + suc j ≡ suc (0 + j) = omega arith in
    subst (λ n. slice_get (judged_variables (bit_variables i (f ∷ fs))) n ≡ Some (judged_declared boolean)) (sym place) (bit_there [] (suc i) fs j (omega (arith, h)))
bit_there (x ∷ xs) i fs j h =
    let place : suc (length xs) + j ≡ suc (length xs + j) = omega arith in
    subst (λ n. slice_get (judged_variables (x ∷ (xs ++ bit_variables i fs))) n ≡ Some (judged_declared boolean)) (sym place) (bit_there xs i fs j h)

bits_right : (i : ℕ) (fs : List Mode) → Each (λ (x : FlatVariable). (judged_declared x.declared).broken ≡ []) (bit_variables i fs)
bits_right i [] = tt
bits_right i (f ∷ fs) = (refl, bits_right (suc i) fs)

module _ (m : FlatModel) (all : List Mode) (closed : IsClosed m) where
  abbrev full : FlatModel
  full = with_history m all

  definitions_same : judged_definitions full ≡ judged_definitions m
  definitions_same =
      same_definitions (judged_variables m.variables) (judged_variables full.variables) (length m.variables) (length m.symbols)
      (λ i h. same_below (λ (x : FlatVariable). judged_declared x.declared) m.variables (bit_variables 0 all) i h) m.definitions [] 0 refl closed.definitions

  pub own_kind : (l : FlatLeaf) → IsKnown (length m.variables) (length m.symbols) (length m.definitions) l → kind_of_leaf full l ≡ kind_of_leaf m l
  own_kind (flat_variable i) h = ap kind_at (same_below (λ (x : FlatVariable). judged_declared x.declared) m.variables (bit_variables 0 all) i h)
  own_kind (flat_symbol i) h = refl
  own_kind (flat_definition i) h = ap (λ js. kind_at (slice_get js i)) definitions_same

  own_judged : (e : Tree FlatLeaf) → ReadsOwn m e → judged_in full false e ≡ judged_in m false e
  own_judged e own =
      judge_agrees (kind_of_leaf full) (kind_of_leaf m) false e
      (all_leaves_more (IsKnown (length m.variables) (length m.symbols) (length m.definitions)) (λ l. kind_of_leaf full l ≡ kind_of_leaf m l) own_kind e own)

  own_breaches : (fs : List FlatFormula) → ReadOwn m fs → condition_breaches full fs ≡ condition_breaches m fs
  own_breaches [] own = refl
  own_breaches (f ∷ fs) own =
      ap (λ j. breaches_at f.number f.item (broken_condition j) ++ condition_breaches full fs) (own_judged f.value own.0)
      ∙ ap (λ bs. breaches_at f.number f.item (broken_condition (judged_in m false f.value)) ++ bs) (own_breaches fs own.1)

  leaf_right : (c : Class) (l : FlatLeaf) → (kind_of_leaf full l).class ≡ c → Rightly c (judged_in full false (leaf l))
  leaf_right c l e = record { kept = refl; class = e }

  bit_right : (b j : ℕ) → b ≡ length m.variables + j → j < length all → Rightly truth_class (judged_in full false (leaf (flat_variable b)))
  bit_right b j e h =
      leaf_right truth_class (flat_variable b) (ap (λ n. (kind_at (slice_get (judged_variables full.variables) n)).class) e ∙ ap (λ o. (kind_at o).class) (bit_there m.variables 0 all j h))

  mode_right : (f : Mode) → HasSymbols m f → Rightly symbol_class (judged_in full false (leaf (flat_variable f.variable)))
  mode_right f s =
      leaf_right symbol_class (flat_variable f.variable)
      (ap (λ o. (kind_at o).class) (get_map (λ (x : FlatVariable). judged_declared x.declared) full.variables f.variable s.variable (get_left m.variables (bit_variables 0 all) f.variable s.variable s.is_variable)) ∙ s.symbols)

  symbol_right : (f : Mode) → Rightly symbol_class (judged_in full false (leaf (flat_symbol f.symbol)))
  symbol_right f = leaf_right symbol_class (flat_symbol f.symbol) refl

  now_right : (f : Mode) → HasSymbols m f → Rightly truth_class (judged_in full false (stands_now f))
  now_right f s = same_right symbol_class (judged_in full false (leaf (flat_variable f.variable))) (judged_in full false (leaf (flat_symbol f.symbol))) (mode_right f s) (symbol_right f)

  next_right : (f : Mode) → HasSymbols m f → Rightly truth_class (judged_in full false (stands_next f))
  next_right f s = same_right symbol_class (judged_in full false (leaf (flat_variable f.variable))) (judged_in full false (leaf (flat_symbol f.symbol))) (mode_right f s) (symbol_right f)

  first_right : (b j : ℕ) (f : Mode) → b ≡ length m.variables + j → j < length all → HasSymbols m f → broken_condition (judged_in full false (bit_at_first b f).value) ≡ []
  first_right b j f e h s =
      condition_right (judged_in full false (bit_at_first b f).value)
      (same_right truth_class (judged_in full false (leaf (flat_variable b))) (judged_in full false (stands_now f)) (bit_right b j e h) (now_right f s))

  step_right : (b j : ℕ) (f : Mode) → b ≡ length m.variables + j → j < length all → HasSymbols m f → broken_condition (judged_in full false (bit_at_step b f).value) ≡ []
  step_right b j f e h s =
      condition_right (judged_in full false (bit_at_step b f).value)
      (same_right truth_class (judged_in full false (leaf (flat_variable b))) (judged_in full false (binary op.Or (leaf (flat_variable b)) (stands_next f))) (bit_right b j e h)
      (connective_right (judged_in full false (leaf (flat_variable b))) (judged_in full false (stands_next f)) (bit_right b j e h) (next_right f s)))

  all_first : (b j : ℕ) (fs : List Mode) → b ≡ length m.variables + j → j + length fs ≡ length all → Each (HasSymbols m) fs → condition_breaches full (bits_at_first b fs) ≡ []
  all_first b j [] e n s = refl
  all_first b j (f ∷ fs) e n s =
      none_joined (breaches_at 0 0 (broken_condition (judged_in full false (bit_at_first b f).value))) (condition_breaches full (bits_at_first (suc b) fs))
      (ap (breaches_at 0 0) (first_right b j f e (omega (arith, n)) s.0)) (all_first (suc b) (suc j) fs (omega (arith, e)) (omega (arith, n)) s.1)

  all_step : (b j : ℕ) (fs : List Mode) → b ≡ length m.variables + j → j + length fs ≡ length all → Each (HasSymbols m) fs → condition_breaches full (bits_at_step b fs) ≡ []
  all_step b j [] e n s = refl
  all_step b j (f ∷ fs) e n s =
      none_joined (breaches_at 0 0 (broken_condition (judged_in full false (bit_at_step b f).value))) (condition_breaches full (bits_at_step (suc b) fs))
      (ap (breaches_at 0 0) (step_right b j f e (omega (arith, n)) s.0)) (all_step (suc b) (suc j) fs (omega (arith, e)) (omega (arith, n)) s.1)

  pub history_kept : Each (HasSymbols m) all → breaches m ≡ [] → breaches full ≡ []
  history_kept s right =
      let parts = parts_of m right in
      none_broken full (record {
        variables = each_join (λ (x : FlatVariable). (judged_declared x.declared).broken ≡ []) m.variables (bit_variables 0 all) parts.variables (bits_right 0 all);
        definitions = subst (Each IsRight) (sym definitions_same) parts.definitions;
        at_first = joined_breaches full m.at_first (bits_at_first (length m.variables) all) (own_breaches m.at_first closed.at_first ∙ parts.at_first) (all_first (length m.variables) 0 all (omega arith) (omega arith) s);
        at_each = own_breaches m.at_each closed.at_each ∙ parts.at_each;
        at_step = joined_breaches full m.at_step (bits_at_step (length m.variables) all) (own_breaches m.at_step closed.at_step ∙ parts.at_step) (all_step (length m.variables) 0 all (omega arith) (omega arith) s);
      })
