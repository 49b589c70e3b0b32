-- What the passes over a whole model build: its lists.
use Rattle.std.proofs.Common.{◌≡◌, ℕ, ◌+◌, ◌≤◌, Bool, true, false, not, ◌&&◌, List, [], ◌∷◌, ◌++◌, length, drop, map, Some, refl, sym, ◌∙◌, ap, subst, arith}
use Rattle.std.specs.Prelude.{slice_get, if◌then◌else◌}
use Rattle.std.specs.List.{list_any}
use Rattle.smv_language.specs.Language.{Each, Tree, FlatLeaf, FlatVariable, FlatFormula, FlatModel, flat_tree, formula_tree, variable_tree}
use Rattle.smv_flat_laws.specs.NameResolution.{leaves_in}
use Rattle.smv_language.specs.declared.model.Formula.{Formula}
use Rattle.sat_clauses.specs.Literal.{Literal}
use Rattle.sat_circuits.specs.Circuit.{Circuit, fold_gates}
use Rattle.sat_circuits.specs.Gates.{constant_lit}
use Rattle.sat_encoding_laws.specs.Inputs.{names_input, reading_after, reads_input}
use Rattle.sat_encoding_laws.specs.Signals.{Signal, bit}
use Rattle.sat_encoding_laws.specs.Expressions.{its_value, Names as TheNames, encoded}
use Rattle.sat_encoding_laws.specs.Layout.{state_width, input_width, variable_signals, signals_now, signals_next}
use Rattle.sat_encoding_laws.specs.Lists.{Copy, names_of, asserted_signal, definition_gates, formulas_gates, copy_gates, start_of, state_circuit, first_circuit, step_circuit, history_literals, size_gates}
use Rattle.sat_encoding_laws.specs.Meanings.{IsSignal}
use Rattle.sat_expressions.specs.declared.signal.Signal.{Signal as Built}
use Rattle.sat_expressions.specs.BuiltSignals.{signal_of, signals_of, BuildsSignal}
use Rattle.sat_expressions.proofs.ChoiceLoop.{usable_later}
use Rattle.sat_expressions.specs.declared.names.Copied.{Copied}
use Rattle.sat_expressions.specs.declared.names.NamedSignals.{NamedSignals}
use Rattle.sat_expressions.specs.declared.part.ExpressionSignal.{ExpressionSignal}
use Rattle.sat_expressions.specs.ModelNames.{model_of, names_in, copy_of}
use Rattle.sat_expressions.specs.Parts.{BuildsPart}
use Rattle.sat_encoding.specs.declared.lists.ListsSource.{ListsSource}
use Rattle.sat_encoding.specs.Reading.{names_read, tree_any}
use Rattle.sat_encoding.specs.Copies.{source_model, IsSource, IsRightFormula, definition_signal, Defines, BuildsDefinitions, Builds}
use Rattle.sat_encoding.proofs.ReadLaws.{tree_any_is}
use Rattle.sat_encoding.proofs.LoopLaws.{definitions_next, definitions_end}
use Rattle.base_values.proofs.ListLaws.{drop_there}
use Rattle.sat_encoding_laws.specs.Variables.{bad_circuit}

-- ---- reading inputs

-- one definition more is looked at
pub reading_next : (vs : List FlatVariable) (bs : List Bool) (ds : List Formula) (i : ℕ) (d : Formula) (b : Bool) (whole : List Bool) → slice_get ds i ≡ Some d → b ≡ tree_any (names_input vs bs) (flat_tree d.value)
    → reading_after vs bs (map formula_tree (drop i ds)) ≡ whole → reading_after vs (bs ++ b ∷ []) (map formula_tree (drop (i + 1) ds)) ≡ whole
reading_next vs bs ds i d b whole at reads before =
    ap (λ x. reading_after vs (bs ++ x ∷ []) (map formula_tree (drop (i + 1) ds))) (reads ∙ tree_any_is (names_input vs bs) (flat_tree d.value))
    ∙ sym (ap (λ l. reading_after vs bs (map formula_tree l)) (drop_there ds i d at)) ∙ before

-- the expression reads an input of the model
pub read_is : (s : ListsSource) → IsSource s → (t : Tree FlatLeaf) → tree_any (names_read s.reading) t ≡ reads_input (source_model s) t
read_is s is t =
    tree_any_is (names_read s.reading) t
    ∙ ap (λ vs. list_any (names_input (map variable_tree vs) s.reading.definitions.items) (leaves_in t)) is.variables
    ∙ ap (λ ds. list_any (names_input (source_model s).variables ds) (leaves_in t)) is.reading

abbrev pair_of : Circuit → Signal → Circuit × Signal
pair_of s e = (s, e)

pub both_false : (r all : Bool) → all ≡ true → (r && not all) ≡ false
both_false true all e = ap not e
both_false false all e = refl

pub first_false : (r all : Bool) → r ≡ false → (r && not all) ≡ false
first_false r all e = ap (λ b. b && not all) e

pub both_true : (r all : Bool) → r ≡ true → all ≡ false → (r && not all) ≡ true
both_true r all e f = ap (λ b. b && not all) e ∙ ap not f

-- a definition that is left out is FALSE
pub definition_left : (m : FlatModel) (vs done : List Signal) (all : Bool) (d : FlatFormula) (s : Circuit) (l : Literal) → (reads_input m d.value && not all) ≡ true → l ≡ constant_lit false
    → definition_signal m vs all d done s ≡ (s, bit l)
definition_left m vs done all d s l out is =
    ap (λ b. if b then pair_of s (bit (constant_lit false)) else encoded (names_of m (record { variables = vs; definitions = done }) (record { variables = vs; definitions = done })) its_value d.value s) out
    ∙ ap (λ x. pair_of s (bit x)) (sym is)

-- one that is not is its value
pub definition_is : (m : FlatModel) (n : NamedSignals) (c : Copied) (all : Bool) (d : FlatFormula) (s t : Circuit) (p : ExpressionSignal) → names_in n ≡ names_of m (copy_of c) (copy_of c) → model_of n ≡ m → (reads_input m d.value && not all) ≡ false
    → IsRightFormula m d → BuildsPart n its_value d.value s t p → BuildsSignal s (definition_signal m (signals_of c.variables) all d (signals_of c.definitions) s) t p.signal
definition_is m n c all d s t p names same kept right part =
    let here = subst (λ (k : FlatModel). IsRightFormula k d) (sym same) right in
    record {
      exact =
          ap (λ b. if b then pair_of s (bit (constant_lit false)) else encoded (names_of m (copy_of c) (copy_of c)) its_value d.value s) kept ∙ ap (λ (k : TheNames FlatLeaf). encoded k its_value d.value s) (sym names)
          ∙ (part.right here).exact;
      usable = part.usable;
      grows = part.grows;
    }

-- ---- definitions

usable_push : (t : Circuit) (xs : List Built) (made : Built) → Each (IsSignal t) (signals_of xs) → IsSignal t (signal_of made) → Each (IsSignal t) (signals_of (xs ++ made ∷ []))
usable_push t [] made h k = (k, tt)
usable_push t (x ∷ xs) made h k = (h.0, usable_push t xs made h.1 k)

module _ (m : FlatModel) (over : List Signal) (all : Bool) (ds : List FlatFormula) (s : Circuit) (r : Circuit × List Signal) where
  abbrev pub rest_of : ℕ → List Built → Circuit → Circuit × List Signal
  rest_of i done g = fold_gates (definition_gates m over all) (drop i ds) (signals_of done) g

  pub defines_next : (i : ℕ) (d : FlatFormula) (c : Copied) (made : Built) (pushed : List Built) (g t : Circuit) → slice_get ds i ≡ Some d
      → BuildsSignal g (definition_signal m (signals_of c.variables) all d (signals_of c.definitions) g) t made → pushed ≡ c.definitions ++ made ∷ [] → Defines m over s r (rest_of i c.definitions g) g c
      → Defines m over s r (rest_of (i + 1) pushed t) t (record { variables = c.variables; definitions = pushed })
  defines_next i d c made pushed g t at built is before =
      let here = subst (λ (vs : List Signal). BuildsSignal g (definition_signal m vs all d (signals_of c.definitions) g) t made) before.variables built in
      record {
        left = definitions_next m over all ds i d c.definitions made g t r at here before.left ∙ sym (ap (λ l. rest_of (i + 1) l t) is);
        variables = before.variables;
        usable = record {
          variables = usable_later g t built.grows c.variables before.usable.variables;
          definitions = subst (λ (l : List Built). Each (IsSignal t) (signals_of l)) (sym is) (usable_push t c.definitions made (usable_later g t built.grows c.definitions before.usable.definitions) built.usable);
        };
        grows = omega (arith, before.grows, built.grows);
      }

  pub defines_end : (i : ℕ) (c : Copied) (g : Circuit) → length ds ≤ i → Defines m over s r (rest_of i c.definitions g) g c → BuildsDefinitions over s r g c
  defines_end i c g end before = record {
    exact = definitions_end m over all ds i c.definitions g r end before.left;
    variables = before.variables;
    usable = before.usable;
    grows = before.grows;
  }

-- ---- the formulas of a list

-- each breaks no rule, under other names for the model and the list
pub rights_at : (n : NamedSignals) (m : FlatModel) (fs gs : List Formula) → model_of n ≡ m → gs ≡ fs → Each (IsRightFormula m) (map formula_tree fs) → Each (IsRightFormula (model_of n)) (map formula_tree gs)
rights_at n m fs gs e f h =
    subst (λ (k : FlatModel). Each (IsRightFormula k) (map formula_tree gs)) (sym e) (subst (λ (l : List Formula). Each (IsRightFormula m) (map formula_tree l)) (sym f) h)

pub first_is : (m : FlatModel) (n : NamedSignals) (g t : Circuit) (c : Copied) (fs : List FlatFormula) → state_circuit m ≡ (g, copy_of c) → names_in n ≡ names_of m (copy_of c) (copy_of c) → fs ≡ m.at_first
    → Builds g (formulas_gates (names_in n) fs g) t → first_circuit m ≡ t
first_is m n g t c fs state names same built =
    ap (λ (now : Circuit × Copy). formulas_gates (names_of m now.1 now.1) m.at_first now.0) state
    ∙ ap (λ (k : TheNames FlatLeaf). formulas_gates k m.at_first g) (sym names)
    ∙ ap (λ l. formulas_gates (names_in n) l g) (sym same)
    ∙ built.exact

pub step_is : (m : FlatModel) (g h t : Circuit) (now next : Copied) (fs : List FlatFormula) → copy_gates m (signals_now m) true (start_of m) ≡ (g, copy_of now) → copy_gates m (signals_next m) false g ≡ (h, copy_of next)
    → fs ≡ m.at_step → Builds h (formulas_gates (names_of m (copy_of now) (copy_of next)) fs h) t → step_circuit m ≡ t
step_is m g h t now next fs a b same built =
    ap (λ (v : Circuit × Copy). formulas_gates (names_of m v.1 (copy_gates m (signals_next m) false v.0).1) m.at_step (copy_gates m (signals_next m) false v.0).0) a
    ∙ ap (λ (v : Circuit × Copy). formulas_gates (names_of m (copy_of now) v.1) m.at_step v.0) b
    ∙ ap (λ l. formulas_gates (names_of m (copy_of now) (copy_of next)) l h) (sym same)
    ∙ built.exact

-- ---- bad states

pub length_signals_now : (symbols : List (List ℕ)) (p q : ℕ) (xs : List FlatVariable) → length (variable_signals symbols p q xs) ≡ length xs
length_signals_now symbols p q [] = refl
length_signals_now symbols p q (x ∷ xs) = let more = length_signals_now symbols (p + state_width symbols x) (q + input_width symbols x) xs in omega (arith, more)

pub counted_is : (m : FlatModel) (top : Tree FlatLeaf) (history : List ℕ) (size : ℕ) (n : NamedSignals) (g h t : Circuit) (c : Copied) (bits : List Literal) → state_circuit m ≡ (g, copy_of c)
    → names_in n ≡ names_of m (copy_of c) (copy_of c) → Builds g (asserted_signal (encoded (names_in n) its_value top g)) h → bits ≡ history_literals m history → size_gates bits size h ≡ t
    → bad_circuit m top history size ≡ t
counted_is m top history size n g h t c bits state names holds literals few =
    ap (λ (now : Circuit × Copy). size_gates (history_literals m history) size (asserted_signal (encoded (names_of m now.1 now.1) its_value top now.0))) state
    ∙ ap (λ (k : TheNames FlatLeaf). size_gates (history_literals m history) size (asserted_signal (encoded k its_value top g))) (sym names)
    ∙ ap (λ u. size_gates (history_literals m history) size u) holds.exact
    ∙ ap (λ bs. size_gates bs size h) (sym literals)
    ∙ few
