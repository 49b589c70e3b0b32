-- A model with history is encodable where the model is.
use Rattle.std.proofs.Common.{◌≡◌, ℕ, suc, ◌+◌, ◌<◌, ◌≤◌, Bool, false, ◌||◌, List, [], ◌∷◌, ◌++◌, length, refl, sym, ◌∙◌, ap, arith}
use Rattle.std.proofs.lemmas.List.{length-append}
use Rattle.smv_language.specs.Language.{Tree, Trees, Branches, leaf, not_of, negate, next_of, binary, choice, case_of, set_of, span, no_tree, tree_then, no_branch, branch_then, AllLeaves, AllLeavesOfTrees, AllLeavesOfBranches, Each, FlatLeaf, flat_variable, flat_symbol, flat_definition, FlatVariable, FlatFormula, FlatModel}
use Rattle.smv_language.specs.Tree.{truth as is_truth, number as is_number}
use Rattle.smv_flat_laws.specs.History.{Mode, bit_variables, bits_at_first, bits_at_step, with_history}
use Rattle.smv_flat_laws.specs.NameResolution.{leaves_in}
use Rattle.smv_flat_laws.specs.Rules.{leaves_under, trees_leaves_under, branches_leaves_under}
use Rattle.smv_flat_laws.proofs.Lists.{each_more}
use Rattle.smv_flat_laws.proofs.HistoryLaws.{length_bits}
use Rattle.smv_type_laws.specs.Laws.{IsKnown, AreInOrder, ReadOwn}
use Rattle.smv_type_laws.proofs.ModelLaws.{all_leaves_more}
use Rattle.sat_encoding_laws.specs.Inputs.{is_input_variable, names_input, tree_reads_input, reading_after, reads_input}
use Rattle.sat_encoding_laws.specs.Encodable.{IsListedType, is_input_name, reads_next_input, IsEncodable}
use Rattle.sat_encoding_laws.specs.HistoryBits.{IsStateMode, HistoryKeepsEncodable}
use Rattle.sat_encoding_laws.proofs.NameMeans.{each_leaf, same_any}
use Rattle.sat_encoding_laws.proofs.HistoryPlaces.{is_bit}
use Rattle.std.proofs.lemmas.Option.{slice_get_within as got_below}
use Rattle.smv_flat_laws.proofs.Conditions.{each_join}
use Rattle.base_values.proofs.ListLaws.{get_left, get_within}

-- what holds of each leaf holds of those under `next`
mutual
  pub each_under : {L : Type 0} (P : L → Type 0) (t : Tree L) → AllLeaves P t → Each P (leaves_under t)
  each_under P (is_truth b) h = tt
  each_under P (is_number n) h = tt
  each_under P (leaf l) h = tt
  each_under P (not_of a) h = each_under P a h
  each_under P (negate a) h = each_under P a h
  each_under P (next_of a) h = each_leaf P a h
  each_under P (binary o a b) h = each_join P (leaves_under a) _ (each_under P a h.0) (each_under P b h.1)
  each_under P (choice d a b) h = each_join P (leaves_under d) _ (each_under P d h.0) (each_join P (leaves_under a) _ (each_under P a h.1) (each_under P b h.2))
  each_under P (case_of bs) h = branches_each P bs h
  each_under P (set_of ts) h = trees_each P ts h
  each_under P (span lo hi) h = tt

  trees_each : {L : Type 0} (P : L → Type 0) (ts : Trees L) → AllLeavesOfTrees P ts → Each P (trees_leaves_under ts)
  trees_each P no_tree h = tt
  trees_each P (tree_then t ts) h = each_join P (leaves_under t) _ (each_under P t h.0) (trees_each P ts h.1)

  branches_each : {L : Type 0} (P : L → Type 0) (bs : Branches L) → AllLeavesOfBranches P bs → Each P (branches_leaves_under bs)
  branches_each P no_branch h = tt
  branches_each P (branch_then d a bs) h = each_join P (leaves_under d) _ (each_under P d h.0) (each_join P (leaves_under a) _ (each_under P a h.1) (branches_each P bs h.2))

-- ---- more variables

pub known_wider : (nv nw ns k : ℕ) → nv ≤ nw → (l : FlatLeaf) → IsKnown nv ns k l → IsKnown nw ns k l
known_wider nv nw ns k h (flat_variable i) known = omega (arith, h, known)
known_wider nv nw ns k h (flat_symbol i) known = known
known_wider nv nw ns k h (flat_definition i) known = known

pub order_wider : (nv nw ns k : ℕ) → nv ≤ nw → (ds : List FlatFormula) → AreInOrder nv ns k ds → AreInOrder nw ns k ds
order_wider nv nw ns k h [] o = tt
order_wider nv nw ns k h (d ∷ ds) o = (all_leaves_more (IsKnown nv ns k) (IsKnown nw ns k) (known_wider nv nw ns k h) d.value o.0, order_wider nv nw ns (suc k) h ds o.1)

-- names that were known are inputs as they were
pub same_name : (xs ys : List FlatVariable) (flags : List Bool) (ns k : ℕ) (l : FlatLeaf) → IsKnown (length xs) ns k l → names_input (xs ++ ys) flags l ≡ names_input xs flags l
same_name xs ys flags ns k (flat_variable i) known =
    let x = get_within xs i known in
    (λ j. is_input_variable ((get_left xs ys i x.0 x.1 ∙ sym x.1) j))
same_name xs ys flags ns k (flat_symbol i) known = refl
same_name xs ys flags ns k (flat_definition i) known = refl

pub same_reading : (xs ys : List FlatVariable) (flags : List Bool) (ns k : ℕ) (ds : List FlatFormula) → AreInOrder (length xs) ns k ds → reading_after (xs ++ ys) flags ds ≡ reading_after xs flags ds
same_reading xs ys flags ns k [] o = refl
same_reading xs ys flags ns k (d ∷ ds) o =
    let here : tree_reads_input (xs ++ ys) flags d.value ≡ tree_reads_input xs flags d.value =
    same_any (names_input (xs ++ ys) flags) (names_input xs flags) (leaves_in d.value)
    (each_leaf _ d.value (all_leaves_more (IsKnown (length xs) ns k) (λ l. names_input (xs ++ ys) flags l ≡ names_input xs flags l) (same_name xs ys flags ns k) d.value o.0)) in
    ap (λ b. reading_after (xs ++ ys) (flags ++ b ∷ []) ds) here ∙ same_reading xs ys (flags ++ tree_reads_input xs flags d.value ∷ []) ns (suc k) ds o.1

module _ (m : FlatModel) (fs : List Mode) (is : IsEncodable m) (modes : Each (IsStateMode m) fs) where
  made : FlatModel
  made = with_history m fs

  all_variables : length (m.variables ++ bit_variables 0 fs) ≡ length m.variables + length fs
  all_variables = length-append {A = FlatVariable} m.variables (bit_variables 0 fs) ∙ ap (λ n. length m.variables + n) (length_bits 0 fs)

  wider : length m.variables ≤ length (m.variables ++ bit_variables 0 fs)
  wider = omega (arith, all_variables)

  same_input : (l : FlatLeaf) → IsKnown (length m.variables) (length m.symbols) (length m.definitions) l → is_input_name (with_history m fs) l ≡ is_input_name m l
  same_input l known =
      ap (λ flags. names_input (m.variables ++ bit_variables 0 fs) flags l) (same_reading m.variables (bit_variables 0 fs) [] (length m.symbols) 0 m.definitions is.closed.definitions)
      ∙ same_name m.variables (bit_variables 0 fs) (reading_after m.variables [] m.definitions) (length m.symbols) (length m.definitions) l known

  -- a history bit is no input, nor is the variable of a mode
  bit_no_input : (i : ℕ) → i < length fs → is_input_name (with_history m fs) (flat_variable (length m.variables + i)) ≡ false
  bit_no_input i h = let b = is_bit m fs i h in ap is_input_variable b.is_variable ∙ b.is_state

  mode_no_input : (f : Mode) → IsStateMode m f → is_input_name (with_history m fs) (flat_variable f.variable) ≡ false
  mode_no_input f s = ap is_input_variable (get_left m.variables (bit_variables 0 fs) f.variable s.variable s.is_variable) ∙ s.is_state

  mode_within : (f : Mode) → IsStateMode m f → f.variable < length m.variables
  mode_within f s = got_below m.variables f.variable s.variable s.is_variable

  read_own : (gs : List FlatFormula) → ReadOwn m gs → ReadOwn (with_history m fs) gs
  read_own gs h =
      each_more _ _ gs
      (λ g k. all_leaves_more (IsKnown (length m.variables) (length m.symbols) (length m.definitions)) (IsKnown (length (m.variables ++ bit_variables 0 fs)) (length m.symbols) (length m.definitions))
      (known_wider (length m.variables) (length (m.variables ++ bit_variables 0 fs)) (length m.symbols) (length m.definitions) wider) g.value k) h

  quiet_now : (gs : List FlatFormula) → ReadOwn m gs → Each (λ f. reads_input m f.value ≡ false) gs → Each (λ f. reads_input (with_history m fs) f.value ≡ false) gs
  quiet_now [] own h = tt
  quiet_now (g ∷ gs) own h = (
    same_any (is_input_name (with_history m fs)) (is_input_name m) (leaves_in g.value)
        (each_leaf _ g.value (all_leaves_more _ (λ l. is_input_name (with_history m fs) l ≡ is_input_name m l) same_input g.value own.0)) ∙ h.0,
    quiet_now gs own.1 h.1,
  )

  quiet_next : (gs : List FlatFormula) → ReadOwn m gs → Each (λ f. reads_next_input m f.value ≡ false) gs → Each (λ f. reads_next_input (with_history m fs) f.value ≡ false) gs
  quiet_next [] own h = tt
  quiet_next (g ∷ gs) own h = (
    same_any (is_input_name (with_history m fs)) (is_input_name m) (leaves_under g.value)
        (each_under _ g.value (all_leaves_more _ (λ l. is_input_name (with_history m fs) l ≡ is_input_name m l) same_input g.value own.0)) ∙ h.0,
    quiet_next gs own.1 h.1,
  )

  -- ---- the formulas of the bits, from the i-th on

  first_own : (gs : List Mode) (i : ℕ) → i + length gs ≤ length fs → Each (IsStateMode m) gs → (n : ℕ) → n ≡ length m.variables + i → ReadOwn (with_history m fs) (bits_at_first n gs)
  first_own [] i h s n e = tt
  first_own (f ∷ gs) i h s n e =
      let at = mode_within f s.0 in
      let sym_in = s.0.is_symbol in
      ((omega (arith, e, h, all_variables), (omega (arith, at, all_variables), sym_in)), first_own gs (suc i) (omega (arith, h)) s.1 (suc n) (omega (arith, e)))

  step_own : (gs : List Mode) (i : ℕ) → i + length gs ≤ length fs → Each (IsStateMode m) gs → (n : ℕ) → n ≡ length m.variables + i → ReadOwn (with_history m fs) (bits_at_step n gs)
  step_own [] i h s n e = tt
  step_own (f ∷ gs) i h s n e =
      let at = mode_within f s.0 in
      let sym_in = s.0.is_symbol in
      let bit_in : n < length (m.variables ++ bit_variables 0 fs) = omega (arith, e, h, all_variables) in
      ((bit_in, (bit_in, (omega (arith, at, all_variables), sym_in))), step_own gs (suc i) (omega (arith, h)) s.1 (suc n) (omega (arith, e)))

  first_quiet : (gs : List Mode) (i : ℕ) → i + length gs ≤ length fs → Each (IsStateMode m) gs → (n : ℕ) → n ≡ length m.variables + i → Each (λ f. reads_input (with_history m fs) f.value ≡ false) (bits_at_first n gs)
  first_quiet [] i h s n e = tt
  first_quiet (f ∷ gs) i h s n e =
      let bit = ap (λ k. is_input_name (with_history m fs) (flat_variable k)) e ∙ bit_no_input i (omega (arith, h)) in
      ((λ j. bit j || (mode_no_input f s.0 j || false)), first_quiet gs (suc i) (omega (arith, h)) s.1 (suc n) (omega (arith, e)))

  step_quiet : (gs : List Mode) (i : ℕ) → i + length gs ≤ length fs → Each (IsStateMode m) gs → (n : ℕ) → n ≡ length m.variables + i → Each (λ f. reads_next_input (with_history m fs) f.value ≡ false) (bits_at_step n gs)
  step_quiet [] i h s n e = tt
  step_quiet (f ∷ gs) i h s n e =
      let bit = ap (λ k. is_input_name (with_history m fs) (flat_variable k)) e ∙ bit_no_input i (omega (arith, h)) in
      ((λ j. bit j || (mode_no_input f s.0 j || false)), step_quiet gs (suc i) (omega (arith, h)) s.1 (suc n) (omega (arith, e)))

  bit_types : (k : ℕ) (gs : List Mode) → Each (λ x. IsListedType m.symbols x.declared) (bit_variables k gs)
  bit_types k [] = tt
  bit_types k (f ∷ gs) = (tt, bit_types (suc k) gs)

pub history_encodable : HistoryKeepsEncodable
history_encodable m fs is modes typed =
    let start : length m.variables ≡ length m.variables + 0 = omega arith in
    record {
      closed = record {
        definitions = order_wider (length m.variables) (length (m.variables ++ bit_variables 0 fs)) (length m.symbols) 0 (wider m fs is modes) m.definitions is.closed.definitions;
        at_first = each_join _ m.at_first _ (read_own m fs is modes m.at_first is.closed.at_first) (first_own m fs is modes fs 0 (omega arith) modes (length m.variables) start);
        at_each = read_own m fs is modes m.at_each is.closed.at_each;
        at_step = each_join _ m.at_step _ (read_own m fs is modes m.at_step is.closed.at_step) (step_own m fs is modes fs 0 (omega arith) modes (length m.variables) start);
      };
      typed = typed;
      symbols = is.symbols;
      types = each_join _ m.variables _ is.types (bit_types m fs is modes 0 fs);
      at_first = each_join _ m.at_first _ (quiet_now m fs is modes m.at_first is.closed.at_first is.at_first) (first_quiet m fs is modes fs 0 (omega arith) modes (length m.variables) start);
      at_each = quiet_now m fs is modes m.at_each is.closed.at_each is.at_each;
      at_step = each_join _ m.at_step _ (quiet_next m fs is modes m.at_step is.closed.at_step is.at_step) (step_quiet m fs is modes fs 0 (omega arith) modes (length m.variables) start);
    }
