-- The names of a copy have their values: variables by their bits, symbols by their numbers, definitions by their gates.
use Rattle.std.proofs.Common.{◌≡◌, ℕ, zero, suc, ◌+◌, ◌<◌, ◌≤◌, Bool, true, false, not, cond, ◌&&◌, ◌||◌, ◌++◌, pos, List, [], ◌∷◌, length, Option, Some, None, refl, sym, ◌∙◌, ap, subst, arith, eqb, eqb-true}
use Rattle.std.proofs.lemmas.Bool.{eqb-false}
use Rattle.std.specs.Prelude.{slice_get}
use Rattle.std.specs.List.{list_any}
use Rattle.smv_language.specs.Language.{Tree, Trees, Branches, leaf, not_of, negate, next_of, binary, choice, case_of, set_of, span, no_tree, tree_then, no_branch, branch_then, Text, AllLeaves, AllLeavesOfTrees, AllLeavesOfBranches, Each, Value, symbol, one, FlatLeaf, flat_variable, flat_symbol, flat_definition, FlatVariable, FlatFormula, FlatModel, one_of, symbol_of, leaves_at}
use Rattle.smv_language.specs.Tree.{truth as is_truth, number as is_number}
use Rattle.smv_flat_laws.specs.FlatTrace.{AreInDomains}
use Rattle.smv_flat_laws.specs.NameResolution.{leaves_in, trees_leaves, branches_leaves, IsBefore}
use Rattle.smv_flat_laws.specs.Rules.{leaves_under, trees_leaves_under, branches_leaves_under}
use Rattle.smv_flat_laws.proofs.Lists.{get_end, length_end, each_more}
use Rattle.smv_flat_laws.proofs.Table.{definition_law}
use Rattle.smv_type_laws.specs.ExpressionKinds.{judge}
use Rattle.smv_type_laws.specs.Models.{kind_of_leaf, judged_variables}
use Rattle.smv_type_laws.specs.Laws.{IsKnown, AreInOrder, IsClosed}
use Rattle.smv_type_laws.proofs.TreeLaws.{Hold}
use Rattle.smv_type_laws.proofs.ModelLaws.{all_leaves_more}
use Rattle.smv_type_laws.proofs.Typed.{model_holds, known_more, placed, parts_of}
use Rattle.sat_clauses.specs.Models.{TotalAssignment}
use Rattle.sat_circuits.specs.Circuit.{Circuit, after, fold_gates}
use Rattle.sat_circuits.specs.Gates.{constant_lit}
use Rattle.sat_circuits.specs.Meaning.{Means, Extends}
use Rattle.sat_circuits.proofs.Extension.{Means-after, Means-done, Means-weaker}
use Rattle.sat_circuits.specs.Words.{fit}
use Rattle.sat_circuits.specs.Numbers.{number_word}
use Rattle.sat_circuits.proofs.DigitMeans.{number_word-word}
use Rattle.sat_encoding_laws.specs.Widths.{symbol_width}
use Rattle.sat_encoding_laws.specs.Signals.{Signal, bit, word}
use Rattle.sat_encoding_laws.specs.Expressions.{its_value, encoded}
use Rattle.sat_encoding_laws.specs.Meanings.{HasValue, IsSignal, IsReady}
use Rattle.sat_encoding_laws.specs.ReadNames.{Reads, ReadsTrees, ReadsBranches}
use Rattle.sat_encoding_laws.specs.Inputs.{names_input, tree_reads_input, reading_after, reads_input}
use Rattle.sat_encoding_laws.specs.Encodable.{is_input_name, IsEncodable}
use Rattle.sat_encoding_laws.specs.Lists.{signal_or_false, leaf_signal, Copy, copy_of, names_of, definition_gates}
use Rattle.sat_encoding_laws.proofs.Parts.{ready_later, signal_later}
use Rattle.sat_encoding_laws.proofs.Fitting.{symbol_value, fits_symbol, fit_same}
use Rattle.sat_encoding_laws.proofs.Choices.{word_fitted}
use Rattle.sat_encoding_laws.proofs.ExpressionMeans.{IsNaming, IsFit, encoded-means}
use Rattle.std.proofs.lemmas.Option.{slice_get_within as got_below}
use Rattle.smv_flat_laws.proofs.Conditions.{each_at, each_join}
use Rattle.base_values.proofs.ListLaws.{get_left, get_within}
use Rattle.base_values.specs.Marks.{is_set}

-- ---- what a tree reads

any_left : {A : Type 0} (f : A → Bool) (xs ys : List A) → list_any f (xs ++ ys) ≡ false → list_any f xs ≡ false
any_left f [] ys e = refl
any_left f (x ∷ xs) ys e = by (f x) e (any_left f xs ys)
  where
    by : (b : Bool) → (b || list_any f (xs ++ ys)) ≡ false → (list_any f (xs ++ ys) ≡ false → list_any f xs ≡ false) → (b || list_any f xs) ≡ false
    by true e more = e
    by false e more = more e

any_right : {A : Type 0} (f : A → Bool) (xs ys : List A) → list_any f (xs ++ ys) ≡ false → list_any f ys ≡ false
any_right f [] ys e = e
any_right f (x ∷ xs) ys e = by (f x) e (any_right f xs ys)
  where
    by : (b : Bool) → (b || list_any f (xs ++ ys)) ≡ false → (list_any f (xs ++ ys) ≡ false → list_any f ys ≡ false) → list_any f ys ≡ false
    by true e more = cc
    by false e more = more e

any_one : {A : Type 0} (f : A → Bool) (x : A) → list_any f (x ∷ []) ≡ false → f x ≡ false
any_one f x e = by (f x) e
  where
    by : (b : Bool) → (b || false) ≡ false → b ≡ false
    by true e = e
    by false e = refl

-- a tree of which no name is left out
mutual
  pub reads_without : {L : Type 0} (good : L → Type 0) (out : L → Bool) (t : Tree L) → AllLeaves good t → list_any out (leaves_in t) ≡ false → Reads good out out t
  reads_without good out (is_truth b) h e = tt
  reads_without good out (is_number n) h e = tt
  reads_without good out (leaf l) h e = (h, any_one out l e)
  reads_without good out (not_of a) h e = reads_without good out a h e
  reads_without good out (negate a) h e = reads_without good out a h e
  reads_without good out (next_of a) h e = reads_without good out a h e
  reads_without good out (binary o a b) h e = (reads_without good out a h.0 (any_left out (leaves_in a) _ e), reads_without good out b h.1 (any_right out (leaves_in a) _ e))
  reads_without good out (choice d a b) h e = (
    reads_without good out d h.0 (any_left out (leaves_in d) _ e),
    reads_without good out a h.1 (any_left out (leaves_in a) _ (any_right out (leaves_in d) _ e)),
    reads_without good out b h.2 (any_right out (leaves_in a) _ (any_right out (leaves_in d) _ e)),
  )
  reads_without good out (case_of bs) h e = branches_without good out bs h e
  reads_without good out (set_of ts) h e = trees_without good out ts h e
  reads_without good out (span lo hi) h e = tt

  trees_without : {L : Type 0} (good : L → Type 0) (out : L → Bool) (ts : Trees L) → AllLeavesOfTrees good ts → list_any out (trees_leaves ts) ≡ false → ReadsTrees good out out ts
  trees_without good out no_tree h e = tt
  trees_without good out (tree_then t ts) h e = (reads_without good out t h.0 (any_left out (leaves_in t) _ e), trees_without good out ts h.1 (any_right out (leaves_in t) _ e))

  branches_without : {L : Type 0} (good : L → Type 0) (out : L → Bool) (bs : Branches L) → AllLeavesOfBranches good bs → list_any out (branches_leaves bs) ≡ false → ReadsBranches good out out bs
  branches_without good out no_branch h e = tt
  branches_without good out (branch_then d a bs) h e = (
    reads_without good out d h.0 (any_left out (leaves_in d) _ e),
    reads_without good out a h.1 (any_left out (leaves_in a) _ (any_right out (leaves_in d) _ e)),
    branches_without good out bs h.2 (any_right out (leaves_in a) _ (any_right out (leaves_in d) _ e)),
  )

-- a tree of which no name is left out under `next`
mutual
  pub reads_under : {L : Type 0} (good : L → Type 0) (out : L → Bool) (t : Tree L) → AllLeaves good t → list_any out (leaves_under t) ≡ false → Reads good (λ l. false) out t
  reads_under good out (is_truth b) h e = tt
  reads_under good out (is_number n) h e = tt
  reads_under good out (leaf l) h e = (h, refl)
  reads_under good out (not_of a) h e = reads_under good out a h e
  reads_under good out (negate a) h e = reads_under good out a h e
  reads_under good out (next_of a) h e = reads_without good out a h e
  reads_under good out (binary o a b) h e = (reads_under good out a h.0 (any_left out (leaves_under a) _ e), reads_under good out b h.1 (any_right out (leaves_under a) _ e))
  reads_under good out (choice d a b) h e = (
    reads_under good out d h.0 (any_left out (leaves_under d) _ e),
    reads_under good out a h.1 (any_left out (leaves_under a) _ (any_right out (leaves_under d) _ e)),
    reads_under good out b h.2 (any_right out (leaves_under a) _ (any_right out (leaves_under d) _ e)),
  )
  reads_under good out (case_of bs) h e = branches_under good out bs h e
  reads_under good out (set_of ts) h e = trees_under good out ts h e
  reads_under good out (span lo hi) h e = tt

  trees_under : {L : Type 0} (good : L → Type 0) (out : L → Bool) (ts : Trees L) → AllLeavesOfTrees good ts → list_any out (trees_leaves_under ts) ≡ false → ReadsTrees good (λ l. false) out ts
  trees_under good out no_tree h e = tt
  trees_under good out (tree_then t ts) h e = (reads_under good out t h.0 (any_left out (leaves_under t) _ e), trees_under good out ts h.1 (any_right out (leaves_under t) _ e))

  branches_under : {L : Type 0} (good : L → Type 0) (out : L → Bool) (bs : Branches L) → AllLeavesOfBranches good bs → list_any out (branches_leaves_under bs) ≡ false → ReadsBranches good (λ l. false) out bs
  branches_under good out no_branch h e = tt
  branches_under good out (branch_then d a bs) h e = (
    reads_under good out d h.0 (any_left out (leaves_under d) _ e),
    reads_under good out a h.1 (any_left out (leaves_under a) _ (any_right out (leaves_under d) _ e)),
    branches_under good out bs h.2 (any_right out (leaves_under a) _ (any_right out (leaves_under d) _ e)),
  )

-- what holds of each leaf holds of the list of them
mutual
  pub each_leaf : {L : Type 0} (P : L → Type 0) (t : Tree L) → AllLeaves P t → Each P (leaves_in t)
  each_leaf P (is_truth b) h = tt
  each_leaf P (is_number n) h = tt
  each_leaf P (leaf l) h = (h, tt)
  each_leaf P (not_of a) h = each_leaf P a h
  each_leaf P (negate a) h = each_leaf P a h
  each_leaf P (next_of a) h = each_leaf P a h
  each_leaf P (binary o a b) h = each_join P (leaves_in a) _ (each_leaf P a h.0) (each_leaf P b h.1)
  each_leaf P (choice d a b) h = each_join P (leaves_in d) _ (each_leaf P d h.0) (each_join P (leaves_in a) _ (each_leaf P a h.1) (each_leaf P b h.2))
  each_leaf P (case_of bs) h = each_of_branches P bs h
  each_leaf P (set_of ts) h = each_of_trees P ts h
  each_leaf P (span lo hi) h = tt

  each_of_trees : {L : Type 0} (P : L → Type 0) (ts : Trees L) → AllLeavesOfTrees P ts → Each P (trees_leaves ts)
  each_of_trees P no_tree h = tt
  each_of_trees P (tree_then t ts) h = each_join P (leaves_in t) _ (each_leaf P t h.0) (each_of_trees P ts h.1)

  each_of_branches : {L : Type 0} (P : L → Type 0) (bs : Branches L) → AllLeavesOfBranches P bs → Each P (branches_leaves bs)
  each_of_branches P no_branch h = tt
  each_of_branches P (branch_then d a bs) h = each_join P (leaves_in d) _ (each_leaf P d h.0) (each_join P (leaves_in a) _ (each_leaf P a h.1) (each_of_branches P bs h.2))

pub same_any : {A : Type 0} (f g : A → Bool) (xs : List A) → Each (λ x. f x ≡ g x) xs → list_any f xs ≡ list_any g xs
same_any f g [] h = refl
same_any f g (x ∷ xs) h = (λ i. h.0 i || same_any f g xs h.1 i)

-- ---- which definitions read an input

flags_keep : (xs : List FlatVariable) (flags : List Bool) (ds : List FlatFormula) (i : ℕ) (b : Bool) → slice_get flags i ≡ Some b → slice_get (reading_after xs flags ds) i ≡ Some b
flags_keep xs flags [] i b e = e
flags_keep xs flags (d ∷ ds) i b e = flags_keep xs (flags ++ tree_reads_input xs flags d.value ∷ []) ds i b (get_left flags _ i b e)

same_flag : (xs : List FlatVariable) (flags : List Bool) (ds : List FlatFormula) (nv ns : ℕ) (l : FlatLeaf) → IsKnown nv ns (length flags) l → names_input xs flags l ≡ names_input xs (reading_after xs flags ds) l
same_flag xs flags ds nv ns (flat_variable i) h = refl
same_flag xs flags ds nv ns (flat_symbol i) h = refl
same_flag xs flags ds nv ns (flat_definition i) h =
    let b = get_within flags i h in
    (λ j. is_set (b.1 j)) ∙ sym (λ j. is_set (flags_keep xs flags ds i b.0 b.1 j))

-- a definition is flagged where it reads an input, itself or through definitions
flag_placed : (xs : List FlatVariable) (nv ns : ℕ) (ds : List FlatFormula) (flags : List Bool) → AreInOrder nv ns (length flags) ds → (k : ℕ) (d : FlatFormula) → slice_get ds k ≡ Some d
    → slice_get (reading_after xs flags ds) (length flags + k) ≡ Some (tree_reads_input xs (reading_after xs flags ds) d.value)
flag_placed xs nv ns [] flags order k d e = cc
flag_placed xs nv ns (d' ∷ ds) flags order zero d e =
    let same : d' ≡ d = cc in
    let here = tree_reads_input xs flags d'.value in
    let kept : slice_get (reading_after xs flags (d' ∷ ds)) (length flags) ≡ Some here = flags_keep xs (flags ++ here ∷ []) ds (length flags) here (get_end flags here) in
    let whole : here ≡ tree_reads_input xs (reading_after xs flags (d' ∷ ds)) d'.value =
    same_any (names_input xs flags) (names_input xs (reading_after xs flags (d' ∷ ds))) (leaves_in d'.value)
    (each_leaf (λ l. names_input xs flags l ≡ names_input xs (reading_after xs flags (d' ∷ ds)) l) d'.value
    (all_leaves_more (IsKnown nv ns (length flags)) (λ l. names_input xs flags l ≡ names_input xs (reading_after xs flags (d' ∷ ds)) l) (same_flag xs flags (d' ∷ ds) nv ns) d'.value order.0)) in
    let at : length flags + zero ≡ length flags = omega arith in
    ap (slice_get (reading_after xs flags (d' ∷ ds))) at ∙ kept ∙ ap Some (whole ∙ ap (λ (c : FlatFormula). tree_reads_input xs (reading_after xs flags (d' ∷ ds)) c.value) same)
flag_placed xs nv ns (d' ∷ ds) flags order (suc k) d e =
    let here = tree_reads_input xs flags d'.value in
    let size : length (flags ++ here ∷ []) ≡ suc (length flags) = length_end flags here in
    let at : length (flags ++ here ∷ []) + k ≡ length flags + suc k = ap (λ n. n + k) size ∙ omega arith in
    subst (λ (n : ℕ). slice_get (reading_after xs flags (d' ∷ ds)) n ≡ Some (tree_reads_input xs (reading_after xs flags (d' ∷ ds)) d.value)) at
    (flag_placed xs nv ns ds (flags ++ here ∷ []) (subst (λ (n : ℕ). AreInOrder nv ns n ds) (sym size) order.1) k d e)

pub flag_is : (m : FlatModel) → IsClosed m → (k : ℕ) (d : FlatFormula) → slice_get m.definitions k ≡ Some d → is_input_name m (flat_definition k) ≡ reads_input m d.value
flag_is m closed k d e =
    let at : k ≡ length {A = Bool} [] + k = omega arith in
    ap (λ n. is_set (slice_get (reading_after m.variables [] m.definitions) n)) at ∙ ap is_set (flag_placed m.variables (length m.variables) (length m.symbols) m.definitions [] closed.definitions k d e)

known_before : (nv ns k : ℕ) (l : FlatLeaf) → IsKnown nv ns k l → IsBefore k l
known_before nv ns k (flat_variable i) h = tt
known_before nv ns k (flat_symbol i) h = tt
known_before nv ns k (flat_definition i) h = h

order_at : (nv ns : ℕ) (ds : List FlatFormula) (n k : ℕ) (d : FlatFormula) → AreInOrder nv ns n ds → slice_get ds k ≡ Some d → AllLeaves (IsKnown nv ns (n + k)) d.value
order_at nv ns [] n k d o e = cc
order_at nv ns (d' ∷ ds) n zero d o e =
    let same : d' ≡ d = cc in
    let at : n ≡ n + zero = omega arith in
    subst (λ (i : ℕ). AllLeaves (IsKnown nv ns i) d.value) at (subst (λ (c : FlatFormula). AllLeaves (IsKnown nv ns n) c.value) same o.0)
order_at nv ns (d' ∷ ds) n (suc k) d o e =
    let at : suc n + k ≡ n + suc k = omega arith in
    subst (λ (i : ℕ). AllLeaves (IsKnown nv ns i) d.value) at (order_at nv ns ds (suc n) k d o.1 e)

-- a definition of a closed model names those before it
pub definition_own : (m : FlatModel) → IsClosed m → (k : ℕ) (d : FlatFormula) → slice_get m.definitions k ≡ Some d → AllLeaves (IsKnown (length m.variables) (length m.symbols) k) d.value
definition_own m closed k d e = subst (λ (i : ℕ). AllLeaves (IsKnown (length m.variables) (length m.symbols) i) d.value) (omega arith) (order_at (length m.variables) (length m.symbols) m.definitions 0 k d closed.definitions e)

-- ---- the names of a copy

-- what is left out of a copy: nothing, or what reads inputs
abbrev pub left_out : FlatModel → Bool → FlatLeaf → Bool
left_out m all l = is_input_name m l && not all

-- each signal may be used
abbrev pub AreSignals : Circuit → List Signal → Type 0
AreSignals s es = Each (IsSignal s) es

pub signals_later : (s t : Circuit) → Extends s t → (es : List Signal) → AreSignals s es → AreSignals t es
signals_later s t e es h = each_more (IsSignal s) (IsSignal t) es (λ x k. signal_later s t e x k) h

pub signal_at_usable : (s : Circuit) → IsReady s → (es : List Signal) (i : ℕ) → AreSignals s es → IsSignal s (signal_or_false (slice_get es i))
signal_at_usable s ready [] i h = ready.least
signal_at_usable s ready (e ∷ es) zero h = h.0
signal_at_usable s ready (e ∷ es) (suc i) h = signal_at_usable s ready es i h.1

pub leaf_usable : (m : FlatModel) (s : Circuit) → IsReady s → (vs ds : List Signal) → AreSignals s vs → AreSignals s ds → (l : FlatLeaf) → IsSignal s (leaf_signal m.symbols vs ds l)
leaf_usable m s ready vs ds hv hd (flat_variable i) = signal_at_usable s ready vs i hv
leaf_usable m s ready vs ds hv hd (flat_symbol i) = word_fitted s ready (symbol_width m.symbols) (omega arith) (number_word (pos i)) (number_word-word (pos i) s ready.least)
leaf_usable m s ready vs ds hv hd (flat_definition i) = signal_at_usable s ready ds i hd

module _ (m : FlatModel) (is : IsEncodable m) where
  abbrev pub KnownTo : ℕ → FlatLeaf → Type 0
  KnownTo k l = IsKnown (length m.variables) (length m.symbols) k l

  pub naming : (s : Circuit) → IsReady s → (now next : Copy) → AreSignals s now.variables → AreSignals s now.definitions → AreSignals s next.variables → AreSignals s next.definitions → (k : ℕ)
      → IsNaming FlatLeaf m.symbols is.symbols (kind_of_leaf m) (KnownTo k) s (names_of m now next)
  naming s ready now next a b c d k = record {
    now = leaf_usable m s ready now.variables now.definitions a b;
    next = leaf_usable m s ready next.variables next.definitions c d;
    width = λ t. refl;
  }

  -- the variables of a copy that are not left out have the values
  abbrev pub VariablesRight : Bool → TotalAssignment → List Signal → List Value → Type 0
  VariablesRight all v vs x = (i : ℕ) → left_out m all (flat_variable i) ≡ false → (y : Value) → slice_get x i ≡ Some y → HasValue m.symbols v (signal_or_false (slice_get vs i)) y

  -- and so do its definitions, as many as there are
  abbrev pub DefinitionsRight : Bool → TotalAssignment → List Signal → List Value → Type 0
  DefinitionsRight all v ds x =
      (i : ℕ) → i < length ds → left_out m all (flat_definition i) ≡ false → (y : Value) → leaves_at m x (flat_definition i) ≡ Some (one y) → HasValue m.symbols v (signal_or_false (slice_get ds i)) y

  one_of_is : (o : Option Value) (y : Value) → one_of o ≡ Some (one y) → o ≡ Some y
  one_of_is (Some x) y e = cc
  one_of_is None y e = cc

  symbol_has : (v : TotalAssignment) → v 1 ≡ true → (i : ℕ) (y : Value) → symbol_of (slice_get m.symbols i) ≡ Some (one y) → HasValue m.symbols v (word (fit (symbol_width m.symbols) (number_word (pos i)))) y
  symbol_has v one_true i y e = by (slice_get m.symbols i) refl e
    where
      by : (o : Option Text) → slice_get m.symbols i ≡ o → symbol_of o ≡ Some (one y) → HasValue m.symbols v (word (fit (symbol_width m.symbols) (number_word (pos i)))) y
      by None at e = cc
      by (Some x) at e =
          let same : symbol x ≡ y = cc in
          let few = is.symbols.few in
          let below = got_below m.symbols i x at in
          let value = symbol_value v m.symbols i one_true (omega (arith, few)) below in
          let fits = fits_symbol m.symbols i (omega (arith, few)) below in
          subst (HasValue m.symbols v (word (fit (symbol_width m.symbols) (number_word (pos i))))) same
          (record { place = i; at = at; is = fit_same v (symbol_width m.symbols) (number_word (pos i)) (pos i) (digits_some i) (omega arith) value fits })
        where
          digits_some : (i : ℕ) → 0 < length (number_word (pos i))
          digits_some i = (number_word-word (pos i) (record { clauses = []; free = 2 }) (omega arith)).signed

  -- a name of a copy that is not left out has the value that it gives
  pub leaf_has : (all : Bool) (v : TotalAssignment) → v 1 ≡ true → (vs ds : List Signal) (x : List Value) → VariablesRight all v vs x → DefinitionsRight all v ds x → (k : ℕ) → k ≤ length ds
      → (l : FlatLeaf) → KnownTo k l → left_out m all l ≡ false → (y : Value) → leaves_at m x l ≡ Some (one y) → HasValue m.symbols v (leaf_signal m.symbols vs ds l) y
  leaf_has all v one_true vs ds x hv hd k le (flat_variable i) known kept y e = hv i kept y (one_of_is (slice_get x i) y e)
  leaf_has all v one_true vs ds x hv hd k le (flat_symbol i) known kept y e = symbol_has v one_true i y e
  leaf_has all v one_true vs ds x hv hd k le (flat_definition i) known kept y e = hd i (omega (arith, known, le)) kept y e

  holds_to : (x : List Value) → AreInDomains m.variables x → (k : ℕ) → k ≤ length m.definitions → Hold FlatLeaf (kind_of_leaf m) (KnownTo k) (leaves_at m x)
  holds_to x inside k le l known = model_holds m is.closed is.typed x inside l (known_more (length m.variables) (length m.symbols) k (length m.definitions) le l known)

  -- two copies fit the values of two valuations of the domains
  pub fit_copies : (all all' : Bool) (v : TotalAssignment) → v 1 ≡ true → (now next : Copy) (x y : List Value) → AreInDomains m.variables x → AreInDomains m.variables y
      → VariablesRight all v now.variables x → DefinitionsRight all v now.definitions x → VariablesRight all' v next.variables y → DefinitionsRight all' v next.definitions y
      → (k : ℕ) → k ≤ length m.definitions → k ≤ length now.definitions → k ≤ length next.definitions
      → IsFit FlatLeaf m.symbols is.symbols (kind_of_leaf m) (KnownTo k) v (names_of m now next) (left_out m all) (left_out m all') (leaves_at m x) (leaves_at m y)
  fit_copies all all' v one_true now next x y hx hy nv nd wv wd k le ln lw = record {
    holds_now = holds_to x hx k le;
    holds_next = holds_to y hy k le;
    has_now = leaf_has all v one_true now.variables now.definitions x nv nd k ln;
    has_next = leaf_has all' v one_true next.variables next.definitions y wv wd k lw;
  }

  -- ---- definitions

  and_true : (a b : Bool) → a && b ≡ false → b ≡ true → a ≡ false
  and_true a true e h = by a e
    where
      by : (a : Bool) → a && true ≡ false → a ≡ false
      by true e = e
      by false e = refl
  and_true a false e h = cc

  -- what a definition reads, where it is not left out
  pub definition_reads : (all : Bool) (k : ℕ) (d : FlatFormula) → slice_get m.definitions k ≡ Some d → (reads_input m d.value && not all) ≡ false → Reads (KnownTo k) (left_out m all) (left_out m all) d.value
  definition_reads true k d at kept =
      reads_without (KnownTo k) (left_out m true) d.value (definition_own m is.closed k d at) (none (leaves_in d.value))
    where
      never : (b : Bool) → (b && not true) ≡ false
      never true = refl
      never false = refl

      none : (ls : List FlatLeaf) → list_any (left_out m true) ls ≡ false
      none [] = refl
      none (l ∷ ls) = (λ i. never (is_input_name m l) i || none ls i)
  definition_reads false k d at kept =
      reads_without (KnownTo k) (left_out m false) d.value (definition_own m is.closed k d at)
      (same_any (left_out m false) (is_input_name m) (leaves_in d.value) (each_all (leaves_in d.value)) ∙ and_true (reads_input m d.value) (not false) kept refl)
    where
      whole : (b : Bool) → (b && not false) ≡ b
      whole true = refl
      whole false = refl

      each_all : (ls : List FlatLeaf) → Each (λ l. left_out m false l ≡ is_input_name m l) ls
      each_all [] = tt
      each_all (l ∷ ls) = (whole (is_input_name m l), each_all ls)

  -- a definition breaks no rule
  definition_right : (k : ℕ) (d : FlatFormula) → slice_get m.definitions k ≡ Some d → (judge (kind_of_leaf m) false d.value).broken ≡ []
  definition_right k d at =
      let vs = judged_variables m.variables in
      let all = placed vs (length m.variables) (length m.symbols) (length m.definitions) m.definitions [] (omega arith) (parts_of m is.typed).definitions is.closed.definitions in
      (each_at _ m.definitions k d all at).right

  -- what is left of definitions stands from a place on
  abbrev pub StandFrom : ℕ → List FlatFormula → Type 0
  StandFrom k ds = (j : ℕ) (d : FlatFormula) → slice_get ds j ≡ Some d → slice_get m.definitions (k + j) ≡ Some d

  pub stand_here : (k : ℕ) (d : FlatFormula) (ds : List FlatFormula) → StandFrom k (d ∷ ds) → slice_get m.definitions k ≡ Some d
  stand_here k d ds h = let at : k ≡ k + 0 = omega arith in ap (slice_get m.definitions) at ∙ h 0 d refl

  pub stand_later : (k : ℕ) (d : FlatFormula) (ds : List FlatFormula) → StandFrom k (d ∷ ds) → StandFrom (suc k) ds
  stand_later k d ds h j c e = let at : suc k + j ≡ k + suc j = omega arith in ap (slice_get m.definitions) at ∙ h (suc j) c e

  module _ (vs : List Signal) (all : Bool) where
    -- the definitions so far have their values, at each valuation of the domains that the variables have
    abbrev pub SoFar : TotalAssignment → List Signal → Type 0
    SoFar v ds = (x : List Value) → AreInDomains m.variables x → VariablesRight all v vs x → DefinitionsRight all v ds x

    abbrev pub DefinitionShape : ℕ → Circuit → List Signal → Type 0
    DefinitionShape n t ds = AreSignals t ds × (length ds ≡ n)

    -- one definition more
    more_right : (k : ℕ) (d : FlatFormula) → slice_get m.definitions k ≡ Some d → (v : TotalAssignment) (ds : List Signal) (e : Signal) → length ds ≡ k → SoFar v ds
        → ((x : List Value) → AreInDomains m.variables x → VariablesRight all v vs x → left_out m all (flat_definition k) ≡ false → (y : Value) → leaves_at m x (flat_definition k) ≡ Some (one y) → HasValue m.symbols v e y)
        → SoFar v (ds ++ e ∷ [])
    more_right k d at v ds e long before here x inside right i below kept y given = by (eqb i k) refl
      where
        by : (b : Bool) → eqb i k ≡ b → HasValue m.symbols v (signal_or_false (slice_get (ds ++ e ∷ []) i)) y
        by true same =
            let is_k : i ≡ k = eqb-true i k same in
            let place : i ≡ length ds = is_k ∙ sym long in
            let got : slice_get (ds ++ e ∷ []) i ≡ Some e = ap (slice_get (ds ++ e ∷ [])) place ∙ get_end ds e in
            subst (λ (o : Option Signal). HasValue m.symbols v (signal_or_false o) y) (sym got)
            (here x inside right (ap (λ n. left_out m all (flat_definition n)) (sym is_k) ∙ kept) y (ap (λ n. leaves_at m x (flat_definition n)) (sym is_k) ∙ given))
        by false other =
            let size = length_end ds e in
            let less : i < length ds = omega (arith, below, size, long, eqb-false i k other) in
            let old = get_within ds i less in
            let got : slice_get (ds ++ e ∷ []) i ≡ slice_get ds i = get_left ds _ i old.0 old.1 ∙ sym old.1 in
            subst (λ (o : Option Signal). HasValue m.symbols v (signal_or_false o) y) (sym got) (before x inside right i less kept y given)

    some_true : (b : Bool) → b ≡ true → b ≡ false → {A : Type 0} → A
    some_true b p q = cc

    -- the gates of one definition
    definition-means : (k : ℕ) (d : FlatFormula) → slice_get m.definitions k ≡ Some d → (ds : List Signal) (s : Circuit) → IsReady s → AreSignals s vs → AreSignals s ds → length ds ≡ k
        → Means s (definition_gates m vs all d ds s) (DefinitionShape (suc k)) (λ v es. SoFar v ds → SoFar v es)
    definition-means k d at ds s ready hv hd long = by (reads_input m d.value && not all) refl
      where
        flagged : left_out m all (flat_definition k) ≡ (reads_input m d.value && not all)
        flagged = ap (λ b. b && not all) (flag_is m is.closed k d at)

        by : (b : Bool) → (reads_input m d.value && not all) ≡ b
            → Means s (cond b (s, ds ++ bit (constant_lit false) ∷ []) (after (encoded (names_of m (copy_of vs ds) (copy_of vs ds)) its_value d.value s) (λ e t. (t, ds ++ e ∷ [])))) (DefinitionShape (suc k))
            (λ v es. SoFar v ds → SoFar v es)
        by true out =
            Means-done s (ds ++ bit (constant_lit false) ∷ []) (DefinitionShape (suc k)) _ (each_join (IsSignal s) ds _ hd (ready.least, tt), length_end ds (bit (constant_lit false)) ∙ ap suc long)
            (λ v h before. more_right k d at v ds (bit (constant_lit false)) long before (λ x inside right kept y given. some_true _ (flagged ∙ out) kept))
        by false out =
            let copy = copy_of vs ds in
            let there : k ≤ length m.definitions = omega (arith, got_below m.definitions k d at) in
            let enough : k ≤ length ds = omega (arith, long) in
            Means-after s _ _ _ _ _ _ (encoded-means FlatLeaf m.symbols is.symbols (kind_of_leaf m) (KnownTo k) (names_of m copy copy) its_value d.value s ready (naming s ready copy copy hv hd hv hd k) tt) (λ e t he et.
            Means-done t (ds ++ e ∷ []) (DefinitionShape (suc k)) _ (each_join (IsSignal t) ds _ (signals_later s t et ds hd) (he, tt), length_end ds e ∙ ap suc long)
            (λ v h value before. more_right k d at v ds e long before (λ x inside right kept y given.
            let fit = fit_copies all all v ((ready_later s t et ready).truth v h) copy copy x x inside inside right (before x inside right) right (before x inside right) k there enough enough in
            let law = definition_law m x k d at (each_more (KnownTo k) (IsBefore k) (leaves_in d.value) (λ l known. known_before (length m.variables) (length m.symbols) k l known) (each_leaf (KnownTo k) d.value (definition_own m is.closed k d at))) in
            value (left_out m all) (left_out m all) (leaves_at m x) (leaves_at m x) fit (definition_reads all k d at out) false refl (definition_right k d at) y (sym law ∙ given))))

    -- the gates of definitions that stand from a place on
    pub definitions-means : (ds : List FlatFormula) (k : ℕ) → StandFrom k ds → (done : List Signal) (s : Circuit) → IsReady s → AreSignals s vs → AreSignals s done → length done ≡ k
        → Means s (fold_gates (definition_gates m vs all) ds done s) (DefinitionShape (k + length ds)) (λ v es. SoFar v done → SoFar v es)
    unfolding fold_gates
    definitions-means [] k stand done s ready hv hd long = Means-done s done (DefinitionShape (k + 0)) _ (hd, omega (arith, long)) (λ v h before. before)
    definitions-means (d ∷ ds) k stand done s ready hv hd long =
        Means-after s _ _ _ _ _ _ (definition-means k d (stand_here k d ds stand) done s ready hv hd long) (λ es t he et.
        Means-weaker t _ (DefinitionShape (suc k + length ds)) (DefinitionShape (k + length (d ∷ ds))) _ _
        (definitions-means ds (suc k) (stand_later k d ds stand) es t (ready_later s t et ready) (signals_later s t et vs hv) he.0 he.1)
        (λ h. (h.0, omega (arith, h.1))) (λ v h rest first before. rest (first before)))

  -- formulas that read no input read nothing that is left out
  pub reads_kept : (all : Bool) (fs : List FlatFormula) → Each (λ f. AllLeaves (KnownTo (length m.definitions)) f.value) fs → Each (λ f. reads_input m f.value ≡ false) fs
      → Each (λ f. Reads (KnownTo (length m.definitions)) (left_out m all) (left_out m all) f.value) fs
  reads_kept all [] own none = tt
  reads_kept all (f ∷ fs) own none = (reads_without (KnownTo (length m.definitions)) (left_out m all) f.value own.0 (fewer (leaves_in f.value) none.0), reads_kept all fs own.1 none.1)
    where
      kept : (b : Bool) → b ≡ false → (b && not all) ≡ false
      kept true e = cc
      kept false e = refl

      by : (b c : Bool) (ls : List FlatLeaf) → (b || list_any (is_input_name m) ls) ≡ false → (list_any (is_input_name m) ls ≡ false → list_any (left_out m all) ls ≡ false) → ((b && not all) || list_any (left_out m all) ls) ≡ false
      by true c ls e more = cc
      by false c ls e more = more e

      fewer : (ls : List FlatLeaf) → list_any (is_input_name m) ls ≡ false → list_any (left_out m all) ls ≡ false
      fewer [] e = refl
      fewer (l ∷ ls) e = by (is_input_name m l) false ls e (fewer ls)
