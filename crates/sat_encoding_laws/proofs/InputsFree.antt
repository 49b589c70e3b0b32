-- What reads no inputs is the same at valuations of one state.
use Rattle.std.proofs.Common.{◌≡◌, inl, inr, ℕ, zero, suc, ◌-◌, Bool, true, false, not, cond, ◌&&◌, ◌++◌, List, [], ◌∷◌, length, Option, Some, refl, sym, ◌∙◌, ap, subst}
use Rattle.std.specs.Prelude.{slice_get, filter}
use Rattle.std.specs.List.{list_any}
use Rattle.smv_language.specs.Language.{Tree, Trees, Branches, leaf, not_of, negate, next_of, binary, choice, case_of, set_of, span, no_tree, tree_then, no_branch, branch_then, Text, Value, Values, Leaves, evaluate, evaluate_trees, evaluate_branches, Each, AtSome, FlatLeaf, flat_variable, flat_symbol, flat_definition, FlatVariable, FlatFormula, FlatModel, one_of, given, flat_leaves, definition_gives, table_after, leaves_at, Holds, FlatMay}
use Rattle.smv_language.specs.Tree.{truth as is_truth, number as is_number}
use Rattle.smv_language.specs.Values.{truth}
use Rattle.smv_flat_laws.specs.FlatTrace.{AreInDomains, IsFlatMoment}
use Rattle.smv_flat_laws.specs.NameResolution.{leaves_in}
use Rattle.smv_flat_laws.specs.Rules.{leaves_under, trees_leaves_under, branches_leaves_under}
use Rattle.smv_flat_laws.proofs.Lists.{each_more}
use Rattle.smv_flat_laws.proofs.Reaches.{each_left, each_right}
use Rattle.smv_flat_laws.proofs.Conditions.{MayBe}
use Rattle.smv_flat_laws.proofs.Now.{BothSame, same_on}
use Rattle.sat_clauses.specs.States.{Agrees}
use Rattle.sat_clauses.specs.Models.{TotalAssignment}
use Rattle.sat_encoding_laws.specs.Encodings.{is_true_value, is_true_at, is_true_in, bit_of}
use Rattle.sat_encoding_laws.specs.Signals.{Signal}
use Rattle.sat_encoding_laws.specs.Layout.{input_place, variable_signals}
use Rattle.sat_encoding_laws.specs.Bits.{state_of}
use Rattle.sat_encoding_laws.specs.Inputs.{is_input, is_input_variable, names_input, tree_reads_input, reading_after, reads_input}
use Rattle.sat_encoding_laws.specs.Encodable.{IsEncodable, IsStateBoolean, is_input_name, reads_next_input}
use Rattle.sat_encoding_laws.proofs.VariableMeans.{read_as}
use Rattle.sat_encoding_laws.proofs.Readings.{reading, reading_is}
use Rattle.sat_encoding_laws.proofs.MomentMeans.{model_types}
use Rattle.sat_encoding_laws.proofs.StateBits.{with_bits, with_bits_truth, bits_first, bits_placed}
use Rattle.std.proofs.lemmas.Bool.{or_parts as neither}
use Rattle.base_values.specs.Marks.{is_set}

-- none of them passes the test
pub each_none : {A : Type 0} (f : A → Bool) (xs : List A) → list_any f xs ≡ false → Each (λ x. f x ≡ false) xs
each_none f [] e = tt
each_none f (x ∷ xs) e = let s = neither (f x) (list_any f xs) e in (s.0, each_none f xs s.1)

-- at the next moment an expression depends on its names under `next` alone
mutual
  same_under : {L : Type 0} (t : Tree L) (f g g' : Leaves L) → Each (λ l. g l ≡ g' l) (leaves_under t) → evaluate f g t ≡ evaluate f g' t
  same_under (is_truth b) f g g' h = refl
  same_under (is_number n) f g g' h = refl
  same_under (leaf l) f g g' h = refl
  same_under (not_of a) f g g' h = rw (same_under a f g g' h) refl
  same_under (negate a) f g g' h = rw (same_under a f g g' h) refl
  same_under {L = L} (next_of a) f g g' h = same_on a g g g' g' (each_more (λ l. g l ≡ g' l) (BothSame L g g g' g') (leaves_in a) (λ l e. record { now = e; next = e }) h)
  same_under (binary o a b) f g g' h =
      rw (same_under a f g g' (each_left (λ l. g l ≡ g' l) (leaves_under a) _ h), same_under b f g g' (each_right (λ l. g l ≡ g' l) (leaves_under a) _ h)) refl
  same_under (choice c a b) f g g' h =
      let later = each_right (λ l. g l ≡ g' l) (leaves_under c) _ h in
      rw (
        same_under c f g g' (each_left (λ l. g l ≡ g' l) (leaves_under c) _ h),
        same_under a f g g' (each_left (λ l. g l ≡ g' l) (leaves_under a) _ later),
        same_under b f g g' (each_right (λ l. g l ≡ g' l) (leaves_under a) _ later),
      ) refl
  same_under (case_of bs) f g g' h = branches_same_under bs f g g' h
  same_under (set_of ts) f g g' h = trees_same_under ts f g g' h
  same_under (span lo hi) f g g' h = refl

  trees_same_under : {L : Type 0} (t : Trees L) (f g g' : Leaves L) → Each (λ l. g l ≡ g' l) (trees_leaves_under t) → evaluate_trees f g t ≡ evaluate_trees f g' t
  trees_same_under no_tree f g g' h = refl
  trees_same_under (tree_then a b) f g g' h =
      rw (same_under a f g g' (each_left (λ l. g l ≡ g' l) (leaves_under a) _ h), trees_same_under b f g g' (each_right (λ l. g l ≡ g' l) (leaves_under a) _ h)) refl

  branches_same_under : {L : Type 0} (t : Branches L) (f g g' : Leaves L) → Each (λ l. g l ≡ g' l) (branches_leaves_under t) → evaluate_branches f g t ≡ evaluate_branches f g' t
  branches_same_under no_branch f g g' h = refl
  branches_same_under (branch_then c a b) f g g' h =
      let later = each_right (λ l. g l ≡ g' l) (leaves_under c) _ h in
      rw (
        same_under c f g g' (each_left (λ l. g l ≡ g' l) (leaves_under c) _ h),
        same_under a f g g' (each_left (λ l. g l ≡ g' l) (leaves_under a) _ later),
        branches_same_under b f g g' (each_right (λ l. g l ≡ g' l) (leaves_under a) _ later),
      ) refl

-- ---- definitions

-- answers of definitions are the same where these are not flagged
abbrev AreSame : List Bool → List (Option Values) → List (Option Values) → Type 0
AreSame [] [] [] = Unit {0}
AreSame (b ∷ bs) (x ∷ xs) (y ∷ ys) = (b ≡ false → x ≡ y) × AreSame bs xs ys
AreSame _ _ _ = ⊥

same_end : (bs : List Bool) (xs ys : List (Option Values)) (b : Bool) (x y : Option Values) → AreSame bs xs ys → (b ≡ false → x ≡ y) → AreSame (bs ++ b ∷ []) (xs ++ x ∷ []) (ys ++ y ∷ [])
same_end [] [] [] b x y h k = (k, tt)
same_end [] [] (t ∷ ys) b x y h k = absurd h
same_end [] (s ∷ xs) ys b x y h k = absurd h
same_end (c ∷ bs) [] ys b x y h k = absurd h
same_end (c ∷ bs) (s ∷ xs) [] b x y h k = absurd h
same_end (c ∷ bs) (s ∷ xs) (t ∷ ys) b x y h k = (h.0, same_end bs xs ys b x y h.1 k)

same_at : (bs : List Bool) (xs ys : List (Option Values)) → AreSame bs xs ys → (i : ℕ) → is_set (slice_get bs i) ≡ false → slice_get xs i ≡ slice_get ys i
same_at [] [] [] h i e = refl
same_at [] [] (t ∷ ys) h i e = absurd h
same_at [] (s ∷ xs) ys h i e = absurd h
same_at (c ∷ bs) [] ys h i e = absurd h
same_at (c ∷ bs) (s ∷ xs) [] h i e = absurd h
same_at (c ∷ bs) (s ∷ xs) (t ∷ ys) h zero e = ap Some (h.0 e)
same_at (c ∷ bs) (s ∷ xs) (t ∷ ys) h (suc i) e = same_at bs xs ys h.1 i e

module _ (symbols : List Text) (xs : List FlatVariable) (v w : List Value) (same : (i : ℕ) → is_input_variable (slice_get xs i) ≡ false → slice_get v i ≡ slice_get w i) where
  leaf_same : (flags : List Bool) (tv tw : List (Option Values)) → AreSame flags tv tw → (l : FlatLeaf) → names_input xs flags l ≡ false → flat_leaves symbols v tv l ≡ flat_leaves symbols w tw l
  leaf_same flags tv tw h (flat_variable i) e = ap one_of (same i e)
  leaf_same flags tv tw h (flat_symbol i) e = refl
  leaf_same flags tv tw h (flat_definition i) e = ap given (same_at flags tv tw h i e)

  tree_same : (flags : List Bool) (tv tw : List (Option Values)) → AreSame flags tv tw → (t : Tree FlatLeaf) → tree_reads_input xs flags t ≡ false
      → evaluate (flat_leaves symbols v tv) (flat_leaves symbols v tv) t ≡ evaluate (flat_leaves symbols w tw) (flat_leaves symbols w tw) t
  tree_same flags tv tw h t e =
      same_on t (flat_leaves symbols v tv) (flat_leaves symbols v tv) (flat_leaves symbols w tw) (flat_leaves symbols w tw)
      (each_more (λ l. names_input xs flags l ≡ false) (BothSame FlatLeaf (flat_leaves symbols v tv) (flat_leaves symbols v tv) (flat_leaves symbols w tw) (flat_leaves symbols w tw)) (leaves_in t)
      (λ l q. record { now = leaf_same flags tv tw h l q; next = leaf_same flags tv tw h l q }) (each_none (names_input xs flags) (leaves_in t) e))

  tables_same : (ds : List FlatFormula) (flags : List Bool) (tv tw : List (Option Values)) → AreSame flags tv tw → AreSame (reading_after xs flags ds) (table_after symbols v tv ds) (table_after symbols w tw ds)
  tables_same [] flags tv tw h = h
  tables_same (d ∷ ds) flags tv tw h =
      let b = tree_reads_input xs flags d.value in
      let x = definition_gives symbols v tv d in
      let y = definition_gives symbols w tw d in
      tables_same ds (flags ++ b ∷ []) (tv ++ x ∷ []) (tw ++ y ∷ []) (same_end flags tv tw b x y h (λ e. tree_same flags tv tw h d.value e))

-- ---- valuations of one state

module _ (m : FlatModel) (is : IsEncodable m) where
  -- what is read of the variables of the state depends on the assignment alone
  reading_states : (xs : List FlatVariable) (es : List Signal) (us ws : List Value) (a : TotalAssignment) → AreInDomains xs us → AreInDomains xs ws → (i : ℕ) → is_input_variable (slice_get xs i) ≡ false
      → slice_get (reading m.symbols is.symbols false xs es us a) i ≡ slice_get (reading m.symbols is.symbols false xs es ws a) i
  reading_states [] es us ws a h k i kept = refl
  reading_states (x ∷ xs) [] us ws a h k i kept = refl
  reading_states (x ∷ xs) (e ∷ es) [] ws a h k i kept = absurd h
  reading_states (x ∷ xs) (e ∷ es) (u ∷ us) [] a h k i kept = absurd k
  reading_states (x ∷ xs) (e ∷ es) (u ∷ us) (w ∷ ws) a h k zero kept = ap Some (by (is_input x.role) kept)
    where
      by : (b : Bool) → b ≡ false → cond (b && not false) u (read_as m.symbols x.declared a e) ≡ cond (b && not false) w (read_as m.symbols x.declared a e)
      by true q = cc
      by false q = refl
  reading_states (x ∷ xs) (e ∷ es) (u ∷ us) (w ∷ ws) a h k (suc i) kept = reading_states xs es us ws a h.1 k.1 i kept

  reads : (x : List Value) (a : TotalAssignment) → AreInDomains m.variables x → a 1 ≡ true → Agrees a 2 (state_of m x)
      → reading m.symbols is.symbols false m.variables (variable_signals m.symbols 2 (input_place m) m.variables) x a ≡ x
  reads x a h one_true bits =
      (reading_is m.symbols is.symbols false m.variables (model_types m is) 2 (input_place m) x a one_true h
      (bits_placed m.symbols is.symbols false m.variables 2 (input_place m) x a h bits (λ e. cc e))).0

  module _ (v w : List Value) (hv : AreInDomains m.variables v) (hw : AreInDomains m.variables w) (one_state : state_of m v ≡ state_of m w) where
    -- variables that are no inputs have the same values
    states_same : (i : ℕ) → is_input_variable (slice_get m.variables i) ≡ false → slice_get v i ≡ slice_get w i
    states_same i kept =
        let a = with_bits (state_of m v ++ ([] ++ [])) in
        let one_true = with_bits_truth (state_of m v ++ ([] ++ [])) in
        let bits = bits_first (state_of m v) [] [] in
        let one = reads v a hv one_true bits in
        let two = reads w a hw one_true (subst (λ (bs : List Bool). Agrees a 2 bs) one_state bits) in
        ap (λ (us : List Value). slice_get us i) (sym one)
        ∙ reading_states m.variables (variable_signals m.symbols 2 (input_place m) m.variables) v w a hv hw i kept
        ∙ ap (λ (us : List Value). slice_get us i) two

    name_free : (l : FlatLeaf) → is_input_name m l ≡ false → leaves_at m v l ≡ leaves_at m w l
    name_free l q =
        leaf_same m.symbols m.variables v w states_same (reading_after m.variables [] m.definitions) (table_after m.symbols v [] m.definitions) (table_after m.symbols w [] m.definitions)
        (tables_same m.symbols m.variables v w states_same m.definitions [] [] [] tt) l q

    tree_free : (t : Tree FlatLeaf) → reads_input m t ≡ false → evaluate (leaves_at m v) (leaves_at m v) t ≡ evaluate (leaves_at m w) (leaves_at m w) t
    tree_free t q =
        tree_same m.symbols m.variables v w states_same (reading_after m.variables [] m.definitions) (table_after m.symbols v [] m.definitions) (table_after m.symbols w [] m.definitions)
        (tables_same m.symbols m.variables v w states_same m.definitions [] [] [] tt) t q

    -- formulas that read no inputs
    pub each_free : (fs : List FlatFormula) → Each (λ f. reads_input m f.value ≡ false) fs → Each (Holds m v v) fs → Each (Holds m w w) fs
    each_free [] q h = tt
    each_free (f ∷ fs) q h = (subst (λ o. MayBe o (truth true)) (tree_free f.value q.0) h.0, each_free fs q.1 h.1)

    -- formulas that read none under `next`
    pub each_next_free : (u : List Value) (fs : List FlatFormula) → Each (λ f. reads_next_input m f.value ≡ false) fs → Each (Holds m u v) fs → Each (Holds m u w) fs
    each_next_free u [] q h = tt
    each_next_free u (f ∷ fs) q h = (
      subst (λ o. MayBe o (truth true))
          (same_under f.value (leaves_at m u) (leaves_at m v) (leaves_at m w)
          (each_more (λ l. is_input_name m l ≡ false) (λ l. leaves_at m v l ≡ leaves_at m w l) (leaves_under f.value) name_free (each_none (is_input_name m) (leaves_under f.value) q.0))) h.0,
      each_next_free u fs q.1 h.1,
    )

    pub moment_free : IsFlatMoment m v → IsFlatMoment m w
    moment_free k = record { domains = hw; holds = each_free m.at_each is.at_each k.holds }

    pub top_free : (top : Tree FlatLeaf) → reads_input m top ≡ false → FlatMay m v v top (truth true) → FlatMay m w w top (truth true)
    top_free top q h = subst (λ o. MayBe o (truth true)) (tree_free top q) h

    -- ---- history bits

    true_free : (n : ℕ) → IsStateBoolean m n → is_true_at v n ≡ is_true_at w n
    true_free n b = ap is_true_value (states_same n (ap is_input_variable b.is_variable ∙ b.is_state))

    pub count_free : (hs : List ℕ) → Each (IsStateBoolean m) hs → length (filter (is_true_at v) hs) ≡ length (filter (is_true_at w) hs)
    count_free [] b = refl
    count_free (n ∷ hs) b = by (is_true_at v n) (is_true_at w n) (true_free n b.0) (count_free hs b.1)
      where
        by : (p q : Bool) → p ≡ q → length (filter (is_true_at v) hs) ≡ length (filter (is_true_at w) hs)
            → length (cond p (n ∷ filter (is_true_at v) hs) (filter (is_true_at v) hs)) ≡ length (cond q (n ∷ filter (is_true_at w) hs) (filter (is_true_at w) hs))
        by true true e r = ap suc r
        by true false e r = cc
        by false true e r = cc
        by false false e r = r

    in_free : (hs : List ℕ) → Each (IsStateBoolean m) hs → (k : ℕ) → is_true_in v (slice_get hs k) ≡ is_true_in w (slice_get hs k)
    in_free [] b k = refl
    in_free (n ∷ hs) b zero = true_free n b.0
    in_free (n ∷ hs) b (suc k) = in_free hs b.1 k

    some_free : (hs : List ℕ) → Each (IsStateBoolean m) hs → (set : List ℕ) → AtSome (λ i. bit_of hs v i ≡ false) set → AtSome (λ i. bit_of hs w i ≡ false) set
    some_free hs b [] h = absurd h
    some_free hs b (i ∷ set) (inl e) = inl (sym (in_free hs b (i - 1)) ∙ e)
    some_free hs b (i ∷ set) (inr h) = inr (some_free hs b set h)

    pub sets_free : (hs : List ℕ) → Each (IsStateBoolean m) hs → (sets : List (List ℕ)) → Each (AtSome (λ i. bit_of hs v i ≡ false)) sets → Each (AtSome (λ i. bit_of hs w i ≡ false)) sets
    sets_free hs b [] h = tt
    sets_free hs b (set ∷ sets) h = (some_free hs b set h.0, sets_free hs b sets h.1)
