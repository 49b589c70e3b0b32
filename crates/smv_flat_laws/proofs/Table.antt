-- What a flat definition gives is what its expression gives.
use Rattle.std.proofs.Common.{◌≡◌, ℕ, zero, suc, ◌+◌, arith, List, [], ◌∷◌, ◌++◌, length, Option, Some, refl, sym, ◌∙◌, ap, subst}
use Rattle.std.specs.Prelude.{slice_get}
use Rattle.smv_language.specs.Language.{Text, Value, Values, evaluate, Each, FlatLeaf, flat_variable, flat_symbol, flat_definition, FlatFormula, FlatModel, given, flat_leaves, definition_gives, table_after, leaves_at}
use Rattle.smv_flat_laws.specs.NameResolution.{leaves_in, IsBefore}
use Rattle.smv_flat_laws.proofs.Lists.{get_end, length_end, each_more}
use Rattle.smv_flat_laws.proofs.Now.{BothSame, same_on}
use Rattle.base_values.proofs.ListLaws.{get_left, get_within}

-- a table that has all of another's places
abbrev pub Holds : List (Option Values) → List (Option Values) → Type 0
Holds t u = (i : ℕ) (x : Option Values) → slice_get t i ≡ Some x → slice_get u i ≡ Some x

keeps : (symbols : List Text) (v : List Value) (ds : List FlatFormula) (table : List (Option Values)) → Holds table (table_after symbols v table ds)
keeps symbols v [] table i x e = e
keeps symbols v (d ∷ ds) table i x e = keeps symbols v ds (table ++ definition_gives symbols v table d ∷ []) i x (get_left table _ i x e)

-- where a definition stands, its value over a table that the whole one has
pub record IsPlaced (symbols : List Text) (v : List Value) (whole : List (Option Values)) (place : ℕ) (d : FlatFormula) : Type 0 where
  pub table : List (Option Values)
  pub size : length table ≡ place
  pub kept : Holds table whole
  pub given_there : slice_get whole place ≡ Some (definition_gives symbols v table d)

placed : (symbols : List Text) (v : List Value) (ds : List FlatFormula) (table : List (Option Values)) (k : ℕ) (d : FlatFormula) →
    slice_get ds k ≡ Some d → IsPlaced symbols v (table_after symbols v table ds) (length table + k) d
placed symbols v [] table k d e = cc
placed symbols v (d' ∷ ds) table zero d e =
    let same : d' ≡ d = cc in
    let at : length table ≡ length table + zero = omega arith in
    let next : List (Option Values) = table ++ definition_gives symbols v table d' ∷ [] in
    record {
      table = table;
      size = at;
      kept = λ i x q. keeps symbols v ds (table ++ definition_gives symbols v table d' ∷ []) i x (get_left table _ i x q);
      given_there =
          subst (λ n. slice_get (table_after symbols v table (d' ∷ ds)) n ≡ Some (definition_gives symbols v table d)) at
          (subst (λ c. slice_get (table_after symbols v table (d' ∷ ds)) (length table) ≡ Some (definition_gives symbols v table c)) same
          (keeps symbols v ds (table ++ definition_gives symbols v table d' ∷ []) (length table) _ (get_end table _)));
    }
placed symbols v (d' ∷ ds) table (suc k) d e =
    let size : length (table ++ definition_gives symbols v table d' ∷ []) ≡ suc (length table) = length_end table _ in
    let at : length (table ++ definition_gives symbols v table d' ∷ []) + k ≡ length table + suc k = ap (λ n. n + k) size ∙ omega arith in
    subst (λ n. IsPlaced symbols v (table_after symbols v table (d' ∷ ds)) n d) at (placed symbols v ds (table ++ definition_gives symbols v table d' ∷ []) k d e)

same_leaf : (symbols : List Text) (v : List Value) (t u : List (Option Values)) (l : FlatLeaf) → Holds t u → IsBefore (length t) l →
    flat_leaves symbols v t l ≡ flat_leaves symbols v u l
same_leaf symbols v t u (flat_variable i) h b = refl
same_leaf symbols v t u (flat_symbol i) h b = refl
same_leaf symbols v t u (flat_definition i) h b =
    let x : (x : Option Values) × (slice_get t i ≡ Some x) = get_within t i b in
    ap given (x.1 ∙ sym (h i x.0 x.1))

pub definition_law : (m : FlatModel) (v : List Value) (k : ℕ) (f : FlatFormula) → slice_get m.definitions k ≡ Some f → Each (IsBefore k) (leaves_in f.value) →
    leaves_at m v (flat_definition k) ≡ evaluate (leaves_at m v) (leaves_at m v) f.value
definition_law m v k f e before = ap given given_there ∙ same_on f.value part part (leaves_at m v) (leaves_at m v) (each_more (IsBefore k) (BothSame FlatLeaf part part (leaves_at m v) (leaves_at m v)) (leaves_in f.value) at_leaf before)
  where
    zero_and : (n : ℕ) → 0 + n ≡ n
    zero_and n = omega arith

    is : IsPlaced m.symbols v (table_after m.symbols v [] m.definitions) k f
    is = subst (λ n. IsPlaced m.symbols v (table_after m.symbols v [] m.definitions) n f) (zero_and k) (placed m.symbols v m.definitions [] k f e)

    part : FlatLeaf → Option Values
    part = flat_leaves m.symbols v is.table

    given_there : slice_get (table_after m.symbols v [] m.definitions) k ≡ Some (definition_gives m.symbols v is.table f)
    given_there = is.given_there

    at_leaf : (l : FlatLeaf) → IsBefore k l → BothSame FlatLeaf part part (leaves_at m v) (leaves_at m v) l
    at_leaf l b =
        let same : part l ≡ leaves_at m v l = same_leaf m.symbols v is.table _ l is.kept (subst (λ n. IsBefore n l) (sym is.size) b) in
        record { now = same; next = same }
