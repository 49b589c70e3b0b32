-- From what the tests find out of models, values and top events to what the calls ask of them.
use Rattle.std.proofs.Common.{arith, ◌≡◌, ℕ, zero, suc, ◌<◌, ◌^◌, Bool, true, false, ◌&&◌, ◌||◌, IsTrue, List, [], ◌∷◌, All, length, map, Some, refl, sym, subst}
use Rattle.std.specs.Prelude.{slice_get}
use Rattle.std.specs.List.{list_any, AllByRecursion}
use Rattle.std.proofs.lemmas.Bool.{ltb-true}
use Rattle.std.proofs.lemmas.List.{length-map}
use Rattle.std.proofs.lemmas.List.Elements.{recursion_from_All}
use Rattle.smv_language.specs.Language.{Text, DeclaredTree, boolean, range, members, instance, declared_tree, IsType, Tree, Trees, Branches, leaf, not_of, negate, next_of, binary, choice, case_of, set_of, span, no_tree, tree_then, no_branch, branch_then, tree_map, trees_map, branches_map, AllLeaves, AllLeavesOfTrees, AllLeavesOfBranches, tree_of, Each, in_domain, leaf_of, role_of, flat_tree, variable_tree, formula_tree, model_tree, FlatLeaf, flat_variable, flat_symbol, flat_definition, told_moment, told_value}
use Rattle.smv_language.specs.Tree.{truth as a_truth, number as a_number}
use Rattle.smv_language.specs.declared.expr.Expr.{Expr}
use Rattle.base_values.specs.declared.value.Value.{Value}
use Rattle.base_values.specs.declared.value.Value.TheVariants.{Bool as truth, Num, Sym}
use Rattle.base_values.specs.declared.domain.Domain.{Domain}
use Rattle.base_values.specs.Domains.{Has}
use Rattle.smv_scope.specs.declared.bounds.Bounds.{Bounds}
use Rattle.smv_language.specs.declared.model.Flat.{Flat}
use Rattle.smv_language.specs.declared.model.Flat.TheVariants.{Var, Symbol, Definition}
use Rattle.smv_language.specs.declared.model.Variable.{Variable}
use Rattle.smv_language.specs.declared.model.Formula.{Formula}
use Rattle.smv_language.specs.declared.model.FlatModel.{FlatModel}
use Rattle.smv_scope.specs.ClosedModels.{is_within, tree_all, trees_all, branches_all, is_closed, bounds_of}
use Rattle.smv_flat_laws.specs.NameResolution.{leaves_in}
use Rattle.smv_flat_laws.specs.FlatTrace.{AreInDomains}
use Rattle.smv_type_laws.specs.Laws.{IsKnown, ReadsOwn}
use Rattle.smv_type_laws.specs.Models.{judged_in, broken_condition}
use Rattle.smv_types.specs.Types.{StandsFor, AreValuesOf}
use Rattle.sat_encoding_laws.specs.Inputs.{is_input, is_input_variable, names_input, reading_after}
use Rattle.sat_encoding_laws.specs.Meanings.{AreSymbols}
use Rattle.sat_encoding_laws.specs.Encodable.{IsListedType, IsEncodable, IsFitTop}
use Rattle.sat_encoding_laws.specs.Laws.{HasMember}
use Rattle.sat_encoding_laws.proofs.TypeMeans.{symbol_found}
use Rattle.smv_evaluation.specs.EvaluableModels.{IsNumbered, IsLawful}
use Rattle.test_encoding.specs.Values.{IsKnownSymbol, HasAt}
use Rattle.std.proofs.lemmas.Option.{slice_get_within as got_below}
use Rattle.smv_language.proofs.BoolLaws.{left_true, right_true}
use Rattle.base_values.proofs.ListLaws.{get_within}

-- Types that have members.
members_by : (xs : List Variable) → AllByRecursion (λ x. HasMember (declared_tree x.declared)) xs → Each (λ x. HasMember x.declared) (map variable_tree xs)
members_by [] h = tt
members_by (x ∷ xs) h = (h.0, members_by xs h.1)

pub each_has_member : (xs : List Variable) → All (λ x. HasMember (declared_tree x.declared)) xs → Each (λ x. HasMember x.declared) (map variable_tree xs)
each_has_member xs h = members_by xs (recursion_from_All (λ x. HasMember (declared_tree x.declared)) xs h)

pub many : (n : ℕ) → n < 1000 → n < 2 ^ 31
many n h = omega (arith, h)

stands : (symbols : List Text) → AreSymbols symbols → (v : Value) → IsKnownSymbol (length symbols) v → StandsFor symbols v (told_value symbols v)
stands symbols are (truth b) k = refl
stands symbols are (Num n) k = refl
stands symbols are (Sym i) k =
    let at = get_within symbols i k in
    rw at.1 (refl, are.apart _ i at.0 (symbol_found symbols at.0 i at.1) at.1)

numbered : (symbols : List Text) (v : Value) → IsKnownSymbol (length symbols) v → IsNumbered symbols v
numbered symbols (truth b) k = tt
numbered symbols (Num n) k = tt
numbered symbols (Sym i) k = let at = get_within symbols i k in record { text = at.0; there = at.1 }

listed_type : (symbols : List Text) (d : DeclaredTree) → IsListedType symbols d → IsType d
listed_type symbols boolean h = tt
listed_type symbols (range lo hi) h = tt
listed_type symbols (members ms) h = tt
listed_type symbols (instance m actuals) h = absurd h

type_at : (symbols : List Text) (xs : List Variable) → Each (λ x. IsListedType symbols x.declared) (map variable_tree xs) → (i : ℕ) (x : Variable) → slice_get xs i ≡ Some x → IsType (declared_tree x.declared)
type_at symbols [] h i x e = cc
type_at symbols (y ∷ xs) h zero x e = let same : y ≡ x = cc in listed_type symbols (declared_tree x.declared) (subst (λ (z : Variable). IsListedType symbols (declared_tree z.declared)) same h.0)
type_at symbols (y ∷ xs) h (suc i) x e = type_at symbols xs h.1 i x e

pub value_at : (m : FlatModel) → IsEncodable (model_tree m) → (i : ℕ) (d : Domain) (value : Value) → AreValuesOf m i d → Has d value → IsKnownSymbol (length m.symbols) value → HasAt m i value
value_at m encodable i d value values has known = record {
  domain = λ x e. (values x e (type_at m.symbols m.variables encodable.types i x e) value (told_value m.symbols value) (stands m.symbols encodable.symbols value known)).0 has;
  numbered = numbered m.symbols value known;
}

in_domains : (symbols : List Text) (xs : List Variable) (v : List Value) → length v ≡ length xs →
    ((i : ℕ) (value : Value) → slice_get v i ≡ Some value → (x : Variable) → slice_get xs i ≡ Some x → IsTrue (in_domain (declared_tree x.declared) (told_value symbols value))) →
    AreInDomains (map variable_tree xs) (told_moment symbols v)
in_domains symbols [] [] e h = tt
in_domains symbols [] (value ∷ v) e h = absurd (omega (arith, e))
in_domains symbols (x ∷ xs) [] e h = absurd (omega (arith, e))
in_domains symbols (x ∷ xs) (value ∷ v) e h = (h 0 value refl x refl, in_domains symbols xs v (omega (arith, e)) (λ i. h (suc i)))

all_numbered : (symbols : List Text) (v : List Value) → ((i : ℕ) (value : Value) → slice_get v i ≡ Some value → IsNumbered symbols value) → Each (IsNumbered symbols) v
all_numbered symbols [] h = tt
all_numbered symbols (value ∷ v) h = (h 0 value refl, all_numbered symbols v (λ i. h (suc i)))

pub lawful : (m : FlatModel) (v : List Value) → length v ≡ length m.variables → ((i : ℕ) → i < length v → (value : Value) → slice_get v i ≡ Some value → HasAt m i value) → IsLawful (model_tree m) v
lawful m v long h = record {
  domains = in_domains m.symbols m.variables v long (λ i value e. (h i (got_below v i value e) value e).domain);
  numbered = all_numbered m.symbols v (λ i value e. (h i (got_below v i value e) value e).numbered);
}

pub one_value : (m : FlatModel) (v : List Value) (i : ℕ) (x : Value) → slice_get v i ≡ Some x → HasAt m i x → (value : Value) → slice_get v i ≡ Some value → HasAt m i value
one_value m v i x e h value f = let same : x ≡ value = cc in subst (HasAt m i) same h

-- Top events that fit.
mutual
  own : (b : Bounds) (t : Tree Flat) → tree_all (is_within b) t ≡ true → AllLeaves (IsKnown b.variables b.symbols b.definitions) (tree_map leaf_of t)
  own b (a_truth x) h = tt
  own b (a_number n) h = tt
  own b (leaf (Var i)) h = ltb-true i b.variables h
  own b (leaf (Symbol i)) h = ltb-true i b.symbols h
  own b (leaf (Definition i)) h = ltb-true i b.definitions h
  own b (not_of t) h = own b t h
  own b (negate t) h = own b t h
  own b (next_of t) h = own b t h
  own b (binary o t u) h = (own b t (left_true _ _ h), own b u (right_true _ _ h))
  own b (choice c t u) h =
      let rest : (tree_all (is_within b) t && tree_all (is_within b) u) ≡ true = right_true _ _ h in
      (own b c (left_true _ _ h), own b t (left_true _ _ rest), own b u (right_true _ _ rest))
  own b (case_of bs) h = own_branches b bs h
  own b (set_of ts) h = own_trees b ts h
  own b (span lo hi) h = tt

  own_trees : (b : Bounds) (ts : Trees Flat) → trees_all (is_within b) ts ≡ true → AllLeavesOfTrees (IsKnown b.variables b.symbols b.definitions) (trees_map leaf_of ts)
  own_trees b no_tree h = tt
  own_trees b (tree_then t ts) h = (own b t (left_true _ _ h), own_trees b ts (right_true _ _ h))

  own_branches : (b : Bounds) (bs : Branches Flat) → branches_all (is_within b) bs ≡ true → AllLeavesOfBranches (IsKnown b.variables b.symbols b.definitions) (branches_map leaf_of bs)
  own_branches b no_branch h = tt
  own_branches b (branch_then c t bs) h =
      let rest : (tree_all (is_within b) t && branches_all (is_within b) bs) ≡ true = right_true _ _ h in
      (own b c (left_true _ _ h), own b t (left_true _ _ rest), own_branches b bs (right_true _ _ rest))

no_input_at : (xs : List Variable) → AllByRecursion (λ x. is_input (role_of x.role) ≡ false) xs → (i : ℕ) → is_input_variable (slice_get (map variable_tree xs) i) ≡ false
no_input_at [] h i = refl
no_input_at (x ∷ xs) h zero = h.0
no_input_at (x ∷ xs) h (suc i) = no_input_at xs h.1 i

quiet_name : (xs : List Variable) → AllByRecursion (λ x. is_input (role_of x.role) ≡ false) xs → (l : FlatLeaf) → names_input (map variable_tree xs) [] l ≡ false
quiet_name xs h (flat_variable i) = no_input_at xs h i
quiet_name xs h (flat_symbol i) = refl
quiet_name xs h (flat_definition i) = refl

none_of : {A : Type 0} (f : A → Bool) → ((x : A) → f x ≡ false) → (xs : List A) → list_any f xs ≡ false
none_of f h [] = refl
none_of f h (x ∷ xs) = λ i. h x i || none_of f h xs i

quiet : (xs : List Variable) (ds : List Formula) → length ds ≡ 0 → AllByRecursion (λ x. is_input (role_of x.role) ≡ false) xs → (ls : List FlatLeaf) →
    list_any (names_input (map variable_tree xs) (reading_after (map variable_tree xs) [] (map formula_tree ds))) ls ≡ false
quiet xs [] e h ls = none_of (names_input (map variable_tree xs) []) (quiet_name xs h) ls
quiet xs (d ∷ ds) e h ls = absurd (omega (arith, e))

owned : (m : FlatModel) (e : Expr Flat) → is_closed (bounds_of m) e ≡ true → ReadsOwn (model_tree m) (flat_tree e)
owned m e closed =
    subst (λ n. AllLeaves (IsKnown n (length m.symbols) (length (map formula_tree m.definitions))) (flat_tree e)) (sym (length-map m.variables variable_tree))
    (subst (λ n. AllLeaves (IsKnown (length m.variables) (length m.symbols) n) (flat_tree e)) (sym (length-map m.definitions formula_tree)) (own (bounds_of m) (tree_of e) closed))

pub fit : (m : FlatModel) (e : Expr Flat) → is_closed (bounds_of m) e ≡ true → length m.definitions ≡ 0 → All (λ x. is_input (role_of x.role) ≡ false) m.variables →
    broken_condition (judged_in (model_tree m) false (flat_tree e)) ≡ [] → IsFitTop (model_tree m) (flat_tree e)
fit m e closed none roles right = record {
  own = owned m e closed;
  no_input = quiet m.variables m.definitions none (recursion_from_All (λ x. is_input (role_of x.role) ≡ false) m.variables roles) (leaves_in (flat_tree e));
  right = right;
}
