-- A program's flat model names its own variables, symbols and definitions.
use Rattle.std.proofs.Common.{◌≡◌, ℕ, zero, suc, ◌+◌, ◌<◌, arith, List, [], ◌∷◌, ◌++◌, length, map, Option, Some, refl, sym, ap, ◌∙◌, subst}
use Rattle.std.specs.Prelude.{slice_get}
use Rattle.std.proofs.lemmas.Option.{slice_get_within}
use Rattle.smv_language.specs.Language.{Tree, Trees, Branches, leaf, not_of, negate, next_of, binary, choice, case_of, set_of, span, no_tree, tree_then, no_branch, branch_then, Path, Formula, ProgramTree, AllLeaves, AllLeavesOfTrees, AllLeavesOfBranches, Place, Meaning, a_variable_at, an_expression_at, an_instance_at, Each, EachBoth, FlatLeaf, flat_variable, flat_symbol, flat_definition, FlatFormula, FlatModel}
use Rattle.smv_language.specs.Tree.{truth as is_truth, number as is_number}
use Rattle.smv_language.specs.Scope.{a_symbol}
use Rattle.smv_flat_laws.specs.NameResolution.{leaves_in, trees_leaves, branches_leaves, StandsFor, Resolver, IsSound, IsResolved, IsBefore}
use Rattle.smv_flat_laws.specs.Model.{Condition, plain, now_among, next_among, kept, Written, IsVariableNumber, IsConditionTree, IsFormulaOf, IsDefinitionOf, IsFlatOf}
use Rattle.smv_flat_laws.proofs.Reaches.{each_left, each_right}
use Rattle.smv_flat_laws.proofs.Lists.{leaves_map}
use Rattle.smv_type_laws.specs.Laws.{IsKnown, ReadsOwn, AreInOrder, ReadOwn, FlatModelsAreClosed}
use Rattle.smv_flat_laws.proofs.BothLaws.{both_size}

-- What holds of each of the leaves holds of all leaves.
mutual
  pub all_leaves : {L : Type 0} (P : L → Type 0) (t : Tree L) → Each P (leaves_in t) → AllLeaves P t
  all_leaves P (is_truth b) h = tt
  all_leaves P (is_number n) h = tt
  all_leaves P (leaf l) h = h.0
  all_leaves P (not_of a) h = all_leaves P a h
  all_leaves P (negate a) h = all_leaves P a h
  all_leaves P (next_of a) h = all_leaves P a h
  all_leaves P (binary o a b) h = (all_leaves P a (each_left P (leaves_in a) (leaves_in b) h), all_leaves P b (each_right P (leaves_in a) (leaves_in b) h))
  all_leaves P (choice c a b) h =
      let sides = each_right P (leaves_in c) (leaves_in a ++ leaves_in b) h in
      (all_leaves P c (each_left P (leaves_in c) (leaves_in a ++ leaves_in b) h), all_leaves P a (each_left P (leaves_in a) (leaves_in b) sides), all_leaves P b (each_right P (leaves_in a) (leaves_in b) sides))
  all_leaves P (case_of bs) h = all_branches P bs h
  all_leaves P (set_of ts) h = all_trees P ts h
  all_leaves P (span lo hi) h = tt

  all_trees : {L : Type 0} (P : L → Type 0) (ts : Trees L) → Each P (trees_leaves ts) → AllLeavesOfTrees P ts
  all_trees P no_tree h = tt
  all_trees P (tree_then t ts) h = (all_leaves P t (each_left P (leaves_in t) (trees_leaves ts) h), all_trees P ts (each_right P (leaves_in t) (trees_leaves ts) h))

  all_branches : {L : Type 0} (P : L → Type 0) (bs : Branches L) → Each P (branches_leaves bs) → AllLeavesOfBranches P bs
  all_branches P no_branch h = tt
  all_branches P (branch_then c a bs) h =
      let sides = each_right P (leaves_in c) (leaves_in a ++ branches_leaves bs) h in (
        all_leaves P c (each_left P (leaves_in c) (leaves_in a ++ branches_leaves bs) h),
        all_leaves P a (each_left P (leaves_in a) (branches_leaves bs) sides),
        all_branches P bs (each_right P (leaves_in a) (branches_leaves bs) sides),
      )

pub each_both : {A : Type 0} (P Q R : A → Type 0) → ((a : A) → P a → Q a → R a) → (xs : List A) → Each P xs → Each Q xs → Each R xs
each_both P Q R f [] h g = tt
each_both P Q R f (x ∷ xs) h g = (f x h.0 g.0, each_both P Q R f xs h.1 g.1)

-- each leaf of a resolved expression is what the resolver gives to some name
pub given_leaves : (P : FlatLeaf → Type 0) (q : Path → Option FlatLeaf) → ((name : Path) (l : FlatLeaf) → q name ≡ Some l → P l) → (ls : List FlatLeaf) (names : List Path) →
    map Some ls ≡ map q names → Each P ls
given_leaves P q f [] names e = tt
given_leaves P q f (l ∷ ls) [] e = cc
given_leaves P q f (l ∷ ls) (name ∷ names) e =
    let head : q name ≡ Some l = cc in
    let tail : map Some ls ≡ map q names = cc in
    (f name l head, given_leaves P q f ls names tail)

pub resolved_leaves : (P : FlatLeaf → Type 0) (q : Path → Option FlatLeaf) → ((name : Path) (l : FlatLeaf) → q name ≡ Some l → P l) → (e : Formula) (flat : Tree FlatLeaf) →
    IsResolved q e flat → Each P (leaves_in flat)
resolved_leaves P q f e flat is = given_leaves P q f (leaves_in flat) (leaves_in e) (sym (leaves_map Some flat) ∙ ap leaves_in is ∙ leaves_map q e)

-- what stands beside an element
pub record Beside {A B : Type 0} (R : A → B → Type 0) (xs : List A) (i : ℕ) (y : B) : Type 0 where
  pub found : A
  pub is : slice_get xs i ≡ Some found
  pub related : R found y

pub beside : {A B : Type 0} (R : A → B → Type 0) (xs : List A) (ys : List B) (i : ℕ) (y : B) → EachBoth R xs ys → slice_get ys i ≡ Some y → Beside R xs i y
beside R [] [] i y h e = cc
beside R [] (z ∷ ys) i y h e = absurd h
beside R (x ∷ xs) [] i y h e = absurd h
beside R (x ∷ xs) (z ∷ ys) zero y h e = let same : z ≡ y = cc in record { found = x; is = refl; related = subst (R x) same h.0 }
beside R (x ∷ xs) (z ∷ ys) (suc i) y h e = let more = beside R xs ys i y h.1 e in record { found = more.found; is = more.is; related = more.related }

module _ (p : ProgramTree) (m : FlatModel) (is : IsFlatOf p m) where
  abbrev Own : FlatLeaf → Type 0
  Own = IsKnown (length m.variables) (length m.symbols) (length m.definitions)

  stands_own : (l : FlatLeaf) (meaning : Meaning) → StandsFor m is.written l meaning → Own l
  stands_own (flat_variable i) (a_variable_at at x) h = slice_get_within m.variables i h.0 h.1
  stands_own (flat_variable i) (an_expression_at key at e) h = absurd h
  stands_own (flat_variable i) (an_instance_at at) h = absurd h
  stands_own (flat_variable i) (a_symbol x) h = absurd h
  stands_own (flat_symbol i) (a_symbol x) h = slice_get_within m.symbols i x h
  stands_own (flat_symbol i) (a_variable_at at x) h = absurd h
  stands_own (flat_symbol i) (an_expression_at key at e) h = absurd h
  stands_own (flat_symbol i) (an_instance_at at) h = absurd h
  stands_own (flat_definition i) (an_expression_at key at e) h =
      subst (λ n. i < n) (both_size (IsDefinitionOf p m) is.written m.definitions is.placed) (slice_get_within is.written i _ h)
  stands_own (flat_definition i) (a_variable_at at x) h = absurd h
  stands_own (flat_definition i) (an_instance_at at) h = absurd h
  stands_own (flat_definition i) (a_symbol x) h = absurd h

  own_leaf : (r : Resolver) → IsSound p m is.written r → (at : Place) (name : Path) (l : FlatLeaf) → r at name ≡ Some l → Own l
  own_leaf r sound at name l e = let s = sound at name l e in stands_own l s.0 s.2

  -- what is resolved soundly reads the model's own names
  pub own_by : (r : Resolver) → IsSound p m is.written r → (at : Place) (e : Formula) (flat : Tree FlatLeaf) → IsResolved (r at) e flat → ReadsOwn m flat
  own_by r sound at e flat h = all_leaves Own flat (resolved_leaves Own (r at) (own_leaf r sound at) e flat h)

  own_resolved : (at : Place) (e : Formula) (flat : Tree FlatLeaf) → IsResolved (is.resolver at) e flat → ReadsOwn m flat
  own_resolved at e flat h = own_by is.resolver is.sound at e flat h

  own_variable : (at : Place) (x : List ℕ) (i : ℕ) → IsVariableNumber m at x i → Own (flat_variable i)
  own_variable at x i n = slice_get_within m.variables i n.variable n.is

  own_condition : (at : Place) (c : Condition) (flat : Tree FlatLeaf) → IsConditionTree m is.resolver at c flat → ReadsOwn m flat
  own_condition at (plain e) flat h = own_resolved at e flat h
  own_condition at (now_among x e) flat h =
      subst (ReadsOwn m) (sym h.is) (own_variable at x h.number h.is_number, own_resolved at e h.value h.resolved)
  own_condition at (next_among x e) flat h =
      subst (ReadsOwn m) (sym h.is) (own_variable at x h.number h.is_number, own_resolved at e h.value h.resolved)
  own_condition at (kept x) flat h =
      subst (ReadsOwn m) (sym h.is) (own_variable at x h.number h.is_number, own_variable at x h.number h.is_number)

  own_formulas : (ws : List Written) (fs : List FlatFormula) → EachBoth (IsFormulaOf m is.resolver) ws fs → ReadOwn m fs
  own_formulas [] [] h = tt
  own_formulas [] (f ∷ fs) h = absurd h
  own_formulas (w ∷ ws) [] h = absurd h
  own_formulas (w ∷ ws) (f ∷ fs) h = (own_condition w.place w.condition f.value h.0.tree, own_formulas ws fs h.1)

  before_own : (k : ℕ) (l : FlatLeaf) → Own l → IsBefore k l → IsKnown (length m.variables) (length m.symbols) k l
  before_own k (flat_variable i) h b = h
  before_own k (flat_symbol i) h b = h
  before_own k (flat_definition i) h b = b

  own_definition : (k : ℕ) (f : FlatFormula) → slice_get m.definitions k ≡ Some f → AllLeaves (IsKnown (length m.variables) (length m.symbols) k) f.value
  own_definition k f e =
      let d = beside (IsDefinitionOf p m) is.written m.definitions k f is.placed e in
      let g = is.definitions k d.found d.is in
      let same : g.0 ≡ f = cc (g.1, e) in
      let leaves = resolved_leaves Own (is.resolver d.found.place) (own_leaf is.resolver is.sound d.found.place) d.found.written g.0.value g.2 in
      subst (λ (h : FlatFormula). AllLeaves (IsKnown (length m.variables) (length m.symbols) k) h.value) same
      (all_leaves (IsKnown (length m.variables) (length m.symbols) k) g.0.value
      (each_both Own (IsBefore k) (IsKnown (length m.variables) (length m.symbols) k) (before_own k) (leaves_in g.0.value) leaves g.3))

  in_order : (ds : List FlatFormula) (k : ℕ) → ((i : ℕ) (f : FlatFormula) → slice_get ds i ≡ Some f → AllLeaves (IsKnown (length m.variables) (length m.symbols) (k + i)) f.value) →
      AreInOrder (length m.variables) (length m.symbols) k ds
  in_order [] k h = tt
  in_order (d ∷ ds) k h =
      let here : k + 0 ≡ k = omega arith in (
        subst (λ n. AllLeaves (IsKnown (length m.variables) (length m.symbols) n) d.value) here (h 0 d refl),
        in_order ds (suc k) (λ i f e. let next : k + suc i ≡ suc k + i = omega arith in subst (λ n. AllLeaves (IsKnown (length m.variables) (length m.symbols) n) f.value) next (h (suc i) f e)),
      )

pub models_closed : FlatModelsAreClosed
models_closed p m is = record {
  definitions = in_order p m is m.definitions 0 (λ i f e. let same : i ≡ 0 + i = omega arith in subst (λ n. AllLeaves (IsKnown (length m.variables) (length m.symbols) n) f.value) same (own_definition p m is i f e));
  at_first = own_formulas p m is _ m.at_first is.at_first;
  at_each = own_formulas p m is _ m.at_each is.at_each;
  at_step = own_formulas p m is _ m.at_step is.at_step;
}
