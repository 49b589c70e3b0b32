-- A closed model reads its own variables alone.
use Rattle.std.proofs.Common.{◌≡◌, ℕ, suc, true, ◌&&◌, List, [], ◌∷◌, ◌++◌, length, map, subst, sym}
use Rattle.std.proofs.lemmas.Bool.{ltb-true}
use Rattle.std.proofs.lemmas.List.{length-map}
use Rattle.smv_language.specs.Language.{Tree, Trees, Branches, leaf, not_of, negate, next_of, binary, choice, case_of, set_of, span, no_tree, tree_then, no_branch, branch_then, tree_map, trees_map, branches_map, tree_of, Each, leaf_of, variable_tree, formula_tree, model_tree, FlatFormula}
use Rattle.smv_language.specs.Tree.{truth, number}
use Rattle.smv_language.specs.declared.model.Flat.{Flat}
use Rattle.smv_language.specs.declared.model.Flat.TheVariants.{Var, Symbol, Definition}
use Rattle.smv_language.specs.declared.model.Formula.{Formula}
use Rattle.smv_language.specs.declared.model.FlatModel.{FlatModel}
use Rattle.smv_scope.specs.declared.bounds.Bounds.{Bounds}
use Rattle.smv_scope.specs.ClosedModels.{is_within, tree_all, trees_all, branches_all, are_closed, are_earlier, IsClosedModel, bounds_of}
use Rattle.smv_flat_laws.specs.NameResolution.{leaves_in, trees_leaves, branches_leaves}
use Rattle.smv_flat_laws.specs.FlatTrace.{IsOwnName, IsOwnFormula, NamesOwn}
use Rattle.smv_flat_laws.proofs.Conditions.{each_join}
use Rattle.smv_language.proofs.BoolLaws.{left_true, right_true}

mutual
  own_names : (b : Bounds) (t : Tree Flat) → tree_all (is_within b) t ≡ true → Each (IsOwnName b.variables) (leaves_in (tree_map leaf_of t))
  own_names b (truth x) h = tt
  own_names b (number n) h = tt
  own_names b (leaf (Var i)) h = (ltb-true i b.variables h, tt)
  own_names b (leaf (Symbol i)) h = (tt, tt)
  own_names b (leaf (Definition i)) h = (tt, tt)
  own_names b (not_of t) h = own_names b t h
  own_names b (negate t) h = own_names b t h
  own_names b (next_of t) h = own_names b t h
  own_names b (binary o t u) h =
      each_join (IsOwnName b.variables) (leaves_in (tree_map leaf_of t)) (leaves_in (tree_map leaf_of u)) (own_names b t (left_true _ _ h)) (own_names b u (right_true _ _ h))
  own_names b (choice c t u) h =
      let rest : (tree_all (is_within b) t && tree_all (is_within b) u) ≡ true = right_true _ _ h in
      each_join (IsOwnName b.variables) (leaves_in (tree_map leaf_of c)) (leaves_in (tree_map leaf_of t) ++ leaves_in (tree_map leaf_of u)) (own_names b c (left_true _ _ h))
      (each_join (IsOwnName b.variables) (leaves_in (tree_map leaf_of t)) (leaves_in (tree_map leaf_of u)) (own_names b t (left_true _ _ rest)) (own_names b u (right_true _ _ rest)))
  own_names b (case_of bs) h = branches_own b bs h
  own_names b (set_of ts) h = trees_own b ts h
  own_names b (span lo hi) h = tt

  trees_own : (b : Bounds) (ts : Trees Flat) → trees_all (is_within b) ts ≡ true → Each (IsOwnName b.variables) (trees_leaves (trees_map leaf_of ts))
  trees_own b no_tree h = tt
  trees_own b (tree_then t ts) h =
      each_join (IsOwnName b.variables) (leaves_in (tree_map leaf_of t)) (trees_leaves (trees_map leaf_of ts)) (own_names b t (left_true _ _ h)) (trees_own b ts (right_true _ _ h))

  branches_own : (b : Bounds) (bs : Branches Flat) → branches_all (is_within b) bs ≡ true → Each (IsOwnName b.variables) (branches_leaves (branches_map leaf_of bs))
  branches_own b no_branch h = tt
  branches_own b (branch_then c t bs) h =
      let rest : (tree_all (is_within b) t && branches_all (is_within b) bs) ≡ true = right_true _ _ h in
      each_join (IsOwnName b.variables) (leaves_in (tree_map leaf_of c)) (leaves_in (tree_map leaf_of t) ++ branches_leaves (branches_map leaf_of bs)) (own_names b c (left_true _ _ h))
      (each_join (IsOwnName b.variables) (leaves_in (tree_map leaf_of t)) (branches_leaves (branches_map leaf_of bs)) (own_names b t (left_true _ _ rest)) (branches_own b bs (right_true _ _ rest)))

own_formulas : (b : Bounds) (fs : List Formula) → are_closed b fs ≡ true → Each (IsOwnFormula b.variables) (map formula_tree fs)
own_formulas b [] h = tt
own_formulas b (f ∷ fs) h = (own_names b (tree_of f.value) (left_true _ _ h), own_formulas b fs (right_true _ _ h))

own_definitions : (v s k : ℕ) (ds : List Formula) → are_earlier v s k ds ≡ true → Each (IsOwnFormula v) (map formula_tree ds)
own_definitions v s k [] h = tt
own_definitions v s k (d ∷ ds) h =
    (own_names (record { variables = v; symbols = s; definitions = k }) (tree_of d.value) (left_true _ _ h), own_definitions v s (suc k) ds (right_true _ _ h))

pub closed_names_own : (m : FlatModel) → IsClosedModel m → NamesOwn (model_tree m)
closed_names_own m closed =
    let many : length m.variables ≡ length (map variable_tree m.variables) = sym (length-map m.variables variable_tree) in
    let at : (gs : List FlatFormula) → Each (IsOwnFormula (length m.variables)) gs → Each (IsOwnFormula (length (map variable_tree m.variables))) gs =
    λ gs h. subst (λ n. Each (IsOwnFormula n) gs) many h in
    record {
      definitions = at (map formula_tree m.definitions) (own_definitions (length m.variables) (length m.symbols) 0 m.definitions closed.definitions);
      at_first = at (map formula_tree m.init) (own_formulas (bounds_of m) m.init closed.init);
      at_each = at (map formula_tree m.invar) (own_formulas (bounds_of m) m.invar closed.invar);
      at_step = at (map formula_tree m.trans) (own_formulas (bounds_of m) m.trans closed.trans);
    }
