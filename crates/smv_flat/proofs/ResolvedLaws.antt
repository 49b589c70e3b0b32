-- A set and a case with their names resolved, by their parts.
use Rattle.std.proofs.Common.{◌≡◌, true, List, [], ◌∷◌, map, Option, Some, ap, ◌∙◌, refl, subst}
use Rattle.std.specs.List.{All}
use Rattle.std.proofs.lemmas.List.Elements.{All-nil, All-cons}
use Rattle.smv_language.specs.declared.expr.Expr.{Expr}
use Rattle.smv_language.specs.declared.expr.Expr.TheVariants.{Case, SetOf}
use Rattle.smv_language.specs.Language.{Path, case_of, set_of, tree_then, branch_then, trees_from, branches_from, tree_map, trees_map, branches_map, trees_of, branches_of, FlatLeaf, leaf_of}
use Rattle.smv_language.proofs.WrittenLaws.{tree_of_case, tree_of_set}
use Rattle.smv_scope.specs.declared.bounds.Bounds.{Bounds}
use Rattle.smv_language.specs.declared.model.Flat.{Flat}
use Rattle.smv_flat.specs.ResolverOf.{is_leaf_within, TreeAll, TreesAll, BranchesAll, told_tree, asked_tree, told_branch, asked_branch, IsKnown, IsBranchKnown}
use Rattle.smv_scope.proofs.ClosedLaws.{closed_case, closed_set}
use Rattle.smv_flat.proofs.ShapeLaws.{shape_of_case, shape_of_set}

told_trees : (ts : List (Expr Flat)) → trees_map Some (trees_map leaf_of (trees_of ts)) ≡ trees_from (map told_tree ts)
told_trees [] = refl
told_trees (t ∷ ts) = ap (tree_then (told_tree t)) (told_trees ts)

told_branches : (bs : List (Expr Flat × Expr Flat)) → branches_map Some (branches_map leaf_of (branches_of bs)) ≡ branches_from (map told_branch bs)
told_branches [] = refl
told_branches (b ∷ bs) = ap (branch_then (told_tree b.0) (told_tree b.1)) (told_branches bs)

asked_trees : (q : Path → Option FlatLeaf) (ts : List (Expr Path)) → trees_map q (trees_of ts) ≡ trees_from (map (asked_tree q) ts)
asked_trees q [] = refl
asked_trees q (t ∷ ts) = ap (tree_then (asked_tree q t)) (asked_trees q ts)

asked_branches : (q : Path → Option FlatLeaf) (bs : List (Expr Path × Expr Path)) → branches_map q (branches_of bs) ≡ branches_from (map (asked_branch q) bs)
asked_branches q [] = refl
asked_branches q (b ∷ bs) = ap (branch_then (asked_tree q b.0) (asked_tree q b.1)) (asked_branches q bs)

pub told_set : (ts : List (Expr Flat)) → told_tree (SetOf ts) ≡ set_of (trees_from (map told_tree ts))
told_set ts = ap (λ t. tree_map Some (tree_map leaf_of t)) (tree_of_set ts) ∙ ap set_of (told_trees ts)

pub told_case : (bs : List (Expr Flat × Expr Flat)) → told_tree (Case bs) ≡ case_of (branches_from (map told_branch bs))
told_case bs = ap (λ t. tree_map Some (tree_map leaf_of t)) (tree_of_case bs) ∙ ap case_of (told_branches bs)

pub asked_set : (q : Path → Option FlatLeaf) (ts : List (Expr Path)) → asked_tree q (SetOf ts) ≡ set_of (trees_from (map (asked_tree q) ts))
asked_set q ts = ap (tree_map q) (tree_of_set ts) ∙ ap set_of (asked_trees q ts)

pub asked_case : (q : Path → Option FlatLeaf) (bs : List (Expr Path × Expr Path)) → asked_tree q (Case bs) ≡ case_of (branches_from (map (asked_branch q) bs))
asked_case q bs = ap (tree_map q) (tree_of_case bs) ∙ ap case_of (asked_branches q bs)

-- the names of a part are names of the whole
members_known : (q : Path → Option FlatLeaf) (b : Bounds) (ts : List (Expr Path)) → TreesAll (λ name. is_leaf_within b (q name) ≡ true) (trees_of ts) → All (IsKnown q b) ts
members_known q b [] h = All-nil (IsKnown q b)
members_known q b (t ∷ ts) h = All-cons (IsKnown q b) t ts h.0 (members_known q b ts h.1)

branches_known : (q : Path → Option FlatLeaf) (b : Bounds) (bs : List (Expr Path × Expr Path)) →
    BranchesAll (λ name. is_leaf_within b (q name) ≡ true) (branches_of bs) → All (IsBranchKnown q b) bs
branches_known q b [] h = All-nil (IsBranchKnown q b)
branches_known q b (p ∷ ps) h = All-cons (IsBranchKnown q b) p ps (h.0, h.1) (branches_known q b ps h.2)

pub known_set : (q : Path → Option FlatLeaf) (b : Bounds) (e : Expr Path) (ts : List (Expr Path)) → IsKnown q b e → e ≡ SetOf ts → All (IsKnown q b) ts
known_set q b e ts h is =
    members_known q b ts (subst (TreeAll (λ name. is_leaf_within b (q name) ≡ true)) (tree_of_set ts) (subst (IsKnown q b) is h))

pub known_case : (q : Path → Option FlatLeaf) (b : Bounds) (e : Expr Path) (bs : List (Expr Path × Expr Path)) → IsKnown q b e → e ≡ Case bs → All (IsBranchKnown q b) bs
known_case q b e bs h is =
    branches_known q b bs (subst (TreeAll (λ name. is_leaf_within b (q name) ≡ true)) (tree_of_case bs) (subst (IsKnown q b) is h))

pub ruleset resolved_rules = (shape_of_case, shape_of_set, closed_case, closed_set, told_case, told_set, asked_case, asked_set)
