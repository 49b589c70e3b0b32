-- The shapes of a set and of a case, by those of their parts.
use Rattle.std.proofs.Common.{◌≡◌, List, [], ◌∷◌, map, ap, ◌∙◌, refl}
use Rattle.smv_language.specs.declared.expr.Expr.{Expr}
use Rattle.smv_language.specs.declared.expr.Expr.TheVariants.{Case, SetOf}
use Rattle.smv_language.specs.Language.{case_of, set_of, tree_then, branch_then, trees_from, branches_from, trees_map, branches_map, trees_of, branches_of}
use Rattle.smv_language.proofs.WrittenLaws.{tree_of_case, tree_of_set}
use Rattle.smv_flat.specs.Shape.{shape_of, shape, branch_shapes}

trees_shape : {L : Type 0} (ts : List (Expr L)) → trees_map (λ l. tt) (trees_of ts) ≡ trees_from (map shape ts)
trees_shape [] = refl
trees_shape (t ∷ ts) = ap (tree_then (shape t)) (trees_shape ts)

branches_shape : {L : Type 0} (bs : List (Expr L × Expr L)) → branches_map (λ l. tt) (branches_of bs) ≡ branches_from (map branch_shapes bs)
branches_shape [] = refl
branches_shape (b ∷ bs) = ap (branch_then (shape b.0) (shape b.1)) (branches_shape bs)

pub shape_of_set : {L : Type 0} (ts : List (Expr L)) → shape (SetOf ts) ≡ set_of (trees_from (map shape ts))
shape_of_set ts = ap shape_of (tree_of_set ts) ∙ ap set_of (trees_shape ts)

pub shape_of_case : {L : Type 0} (bs : List (Expr L × Expr L)) → shape (Case bs) ≡ case_of (branches_from (map branch_shapes bs))
shape_of_case bs = ap shape_of (tree_of_case bs) ∙ ap case_of (branches_shape bs)
