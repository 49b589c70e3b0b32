-- The shape of an expression, whatever its names are.
use Rattle.smv_language.specs.Language.{Tree, tree_map, tree_of}
use Rattle.smv_language.specs.declared.expr.Expr.{Expr}

-- a tree without its leaves
abbrev pub shape_of : {L : Type 0} → Tree L → Tree (Unit {0})
shape_of t = tree_map (λ l. tt) t

-- the shape of an expression: its operators, its numbers, and where it has names
abbrev pub shape : {L : Type 0} → Expr L → Tree (Unit {0})
shape e = shape_of (tree_of e)

-- the shapes of a branch
abbrev pub branch_shapes : {L : Type 0} → Expr L × Expr L → Tree (Unit {0}) × Tree (Unit {0})
branch_shapes b = (shape b.0, shape b.1)
