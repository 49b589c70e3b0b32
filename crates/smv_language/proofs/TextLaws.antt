-- Text that is appended piece by piece.
use Rattle.std.proofs.Common.{◌≡◌, ◌+◌, List, [], ◌∷◌, ◌++◌, map, refl, ap}
use Rattle.std.proofs.lemmas.List.{append_assoc, append-nil}
use Rattle.smv_language.specs.declared.expr.Expr.{Expr}
use Rattle.smv_language.specs.declared.expr.Expr.TheVariants.{SetOf}
use Rattle.smv_language.specs.ProgramTree.{Path}
use Rattle.smv_language.specs.Tree.{Tree, trees_from}
use Rattle.smv_language.specs.Text.{text_of, trees_texts, commas}
use Rattle.smv_language.proofs.WrittenLaws.{tree_of_set}
use Rattle.smv_language.specs.ExpressionTree.{tree_of}
use Rattle.std.specs.Prelude.{codes}

-- the texts of the members of a set are those of a list of trees
pub trees_texts_from : (ts : List (Tree Path)) → trees_texts (trees_from ts) ≡ map text_of ts
trees_texts_from [] = refl
trees_texts_from (t ∷ ts) = ap (λ more. text_of t ∷ more) (trees_texts_from ts)

pub text_of_set : (ts : List (Expr Path)) → text_of (tree_of (SetOf ts)) ≡ codes "{" ++ (commas (map text_of (map tree_of ts)) ++ codes "}")
text_of_set ts = rw (tree_of_set ts, trees_texts_from (map tree_of ts)) refl

pub ruleset print_rules = (append_assoc, append-nil)
