-- Renaming in lists of expressions.
use Rattle.std.proofs.Common.{◌≡◌, ℕ, List, [], ◌∷◌, ◌≤◌, length, map, take, refl, ◌∙◌, ap}
use Rattle.std.proofs.lemmas.List.{take_all}
use Rattle.smv_language.specs.declared.expr.Expr.{Expr}
use Rattle.smv_language.specs.Language.{Tree, tree_then, branch_then, trees_from, branches_from, Text, Path, tree_of, trees_of, branches_of, branch_trees}
use Rattle.std.specs.Prelude.{Bool}
use Rattle.fault_weave.specs.WovenProgram.{rename, tree_map_both, trees_map_both, branches_map_both}

-- a name of several parts stays
pub rename_other : (affected : Text → Bool) (name : Path) → (length name ≡ 1 → ⊥) → rename affected name ≡ name
rename_other affected [] h = refl
rename_other affected (x ∷ []) h = absurd (h refl)
rename_other affected (x ∷ y ∷ name) h = refl

trees_renamed : (f g : Path → Path) (es : List (Expr Path)) → trees_from (map (λ e. tree_map_both f g (tree_of e)) es) ≡ trees_map_both f g (trees_of es)
trees_renamed f g [] = refl
trees_renamed f g (e ∷ es) = ap (λ ts. tree_then (tree_map_both f g (tree_of e)) ts) (trees_renamed f g es)

-- both parts of a branch, renamed
abbrev pub renamed_branch : (Path → Path) → (Path → Path) → Expr Path × Expr Path → Tree Path × Tree Path
renamed_branch f g b = (tree_map_both f g (tree_of b.0), tree_map_both f g (tree_of b.1))

branches_renamed : (f g : Path → Path) (bs : List (Expr Path × Expr Path)) → branches_from (map (renamed_branch f g) bs) ≡ branches_map_both f g (branches_of bs)
branches_renamed f g [] = refl
branches_renamed f g (b ∷ bs) = ap (λ more. branch_then (tree_map_both f g (tree_of b.0)) (tree_map_both f g (tree_of b.1)) more) (branches_renamed f g bs)

-- at the end of a loop over members
pub members_done : (f g : Path → Path) (made es : List (Expr Path)) (n : ℕ) → length es ≤ n → map tree_of made ≡ map (λ e. tree_map_both f g (tree_of e)) (take n es) →
    trees_of made ≡ trees_map_both f g (trees_of es)
members_done f g made es n over h = ap trees_from (h ∙ ap (map (λ e. tree_map_both f g (tree_of e))) (take_all n es over)) ∙ trees_renamed f g es

-- and over branches
pub branches_done : (f g : Path → Path) (made bs : List (Expr Path × Expr Path)) (n : ℕ) → length bs ≤ n → map branch_trees made ≡ map (renamed_branch f g) (take n bs) →
    branches_of made ≡ branches_map_both f g (branches_of bs)
branches_done f g made bs n over h = ap branches_from (h ∙ ap (map (renamed_branch f g)) (take_all n bs over)) ∙ branches_renamed f g bs
