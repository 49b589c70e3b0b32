-- How many of the parentheses of the line "(" expr ")" stand in one another.
use Rattle.std.specs.Prelude.{ℕ, ◌+◌, max, List}
use Rattle.smv_language.specs.Tree.{Tree, Trees, Branches}
use Rattle.smv_language.specs.ProgramTree.{Path}
use Rattle.smv_language.specs.Lexemes.{Lexeme}
use Rattle.smv_language.specs.Spells.{Spells, only_iff, implies, repeated, only_or, chooses, only_not, negates, only_atom, inverts}
use Rattle.smv_language.specs.Spells.{SpellsMore, no_operator, one_operator, SpellsAtom, is_true, is_false, is_number, is_span, is_name}
use Rattle.smv_language.specs.Spells.{in_parentheses, is_next, is_set, is_case, SpellsTrees, one_tree, more_trees, SpellsBranches}
use Rattle.smv_language.specs.Spells.{one_branch, more_branches}

-- how deep parentheses are nested as the tokens spell the tree
abbrev mutual
  pub nesting_of : {l : ℕ} {ts : List Lexeme} {t : Tree Path} → Spells l ts t → ℕ
  nesting_of (only_iff p) = nesting_of p
  nesting_of (implies p q) = max (nesting_of p) (nesting_of q)
  nesting_of (repeated h p m) = max (nesting_of p) (more_nesting m)
  nesting_of (only_or p) = nesting_of p
  nesting_of (chooses p q r) = max (nesting_of p) (max (nesting_of q) (nesting_of r))
  nesting_of (only_not p) = nesting_of p
  nesting_of (negates n p) = nesting_of p
  nesting_of (only_atom p) = atom_nesting p
  nesting_of (inverts p) = nesting_of p

  pub more_nesting : {l : ℕ} {ts : List Lexeme} {a t : Tree Path} → SpellsMore l ts a t → ℕ
  more_nesting no_operator = 0
  more_nesting (one_operator f p m) = max (nesting_of p) (more_nesting m)

  pub atom_nesting : {ts : List Lexeme} {t : Tree Path} → SpellsAtom ts t → ℕ
  atom_nesting is_true = 0
  atom_nesting is_false = 0
  atom_nesting is_number = 0
  atom_nesting (is_span p q) = 0
  atom_nesting (is_name p) = 0
  atom_nesting (in_parentheses p) = nesting_of p + 1
  atom_nesting (is_next p) = nesting_of p
  atom_nesting (is_set p) = trees_nesting p
  atom_nesting (is_case p) = branches_nesting p

  pub trees_nesting : {ts : List Lexeme} {us : Trees Path} → SpellsTrees ts us → ℕ
  trees_nesting (one_tree p) = nesting_of p
  trees_nesting (more_trees p m) = max (nesting_of p) (trees_nesting m)

  pub branches_nesting : {ts : List Lexeme} {bs : Branches Path} → SpellsBranches ts bs → ℕ
  branches_nesting (one_branch p q) = max (nesting_of p) (nesting_of q)
  branches_nesting (more_branches p q m) = max (max (nesting_of p) (nesting_of q)) (branches_nesting m)
