-- The tokens of an expression's printed text.
use Rattle.std.specs.Prelude.{◌≡◌, ◌≢◌, ◌≤◌, ◌+◌, ◌-◌, ◌^◌, ℕ, suc, ℤ, pos, negsuc, true, false, List, [], ◌∷◌, ◌++◌, codes}
use Rattle.std.specs.Fmt.{decimal}
use Rattle.smv_lexer.specs.declared.token.TokenKind.TheVariants as k
use Rattle.smv_lexer.specs.Tokens.{IsWord}
use Rattle.smv_language.specs.Tree.{Tree, Trees, Branches, truth, number, leaf, not_of, negate, next_of, binary, choice, case_of, set_of}
use Rattle.smv_language.specs.Tree.{span, no_tree, tree_then, no_branch, branch_then}
use Rattle.smv_language.specs.ProgramTree.{Text, Path}
use Rattle.smv_language.specs.Lexemes.{Lexeme, word, num, sign, is_reserved}
use Rattle.smv_language.specs.Spells.{operator}

-- a number with its sign
abbrev pub printed_int : ℤ → List Lexeme
printed_int (pos n) = num n (decimal n) ∷ []
printed_int (negsuc n) = sign k.Minus ∷ num (suc n) (decimal (suc n)) ∷ []

-- names with dots between
abbrev pub printed_path : Path → List Lexeme
printed_path [] = []
printed_path (x ∷ []) = word x ∷ []
printed_path (x ∷ y ∷ p) = word x ∷ sign k.Dot ∷ printed_path (y ∷ p)

-- between parentheses
abbrev pub in_brackets : List Lexeme → List Lexeme
in_brackets ts = sign k.Open ∷ (ts ++ sign k.Close ∷ [])

-- a span under a minus stands in parentheses
abbrev pub under_minus : {L : Type 0} → Tree L → List Lexeme → List Lexeme
under_minus (span lo hi) ts = in_brackets ts
under_minus _ ts = ts

-- the tokens of an expression, of the members of a set, and of the branches of a case
abbrev mutual
  pub printed : Tree Path → List Lexeme
  printed (truth true) = word (codes "TRUE") ∷ []
  printed (truth false) = word (codes "FALSE") ∷ []
  printed (number n) = printed_int n
  printed (leaf p) = printed_path p
  printed (not_of a) = in_brackets (sign k.Bang ∷ printed a)
  printed (negate a) = in_brackets (sign k.Minus ∷ under_minus a (printed a))
  printed (next_of a) = word (codes "next") ∷ in_brackets (printed a)
  printed (binary o a b) = in_brackets (printed a ++ operator o ∷ printed b)
  printed (choice c a b) = in_brackets (printed c ++ sign k.Question ∷ (printed a ++ sign k.Colon ∷ printed b))
  printed (case_of bs) = word (codes "case") ∷ (printed_branches bs ++ word (codes "esac") ∷ [])
  printed (set_of ts) = sign k.OpenBrace ∷ (printed_trees ts ++ sign k.CloseBrace ∷ [])
  printed (span lo hi) = printed_int lo ++ sign k.Dots ∷ printed_int hi

  pub printed_trees : Trees Path → List Lexeme
  printed_trees no_tree = []
  printed_trees (tree_then t no_tree) = printed t
  printed_trees (tree_then t (tree_then u us)) = printed t ++ sign k.Comma ∷ printed_trees (tree_then u us)

  pub printed_branches : Branches Path → List Lexeme
  printed_branches no_branch = []
  printed_branches (branch_then c a bs) = printed c ++ sign k.Colon ∷ (printed a ++ sign k.Semicolon ∷ printed_branches bs)

-- a word that is not reserved
abbrev pub IsName : Text → Type 0
IsName x = (is_reserved x ≡ false) × IsWord x []

-- each part is a name
abbrev pub AreNames : Path → Type 0
AreNames [] = Unit {0}
AreNames (x ∷ p) = IsName x × AreNames p

-- a number that a token can hold
abbrev pub IsSmall : ℕ → Type 0
IsSmall n = n ≤ 2 ^ 63 - 1

-- a number that stands alone has no sign
abbrev pub IsUnsigned : ℤ → Type 0
IsUnsigned (pos n) = IsSmall n
IsUnsigned (negsuc n) = ⊥

-- an end of a span or a range may have one
abbrev pub IsEnd : ℤ → Type 0
IsEnd (pos n) = IsSmall n
IsEnd (negsuc n) = IsSmall (n + 1)

-- the tree can be written: its names are names, its numbers fit, and no set or case is empty
abbrev mutual
  pub IsWritable : Tree Path → Type 0
  IsWritable (truth b) = Unit {0}
  IsWritable (number n) = IsUnsigned n
  IsWritable (leaf p) = (p ≢ []) × AreNames p
  IsWritable (not_of a) = IsWritable a
  IsWritable (negate a) = IsWritable a
  IsWritable (next_of a) = IsWritable a
  IsWritable (binary o a b) = IsWritable a × IsWritable b
  IsWritable (choice c a b) = IsWritable c × IsWritable a × IsWritable b
  IsWritable (case_of bs) = (bs ≢ no_branch) × AreWritableBranches bs
  IsWritable (set_of ts) = (ts ≢ no_tree) × AreWritable ts
  IsWritable (span lo hi) = IsEnd lo × IsEnd hi

  pub AreWritable : Trees Path → Type 0
  AreWritable no_tree = Unit {0}
  AreWritable (tree_then t ts) = IsWritable t × AreWritable ts

  pub AreWritableBranches : Branches Path → Type 0
  AreWritableBranches no_branch = Unit {0}
  AreWritableBranches (branch_then c a bs) = IsWritable c × IsWritable a × AreWritableBranches bs
