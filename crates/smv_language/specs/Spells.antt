-- Which expressions a list of tokens spells: a case for each line of the grammar.
use Rattle.std.specs.Prelude.{◌≡◌, ℕ, zero, suc, ℤ, pos, negsuc, Bool, true, false, List, [], ◌∷◌, ◌++◌, Option, Some, None, codes, nat_eq}
use Rattle.std.specs.Prelude.{nat_le, ◌&&◌, ◌||◌}
use Rattle.smv_lexer.specs.declared.token.TokenKind.TheVariants as k
use Rattle.smv_language.specs.declared.expr.Op.{Op}
use Rattle.smv_language.specs.declared.expr.Op.TheVariants as op
use Rattle.smv_language.specs.Tree.{Tree, Trees, Branches, truth, number, leaf, not_of, negate, next_of, binary, choice, case_of, set_of}
use Rattle.smv_language.specs.Tree.{span, no_tree, tree_then, no_branch, branch_then}
use Rattle.smv_language.specs.ProgramTree.{Text, Path}
use Rattle.smv_language.specs.Lexemes.{Lexeme, word, num, sign, is_reserved}

-- The lines of the grammar, from the loosest to the tightest:
-- expr, iff, choice, or, and, rel, within, uni, sum, prod, neg, not, atom.
abbrev pub at_expr : ℕ
at_expr = 0

abbrev pub at_iff : ℕ
at_iff = 1

abbrev pub at_choice : ℕ
at_choice = 2

abbrev pub at_or : ℕ
at_or = 3

abbrev pub at_and : ℕ
at_and = 4

abbrev pub at_rel : ℕ
at_rel = 5

abbrev pub at_within : ℕ
at_within = 6

abbrev pub at_uni : ℕ
at_uni = 7

abbrev pub at_sum : ℕ
at_sum = 8

abbrev pub at_prod : ℕ
at_prod = 9

abbrev pub at_neg : ℕ
at_neg = 10

abbrev pub at_not : ℕ
at_not = 11

-- the line in which an operator stands between operands, grouped to the left
abbrev pub line_of : Op → Option ℕ
line_of op.Times = Some at_prod
line_of op.Over = Some at_prod
line_of op.Mod = Some at_prod
line_of op.Plus = Some at_sum
line_of op.Minus = Some at_sum
line_of op.Union = Some at_uni
line_of op.Within = Some at_within
line_of op.Equal = Some at_rel
line_of op.Differs = Some at_rel
line_of op.Less = Some at_rel
line_of op.Greater = Some at_rel
line_of op.AtMost = Some at_rel
line_of op.AtLeast = Some at_rel
line_of op.And = Some at_and
line_of op.Or = Some at_or
line_of op.Xor = Some at_or
line_of op.Xnor = Some at_or
line_of op.Iff = Some at_iff
line_of op.Implies = None

-- how an operator is written
abbrev pub operator : Op → Lexeme
operator op.Times = sign k.Star
operator op.Over = sign k.Slash
operator op.Mod = word (codes "mod")
operator op.Plus = sign k.Plus
operator op.Minus = sign k.Minus
operator op.Union = word (codes "union")
operator op.Within = word (codes "in")
operator op.Equal = sign k.Equal
operator op.Differs = sign k.NotEqual
operator op.Less = sign k.Less
operator op.Greater = sign k.Greater
operator op.AtMost = sign k.AtMost
operator op.AtLeast = sign k.AtLeast
operator op.And = sign k.And
operator op.Or = sign k.Bar
operator op.Xor = word (codes "xor")
operator op.Xnor = word (codes "xnor")
operator op.Iff = sign k.Iff
operator op.Implies = sign k.Implies

-- a number below zero, or zero, by its size
abbrev pub minus : ℕ → ℤ
minus zero = pos 0
minus (suc n) = negsuc n

-- int = [ "-" ] number
pub data SpellsInt : List Lexeme → ℤ → Type 0 where
  plain_int : {n : ℕ} {d : List ℕ} → SpellsInt (num n d ∷ []) (pos n)
  minus_int : {n : ℕ} {d : List ℕ} → SpellsInt (sign k.Minus ∷ num n d ∷ []) (minus n)

-- dotted = name { "." name }
pub data SpellsDotted : List Lexeme → Path → Type 0 where
  one_name : {x : Text} → is_reserved x ≡ false → SpellsDotted (word x ∷ []) (x ∷ [])
  more_names : {x : Text} {ts : List Lexeme} {p : Path} → is_reserved x ≡ false → SpellsDotted ts p →
      SpellsDotted (word x ∷ sign k.Dot ∷ ts) (x ∷ p)

-- a number and two dots: a `-` before them is no operator
abbrev pub begins_span : List Lexeme → Bool
begins_span (num n d ∷ sign k.Dots ∷ ts) = true
begins_span _ = false

-- iff, or, and, rel, within, uni, sum, prod: the lines that repeat an operator, grouped to the left
abbrev pub is_repeated : ℕ → Bool
is_repeated l = nat_eq l at_iff || (nat_le at_or l && nat_le l at_prod)

-- the tokens spell the tree at a line of the grammar
mutual
  pub data Spells : ℕ → List Lexeme → Tree Path → Type 0 where
    -- expr = iff [ "->" expr ]
    only_iff : {ts : List Lexeme} {t : Tree Path} → Spells at_iff ts t → Spells at_expr ts t
    implies : {xs ys : List Lexeme} {a b : Tree Path} → Spells at_iff xs a → Spells at_expr ys b →
        Spells at_expr (xs ++ sign k.Implies ∷ ys) (binary op.Implies a b)
    -- line = next { operator next }
    repeated : {l : ℕ} {xs ys : List Lexeme} {a t : Tree Path} → is_repeated l ≡ true → Spells (suc l) xs a → SpellsMore l ys a t →
        Spells l (xs ++ ys) t
    -- choice = or [ "?" expr ":" choice ]
    only_or : {ts : List Lexeme} {t : Tree Path} → Spells at_or ts t → Spells at_choice ts t
    chooses : {zs xs ys : List Lexeme} {c a b : Tree Path} → Spells at_or zs c → Spells at_expr xs a → Spells at_choice ys b →
        Spells at_choice (zs ++ sign k.Question ∷ (xs ++ sign k.Colon ∷ ys)) (choice c a b)
    -- neg = "-" neg | not, where the `-` is not a span's own
    only_not : {ts : List Lexeme} {t : Tree Path} → Spells at_not ts t → Spells at_neg ts t
    negates : {ts : List Lexeme} {t : Tree Path} → begins_span ts ≡ false → Spells at_neg ts t →
        Spells at_neg (sign k.Minus ∷ ts) (negate t)
    -- not = "!" not | atom
    only_atom : {ts : List Lexeme} {t : Tree Path} → SpellsAtom ts t → Spells at_not ts t
    inverts : {ts : List Lexeme} {t : Tree Path} → Spells at_not ts t → Spells at_not (sign k.Bang ∷ ts) (not_of t)

  -- { operator next }, after what makes the tree so far
  pub data SpellsMore : ℕ → List Lexeme → Tree Path → Tree Path → Type 0 where
    no_operator : {l : ℕ} {a : Tree Path} → SpellsMore l [] a a
    one_operator : {l : ℕ} {o : Op} {xs ys : List Lexeme} {a b t : Tree Path} → line_of o ≡ Some l → Spells (suc l) xs b →
        SpellsMore l ys (binary o a b) t →
        SpellsMore l (operator o ∷ (xs ++ ys)) a t

  -- atom
  pub data SpellsAtom : List Lexeme → Tree Path → Type 0 where
    is_true : SpellsAtom (word (codes "TRUE") ∷ []) (truth true)
    is_false : SpellsAtom (word (codes "FALSE") ∷ []) (truth false)
    is_number : {n : ℕ} {d : List ℕ} → SpellsAtom (num n d ∷ []) (number (pos n))
    is_span : {xs ys : List Lexeme} {lo hi : ℤ} → SpellsInt xs lo → SpellsInt ys hi → SpellsAtom (xs ++ sign k.Dots ∷ ys) (span lo hi)
    is_name : {ts : List Lexeme} {p : Path} → SpellsDotted ts p → SpellsAtom ts (leaf p)
    in_parentheses : {ts : List Lexeme} {t : Tree Path} → Spells at_expr ts t → SpellsAtom (sign k.Open ∷ (ts ++ sign k.Close ∷ [])) t
    is_next : {ts : List Lexeme} {t : Tree Path} → Spells at_expr ts t →
        SpellsAtom (word (codes "next") ∷ sign k.Open ∷ (ts ++ sign k.Close ∷ [])) (next_of t)
    is_set : {ts : List Lexeme} {us : Trees Path} → SpellsTrees ts us →
        SpellsAtom (sign k.OpenBrace ∷ (ts ++ sign k.CloseBrace ∷ [])) (set_of us)
    is_case : {ts : List Lexeme} {bs : Branches Path} → SpellsBranches ts bs →
        SpellsAtom (word (codes "case") ∷ (ts ++ word (codes "esac") ∷ [])) (case_of bs)

  -- expr { "," expr }
  pub data SpellsTrees : List Lexeme → Trees Path → Type 0 where
    one_tree : {ts : List Lexeme} {t : Tree Path} → Spells at_expr ts t → SpellsTrees ts (tree_then t no_tree)
    more_trees : {ts us : List Lexeme} {t : Tree Path} {more : Trees Path} → Spells at_expr ts t → SpellsTrees us more →
        SpellsTrees (ts ++ sign k.Comma ∷ us) (tree_then t more)

  -- branch { branch }, and branch = expr ":" expr ";"
  pub data SpellsBranches : List Lexeme → Branches Path → Type 0 where
    one_branch : {zs xs : List Lexeme} {c a : Tree Path} → Spells at_expr zs c → Spells at_expr xs a →
        SpellsBranches (zs ++ sign k.Colon ∷ (xs ++ sign k.Semicolon ∷ [])) (branch_then c a no_branch)
    more_branches : {zs xs ys : List Lexeme} {c a : Tree Path} {more : Branches Path} → Spells at_expr zs c → Spells at_expr xs a →
        SpellsBranches ys more →
        SpellsBranches (zs ++ sign k.Colon ∷ (xs ++ sign k.Semicolon ∷ ys)) (branch_then c a more)
