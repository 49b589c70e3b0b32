-- The text of an expression is read as its printed tokens, and so spells it.
use Rattle.std.proofs.Common.{◌≡◌, ℕ, suc, ℤ, true, false, List, [], ◌∷◌, ◌++◌, Some, sym, ap, ◌∙◌, refl, subst, arith, append_assoc}
use Rattle.std.specs.Prelude.{pos, negsuc, codes}
use Rattle.std.specs.Fmt.{decimal, signed_decimal}
use Rattle.std.proofs.lemmas.List.{append-nil}
use Rattle.smv_lexer.specs.declared.token.TokenKind.TheVariants as k
use Rattle.smv_language.specs.declared.expr.Op.{Op}
use Rattle.smv_language.specs.declared.expr.Op.TheVariants as op
use Rattle.smv_language.specs.Tree.{Tree, Trees, Branches, truth, number, leaf, not_of, negate, next_of, binary, choice, case_of, set_of, span, no_tree, tree_then, no_branch, branch_then}
use Rattle.smv_language.specs.ProgramTree.{Text, Path}
use Rattle.smv_language.specs.Lexemes.{Lexeme, word, num, sign}
use Rattle.smv_language.specs.Spells.{operator}
use Rattle.smv_language.specs.SpellsProgram.{SpellsExpr}
use Rattle.smv_language.specs.Bytes.{BytesSpellExpr}
use Rattle.smv_language.specs.Text.{op_text, each_after, after_minus, text_of, trees_texts, branches_text}
use Rattle.smv_language.specs.PrintedTokens.{printed_int, printed_path, in_brackets, under_minus, printed, printed_trees, printed_branches, AreNames, IsEnd, IsSmall, IsWritable, AreWritable, AreWritableBranches}
use Rattle.smv_language.proofs.Pieces.{Reads, nothing, then, as_lexemes, piece_reads, whole_reads}
use Rattle.smv_language.proofs.TokenTexts.{Ends, blank, is_open, is_close, is_open_brace, is_close_brace, is_comma, is_semicolon, is_dots, is_colon, is_question, Begins, NoEqual, NoDash, NoDot, is_bang, is_minus, is_dot, is_word, word_begins, is_number, number_begins}
use Rattle.smv_language.proofs.PrintedSpells.{printed_spells, an_expr}

-- what may follow a word or a number
pub at_end : Ends []
at_end = record { no_word = refl; no_mark = refl; no_digit = refl }

pub at_space : (rest : Text) → Ends (32 ∷ rest)
at_space rest = record { no_word = refl; no_mark = refl; no_digit = refl }

pub at_open : (rest : Text) → Ends (40 ∷ rest)
at_open rest = record { no_word = refl; no_mark = refl; no_digit = refl }

pub at_close : (rest : Text) → Ends (41 ∷ rest)
at_close rest = record { no_word = refl; no_mark = refl; no_digit = refl }

pub at_comma : (rest : Text) → Ends (44 ∷ rest)
at_comma rest = record { no_word = refl; no_mark = refl; no_digit = refl }

pub at_dot : (rest : Text) → Ends (46 ∷ rest)
at_dot rest = record { no_word = refl; no_mark = refl; no_digit = refl }

pub at_semicolon : (rest : Text) → Ends (59 ∷ rest)
at_semicolon rest = record { no_word = refl; no_mark = refl; no_digit = refl }

pub at_brace : (rest : Text) → Ends (125 ∷ rest)
at_brace rest = record { no_word = refl; no_mark = refl; no_digit = refl }

-- one token between two spaces
pub spaced : (text rest : Text) (l : Lexeme) → Reads text (32 ∷ rest) (l ∷ []) → Reads (32 ∷ (text ++ 32 ∷ [])) rest (l ∷ [])
spaced text rest l r = then (32 ∷ []) (text ++ 32 ∷ []) rest [] (l ∷ []) (blank ((text ++ 32 ∷ []) ++ rest)) (then text (32 ∷ []) rest (l ∷ []) [] r (blank rest))

op_reads : (o : Op) (rest : Text) → Reads (op_text o) rest (operator o ∷ [])
op_reads op.Times rest = spaced (codes "*") rest (sign k.Star) (piece_reads (Some k.Star) (codes "*") (32 ∷ rest) (omega arith) refl)
op_reads op.Over rest = spaced (codes "/") rest (sign k.Slash) (piece_reads (Some k.Slash) (codes "/") (32 ∷ rest) (omega arith) refl)
op_reads op.Mod rest = spaced (codes "mod") rest (word (codes "mod")) (is_word (codes "mod") (32 ∷ rest) (refl, (refl, (refl, tt))) (at_space rest))
op_reads op.Plus rest = spaced (codes "+") rest (sign k.Plus) (piece_reads (Some k.Plus) (codes "+") (32 ∷ rest) (omega arith) refl)
op_reads op.Minus rest = spaced (codes "-") rest (sign k.Minus) (piece_reads (Some k.Minus) (codes "-") (32 ∷ rest) (omega arith) refl)
op_reads op.Union rest = spaced (codes "union") rest (word (codes "union")) (is_word (codes "union") (32 ∷ rest) (refl, (refl, (refl, (refl, (refl, tt))))) (at_space rest))
op_reads op.Within rest = spaced (codes "in") rest (word (codes "in")) (is_word (codes "in") (32 ∷ rest) (refl, (refl, tt)) (at_space rest))
op_reads op.Equal rest = spaced (codes "=") rest (sign k.Equal) (piece_reads (Some k.Equal) (codes "=") (32 ∷ rest) (omega arith) refl)
op_reads op.Differs rest = spaced (codes "!=") rest (sign k.NotEqual) (piece_reads (Some k.NotEqual) (codes "!=") (32 ∷ rest) (omega arith) refl)
op_reads op.Less rest = spaced (codes "<") rest (sign k.Less) (piece_reads (Some k.Less) (codes "<") (32 ∷ rest) (omega arith) refl)
op_reads op.Greater rest = spaced (codes ">") rest (sign k.Greater) (piece_reads (Some k.Greater) (codes ">") (32 ∷ rest) (omega arith) refl)
op_reads op.AtMost rest = spaced (codes "<=") rest (sign k.AtMost) (piece_reads (Some k.AtMost) (codes "<=") (32 ∷ rest) (omega arith) refl)
op_reads op.AtLeast rest = spaced (codes ">=") rest (sign k.AtLeast) (piece_reads (Some k.AtLeast) (codes ">=") (32 ∷ rest) (omega arith) refl)
op_reads op.And rest = spaced (codes "&") rest (sign k.And) (piece_reads (Some k.And) (codes "&") (32 ∷ rest) (omega arith) refl)
op_reads op.Or rest = spaced (codes "|") rest (sign k.Bar) (piece_reads (Some k.Bar) (codes "|") (32 ∷ rest) (omega arith) refl)
op_reads op.Xor rest = spaced (codes "xor") rest (word (codes "xor")) (is_word (codes "xor") (32 ∷ rest) (refl, (refl, (refl, tt))) (at_space rest))
op_reads op.Xnor rest = spaced (codes "xnor") rest (word (codes "xnor")) (is_word (codes "xnor") (32 ∷ rest) (refl, (refl, (refl, (refl, tt)))) (at_space rest))
op_reads op.Iff rest = spaced (codes "<->") rest (sign k.Iff) (piece_reads (Some k.Iff) (codes "<->") (32 ∷ rest) (omega arith) refl)
op_reads op.Implies rest = spaced (codes "->") rest (sign k.Implies) (piece_reads (Some k.Implies) (codes "->") (32 ∷ rest) (omega arith) refl)

-- an operator's text begins with a space
at_op : (o : Op) (more rest : Text) → Ends ((op_text o ++ more) ++ rest)
at_op op.Times more rest = at_space _
at_op op.Over more rest = at_space _
at_op op.Mod more rest = at_space _
at_op op.Plus more rest = at_space _
at_op op.Minus more rest = at_space _
at_op op.Union more rest = at_space _
at_op op.Within more rest = at_space _
at_op op.Equal more rest = at_space _
at_op op.Differs more rest = at_space _
at_op op.Less more rest = at_space _
at_op op.Greater more rest = at_space _
at_op op.AtMost more rest = at_space _
at_op op.AtLeast more rest = at_space _
at_op op.And more rest = at_space _
at_op op.Or more rest = at_space _
at_op op.Xor more rest = at_space _
at_op op.Xnor more rest = at_space _
at_op op.Iff more rest = at_space _
at_op op.Implies more rest = at_space _

pub int_reads : (z : ℤ) (rest : Text) → IsEnd z → Ends rest → Reads (signed_decimal z) rest (printed_int z)
int_reads (pos n) rest h e = is_number n rest h e
int_reads (negsuc n) rest h e =
    let small : IsSmall (suc n) = omega (arith, h) in
    then (codes "-") (decimal (suc n)) rest (sign k.Minus ∷ []) (num (suc n) (decimal (suc n)) ∷ []) (is_minus (decimal (suc n) ++ rest) (number_begins (suc n) rest small).1) (is_number (suc n) rest small e)

regrouped : (P : ℕ → Type 0) (a b rest : Text) → Begins P (a ++ (b ++ rest)) → Begins P ((a ++ b) ++ rest)
regrouped P a b rest h = subst (Begins P) (sym (append_assoc a b rest)) h

-- the parts of a name after the first, each after a dot
abbrev path_more : Path → List Lexeme
path_more [] = []
path_more (x ∷ p) = sign k.Dot ∷ word x ∷ path_more p

printed_path_more : (x : Text) (p : Path) → printed_path (x ∷ p) ≡ word x ∷ path_more p
printed_path_more x [] = refl
printed_path_more x (y ∷ p) = ap (λ ls. word x ∷ sign k.Dot ∷ ls) (printed_path_more y p)

after_dots : (p : Path) (rest : Text) → Ends rest → Ends (each_after (codes ".") p ++ rest)
after_dots [] rest e = e
after_dots (x ∷ p) rest e = at_dot _

path_more_reads : (p : Path) (rest : Text) → AreNames p → Ends rest → Reads (each_after (codes ".") p) rest (path_more p)
path_more_reads [] rest h e = nothing rest
path_more_reads (x ∷ p) rest h e =
    then (codes ".") (x ++ each_after (codes ".") p) rest (sign k.Dot ∷ []) (word x ∷ path_more p)
    (is_dot ((x ++ each_after (codes ".") p) ++ rest) (regrouped NoDot x (each_after (codes ".") p) rest (word_begins x (each_after (codes ".") p ++ rest) h.0.1).2))
    (then x (each_after (codes ".") p) rest (word x ∷ []) (path_more p) (is_word x (each_after (codes ".") p ++ rest) h.0.1 (after_dots p rest e)) (path_more_reads p rest h.1 e))

pub path_reads : (x : Text) (p : Path) (rest : Text) → AreNames (x ∷ p) → Ends rest → Reads (x ++ each_after (codes ".") p) rest (printed_path (x ∷ p))
path_reads x p rest h e =
    as_lexemes _ rest _ _ (sym (printed_path_more x p))
    (then x (each_after (codes ".") p) rest (word x ∷ []) (path_more p) (is_word x (each_after (codes ".") p ++ rest) h.0.1 (after_dots p rest e)) (path_more_reads p rest h.1 e))

pub brackets_read : (text rest : Text) (ls : List Lexeme) → Reads text (codes ")" ++ rest) ls → Reads (codes "(" ++ (text ++ codes ")")) rest (in_brackets ls)
brackets_read text rest ls r =
    then (codes "(") (text ++ codes ")") rest (sign k.Open ∷ []) (ls ++ sign k.Close ∷ []) (is_open ((text ++ codes ")") ++ rest))
    (then text (codes ")") rest ls (sign k.Close ∷ []) r (is_close rest))

int_begins : (z : ℤ) (rest : Text) → IsEnd z → Begins NoEqual (signed_decimal z ++ rest)
int_begins (pos n) rest h = (number_begins n rest h).0
int_begins (negsuc n) rest h = refl

-- no expression begins with `=`
text_begins : (t : Tree Path) (rest : Text) → IsWritable t → Begins NoEqual (text_of t ++ rest)
text_begins (truth true) rest h = refl
text_begins (truth false) rest h = refl
text_begins (number (pos n)) rest h = (number_begins n rest h).0
text_begins (number (negsuc n)) rest h = absurd h
text_begins (leaf []) rest h = absurd (h.0 refl)
text_begins (leaf (x ∷ p)) rest h = regrouped NoEqual x (each_after (codes ".") p) rest (word_begins x (each_after (codes ".") p ++ rest) h.1.0.1).0
text_begins (not_of a) rest h = refl
text_begins (negate a) rest h = refl
text_begins (next_of a) rest h = refl
text_begins (binary o a b) rest h = refl
text_begins (choice c a b) rest h = refl
text_begins (case_of bs) rest h = refl
text_begins (set_of ts) rest h = refl
text_begins (span lo hi) rest h = regrouped NoEqual (signed_decimal lo) (codes ".." ++ signed_decimal hi) rest (int_begins lo _ h.0)

-- what stands under a minus begins with no `-` and no `>`
minus_begins : (t : Tree Path) (rest : Text) → IsWritable t → Begins NoDash (after_minus t (text_of t) ++ rest)
minus_begins (truth true) rest h = (refl, refl)
minus_begins (truth false) rest h = (refl, refl)
minus_begins (number (pos n)) rest h = (number_begins n rest h).1
minus_begins (number (negsuc n)) rest h = absurd h
minus_begins (leaf []) rest h = absurd (h.0 refl)
minus_begins (leaf (x ∷ p)) rest h = regrouped NoDash x (each_after (codes ".") p) rest (word_begins x (each_after (codes ".") p ++ rest) h.1.0.1).1
minus_begins (not_of a) rest h = (refl, refl)
minus_begins (negate a) rest h = (refl, refl)
minus_begins (next_of a) rest h = (refl, refl)
minus_begins (binary o a b) rest h = (refl, refl)
minus_begins (choice c a b) rest h = (refl, refl)
minus_begins (case_of bs) rest h = (refl, refl)
minus_begins (set_of ts) rest h = (refl, refl)
minus_begins (span lo hi) rest h = (refl, refl)

minus_reads : (t : Tree Path) (rest : Text) → ((after : Text) → Ends after → Reads (text_of t) after (printed t)) → Ends rest →
    Reads (after_minus t (text_of t)) rest (under_minus t (printed t))
minus_reads (truth b) rest read e = read rest e
minus_reads (number n) rest read e = read rest e
minus_reads (leaf p) rest read e = read rest e
minus_reads (not_of a) rest read e = read rest e
minus_reads (negate a) rest read e = read rest e
minus_reads (next_of a) rest read e = read rest e
minus_reads (binary o a b) rest read e = read rest e
minus_reads (choice c a b) rest read e = read rest e
minus_reads (case_of bs) rest read e = read rest e
minus_reads (set_of ts) rest read e = read rest e
minus_reads (span lo hi) rest read e = brackets_read (text_of (span lo hi)) rest (printed (span lo hi)) (read (codes ")" ++ rest) (at_close rest))

-- the members of a set after the first, each after a comma
abbrev trees_more : Trees Path → List Lexeme
trees_more no_tree = []
trees_more (tree_then t ts) = sign k.Comma ∷ (printed t ++ trees_more ts)

printed_trees_more : (t : Tree Path) (ts : Trees Path) → printed_trees (tree_then t ts) ≡ printed t ++ trees_more ts
printed_trees_more t no_tree = sym (append-nil (printed t))
printed_trees_more t (tree_then u us) = ap (λ ls. printed t ++ sign k.Comma ∷ ls) (printed_trees_more u us)

after_commas : (xs : List Text) (rest : Text) → Ends rest → Ends (each_after (codes ", ") xs ++ rest)
after_commas [] rest e = e
after_commas (x ∷ xs) rest e = at_comma _

choice_lexemes : (c a b : List Lexeme) →
    c ++ sign k.Question ∷ (a ++ sign k.Colon ∷ (b ++ sign k.Close ∷ [])) ≡ (c ++ sign k.Question ∷ (a ++ sign k.Colon ∷ b)) ++ sign k.Close ∷ []
choice_lexemes c a b =
    sym (append_assoc c (sign k.Question ∷ (a ++ sign k.Colon ∷ b)) (sign k.Close ∷ []) ∙ ap (λ ls. c ++ sign k.Question ∷ ls) (append_assoc a (sign k.Colon ∷ b) (sign k.Close ∷ [])))

mutual
  pub text_reads : (t : Tree Path) (rest : Text) → IsWritable t → Ends rest → Reads (text_of t) rest (printed t)
  text_reads (truth true) rest h e = is_word (codes "TRUE") rest (refl, (refl, (refl, (refl, tt)))) e
  text_reads (truth false) rest h e = is_word (codes "FALSE") rest (refl, (refl, (refl, (refl, (refl, tt))))) e
  text_reads (number (pos n)) rest h e = is_number n rest h e
  text_reads (number (negsuc n)) rest h e = absurd h
  text_reads (leaf []) rest h e = absurd (h.0 refl)
  text_reads (leaf (x ∷ p)) rest h e = path_reads x p rest h.1 e
  text_reads (not_of a) rest h e =
      then (codes "(") (codes "!" ++ (text_of a ++ codes ")")) rest (sign k.Open ∷ []) (sign k.Bang ∷ (printed a ++ sign k.Close ∷ []))
      (is_open ((codes "!" ++ (text_of a ++ codes ")")) ++ rest))
      (then (codes "!") (text_of a ++ codes ")") rest (sign k.Bang ∷ []) (printed a ++ sign k.Close ∷ [])
      (is_bang ((text_of a ++ codes ")") ++ rest) (regrouped NoEqual (text_of a) (codes ")") rest (text_begins a (codes ")" ++ rest) h)))
      (then (text_of a) (codes ")") rest (printed a) (sign k.Close ∷ []) (text_reads a (codes ")" ++ rest) h (at_close rest)) (is_close rest)))
  text_reads (negate a) rest h e =
      then (codes "(") (codes "-" ++ (after_minus a (text_of a) ++ codes ")")) rest (sign k.Open ∷ []) (sign k.Minus ∷ (under_minus a (printed a) ++ sign k.Close ∷ []))
      (is_open ((codes "-" ++ (after_minus a (text_of a) ++ codes ")")) ++ rest))
      (then (codes "-") (after_minus a (text_of a) ++ codes ")") rest (sign k.Minus ∷ []) (under_minus a (printed a) ++ sign k.Close ∷ [])
      (is_minus ((after_minus a (text_of a) ++ codes ")") ++ rest) (regrouped NoDash (after_minus a (text_of a)) (codes ")") rest (minus_begins a (codes ")" ++ rest) h)))
      (then (after_minus a (text_of a)) (codes ")") rest (under_minus a (printed a)) (sign k.Close ∷ [])
      (minus_reads a (codes ")" ++ rest) (λ after ends. text_reads a after h ends) (at_close rest)) (is_close rest)))
  text_reads (next_of a) rest h e =
      then (codes "next") (codes "(" ++ (text_of a ++ codes ")")) rest (word (codes "next") ∷ []) (in_brackets (printed a))
      (is_word (codes "next") ((codes "(" ++ (text_of a ++ codes ")")) ++ rest) (refl, (refl, (refl, (refl, tt)))) (at_open _))
      (brackets_read (text_of a) rest (printed a) (text_reads a (codes ")" ++ rest) h (at_close rest)))
  text_reads (binary o a b) rest h e =
      as_lexemes _ rest _ _ (ap (λ ls. sign k.Open ∷ ls) (sym (append_assoc (printed a) (operator o ∷ printed b) (sign k.Close ∷ []))))
      (then (codes "(") (text_of a ++ (op_text o ++ (text_of b ++ codes ")"))) rest (sign k.Open ∷ []) (printed a ++ operator o ∷ (printed b ++ sign k.Close ∷ []))
      (is_open ((text_of a ++ (op_text o ++ (text_of b ++ codes ")"))) ++ rest))
      (then (text_of a) (op_text o ++ (text_of b ++ codes ")")) rest (printed a) (operator o ∷ (printed b ++ sign k.Close ∷ []))
      (text_reads a ((op_text o ++ (text_of b ++ codes ")")) ++ rest) h.0 (at_op o (text_of b ++ codes ")") rest))
      (then (op_text o) (text_of b ++ codes ")") rest (operator o ∷ []) (printed b ++ sign k.Close ∷ []) (op_reads o ((text_of b ++ codes ")") ++ rest))
      (then (text_of b) (codes ")") rest (printed b) (sign k.Close ∷ []) (text_reads b (codes ")" ++ rest) h.1 (at_close rest)) (is_close rest)))))
  text_reads (choice c a b) rest h e =
      as_lexemes _ rest _ _ (ap (λ ls. sign k.Open ∷ ls) (choice_lexemes (printed c) (printed a) (printed b)))
      (then (codes "(") (text_of c ++ (codes " ? " ++ (text_of a ++ (codes " : " ++ (text_of b ++ codes ")"))))) rest
      (sign k.Open ∷ []) (printed c ++ sign k.Question ∷ (printed a ++ sign k.Colon ∷ (printed b ++ sign k.Close ∷ [])))
      (is_open ((text_of c ++ (codes " ? " ++ (text_of a ++ (codes " : " ++ (text_of b ++ codes ")"))))) ++ rest))
      (then (text_of c) (codes " ? " ++ (text_of a ++ (codes " : " ++ (text_of b ++ codes ")")))) rest (printed c) (sign k.Question ∷ (printed a ++ sign k.Colon ∷ (printed b ++ sign k.Close ∷ [])))
      (text_reads c ((codes " ? " ++ (text_of a ++ (codes " : " ++ (text_of b ++ codes ")")))) ++ rest) h.0 (at_space _))
      (then (codes " ? ") (text_of a ++ (codes " : " ++ (text_of b ++ codes ")"))) rest (sign k.Question ∷ []) (printed a ++ sign k.Colon ∷ (printed b ++ sign k.Close ∷ []))
      (spaced (codes "?") ((text_of a ++ (codes " : " ++ (text_of b ++ codes ")"))) ++ rest) (sign k.Question) (is_question _))
      (then (text_of a) (codes " : " ++ (text_of b ++ codes ")")) rest (printed a) (sign k.Colon ∷ (printed b ++ sign k.Close ∷ []))
      (text_reads a ((codes " : " ++ (text_of b ++ codes ")")) ++ rest) h.1 (at_space _))
      (then (codes " : ") (text_of b ++ codes ")") rest (sign k.Colon ∷ []) (printed b ++ sign k.Close ∷ [])
      (spaced (codes ":") ((text_of b ++ codes ")") ++ rest) (sign k.Colon) (is_colon _))
      (then (text_of b) (codes ")") rest (printed b) (sign k.Close ∷ []) (text_reads b (codes ")" ++ rest) h.2 (at_close rest)) (is_close rest)))))))
  text_reads (case_of bs) rest h e =
      then (codes "case") (codes " " ++ (branches_text bs ++ codes "esac")) rest (word (codes "case") ∷ []) (printed_branches bs ++ word (codes "esac") ∷ [])
      (is_word (codes "case") ((codes " " ++ (branches_text bs ++ codes "esac")) ++ rest) (refl, (refl, (refl, (refl, tt)))) (at_space _))
      (then (codes " ") (branches_text bs ++ codes "esac") rest [] (printed_branches bs ++ word (codes "esac") ∷ []) (blank ((branches_text bs ++ codes "esac") ++ rest))
      (then (branches_text bs) (codes "esac") rest (printed_branches bs) (word (codes "esac") ∷ []) (branches_read bs (codes "esac" ++ rest) h.1)
      (is_word (codes "esac") rest (refl, (refl, (refl, (refl, tt)))) e)))
  text_reads (set_of no_tree) rest h e = absurd (h.0 refl)
  text_reads (set_of (tree_then t ts)) rest h e =
      as_lexemes _ rest _ _ (ap (λ ls. sign k.OpenBrace ∷ (ls ++ sign k.CloseBrace ∷ [])) (sym (printed_trees_more t ts)))
      (then (codes "{") ((text_of t ++ each_after (codes ", ") (trees_texts ts)) ++ codes "}") rest (sign k.OpenBrace ∷ []) ((printed t ++ trees_more ts) ++ sign k.CloseBrace ∷ [])
      (is_open_brace (((text_of t ++ each_after (codes ", ") (trees_texts ts)) ++ codes "}") ++ rest))
      (then (text_of t ++ each_after (codes ", ") (trees_texts ts)) (codes "}") rest (printed t ++ trees_more ts) (sign k.CloseBrace ∷ [])
      (then (text_of t) (each_after (codes ", ") (trees_texts ts)) (codes "}" ++ rest) (printed t) (trees_more ts)
      (text_reads t (each_after (codes ", ") (trees_texts ts) ++ (codes "}" ++ rest)) h.1.0 (after_commas (trees_texts ts) (codes "}" ++ rest) (at_brace rest)))
      (trees_read ts (codes "}" ++ rest) h.1.1 (at_brace rest)))
      (is_close_brace rest)))
  text_reads (span lo hi) rest h e =
      then (signed_decimal lo) (codes ".." ++ signed_decimal hi) rest (printed_int lo) (sign k.Dots ∷ printed_int hi)
      (int_reads lo ((codes ".." ++ signed_decimal hi) ++ rest) h.0 (at_dot _))
      (then (codes "..") (signed_decimal hi) rest (sign k.Dots ∷ []) (printed_int hi) (is_dots (signed_decimal hi ++ rest)) (int_reads hi rest h.1 e))

  trees_read : (ts : Trees Path) (rest : Text) → AreWritable ts → Ends rest → Reads (each_after (codes ", ") (trees_texts ts)) rest (trees_more ts)
  trees_read no_tree rest h e = nothing rest
  trees_read (tree_then t ts) rest h e =
      then (codes ",") (codes " " ++ (text_of t ++ each_after (codes ", ") (trees_texts ts))) rest (sign k.Comma ∷ []) (printed t ++ trees_more ts)
      (is_comma ((codes " " ++ (text_of t ++ each_after (codes ", ") (trees_texts ts))) ++ rest))
      (then (codes " ") (text_of t ++ each_after (codes ", ") (trees_texts ts)) rest [] (printed t ++ trees_more ts) (blank ((text_of t ++ each_after (codes ", ") (trees_texts ts)) ++ rest))
      (then (text_of t) (each_after (codes ", ") (trees_texts ts)) rest (printed t) (trees_more ts)
      (text_reads t (each_after (codes ", ") (trees_texts ts) ++ rest) h.0 (after_commas (trees_texts ts) rest e))
      (trees_read ts rest h.1 e)))

  branches_read : (bs : Branches Path) (rest : Text) → AreWritableBranches bs → Reads (branches_text bs) rest (printed_branches bs)
  branches_read no_branch rest h = nothing rest
  branches_read (branch_then c a bs) rest h =
      then (text_of c) (codes " : " ++ (text_of a ++ (codes "; " ++ branches_text bs))) rest (printed c) (sign k.Colon ∷ (printed a ++ sign k.Semicolon ∷ printed_branches bs))
      (text_reads c ((codes " : " ++ (text_of a ++ (codes "; " ++ branches_text bs))) ++ rest) h.0 (at_space _))
      (then (codes " : ") (text_of a ++ (codes "; " ++ branches_text bs)) rest (sign k.Colon ∷ []) (printed a ++ sign k.Semicolon ∷ printed_branches bs)
      (spaced (codes ":") ((text_of a ++ (codes "; " ++ branches_text bs)) ++ rest) (sign k.Colon) (is_colon _))
      (then (text_of a) (codes "; " ++ branches_text bs) rest (printed a) (sign k.Semicolon ∷ printed_branches bs)
      (text_reads a ((codes "; " ++ branches_text bs) ++ rest) h.1 (at_semicolon _))
      (then (codes ";") (codes " " ++ branches_text bs) rest (sign k.Semicolon ∷ []) (printed_branches bs) (is_semicolon ((codes " " ++ branches_text bs) ++ rest))
      (then (codes " ") (branches_text bs) rest [] (printed_branches bs) (blank (branches_text bs ++ rest)) (branches_read bs rest h.2)))))

-- the text of an expression that can be written spells it
pub text_spells : (t : Tree Path) → IsWritable t → BytesSpellExpr (text_of t) t
text_spells t h =
    let r = whole_reads (text_of t) (printed t) (text_reads t [] h at_end) in
    (r.0, r.1, subst (λ ls. SpellsExpr ls t) (sym r.2) (an_expr (printed_spells t h)))
