-- Worked examples of where reading stops, and of trees.
use Rattle.std.proofs.Common.{◌≡◌, ℕ, Bool, true, false, List, [], ◌∷◌, Some, refl}
use Rattle.std.specs.Prelude.{codes, pos, negsuc, map, filter}
use Rattle.smv_lexer.specs.declared.token.TokenKind.TheVariants as k
use Rattle.smv_language.specs.declared.expr.Op.TheVariants as op
use Rattle.smv_language.specs.Tree.{number, leaf, not_of, negate, binary, choice, span}
use Rattle.smv_language.specs.Lexemes.{Lexeme, word, num, sign, left_out_words}
use Rattle.smv_expression_reader.specs.Words.{word_rows, is_nothing}
use Rattle.smv_expression_reader.specs.declared.machine.TokenRole.{TokenRole as Role}
use Rattle.smv_expression_reader.specs.declared.mark.Mark.{Mark}
use Rattle.smv_expression_reader.specs.Recogniser.{run, start, is_stuck, is_whole}
use Rattle.smv_expression_reader.specs.TreeBuilder.{built}

abbrev n1 : Lexeme
n1 = num 1 (codes "1")

abbrev n3 : Lexeme
n3 = num 3 (codes "3")

abbrev a : Lexeme
a = word (codes "a")

abbrev minus : Lexeme
minus = sign k.Minus

abbrev bang : Lexeme
bang = sign k.Bang

abbrev dots : Lexeme
dots = sign k.Dots

-- `!-1..3` is an expression, `!-1` wants more, `!-a` stops at a, `!-1+` at the `+`
e1 : built (bang ∷ minus ∷ n1 ∷ dots ∷ n3 ∷ []) ≡ Some (not_of (span (negsuc 0) (pos 3)))
e1 = refl

e2 : is_whole (run start (bang ∷ minus ∷ n1 ∷ [])) ≡ false
e2 = refl

e3 : is_stuck (run start (bang ∷ minus ∷ n1 ∷ [])) ≡ false
e3 = refl

e4 : is_stuck (run start (bang ∷ minus ∷ a ∷ [])) ≡ true
e4 = refl

e5 : is_stuck (run start (bang ∷ minus ∷ n1 ∷ sign k.Plus ∷ [])) ≡ true
e5 = refl

-- `- -1..3` negates a span, `a-1..3` takes one away, `-1` is a negation
e6 : built (minus ∷ minus ∷ n1 ∷ dots ∷ n3 ∷ []) ≡ Some (negate (span (negsuc 0) (pos 3)))
e6 = refl

e7 : built (a ∷ minus ∷ n1 ∷ dots ∷ n3 ∷ []) ≡ Some (binary op.Minus (leaf (codes "a" ∷ [])) (span (pos 1) (pos 3)))
e7 = refl

e8 : built (minus ∷ n1 ∷ []) ≡ Some (negate (number (pos 1)))
e8 = refl

-- `1..3..` stops at the second `..`, and `a?1:3:` at the second `:`
e9 : is_stuck (run start (n1 ∷ dots ∷ n3 ∷ dots ∷ [])) ≡ true
e9 = refl

e10 : is_stuck (run start (a ∷ sign k.Question ∷ n1 ∷ sign k.Colon ∷ n3 ∷ sign k.Colon ∷ [])) ≡ true
e10 = refl

-- `a -> a ? 1 : 3 -> a` groups to the right
e11 : built (a ∷ sign k.Implies ∷ a ∷ sign k.Question ∷ n1 ∷ sign k.Colon ∷ n3 ∷ sign k.Implies ∷ a ∷ []) ≡
    Some (binary op.Implies (leaf (codes "a" ∷ [])) (binary op.Implies (choice (leaf (codes "a" ∷ [])) (number (pos 1)) (number (pos 3))) (leaf (codes "a" ∷ []))))
e11 = refl

-- `1 - 3 - 1 * 3` groups to the left, by lines
e12 : built (n1 ∷ minus ∷ n3 ∷ minus ∷ n1 ∷ sign k.Star ∷ n3 ∷ []) ≡
    Some (binary op.Minus (binary op.Minus (number (pos 1)) (number (pos 3))) (binary op.Times (number (pos 1)) (number (pos 3))))
e12 = refl

-- `case esac` stops at `esac`, and `next a` at a
e13 : is_stuck (run start (word (codes "case") ∷ word (codes "esac") ∷ [])) ≡ true
e13 = refl

e14 : is_stuck (run start (word (codes "next") ∷ a ∷ [])) ≡ true
e14 = refl

-- the words that are left out are those of the language that it left out, and three that begin a section
e15 : map (λ (row : List ℕ × (Role × Mark × Bool)). row.0) (filter (λ row. is_nothing row.1.0 row.1.1) word_rows) ≡ codes "FAIRNESS" ∷ codes "JUSTICE" ∷ codes "COMPASSION" ∷ left_out_words
e15 = refl
