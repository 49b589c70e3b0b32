-- A short text is within the depths of parentheses: each pair that stands in another takes two tokens more.
use Rattle.std.proofs.Common.{◌≡◌, ℕ, ◌+◌, ◌*◌, ◌≤◌, arith, List, [], ◌∷◌, ◌++◌, length, Option, Some, None, sym, ◌∙◌, ap, subst, length-append}
use Rattle.std.specs.Prelude.{codes}
use Rattle.std.proofs.lemmas.List.{length-map}
use Rattle.smv_lexer.specs.declared.token.Token.{Token}
use Rattle.smv_lexer.specs.declared.token.TokenKind.{TokenKind}
use Rattle.smv_lexer.specs.declared.token.TokenKind.TheVariants as k
use Rattle.smv_lexer.specs.Tokens.{Piece, Splits, IsPiece, token_of, tokens_from, HasTokens}
use Rattle.smv_language.specs.Language.{Tree, Trees, Branches, Path, Lexeme, word, sign, lexemes_of, SpellsDotted, one_name, more_names, Spells, only_iff, implies, repeated, only_or, chooses, only_not, negates, only_atom, inverts, SpellsMore, no_operator, one_operator, SpellsAtom, is_true, is_false, is_number, is_span, is_name, in_parentheses, is_next, is_set, is_case, SpellsTrees, one_tree, more_trees, SpellsBranches, one_branch, more_branches, nesting_of, more_nesting, atom_nesting, trees_nesting, branches_nesting}
use Rattle.smv_expression_reader.specs.Places.{lexeme_at}
use Rattle.smv_lexer.proofs.PieceLemmas.{text_some as token_long}

dotted_long : {ts : List Lexeme} {p : Path} → SpellsDotted ts p → 1 ≤ length ts
dotted_long (one_name n) = omega arith
dotted_long (more_names n p) = omega arith

-- two tokens for each level of parentheses, and one inside
mutual
  pub spelling_long : {l : ℕ} {ts : List Lexeme} {t : Tree Path} (p : Spells l ts t) → 2 * nesting_of p + 1 ≤ length ts
  spelling_long (only_iff p) = spelling_long p
  spelling_long (implies {xs = xs} {ys = ys} p q) = omega (arith, spelling_long p, spelling_long q, length-append xs (sign k.Implies ∷ ys))
  spelling_long (repeated {xs = xs} {ys = ys} h p m) = omega (arith, spelling_long p, more_long m, length-append xs ys)
  spelling_long (only_or p) = spelling_long p
  spelling_long (chooses {zs = zs} {xs = xs} {ys = ys} p q r) =
      omega (arith, spelling_long p, spelling_long q, spelling_long r, length-append zs (sign k.Question ∷ (xs ++ sign k.Colon ∷ ys)), length-append xs (sign k.Colon ∷ ys))
  spelling_long (only_not p) = spelling_long p
  spelling_long (negates n p) = omega (arith, spelling_long p)
  spelling_long (only_atom p) = atom_long p
  spelling_long (inverts p) = omega (arith, spelling_long p)

  more_long : {l : ℕ} {ts : List Lexeme} {a t : Tree Path} (m : SpellsMore l ts a t) → 2 * more_nesting m ≤ length ts
  more_long no_operator = omega arith
  more_long (one_operator {xs = xs} {ys = ys} f p m) = omega (arith, spelling_long p, more_long m, length-append xs ys)

  atom_long : {ts : List Lexeme} {t : Tree Path} (p : SpellsAtom ts t) → 2 * atom_nesting p + 1 ≤ length ts
  atom_long is_true = omega arith
  atom_long is_false = omega arith
  atom_long is_number = omega arith
  atom_long (is_span {xs = xs} {ys = ys} p q) = omega (arith, length-append xs (sign k.Dots ∷ ys))
  atom_long (is_name p) = omega (arith, dotted_long p)
  atom_long (in_parentheses {ts = ts} p) = omega (arith, spelling_long p, length-append ts (sign k.Close ∷ []))
  atom_long (is_next {ts = ts} p) = omega (arith, spelling_long p, length-append ts (sign k.Close ∷ []))
  atom_long (is_set {ts = ts} p) = omega (arith, trees_long p, length-append ts (sign k.CloseBrace ∷ []))
  atom_long (is_case {ts = ts} p) = omega (arith, branches_long p, length-append ts (word (codes "esac") ∷ []))

  trees_long : {ts : List Lexeme} {us : Trees Path} (p : SpellsTrees ts us) → 2 * trees_nesting p + 1 ≤ length ts
  trees_long (one_tree p) = spelling_long p
  trees_long (more_trees {ts = ts} {us = us} p m) = omega (arith, spelling_long p, trees_long m, length-append ts (sign k.Comma ∷ us))

  branches_long : {ts : List Lexeme} {bs : Branches Path} (p : SpellsBranches ts bs) → 2 * branches_nesting p + 1 ≤ length ts
  branches_long (one_branch {zs = zs} {xs = xs} p q) =
      omega (arith, spelling_long p, spelling_long q, length-append zs (sign k.Colon ∷ (xs ++ sign k.Semicolon ∷ [])), length-append xs (sign k.Semicolon ∷ []))
  branches_long (more_branches {zs = zs} {xs = xs} {ys = ys} p q m) =
      omega (arith, spelling_long p, spelling_long q, branches_long m, length-append zs (sign k.Colon ∷ (xs ++ sign k.Semicolon ∷ ys)), length-append xs (sign k.Semicolon ∷ ys))

-- A text has no more tokens than bytes.
pieces_long : (start : ℕ) (pieces : List Piece) (bytes rest : List ℕ) → Splits pieces bytes rest → length (tokens_from start pieces) ≤ length bytes
pieces_long start [] bytes rest h = omega arith
pieces_long start (piece ∷ pieces) bytes rest h = by_kind piece.kind h.2 (pieces_long (start + length piece.text) pieces h.0 rest h.3)
  where
    size : length bytes ≡ length piece.text + length h.0
    size = ap (λ (bs : List ℕ). length bs) h.1 ∙ length-append piece.text h.0

    by_kind : (kind : Option TokenKind) → IsPiece kind piece.text h.0 → length (tokens_from (start + length piece.text) pieces) ≤ length h.0 →
        length (token_of start kind (length piece.text) ++ tokens_from (start + length piece.text) pieces) ≤ length bytes
    by_kind None is more = omega (arith, size, more)
    by_kind (Some kind) is more = omega (arith, size, more, token_long kind piece.text h.0 is.longest.token)

pub tokens_short : (bytes : List ℕ) (tokens : List Token) → HasTokens bytes tokens → length tokens ≤ length bytes
tokens_short bytes tokens h = subst (λ (ts : List Token). length ts ≤ length bytes) (sym h.2) (pieces_long 0 h.0 bytes [] h.1)

pub lexemes_short : (bytes : List ℕ) (tokens : List Token) → HasTokens bytes tokens → length (lexemes_of bytes tokens) ≤ length bytes
lexemes_short bytes tokens h = omega (arith, tokens_short bytes tokens h, length-map tokens (lexeme_at bytes))
