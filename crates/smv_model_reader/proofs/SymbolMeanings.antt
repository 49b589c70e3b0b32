-- What the symbols of the grammar of programs take one by one, and what lists of them stand for.
use Rattle.std.proofs.Common.{◌≡◌, ℕ, true, false, List, [], ◌∷◌, ◌++◌, Option, refl, sym, ◌∙◌, ap, append_assoc}
use Rattle.smv_lexer.specs.declared.token.TokenKind.TheVariants as k
use Rattle.smv_language.specs.Language.{Lexeme, word, num, sign, is_reserved, SpellsCommas, last_one, one_comma}
use Rattle.smv_expression_reader.specs.PredictiveReader.{Means}
use Rattle.smv_expression_reader.specs.Marks.{mark_of}
use Rattle.smv_model_reader.specs.ProgramGrammar.{Single, the_name, the_number, the_colon, the_becomes, the_semicolon, the_open, the_close, the_dots, Sym, Tail, tail_end, tail_more, is_single, spelled, expr, programs}
use Rattle.smv_model_reader.specs.ProgramGrammar as s
use Rattle.smv_expression_reader.proofs.Marks.{Marked, marked, mark_of_name}
use Rattle.smv_expression_reader.proofs.Meanings.{Leads}
use Rattle.smv_expression_reader.proofs.Accepted.{spelled_accepted}
use Rattle.smv_expression_reader.specs.Stops.{IsExpression}
use Rattle.smv_expression_reader.specs.declared.mark.Mark.{Mark}
use Rattle.smv_expression_reader.specs.declared.mark.Mark.TheVariants as mark

-- single lexemes
unfoldable pub That : Single → Lexeme → Type 0
That the_name t = (x : List ℕ) × (t ≡ word x) × (is_reserved x ≡ false)
That the_number t = (n : ℕ) × (d : List ℕ) × (t ≡ num n d)
That the_colon t = t ≡ sign k.Colon
That the_becomes t = t ≡ sign k.Becomes
That the_semicolon t = t ≡ sign k.Semicolon
That the_open t = t ≡ sign k.Open
That the_close t = t ≡ sign k.Close
That the_dots t = t ≡ sign k.Dots

that : (w : Single) (c : Mark) (t : Lexeme) → Marked c t → is_single w c ≡ true → That w t
unfolding Marked That
that the_name mark.Name t m h = m
that the_number mark.Number t m h = m
that the_colon mark.Colon t m h = m
that the_becomes mark.Becomes t m h = m
that the_semicolon mark.Semicolon t m h = m
that the_open mark.Open t m h = m
that the_close mark.Close t m h = m
that the_dots mark.Dots t m h = m
that w c t m h = cc

is_that : (w : Single) (t : Lexeme) → That w t → is_single w (mark_of t) ≡ true
unfolding That
is_that the_name t m = ap (λ z. is_single the_name (mark_of z)) m.1 ∙ ap (is_single the_name) (mark_of_name m.0 m.2)
is_that the_number t m = ap (λ z. is_single the_number (mark_of z)) m.2
is_that the_colon t m = ap (λ z. is_single the_colon (mark_of z)) m
is_that the_becomes t m = ap (λ z. is_single the_becomes (mark_of z)) m
is_that the_semicolon t m = ap (λ z. is_single the_semicolon (mark_of z)) m
is_that the_open t m = ap (λ z. is_single the_open (mark_of z)) m
is_that the_close t m = ap (λ z. is_single the_close (mark_of z)) m
is_that the_dots t m = ap (λ z. is_single the_dots (mark_of z)) m

-- what a list of symbols stands for, when the first is a single lexeme, an expression, or another symbol
abbrev pub Means_of : List Sym → List Lexeme → Type 0
Means_of = Means Sym programs

pub record One (w : Single) (syms : List Sym) (ts : List Lexeme) : Type 0 where
  pub lexeme : Lexeme
  pub rest : List Lexeme
  pub whole : ts ≡ lexeme ∷ rest
  pub that : That w lexeme
  pub means : Means_of syms rest

pub one : (w : Single) (syms : List Sym) (ts : List Lexeme) → Means_of (s.single w ∷ syms) ts → One w syms ts
one w syms ts m = record {
  lexeme = m.3.0;
  rest = m.1;
  whole = m.2 ∙ ap (λ z. z ++ m.1) m.3.1;
  that = that w (mark_of m.3.0) m.3.0 (marked m.3.0) m.3.2;
  means = m.4;
}

pub as_one : (w : Single) (syms : List Sym) (t : Lexeme) (ts : List Lexeme) → That w t → Means_of syms ts → Means_of (s.single w ∷ syms) (t ∷ ts)
as_one w syms t ts h m = (t ∷ [], ts, refl, (t, refl, is_that w t h), m)

pub an_expr : (xs : List Lexeme) → IsExpression xs → spelled expr xs
an_expr xs e = spelled_accepted e.1

-- lists with commas, and their tails
pub commas_tail : {A : Type 0} {P : List Lexeme → A → Type 0} {ts : List Lexeme} {list : List A} (end : Lexeme) → SpellsCommas P ts list →
    (xs : List Lexeme) × (ws : List Lexeme) × (ts ++ end ∷ [] ≡ xs ++ ws) × ((a : A) × P xs a) × Tail (λ z. (a : A) × P z a) end ws
commas_tail end (last_one {ts = ts} p) = (ts, end ∷ [], refl, (_, p), tail_end)
commas_tail end (one_comma {ts = ts} {us = us} p more) =
    let r = commas_tail end more in
    (ts, sign k.Comma ∷ (r.0 ++ r.1), append_assoc ts (sign k.Comma ∷ us) (end ∷ []) ∙ ap (λ z. ts ++ sign k.Comma ∷ z) r.2, (_, p), tail_more r.3 r.4)

pub tail_commas : {A : Type 0} (P : List Lexeme → A → Type 0) {end : Lexeme} {ws : List Lexeme} (xs : List Lexeme) (a : A) → P xs a → Tail (λ z. (a : A) × P z a) end ws →
    (us : List Lexeme) × (xs ++ ws ≡ us ++ end ∷ []) × (list : List A) × SpellsCommas P us list
tail_commas P xs a p tail_end = (xs, refl, a ∷ [], last_one p)
tail_commas P {end = end} xs a p (tail_more {xs = ys} {ys = zs} q t) =
    let r = tail_commas P ys q.0 q.1 t in
    (xs ++ sign k.Comma ∷ r.0, ap (λ z. xs ++ sign k.Comma ∷ z) r.1 ∙ sym (append_assoc xs (sign k.Comma ∷ r.0) (end ∷ [])), a ∷ r.2, one_comma p r.3)

-- what a choice of symbols stands for
abbrev pub Through : Option (List Sym) → List Lexeme → Type 0
Through = Leads programs
