-- A list of expressions is read as it is spelled.
use Rattle.std.proofs.Common.{◌≡◌, ℕ, zero, suc, ◌<◌, ◌≤◌, Bool, true, false, List, [], ◌∷◌, ◌++◌, length, refl, sym, ap, ◌∙◌, subst, arith, append-nil, length-append}
use Rattle.std.specs.Prelude.{◌||◌, nat_lt, if◌then◌else◌}
use Rattle.std.proofs.lemmas.Bool.Decides.{nat_tests}
use Rattle.smv_lexer.specs.declared.token.TokenKind.TheVariants as k
use Rattle.smv_lexer.specs.declared.token.Token.{Token}
use Rattle.smv_lexer.specs.Tokens.{HasTokens}
use Rattle.smv_language.specs.Language.{Formula, Lexeme, sign, lexemes_of, SpellsExpr, open_ended, ended, SpellsExpressions, last_expression, more_expressions}
use Rattle.smv_expression_reader.specs.Recogniser.{run, is_whole, start}
use Rattle.smv_expression_reader.specs.Lists.{IsExpressions, BytesSpellExpressions}
use Rattle.smv_expression_reader.specs.ExpressionDepths.{is_too_deep, are_too_deep, spelling, in_list, AreWithin, HaveDepths, AreTooDeep}
use Rattle.smv_expression_reader.specs.SecondPass.{Read, got, deep, none, and_then, answer, with_front, expr_at, each_at, goes_on, next_expr, past_semicolon, exprs_at}
use Rattle.smv_expression_reader.proofs.Accepted.{spelled_accepted}
use Rattle.smv_expression_reader.proofs.PartsRead.{answer_got, answer_deep, answer_none}
use Rattle.smv_expression_reader.proofs.ReadLaws.{read_expr, are_within, within_are}

-- an expression is some lexeme at least
some_left : (us r : List Lexeme) → is_whole (run start us) ≡ true → goes_on (sign k.Semicolon ∷ (us ++ r)) ≡ true
some_left [] r h = cc
some_left (u ∷ us) r h = more u (us ++ r)
  where
    more : (t : Lexeme) (ts : List Lexeme) → nat_lt 0 (length (t ∷ ts)) ≡ true
    more t ts = let some : 0 < length (t ∷ ts) = omega arith in grind (arith, nat_tests, some)

abbrev further : ℕ → List Lexeme → Read (List Formula)
further n ts = and_then (each_at goes_on next_expr n ts) (λ es s. got es (past_semicolon s))

next_read : (n : ℕ) (us r : List Lexeme) (e : Formula) (p : SpellsExpr us e) → (expr_at (us ++ r) ≡ answer (is_too_deep (spelling p)) e r) →
    further (suc n) (sign k.Semicolon ∷ (us ++ r)) ≡ and_then (answer (is_too_deep (spelling p)) e r) (λ a s. and_then (further n s) (λ es z. got (a ∷ es) z))
next_read n us r e p read =
    ap (λ b. and_then (if b then and_then (expr_at (us ++ r)) (λ a s. and_then (each_at goes_on next_expr n s) (λ more z. got (a ∷ more) z)) else got [] (sign k.Semicolon ∷ (us ++ r)))
    (λ es s. got es (past_semicolon s))) (some_left us r (spelled_accepted p))
    ∙ ap (λ y. and_then (and_then y (λ a s. and_then (each_at goes_on next_expr n s) (λ more z. got (a ∷ more) z))) (λ es s. got es (past_semicolon s))) read
    ∙ go (is_too_deep (spelling p))
  where
    flip : (y : Read (List Formula)) → and_then (and_then y (λ more z. got (e ∷ more) z)) (λ es s. got es (past_semicolon s)) ≡ and_then (and_then y (λ es s. got es (past_semicolon s))) (λ es z. got (e ∷ es) z)
    flip (got es s) = refl
    flip deep = refl
    flip none = refl

    go : (b : Bool) → and_then (and_then (answer b e r) (λ a s. and_then (each_at goes_on next_expr n s) (λ more z. got (a ∷ more) z))) (λ es s. got es (past_semicolon s)) ≡
        and_then (answer b e r) (λ a s. and_then (further n s) (λ es z. got (a ∷ es) z))
    go true = refl
    go false = flip (each_at goes_on next_expr n r)

nothing_further : (n : ℕ) → further n [] ≡ got [] []
nothing_further zero = refl
nothing_further (suc n) = refl

only_semicolon : (n : ℕ) → further n (sign k.Semicolon ∷ []) ≡ got [] []
only_semicolon zero = refl
only_semicolon (suc n) = refl

joined : (n : ℕ) (b c : Bool) (e : Formula) (es : List Formula) (r : List Lexeme) → further n r ≡ answer c es [] →
    and_then (answer b e r) (λ a s. and_then (further n s) (λ es z. got (a ∷ es) z)) ≡ answer (b || c) (e ∷ es) []
joined n true c e es r f = refl
joined n false true e es r f = ap (λ y. and_then y (λ es z. got (e ∷ es) z)) f
joined n false false e es r f = ap (λ y. and_then y (λ es z. got (e ∷ es) z)) f

-- what follows an expression
list_more : {us : List Lexeme} {es : List Formula} (q : SpellsExpressions us es) (n : ℕ) → length us ≤ n → further (suc n) (sign k.Semicolon ∷ us) ≡ answer (are_too_deep (in_list q)) es []
list_more {us} (last_expression (open_ended {e = e} p)) n h =
    ap (λ z. further (suc n) (sign k.Semicolon ∷ z)) (sym (append-nil us)) ∙ next_read n us [] e p (read_expr p [] refl)
    ∙ joined n (is_too_deep (spelling p)) false e [] [] (nothing_further n)
list_more (last_expression (ended {ts} {e = e} p)) n h =
    next_read n ts (sign k.Semicolon ∷ []) e p (read_expr p (sign k.Semicolon ∷ []) refl)
    ∙ joined n (is_too_deep (spelling p)) false e [] (sign k.Semicolon ∷ []) (only_semicolon n)
list_more (more_expressions {ts} {us} {e} {more} p q) zero h = let size = length-append ts (sign k.Semicolon ∷ us) in absurd (omega (arith, h, size))
list_more (more_expressions {ts} {us} {e} {more} p q) (suc n) h =
    let size = length-append ts (sign k.Semicolon ∷ us) in
    next_read (suc n) ts (sign k.Semicolon ∷ us) e p (read_expr p (sign k.Semicolon ∷ us) refl)
    ∙ joined (suc n) (is_too_deep (spelling p)) (are_too_deep (in_list q)) e more (sign k.Semicolon ∷ us) (list_more q n (omega (arith, h, size)))

first_read : (xs r : List Lexeme) (b c : Bool) (e : Formula) (es : List Formula) → expr_at (xs ++ r) ≡ answer b e r → further (length r) r ≡ answer c es [] → exprs_at (xs ++ r) ≡ answer (b || c) (e ∷ es) []
first_read xs r b c e es read rest =
    ap (λ y. and_then (and_then y (λ e r. with_front (e ∷ []) (each_at goes_on next_expr (length r) r))) (λ es s. got es (past_semicolon s))) read ∙ go b
  where
    flip : (y : Read (List Formula)) → and_then (with_front (e ∷ []) y) (λ es s. got es (past_semicolon s)) ≡ and_then (and_then y (λ es s. got es (past_semicolon s))) (λ es z. got (e ∷ es) z)
    flip (got es s) = refl
    flip deep = refl
    flip none = refl

    go : (b : Bool) → and_then (and_then (answer b e r) (λ e r. with_front (e ∷ []) (each_at goes_on next_expr (length r) r))) (λ es s. got es (past_semicolon s)) ≡ answer (b || c) (e ∷ es) []
    go true = refl
    go false = flip (each_at goes_on next_expr (length r) r) ∙ joined (length r) false c e es r rest

-- a list is read as it is spelled
pub read_list : {ts : List Lexeme} {es : List Formula} (q : SpellsExpressions ts es) → exprs_at ts ≡ answer (are_too_deep (in_list q)) es []
read_list {ts} (last_expression (open_ended {e = e} p)) = ap exprs_at (sym (append-nil ts)) ∙ first_read ts [] (is_too_deep (spelling p)) false e [] (read_expr p [] refl) (nothing_further 0)
read_list (last_expression (ended {ts} {e = e} p)) =
    first_read ts (sign k.Semicolon ∷ []) (is_too_deep (spelling p)) false e [] (read_expr p (sign k.Semicolon ∷ []) refl) (only_semicolon 1)
read_list (more_expressions {ts} {us} {e} {more} p q) =
    first_read ts (sign k.Semicolon ∷ us) (is_too_deep (spelling p)) (are_too_deep (in_list q)) e more (read_expr p (sign k.Semicolon ∷ us) refl) (list_more q (length us) (omega arith))

-- the list that is read is the spelled one
pub list_spelled_by : (bytes : List ℕ) (tokens : List Token) (es : List Formula) (r : List Lexeme) → HasTokens bytes tokens → IsExpressions (lexemes_of bytes tokens) →
    exprs_at (lexemes_of bytes tokens) ≡ got es r → BytesSpellExpressions bytes es
list_spelled_by bytes tokens es r split spelled e =
    let same = answer_got (are_too_deep (in_list spelled.1)) spelled.0 es r (sym (read_list spelled.1) ∙ e) in
    (tokens, split, subst (SpellsExpressions (lexemes_of bytes tokens)) same.0 spelled.1)

-- no other is spelled
pub list_only : (bytes : List ℕ) (tokens : List Token) (es : List Formula) (r : List Lexeme) → ((others : List Token) → HasTokens bytes others → others ≡ tokens) →
    exprs_at (lexemes_of bytes tokens) ≡ got es r → (us : List Formula) → BytesSpellExpressions bytes us → es ≡ us
list_only bytes tokens es r only e us spelled =
    let here : SpellsExpressions (lexemes_of bytes tokens) us = subst (λ z. SpellsExpressions (lexemes_of bytes z) us) (only spelled.0 spelled.1) spelled.2 in
    sym (answer_got (are_too_deep (in_list here)) us es r (sym (read_list here) ∙ e)).0

-- each expression is within the depths
pub list_depths : (bytes : List ℕ) (tokens : List Token) (es : List Formula) (r : List Lexeme) → ((others : List Token) → HasTokens bytes others → others ≡ tokens) →
    exprs_at (lexemes_of bytes tokens) ≡ got es r → HaveDepths bytes es
list_depths bytes tokens es r only e = λ others split spelled. go others (only others split) spelled
  where
    go : (others : List Token) → others ≡ tokens → (spelled : SpellsExpressions (lexemes_of bytes others) es) → AreWithin (in_list spelled)
    go others same spelled =
        let here : exprs_at (lexemes_of bytes others) ≡ got es r = ap (λ z. exprs_at (lexemes_of bytes z)) same ∙ e in
        are_within (in_list spelled) (answer_got (are_too_deep (in_list spelled)) es es r (sym (read_list spelled) ∙ here)).1

-- a spelled list that is not read has an expression that is too deep
pub list_deep : (bytes : List ℕ) (tokens : List Token) → HasTokens bytes tokens → IsExpressions (lexemes_of bytes tokens) → exprs_at (lexemes_of bytes tokens) ≡ deep → AreTooDeep bytes
list_deep bytes tokens split spelled e = record {
  trees = spelled.0;
  spelled = (tokens, split, spelled.1);
  deep = λ depths.
      let high = answer_deep (are_too_deep (in_list spelled.1)) spelled.0 (sym (read_list spelled.1) ∙ e) in
      let low = within_are (in_list spelled.1) (depths tokens split spelled.1) in
      let clash : true ≡ false = sym high ∙ low in cc;
}

-- some list is read of what is spelled, or it is too deep
pub list_made : (ts : List Lexeme) → IsExpressions ts → exprs_at ts ≡ none → ⊥
list_made ts spelled e = answer_none (are_too_deep (in_list spelled.1)) spelled.0 (sym (read_list spelled.1) ∙ e)
