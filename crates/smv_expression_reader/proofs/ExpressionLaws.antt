-- What the first pass says of a list of lexemes, for expressions.
use Rattle.std.proofs.lemmas.List.{length-map}
use Rattle.std.proofs.lemmas.Option.{slice_get-map}
use Rattle.std.specs.Option.{option_map}
use Rattle.smv_expression_reader.specs.declared.fault.ParseFault.{ParseFault}
use Rattle.std.proofs.Common.{◌≡◌, ℕ, zero, suc, ◌<◌, ◌≤◌, Bool, true, false, List, [], ◌∷◌, Option, Some, None, length, refl, sym, ap, ◌∙◌, subst, arith}
use Rattle.std.specs.Prelude.{nat_lt, slice_get}
use Rattle.std.proofs.lemmas.Bool.Decides.{nat_tests}
use Rattle.base_values.specs.declared.limits.TheConstants.{MOST_HEIGHT, MOST_NESTED}
use Rattle.smv_lexer.specs.declared.token.Token.{Token}
use Rattle.smv_lexer.specs.Tokens.{HasTokens}
use Rattle.smv_language.specs.Language.{height_of, Formula, Lexeme, lexemes_of, SpellsExpr, nesting_of, BytesSpellExpr, HasDepths}
use Rattle.smv_expression_reader.specs.Recogniser.{run, is_stuck, is_whole, start}
use Rattle.smv_expression_reader.specs.TreeBuilder.{built}
use Rattle.smv_expression_reader.specs.Extents.{reach_of, is_deep}
use Rattle.smv_expression_reader.specs.Places.{lexeme_at}
use Rattle.smv_expression_reader.specs.Stops.{IsExpression, IsFrontOf, Unfinished, IsTooDeep, FaultMeans, is_left_out, stop_fault}
use Rattle.smv_expression_reader.proofs.Rest.{accepted_spelled}
use Rattle.smv_expression_reader.proofs.Accepted.{spelled_accepted}
use Rattle.smv_expression_reader.proofs.Exact.{goes_on, front_goes_on}
use Rattle.smv_expression_reader.proofs.Built.{built_spelled}
use Rattle.smv_expression_reader.proofs.ExtentLaws.{reached_goes_on, reached_stops, all_reached, deep_nesting}

is_front : (ts : List Lexeme) → is_stuck (run start ts) ≡ false → IsFrontOf IsExpression ts
is_front ts h = let made = goes_on ts h in (made.0, (made.1, made.2))

no_front : (ts : List Lexeme) → is_stuck (run start ts) ≡ true → IsFrontOf IsExpression ts → ⊥
no_front ts h f =
    let on : is_stuck (run start ts) ≡ false = front_goes_on ts (f.0, f.1.0, f.1.1) in
    let clash : true ≡ false = sym h ∙ on in cc

pub none_within : (xs : List Token) (i : ℕ) → i < length xs → slice_get xs i ≡ None → ⊥
none_within [] i h e = absurd (omega (arith, h))
none_within (x ∷ xs) zero h e = cc
none_within (x ∷ xs) (suc i) h e = none_within xs i (omega (arith, h)) e

-- the answer at the token at which reading stops
pub expression_stops : (Deep : Type 0) (bytes : List ℕ) (tokens : List Token) (token : Token) → HasTokens bytes tokens →
    slice_get tokens (reach_of start (lexemes_of bytes tokens)) ≡ Some token → reach_of start (lexemes_of bytes tokens) < length (lexemes_of bytes tokens) →
    FaultMeans IsExpression Deep bytes (stop_fault (is_left_out (lexeme_at bytes token)) token.start)
expression_stops Deep bytes tokens token split stands within = go (is_left_out (lexeme_at bytes token)) refl
  where
    go : (left_out : Bool) → is_left_out (lexeme_at bytes token) ≡ left_out → FaultMeans IsExpression Deep bytes (stop_fault left_out token.start)
    go true e = record {
      tokens = tokens;
      split = split;
      number = reach_of start (lexemes_of bytes tokens);
      token = token;
      stands = stands;
      place = refl;
      kind = e;
      before = is_front _ (reached_goes_on start (lexemes_of bytes tokens) refl);
      behind = no_front _ (reached_stops start (lexemes_of bytes tokens) within);
    }
    go false e = record {
      tokens = tokens;
      split = split;
      number = reach_of start (lexemes_of bytes tokens);
      token = token;
      stands = stands;
      place = refl;
      kind = e;
      before = is_front _ (reached_goes_on start (lexemes_of bytes tokens) refl);
      behind = no_front _ (reached_stops start (lexemes_of bytes tokens) within);
    }

-- the answer where reading stops at no token, and nothing is spelled
pub expression_ends : (bytes : List ℕ) (tokens : List Token) (at : ℕ) → HasTokens bytes tokens → at ≡ length bytes →
    length (lexemes_of bytes tokens) ≤ reach_of start (lexemes_of bytes tokens) → is_whole (run start (lexemes_of bytes tokens)) ≡ false →
    Unfinished IsExpression bytes at
expression_ends bytes tokens at split place all part = record {
  tokens = tokens;
  split = split;
  place = place;
  front = is_front _ (all_reached start (lexemes_of bytes tokens) refl all);
  incomplete = λ spelled. let whole = spelled_accepted spelled.1 in let clash : true ≡ false = sym whole ∙ part in cc;
}

-- the answer where parentheses are nested too deep
pub expression_deep : (bytes : List ℕ) (tokens : List Token) → HasTokens bytes tokens → is_whole (run start (lexemes_of bytes tokens)) ≡ true →
    is_deep start (lexemes_of bytes tokens) ≡ true → IsTooDeep bytes
expression_deep bytes tokens split whole deep =
    let made = accepted_spelled (lexemes_of bytes tokens) whole in
    record {
      tree = made.0;
      spelled = (tokens, split, made.1);
      deep = λ depths.
          let low = depths.1 tokens split made.1 in
          let same = deep_nesting made.1 in
          let high : nat_lt MOST_NESTED (nesting_of made.1) ≡ true = sym same ∙ deep in
          absurd (grind (arith, nat_tests, low, high));
    }

-- the answer where each tree that is made is too high
pub expression_high : (bytes : List ℕ) (tokens : List Token) → HasTokens bytes tokens → is_whole (run start (lexemes_of bytes tokens)) ≡ true →
    ((t : Formula) → built (lexemes_of bytes tokens) ≡ Some t → MOST_HEIGHT < height_of t) → IsTooDeep bytes
expression_high bytes tokens split whole high =
    let made = accepted_spelled (lexemes_of bytes tokens) whole in
    record {
      tree = made.0;
      spelled = (tokens, split, made.1);
      deep = λ depths. let over = high made.0 (built_spelled made.1) in absurd (omega (arith, depths.0, over));
    }

-- some tree is made of what is spelled
pub expression_made : (ts : List Lexeme) → is_whole (run start ts) ≡ true → built ts ≡ None → ⊥
expression_made ts whole none =
    let made = accepted_spelled ts whole in
    let clash : Some made.0 ≡ None = sym (built_spelled made.1) ∙ none in cc

-- the tree that is made is the spelled one
pub expression_spelled : (bytes : List ℕ) (tokens : List Token) (t : Formula) → HasTokens bytes tokens → is_whole (run start (lexemes_of bytes tokens)) ≡ true →
    built (lexemes_of bytes tokens) ≡ Some t → BytesSpellExpr bytes t
expression_spelled bytes tokens t split whole e =
    let made = accepted_spelled (lexemes_of bytes tokens) whole in
    let same : made.0 ≡ t = (let both : Some made.0 ≡ Some t = sym (built_spelled made.1) ∙ e in cc) in
    (tokens, split, subst (SpellsExpr (lexemes_of bytes tokens)) same made.1)

-- and no other is spelled
pub expression_only : (bytes : List ℕ) (tokens : List Token) (t : Formula) → ((others : List Token) → HasTokens bytes others → others ≡ tokens) →
    built (lexemes_of bytes tokens) ≡ Some t → (u : Formula) → BytesSpellExpr bytes u → t ≡ u
expression_only bytes tokens t only e u spelled =
    let here : SpellsExpr (lexemes_of bytes tokens) u = subst (λ z. SpellsExpr (lexemes_of bytes z) u) (only spelled.0 spelled.1) spelled.2 in
    let both : Some t ≡ Some u = sym e ∙ built_spelled here in cc

-- within the depths
pub expression_depths : (bytes : List ℕ) (tokens : List Token) (t : Formula) → ((others : List Token) → HasTokens bytes others → others ≡ tokens) →
    is_deep start (lexemes_of bytes tokens) ≡ false → height_of t ≤ MOST_HEIGHT → HasDepths bytes t
expression_depths bytes tokens t only low height = (height, λ others split spelled. go others (only others split) spelled)
  where
    go : (others : List Token) → others ≡ tokens → (spelled : SpellsExpr (lexemes_of bytes others) t) → nesting_of spelled ≤ MOST_NESTED
    go others same spelled =
        let here : is_deep start (lexemes_of bytes others) ≡ false = ap (λ z. is_deep start (lexemes_of bytes z)) same ∙ low in
        let within : nat_lt MOST_NESTED (nesting_of spelled) ≡ false = sym (deep_nesting spelled) ∙ here in
        grind (arith, nat_tests, within)

-- the same, as the code finds it
pub check_stops : (Deep : Type 0) (bytes : List ℕ) (tokens : List Token) (ts : List Lexeme) (i : ℕ) (f : ParseFault) → HasTokens bytes tokens → ts ≡ lexemes_of bytes tokens → i ≡ reach_of start ts → i < length ts →
    ((token : Token) (lexeme : Lexeme) → slice_get tokens i ≡ Some token → slice_get ts i ≡ Some lexeme → f ≡ stop_fault (is_left_out lexeme) token.start) → FaultMeans IsExpression Deep bytes f
check_stops Deep bytes tokens ts i f split same at within fault = go (slice_get tokens i) refl
  where
    size : length ts ≡ length tokens
    size = ap length same ∙ length-map tokens (lexeme_at bytes)

    go : (found : Option Token) → slice_get tokens i ≡ found → FaultMeans IsExpression Deep bytes f
    go None e = absurd (none_within tokens i (omega (arith, size, within)) e)
    go (Some token) e =
        let lexeme : slice_get ts i ≡ Some (lexeme_at bytes token) = ap (λ z. slice_get z i) same ∙ slice_get-map (lexeme_at bytes) tokens i ∙ ap (option_map (lexeme_at bytes)) e in
        let place : i ≡ reach_of start (lexemes_of bytes tokens) = at ∙ ap (reach_of start) same in
        let here : slice_get tokens (reach_of start (lexemes_of bytes tokens)) ≡ Some token = ap (slice_get tokens) (sym place) ∙ e in
        let bound : reach_of start (lexemes_of bytes tokens) < length (lexemes_of bytes tokens) = subst (λ z. z < length (lexemes_of bytes tokens)) place (subst (λ z. i < length z) same within) in
        subst (FaultMeans IsExpression Deep bytes) (sym (fault token (lexeme_at bytes token) e lexeme)) (expression_stops Deep bytes tokens token split here bound)
