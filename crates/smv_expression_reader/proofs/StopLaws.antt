-- What the first pass says of a list of lexemes, for any grammar in which one lexeme decides.
use Rattle.std.proofs.Common.{◌≡◌, ℕ, ◌+◌, ◌<◌, Bool, true, false, List, [], ◌∷◌, ◌++◌, Option, Some, None, length, take, get_or, refl, sym, ap, ◌∙◌, subst, arith}
use Rattle.std.specs.Prelude.{slice_get}
use Rattle.std.specs.Option.{option_map}
use Rattle.std.proofs.lemmas.List.{take_more, length-map}
use Rattle.std.proofs.lemmas.Option.{slice_get-map}
use Rattle.smv_lexer.specs.declared.token.Token.{Token}
use Rattle.smv_lexer.specs.Tokens.{HasTokens}
use Rattle.smv_language.specs.Lexemes.{Lexeme, lexemes_of}
use Rattle.smv_expression_reader.specs.declared.fault.ParseFault.{ParseFault}
use Rattle.smv_expression_reader.specs.PredictiveReader.{Grammar, step, run, all_empty, IsPredictable}
use Rattle.smv_expression_reader.specs.Readings.{stepped, expected_after, Goes, Ends}
use Rattle.smv_expression_reader.specs.Places.{lexeme_at}
use Rattle.smv_expression_reader.specs.Stops.{IsFrontOf, StopsAt, Unfinished, FaultMeans, is_left_out, stop_fault}
use Rattle.smv_expression_reader.proofs.Predicted.{goes_on_exactly, accepts_exactly}
use Rattle.smv_expression_reader.proofs.ExpressionLaws.{none_within}

module _ (Sym : Type 0) (g : Grammar Sym) where
  run_one : (o : Option (List Sym)) (t : Lexeme) → run Sym g o (t ∷ []) ≡ stepped Sym g o t
  run_one None t = refl
  run_one (Some s) t = refl

  run_more : (o : Option (List Sym)) (xs : List Lexeme) (t : Lexeme) → run Sym g o (xs ++ t ∷ []) ≡ stepped Sym g (run Sym g o xs) t
  run_more o [] t = run_one o t
  run_more None (x ∷ xs) t = refl
  run_more (Some s) (x ∷ xs) t = run_more (step Sym g s x) xs t

  -- one lexeme more
  pub path_more : (x : Sym) (ts : List Lexeme) (i : ℕ) (t : Lexeme) (o next : Option (List Sym)) → i < length ts → t ≡ get_or ts i t → expected_after Sym g x (take i ts) ≡ o →
      next ≡ stepped Sym g o t → expected_after Sym g x (take (i + 1) ts) ≡ next
  path_more x ts i t o next h is path here =
      ap (expected_after Sym g x) (take_more ts i t h ∙ ap (λ z. take i ts ++ z ∷ []) (sym is)) ∙ run_more (Some (x ∷ [])) (take i ts) t ∙ ap (λ z. stepped Sym g z t) path ∙ sym here

module _ (Sym : Type 0) (g : Grammar Sym) (law : IsPredictable Sym g) (x : Sym) where
  -- the answer at the token at which reading stops
  stops_here : (Deep : Type 0) (bytes : List ℕ) (tokens : List Token) (i : ℕ) (token : Token) → HasTokens bytes tokens → slice_get tokens i ≡ Some token →
      Goes Sym g (expected_after Sym g x (take i (lexemes_of bytes tokens))) → expected_after Sym g x (take (i + 1) (lexemes_of bytes tokens)) ≡ None →
      FaultMeans (g.Spelled x) Deep bytes (stop_fault (is_left_out (lexeme_at bytes token)) token.start)
  stops_here Deep bytes tokens i token split stands on off = go (is_left_out (lexeme_at bytes token)) refl
    where
      none : IsFrontOf (g.Spelled x) (take (i + 1) (lexemes_of bytes tokens)) → ⊥
      none f =
          let some = (goes_on_exactly Sym g law x (take (i + 1) (lexemes_of bytes tokens))).1 f in
          let clash : None ≡ Some some.0 = sym off ∙ some.1 in cc

      at : (left_out : Bool) → is_left_out (lexeme_at bytes token) ≡ left_out → StopsAt (g.Spelled x) bytes token.start left_out
      at left_out e = record {
        tokens = tokens;
        split = split;
        number = i;
        token = token;
        stands = stands;
        place = refl;
        kind = e;
        before = (goes_on_exactly Sym g law x (take i (lexemes_of bytes tokens))).0 on;
        behind = none;
      }

      go : (left_out : Bool) → is_left_out (lexeme_at bytes token) ≡ left_out → FaultMeans (g.Spelled x) Deep bytes (stop_fault left_out token.start)
      go true e = at true e
      go false e = at false e

  pub check_stops : (Deep : Type 0) (bytes : List ℕ) (tokens : List Token) (ts : List Lexeme) (i : ℕ) (f : ParseFault) → HasTokens bytes tokens → ts ≡ lexemes_of bytes tokens → i < length ts →
      Goes Sym g (expected_after Sym g x (take i ts)) → expected_after Sym g x (take (i + 1) ts) ≡ None →
      ((token : Token) (lexeme : Lexeme) → slice_get tokens i ≡ Some token → slice_get ts i ≡ Some lexeme → f ≡ stop_fault (is_left_out lexeme) token.start) → FaultMeans (g.Spelled x) Deep bytes f
  check_stops Deep bytes tokens ts i f split same within on off fault = go (slice_get tokens i) refl
    where
      size : length ts ≡ length tokens
      size = ap length same ∙ length-map tokens (lexeme_at bytes)

      go : (found : Option Token) → slice_get tokens i ≡ found → FaultMeans (g.Spelled x) Deep bytes f
      go None e = absurd (none_within tokens i (omega (arith, size, within)) e)
      go (Some token) e =
          let lexeme : slice_get ts i ≡ Some (lexeme_at bytes token) = ap (λ z. slice_get z i) same ∙ slice_get-map (lexeme_at bytes) tokens i ∙ ap (option_map (lexeme_at bytes)) e in
          let on' = subst (λ z. Goes Sym g (expected_after Sym g x (take i z))) same on in
          let off' : expected_after Sym g x (take (i + 1) (lexemes_of bytes tokens)) ≡ None = subst (λ z. expected_after Sym g x (take (i + 1) z) ≡ None) same off in
          subst (FaultMeans (g.Spelled x) Deep bytes) (sym (fault token (lexeme_at bytes token) e lexeme)) (stops_here Deep bytes tokens i token split e on' off')

  -- the answer where reading stops at no token, and nothing is spelled
  pub check_ends : (bytes : List ℕ) (tokens : List Token) (ts : List Lexeme) (at : ℕ) → HasTokens bytes tokens → ts ≡ lexemes_of bytes tokens → at ≡ length bytes → Ends Sym g false x ts →
      Unfinished (g.Spelled x) bytes at
  check_ends bytes tokens ts at split same place ends =
      let here = subst (Ends Sym g false x) same ends in
      record {
        tokens = tokens;
        split = split;
        place = place;
        front = (goes_on_exactly Sym g law x (lexemes_of bytes tokens)).0 (here.0, here.1);
        incomplete = λ spelled.
            let whole = (accepts_exactly Sym g law x (lexemes_of bytes tokens)).1 spelled in
            let both : Some here.0 ≡ Some whole.0 = sym here.1 ∙ whole.1 in
            let one : here.0 ≡ whole.0 = cc in
            let clash : false ≡ true = sym here.2 ∙ ap (all_empty Sym g) one ∙ whole.2 in cc;
      }

  -- where reading may end, the list is spelled
  pub is_spelled : (ts : List Lexeme) → Ends Sym g true x ts → g.Spelled x ts
  is_spelled ts ends = (accepts_exactly Sym g law x ts).0 ends
