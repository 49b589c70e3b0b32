-- What reading says of a text: where it stops, that it is unfinished, or that it spells causes.
use Rattle.std.proofs.Common.{◌≡◌, ℕ, ◌+◌, ◌<◌, ◌≤◌, Bool, true, false, List, [], ◌∷◌, ◌++◌, Option, Some, None, length, take, get_or, refl, sym, ap, ◌∙◌, subst, arith}
use Rattle.std.specs.Prelude.{codes, slice_get}
use Rattle.std.specs.Option.{option_map}
use Rattle.std.proofs.lemmas.List.{take_more, take_all, length-map}
use Rattle.std.proofs.lemmas.Option.{slice_get-map, same_Some as some_same}
use Rattle.smv_lexer.specs.declared.token.TokenKind.TheVariants as k
use Rattle.smv_lexer.specs.declared.token.Token.{Token}
use Rattle.smv_lexer.specs.Tokens.{HasTokens}
use Rattle.smv_language.specs.Lexemes.{Lexeme, word, num, sign, lexemes_of}
use Rattle.smv_expression_reader.specs.declared.fault.ParseFault.{ParseFault}
use Rattle.smv_expression_reader.specs.declared.reading.ReadExtent.{ReadExtent}
use Rattle.smv_expression_reader.specs.Places.{lexeme_at}
use Rattle.smv_expression_reader.specs.Stops.{IsFrontOf, Unfinished, FaultMeans, is_left_out, stop_fault}
use Rattle.smv_expression_reader.proofs.ExpressionLaws.{none_within}
use Rattle.fault_cause_laws.specs.CausesText.{WrittenCause, SpellsCauses, BytesSpellCauses}
use Rattle.fault_causes_reader.specs.CauseStages.{Stage, start, named, within, first, dots, last, strikes, part, after, ReadSoFar, so_far, read_more, run, read_of, IsCauses}
use Rattle.fault_causes_reader.specs.StageView.{Goes, is_start, reading_at, ReadsTo}
use Rattle.fault_causes_reader.proofs.CausesReads.{run_append, run_none, causes_are_read}
use Rattle.fault_causes_reader.proofs.CausesSpelled.{spelled_of}

-- a text that ends what is begun
abbrev from_part : List Lexeme
from_part = word (codes "x") ∷ sign k.Semicolon ∷ []

abbrev from_strikes : List Lexeme
from_strikes = word (codes "STRIKES") ∷ from_part

abbrev from_dots : List Lexeme
from_dots = sign k.Dots ∷ num 0 [] ∷ from_strikes

abbrev from_within : List Lexeme
from_within = word (codes "WITHIN") ∷ num 0 [] ∷ from_dots

abbrev rest_of : Stage → List Lexeme
rest_of start = []
rest_of named = word (codes "x") ∷ from_within
rest_of (within x) = from_within
rest_of (first x) = num 0 [] ∷ from_dots
rest_of (dots x a) = from_dots
rest_of (last x a) = num 0 [] ∷ from_strikes
rest_of (strikes x a b) = from_strikes
rest_of (part x a b done path) = from_part
rest_of (after x a b done path) = sign k.Semicolon ∷ []

rest_ends : (s : Stage) (cs : List WrittenCause) → (all : List WrittenCause) × (run (Some (so_far s cs)) (rest_of s) ≡ Some (so_far start all))
rest_ends start cs = (_, refl)
rest_ends named cs = (_, refl)
rest_ends (within x) cs = (_, refl)
rest_ends (first x) cs = (_, refl)
rest_ends (dots x a) cs = (_, refl)
rest_ends (last x a) cs = (_, refl)
rest_ends (strikes x a b) cs = (_, refl)
rest_ends (part x a b done path) cs = (_, refl)
rest_ends (after x a b done path) cs = (_, refl)

-- what goes on is a front, and a front goes on
goes_front : (ts : List Lexeme) → Goes (read_of ts) → IsFrontOf IsCauses ts
goes_front ts g =
    let r : ReadSoFar = g.0 in
    let ends = rest_ends r.stage r.causes in
    let whole : read_of (ts ++ rest_of r.stage) ≡ Some (so_far start ends.0) = run_append (Some (so_far start [])) ts (rest_of r.stage) ∙ ap (λ o. run o (rest_of r.stage)) g.1 ∙ ends.1 in
    (rest_of r.stage, (ends.0, spelled_of ends.0 (ts ++ rest_of r.stage) whole))

some_read : (o : Option ReadSoFar) (us : List Lexeme) (r : ReadSoFar) → run o us ≡ Some r → Goes o
some_read None us r e = let clash : None ≡ Some r = sym (run_none us) ∙ e in cc
some_read (Some s) us r e = (s, refl)

front_goes : (ts : List Lexeme) → IsFrontOf IsCauses ts → Goes (read_of ts)
front_goes ts f =
    let cs : List WrittenCause = f.1.0 in
    let whole : read_of (ts ++ f.0) ≡ Some (so_far start cs) = causes_are_read [] f.1.1 in
    some_read (read_of ts) f.0 (so_far start cs) (sym (run_append (Some (so_far start [])) ts f.0) ∙ whole)

-- one lexeme more
pub path_more : (ts : List Lexeme) (i : ℕ) (x : Lexeme) (o next : Option ReadSoFar) → i < length ts → x ≡ get_or ts i x → read_of (take i ts) ≡ o → next ≡ read_more o x →
    read_of (take (i + 1) ts) ≡ next
path_more ts i x o next h is path here =
    ap read_of (take_more ts i x h ∙ ap (λ z. take i ts ++ z ∷ []) (sym is)) ∙ run_append (Some (so_far start [])) (take i ts) (x ∷ []) ∙ ap (λ z. read_more z x) path ∙ sym here

-- the answer at the token at which reading stops
stops : (bytes : List ℕ) (tokens : List Token) (i : ℕ) (token : Token) → HasTokens bytes tokens → slice_get tokens i ≡ Some token →
    Goes (read_of (take i (lexemes_of bytes tokens))) → read_of (take (i + 1) (lexemes_of bytes tokens)) ≡ None →
    FaultMeans IsCauses ⊥ bytes (stop_fault (is_left_out (lexeme_at bytes token)) token.start)
stops bytes tokens i token split stands on off = go (is_left_out (lexeme_at bytes token)) refl
  where
    none : IsFrontOf IsCauses (take (i + 1) (lexemes_of bytes tokens)) → ⊥
    none f =
        let some = front_goes (take (i + 1) (lexemes_of bytes tokens)) f in
        let clash : None ≡ Some some.0 = sym off ∙ some.1 in cc

    go : (left_out : Bool) → is_left_out (lexeme_at bytes token) ≡ left_out → FaultMeans IsCauses ⊥ bytes (stop_fault left_out token.start)
    go true e = record {
      tokens = tokens;
      split = split;
      number = i;
      token = token;
      stands = stands;
      place = refl;
      kind = e;
      before = goes_front (take i (lexemes_of bytes tokens)) on;
      behind = none;
    }
    go false e = record {
      tokens = tokens;
      split = split;
      number = i;
      token = token;
      stands = stands;
      place = refl;
      kind = e;
      before = goes_front (take i (lexemes_of bytes tokens)) on;
      behind = none;
    }

pub check_stops : (bytes : List ℕ) (tokens : List Token) (ts : List Lexeme) (i : ℕ) (f : ParseFault) → HasTokens bytes tokens → ts ≡ lexemes_of bytes tokens → i < length ts →
    Goes (read_of (take i ts)) → read_of (take (i + 1) ts) ≡ None →
    ((token : Token) (lexeme : Lexeme) → slice_get tokens i ≡ Some token → slice_get ts i ≡ Some lexeme → f ≡ stop_fault (is_left_out lexeme) token.start) → FaultMeans IsCauses ⊥ bytes f
check_stops bytes tokens ts i f split same inside on off fault = go (slice_get tokens i) refl
  where
    size : length ts ≡ length tokens
    size = ap length same ∙ length-map tokens (lexeme_at bytes)

    go : (found : Option Token) → slice_get tokens i ≡ found → FaultMeans IsCauses ⊥ bytes f
    go None e = absurd (none_within tokens i (omega (arith, size, inside)) e)
    go (Some token) e =
        let lexeme : slice_get ts i ≡ Some (lexeme_at bytes token) = ap (λ z. slice_get z i) same ∙ slice_get-map (lexeme_at bytes) tokens i ∙ ap (option_map (lexeme_at bytes)) e in
        let on' = subst (λ z. Goes (read_of (take i z))) same on in
        let off' : read_of (take (i + 1) (lexemes_of bytes tokens)) ≡ None = subst (λ z. read_of (take (i + 1) z) ≡ None) same off in
        subst (FaultMeans IsCauses ⊥ bytes) (sym (fault token (lexeme_at bytes token) e lexeme)) (stops bytes tokens i token split e on' off')

-- the answer where reading stops at no token, and nothing is spelled
pub check_ends : (bytes : List ℕ) (tokens : List Token) (ts : List Lexeme) (at : ℕ) (r : ReadSoFar) → HasTokens bytes tokens → ts ≡ lexemes_of bytes tokens → at ≡ length bytes →
    read_of ts ≡ Some r → is_start r.stage ≡ false → Unfinished IsCauses bytes at
check_ends bytes tokens ts at r split same place reads unended =
    let here : read_of (lexemes_of bytes tokens) ≡ Some r = subst (λ z. read_of z ≡ Some r) same reads in
    record {
      tokens = tokens;
      split = split;
      place = place;
      front = goes_front (lexemes_of bytes tokens) (r, here);
      incomplete = λ spelled.
          let whole : read_of (lexemes_of bytes tokens) ≡ Some (so_far start spelled.0) = causes_are_read [] spelled.1 in
          let both : Some r ≡ Some (so_far start spelled.0) = sym here ∙ whole in
          let one : r ≡ so_far start spelled.0 = some_same r (so_far start spelled.0) both in
          let clash : false ≡ true = sym unended ∙ ap (λ z. is_start z.stage) one in cc;
    }

-- a text that is read to its end spells the causes, and no others
pub whole_spelled : (bytes : List ℕ) (tokens : List Token) (ts : List Lexeme) (cs : List WrittenCause) → HasTokens bytes tokens → ts ≡ lexemes_of bytes tokens →
    read_of ts ≡ Some (so_far start cs) → BytesSpellCauses bytes cs
whole_spelled bytes tokens ts cs split same reads = (tokens, split, subst (λ z. SpellsCauses z cs) same (spelled_of cs ts reads))

pub only_spelled : (bytes : List ℕ) (tokens : List Token) (ts : List Lexeme) (cs : List WrittenCause) → ((others : List Token) → HasTokens bytes others → others ≡ tokens) →
    ts ≡ lexemes_of bytes tokens → read_of ts ≡ Some (so_far start cs) → (ds : List WrittenCause) → BytesSpellCauses bytes ds → cs ≡ ds
only_spelled bytes tokens ts cs only same reads ds spelled =
    let there : SpellsCauses (lexemes_of bytes tokens) ds = subst (λ z. SpellsCauses (lexemes_of bytes z) ds) (only spelled.0 spelled.1) spelled.2 in
    let read : read_of (lexemes_of bytes tokens) ≡ Some (so_far start ds) = causes_are_read [] there in
    let both : Some (so_far start cs) ≡ Some (so_far start ds) = sym reads ∙ ap read_of same ∙ read in
    ap (λ z. z.causes) (some_same (so_far start cs) (so_far start ds) both)

-- where the lexemes end, reading is whole at the start of a cause only
pub ended : (ts : List Lexeme) (cs : List WrittenCause) (s : Stage) (i : ℕ) (r : ReadExtent) → length ts ≤ i → read_of (take i ts) ≡ Some (so_far s cs) → r ≡ reading_at (is_start s) → ReadsTo ts cs r
ended ts cs s i r past reads is = subst (ReadsTo ts cs) (sym is) (at s (ap read_of (sym (take_all i ts past)) ∙ reads))
  where
    at : (s : Stage) → read_of ts ≡ Some (so_far s cs) → ReadsTo ts cs (reading_at (is_start s))
    at start e = e
    at named e = (so_far named cs, e, refl)
    at (within x) e = (so_far (within x) cs, e, refl)
    at (first x) e = (so_far (first x) cs, e, refl)
    at (dots x a) e = (so_far (dots x a) cs, e, refl)
    at (last x a) e = (so_far (last x a) cs, e, refl)
    at (strikes x a b) e = (so_far (strikes x a b) cs, e, refl)
    at (part x a b done path) e = (so_far (part x a b done path) cs, e, refl)
    at (after x a b done path) e = (so_far (after x a b done path) cs, e, refl)
