-- Where a list of expressions is read.
use Rattle.std.specs.Prelude.{◌≡◌, ℕ, false, List, [], ◌∷◌, Option, Some, None}
use Rattle.smv_lexer.specs.declared.token.Token.{Token}
use Rattle.smv_lexer.specs.Tokens.{HasTokens}
use Rattle.smv_language.specs.Language.{Formula, Lexeme, lexemes_of, SpellsExpressions}
use Rattle.smv_expression_reader.specs.declared.list.ListPlace.{ListPlace}
use Rattle.smv_expression_reader.specs.declared.list.ListPlace.TheVariants as p
use Rattle.smv_expression_reader.specs.declared.reading.ReadExtent.{ReadExtent}
use Rattle.smv_expression_reader.specs.Recogniser.{is_stuck}
use Rattle.smv_expression_reader.specs.Views.{state_with}
use Rattle.smv_expression_reader.specs.Readings.{stepped as grammar_stepped, expected_after as grammar_expected, ReadsTo}
use Rattle.smv_expression_reader.specs.Formulas.{Sym, more, again, expressions, live, formulas}
use Rattle.smv_expression_reader.specs.declared.frames.OpenFrame.{OpenFrame as Frame}

-- the list spells some list of expressions
abbrev pub IsExpressions : List Lexeme → Type 0
IsExpressions ts = (es : List Formula) × SpellsExpressions ts es

-- what is still expected there
abbrev pub place_view : ListPlace → List Frame → Option (List Sym)
place_view p.First s = Some (expressions ∷ [])
place_view p.Again s = Some (again ∷ [])
place_view (p.Inside mode) s = live (state_with mode s) (more ∷ [])

-- the same after a step, where the list went on
abbrev pub after_view : Option ListPlace → List Frame → Option (List Sym)
after_view None s = None
after_view (Some place) s = place_view place s

-- how far the list is read: the reading of this grammar
abbrev pub stepped : Option (List Sym) → Lexeme → Option (List Sym)
stepped = grammar_stepped Sym formulas

-- what is expected after these lexemes of a list
abbrev pub expected_after : List Lexeme → Option (List Sym)
expected_after = grammar_expected Sym formulas expressions

-- the reading is how far these lexemes can be read
abbrev pub ListReads : List Lexeme → ReadExtent → Type 0
ListReads = ReadsTo Sym formulas expressions

-- what is open there: nothing, or an expression that goes on
abbrev pub Fits : ListPlace → List Frame → Type 0
Fits p.First s = s ≡ []
Fits p.Again s = s ≡ []
Fits (p.Inside mode) s = is_stuck (state_with mode s) ≡ false

-- the bytes spell this list of expressions
abbrev pub BytesSpellExpressions : List ℕ → List Formula → Type 0
BytesSpellExpressions bytes es = (tokens : List Token) × HasTokens bytes tokens × SpellsExpressions (lexemes_of bytes tokens) es
