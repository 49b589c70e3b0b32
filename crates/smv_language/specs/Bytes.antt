-- Which trees the bytes of a text spell.
use Rattle.std.specs.Prelude.{ℕ, ◌≤◌, List}
use Rattle.base_values.specs.declared.limits.TheConstants.{MOST_HEIGHT, MOST_NESTED}
use Rattle.smv_lexer.specs.declared.token.Token.{Token}
use Rattle.smv_lexer.specs.Tokens.{HasTokens}
use Rattle.smv_language.specs.Tree.{height_of}
use Rattle.smv_language.specs.ProgramTree.{Formula, ProgramTree}
use Rattle.smv_language.specs.Lexemes.{lexemes_of}
use Rattle.smv_language.specs.SpellsProgram.{SpellsProgram, SpellsExpr}
use Rattle.smv_language.specs.Nesting.{nesting_of}

-- the bytes have tokens that spell the program
abbrev pub BytesSpellProgram : List ℕ → ProgramTree → Type 0
BytesSpellProgram bytes p = (tokens : List Token) × HasTokens bytes tokens × SpellsProgram (lexemes_of bytes tokens) p

-- the bytes have tokens that spell the expression
abbrev pub BytesSpellExpr : List ℕ → Formula → Type 0
BytesSpellExpr bytes e = (tokens : List Token) × HasTokens bytes tokens × SpellsExpr (lexemes_of bytes tokens) e

-- the tree is at most `MOST_HEIGHT` high, and as it is spelled parentheses are nested at most `MOST_NESTED` deep
abbrev pub HasDepths : List ℕ → Formula → Type 0
HasDepths bytes e =
    (height_of e ≤ MOST_HEIGHT)
    × ((tokens : List Token) → HasTokens bytes tokens → (spelled : SpellsExpr (lexemes_of bytes tokens) e) →
    nesting_of spelled ≤ MOST_NESTED)
