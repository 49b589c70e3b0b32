-- Which causes a list of tokens spells.
use Rattle.std.specs.Prelude.{◌≡◌, ℕ, false, List, [], ◌∷◌, ◌++◌, codes}
use Rattle.smv_lexer.specs.declared.token.TokenKind.TheVariants as k
use Rattle.smv_lexer.specs.declared.token.Token.{Token}
use Rattle.smv_lexer.specs.Tokens.{HasTokens}
use Rattle.smv_language.specs.Language.{Text, Path, Lexeme, word, num, sign, is_reserved, lexemes_of, SpellsDotted, SpellsMany}
use Rattle.smv_language.specs.Language.{SpellsCommas}

-- a cause as it is written, with the names of the faults that it strikes
pub record WrittenCause : Type 0 where
  pub name : Text
  pub from : ℕ
  pub to : ℕ
  pub strikes : List Path

-- cause = "CAUSE" name "WITHIN" number ".." number "STRIKES" dotted { "," dotted } ";"
pub data SpellsCause : List Lexeme → WrittenCause → Type 0 where
  a_cause : {x a b : Text} {from to : ℕ} {ts : List Lexeme} {strikes : List Path} → is_reserved x ≡ false →
      SpellsCommas SpellsDotted ts strikes →
      SpellsCause (word (codes "CAUSE") ∷ word x ∷ word (codes "WITHIN") ∷ num from a ∷ sign k.Dots ∷ num to b ∷ word (codes "STRIKES")
      ∷ (ts ++ sign k.Semicolon ∷ []))
      (record { name = x; from = from; to = to; strikes = strikes })

-- causes = { cause }
abbrev pub SpellsCauses : List Lexeme → List WrittenCause → Type 0
SpellsCauses ts causes = SpellsMany SpellsCause ts causes

-- the bytes spell the causes
abbrev pub BytesSpellCauses : List ℕ → List WrittenCause → Type 0
BytesSpellCauses bytes causes = (tokens : List Token) × HasTokens bytes tokens × SpellsCauses (lexemes_of bytes tokens) causes
