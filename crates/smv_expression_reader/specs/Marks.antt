-- What a lexeme is outside expressions, for all readers.
use Rattle.std.specs.Prelude.{ℕ, Bool, false, nat_eq}
use Rattle.smv_lexer.specs.declared.token.TokenKind.TheVariants as k
use Rattle.smv_language.specs.Language.{Lexeme, word, num, sign, section_words, is_among}
use Rattle.smv_expression_reader.specs.declared.mark.Mark.{Mark}
use Rattle.smv_expression_reader.specs.declared.mark.Mark.TheVariants as mark
use Rattle.smv_expression_reader.specs.Words.{use_of}

-- what a lexeme is; a sign of expressions alone has no mark
abbrev pub mark_of : Lexeme → Mark
mark_of (word x) = (use_of x).1
mark_of (num n d) = mark.Number
mark_of (sign k.Becomes) = mark.Becomes
mark_of (sign k.Dots) = mark.Dots
mark_of (sign k.Open) = mark.Open
mark_of (sign k.Close) = mark.Close
mark_of (sign k.OpenBrace) = mark.OpenBrace
mark_of (sign k.CloseBrace) = mark.CloseBrace
mark_of (sign k.Comma) = mark.Comma
mark_of (sign k.Semicolon) = mark.Semicolon
mark_of (sign k.Colon) = mark.Colon
mark_of (sign k.Dot) = mark.Dot
mark_of (sign k.Minus) = mark.Minus
mark_of (sign s) = mark.Nothing

-- whether a lexeme begins a module or a section
abbrev pub is_section : Lexeme → Bool
is_section (word x) = is_among section_words x
is_section (num n d) = false
is_section (sign s) = false

-- the number of a mark
abbrev pub mark_number : Mark → ℕ
mark_number mark.Module = 0
mark_number mark.Var = 1
mark_number mark.Ivar = 2
mark_number mark.Frozen = 3
mark_number mark.Define = 4
mark_number mark.Constants = 5
mark_number mark.Assign = 6
mark_number mark.Init = 7
mark_number mark.Invar = 8
mark_number mark.Trans = 9
mark_number mark.Skipped = 10
mark_number mark.Boolean = 11
mark_number mark.First = 12
mark_number mark.After = 13
mark_number mark.Name = 14
mark_number mark.Number = 15
mark_number mark.Becomes = 16
mark_number mark.Dots = 17
mark_number mark.Open = 18
mark_number mark.Close = 19
mark_number mark.OpenBrace = 20
mark_number mark.CloseBrace = 21
mark_number mark.Comma = 22
mark_number mark.Semicolon = 23
mark_number mark.Colon = 24
mark_number mark.Dot = 25
mark_number mark.Minus = 26
mark_number mark.Nothing = 27

-- whether two marks are the same
abbrev pub is_mark : Mark → Mark → Bool
is_mark c d = nat_eq (mark_number c) (mark_number d)
