-- A sign of the program's table as contracts see it.
use Rattle.smv_lexer.specs.Tokens as table
use Rattle.smv_lexer.specs.declared.sign.Sign.{Sign}

-- the sign of the table that a sign of the program is
abbrev pub viewed : Sign → table.Sign
viewed s = record { kind = s.kind; text = s.text.now }
