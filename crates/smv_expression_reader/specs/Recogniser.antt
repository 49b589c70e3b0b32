-- A machine that takes one lexeme at a time, with a stack of what is still to be closed.
use Rattle.std.specs.Prelude.{Bool, true, false, List, [], ◌∷◌}
use Rattle.smv_lexer.specs.declared.token.TokenKind.TheVariants as k
use Rattle.smv_language.specs.declared.expr.Op.TheVariants as op
use Rattle.smv_language.specs.Language.{Lexeme, word, num, sign}
use Rattle.smv_expression_reader.specs.declared.frames.OpenFrame.{OpenFrame as Frame}
use Rattle.smv_expression_reader.specs.declared.machine.TokenRole.{TokenRole as Role}
use Rattle.smv_expression_reader.specs.declared.frames.OpenFrame.TheVariants as frame
use Rattle.smv_expression_reader.specs.declared.machine.TokenRole.TheVariants as role
use Rattle.smv_expression_reader.specs.Words.{use_of}

-- what a lexeme is in an expression
abbrev pub role_of : Lexeme → Role
role_of (word x) = (use_of x).0
role_of (num n d) = role.Number
role_of (sign k.Minus) = role.Minus
role_of (sign k.Bang) = role.Bang
role_of (sign k.Star) = role.Joins op.Times
role_of (sign k.Slash) = role.Joins op.Over
role_of (sign k.Plus) = role.Joins op.Plus
role_of (sign k.Equal) = role.Joins op.Equal
role_of (sign k.NotEqual) = role.Joins op.Differs
role_of (sign k.Less) = role.Joins op.Less
role_of (sign k.Greater) = role.Joins op.Greater
role_of (sign k.AtMost) = role.Joins op.AtMost
role_of (sign k.AtLeast) = role.Joins op.AtLeast
role_of (sign k.And) = role.Joins op.And
role_of (sign k.Bar) = role.Joins op.Or
role_of (sign k.Iff) = role.Joins op.Iff
role_of (sign k.Implies) = role.Joins op.Implies
role_of (sign k.Question) = role.Asks
role_of (sign k.Colon) = role.Colon
role_of (sign k.Semicolon) = role.Semicolon
role_of (sign k.Comma) = role.Comma
role_of (sign k.Dot) = role.Dot
role_of (sign k.Dots) = role.Dots
role_of (sign k.Open) = role.Opens
role_of (sign k.Close) = role.Closes
role_of (sign k.OpenBrace) = role.OpensSet
role_of (sign k.CloseBrace) = role.ClosesSet
role_of (sign s) = role.Nothing

-- what an operand ended with
pub data Ended : Type 0 where
  by_number : Ended
  by_name : Ended
  by_other : Ended

-- what may come next, with what is open
pub data State : Type 0 where
  -- an operand is to come
  wants : List Frame → State
  -- after `!`
  wants_not : List Frame → State
  -- after `!` and `-`, and after the number behind them
  wants_low : List Frame → State
  wants_dots : List Frame → State
  -- after `..`, and after the `-` behind it
  wants_high : List Frame → State
  wants_digits : List Frame → State
  -- after `.`, after `next`, and after a branch
  wants_name : List Frame → State
  wants_open : List Frame → State
  wants_branch : List Frame → State
  -- an operand stands here
  had : Ended → List Frame → State
  -- no list goes on
  stuck : State

-- what begins an operand, other than `-`
abbrev pub begin : List Frame → Role → State
begin s (role.Truth b) = had by_other s
begin s role.Name = had by_name s
begin s role.Number = had by_number s
begin s role.Next = wants_open s
begin s role.Case = wants (frame.Condition ∷ s)
begin s role.Bang = wants_not s
begin s role.Opens = wants (frame.Group ∷ s)
begin s role.OpensSet = wants (frame.Members ∷ s)
begin s _ = stuck

-- what closes a frame, or goes on inside it
abbrev pub close : List Frame → Role → State
close (frame.Group ∷ s) role.Closes = had by_other s
close (frame.Moment ∷ s) role.Closes = had by_other s
close (frame.Members ∷ s) role.ClosesSet = had by_other s
close (frame.Members ∷ s) role.Comma = wants (frame.Members ∷ s)
close (frame.FirstChoice ∷ s) role.Colon = wants s
close (frame.Condition ∷ s) role.Colon = wants (frame.Outcome ∷ s)
close (frame.Outcome ∷ s) role.Semicolon = wants_branch s
close _ _ = stuck

-- what follows an operand
abbrev pub follow : List Frame → Role → State
follow s (role.Joins o) = wants s
follow s role.Minus = wants s
follow s role.Asks = wants (frame.FirstChoice ∷ s)
follow s c = close s c

-- the state after one more lexeme
abbrev pub step : State → Role → State
step (wants s) role.Minus = wants s
step (wants s) c = begin s c
step (wants_not s) role.Minus = wants_low s
step (wants_not s) c = begin s c
step (wants_low s) role.Number = wants_dots s
step (wants_low s) c = stuck
step (wants_dots s) role.Dots = wants_high s
step (wants_dots s) c = stuck
step (wants_high s) role.Minus = wants_digits s
step (wants_high s) role.Number = had by_other s
step (wants_high s) c = stuck
step (wants_digits s) role.Number = had by_other s
step (wants_digits s) c = stuck
step (wants_name s) role.Name = had by_name s
step (wants_name s) c = stuck
step (wants_open s) role.Opens = wants (frame.Moment ∷ s)
step (wants_open s) c = stuck
step (wants_branch s) role.Esac = had by_other s
step (wants_branch s) role.Minus = wants (frame.Condition ∷ s)
step (wants_branch s) c = begin (frame.Condition ∷ s) c
step (had by_number s) role.Dots = wants_high s
step (had by_name s) role.Dot = wants_name s
step (had e s) c = follow s c
step stuck c = stuck

-- the state after a list of lexemes
abbrev pub run : State → List Lexeme → State
run st [] = st
run st (t ∷ ts) = run (step st (role_of t)) ts

-- nothing is open, and an operand stands here
abbrev pub is_whole : State → Bool
is_whole (had e []) = true
is_whole _ = false

-- no list goes on
abbrev pub is_stuck : State → Bool
is_stuck stuck = true
is_stuck _ = false

-- before the first lexeme an operand is to come
abbrev pub start : State
start = wants []
