-- A list that completes what stands before it.
use Rattle.std.specs.Prelude.{List, [], ◌∷◌, codes}
use Rattle.smv_lexer.specs.declared.token.TokenKind.TheVariants as k
use Rattle.smv_language.specs.Lexemes.{Lexeme, word, num, sign}
use Rattle.smv_expression_reader.specs.Recogniser.{State, wants, wants_not}
use Rattle.smv_expression_reader.specs.Recogniser.{wants_low, wants_dots, wants_high, wants_digits, wants_name, wants_open, wants_branch}
use Rattle.smv_expression_reader.specs.Recogniser.{had, stuck}
use Rattle.smv_expression_reader.specs.declared.frames.OpenFrame.{OpenFrame as Frame}
use Rattle.smv_expression_reader.specs.declared.frames.OpenFrame.TheVariants as frame

-- what closes all that is open, after an operand
abbrev pub close_all : List Frame → List Lexeme
close_all [] = []
close_all (frame.Group ∷ s) = sign k.Close ∷ close_all s
close_all (frame.Moment ∷ s) = sign k.Close ∷ close_all s
close_all (frame.Members ∷ s) = sign k.CloseBrace ∷ close_all s
close_all (frame.FirstChoice ∷ s) = sign k.Colon ∷ num 0 [] ∷ close_all s
close_all (frame.Condition ∷ s) = sign k.Colon ∷ num 0 [] ∷ sign k.Semicolon ∷ word (codes "esac") ∷ close_all s
close_all (frame.Outcome ∷ s) = sign k.Semicolon ∷ word (codes "esac") ∷ close_all s

-- what completes what stands before it
abbrev pub completion : State → List Lexeme
completion (wants s) = num 0 [] ∷ close_all s
completion (wants_not s) = num 0 [] ∷ close_all s
completion (wants_low s) = num 0 [] ∷ sign k.Dots ∷ num 0 [] ∷ close_all s
completion (wants_dots s) = sign k.Dots ∷ num 0 [] ∷ close_all s
completion (wants_high s) = num 0 [] ∷ close_all s
completion (wants_digits s) = num 0 [] ∷ close_all s
completion (wants_name s) = word (codes "x") ∷ close_all s
completion (wants_open s) = sign k.Open ∷ num 0 [] ∷ sign k.Close ∷ close_all s
completion (wants_branch s) = word (codes "esac") ∷ close_all s
completion (had e s) = close_all s
completion stuck = []
