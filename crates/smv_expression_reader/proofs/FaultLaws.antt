-- Faults of the tokens.
use Rattle.std.proofs.Common.{◌≡◌, List, ℕ, ◌⊎◌, inl, inr}
use Rattle.smv_lexer.specs.Faults.{HasNoSplit, IsFaultOf}
use Rattle.smv_lexer.specs.declared.token.LexFault.{LexFault}
use Rattle.smv_lexer.specs.declared.token.LexFault.TheVariants as lex
use Rattle.smv_language.specs.Lexemes.{Lexeme}
use Rattle.smv_expression_reader.specs.declared.fault.ParseFault.{ParseFault}
use Rattle.smv_expression_reader.specs.declared.fault.ParseFault.TheVariants as fault
use Rattle.smv_expression_reader.specs.Stops.{FaultMeans, IsOfTokens}

-- a refusal of the tokens that is no want of memory
pub lexical : (bytes : List ℕ) (f : LexFault) → (f ≡ lex.OutOfMemory → ⊥) → (f ≡ lex.OutOfMemory) ⊎ HasNoSplit bytes → (f ≡ lex.OutOfMemory) ⊎ IsFaultOf bytes f → IsOfTokens bytes (fault.Lex f)
lexical bytes f other (inl e) b = absurd (other e)
lexical bytes f other (inr none) (inl e) = absurd (other e)
lexical bytes f other (inr none) (inr is) = (is, none)

-- a fault of the tokens is one of the text
pub of_tokens : (IsSpelled : List Lexeme → Type 0) (Deep : Type 0) (bytes : List ℕ) (f : ParseFault) → IsOfTokens bytes f → FaultMeans IsSpelled Deep bytes f
of_tokens IsSpelled Deep bytes (fault.Lex f) h = h
of_tokens IsSpelled Deep bytes fault.OutOfMemory h = tt
of_tokens IsSpelled Deep bytes (fault.Unexpected at) h = absurd h
of_tokens IsSpelled Deep bytes (fault.End at) h = absurd h
of_tokens IsSpelled Deep bytes fault.TooDeep h = absurd h
of_tokens IsSpelled Deep bytes (fault.LeftOut at) h = absurd h
