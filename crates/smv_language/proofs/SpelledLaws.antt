-- What is spelled has a lexeme.
use Rattle.std.proofs.Common.{◌≡◌, ℤ, List, []}
use Rattle.smv_language.specs.Lexemes.{Lexeme}
use Rattle.smv_language.specs.Spells.{SpellsInt, plain_int, minus_int}

pub some_int : (us : List Lexeme) (n : ℤ) → SpellsInt us n → us ≡ [] → ⊥
some_int us n plain_int e = cc
some_int us n minus_int e = cc
