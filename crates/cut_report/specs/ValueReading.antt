-- What a text is read as, by a domain.
use lib.Signed.{mag}
use Rattle.std.specs.Prelude.{◌≡◌, ◌⊎◌, ◌<◌, ◌^◌, List, Option, Some, None}
use Rattle.smv_language.specs.Language.{Text, told_value, value_text}
use Rattle.base_values.specs.declared.domain.Domain.{Domain}
use Rattle.base_values.specs.declared.domain.Domain.TheVariants as domain
use Rattle.base_values.specs.declared.value.Value.{Value as Numbered}
use Rattle.base_values.specs.declared.value.Value.TheVariants.{Bool as ABool, Num, Sym}
use Rattle.base_values.specs.Domains.{Has}
use Rattle.smv_types.specs.Types.{StandsFor}

-- the value has this text; a symbol has the number of its first place
pub record HasText (symbols : List Text) (text : Text) (v : Numbered) : Type 0 where
  pub stands : StandsFor symbols v (told_value symbols v)
  pub same : value_text (told_value symbols v) ≡ text

-- the value is a truth value
abbrev pub IsTruth : Numbered → Type 0
IsTruth (ABool b) = Unit {0}
IsTruth _ = ⊥

-- the value is a number of 64 bits
abbrev pub IsNumber : Numbered → Type 0
IsNumber (Num n) = mag n < 2 ^ 63
IsNumber _ = ⊥

-- the value is a symbol
abbrev pub IsSymbol : Numbered → Type 0
IsSymbol (Sym i) = Unit {0}
IsSymbol _ = ⊥

-- the value of this class that has the text, where one has it
abbrev pub IsReadOf : (Numbered → Type 0) → List Text → Text → Option Numbered → Type 0
IsReadOf P symbols text None = (v : Numbered) → P v → HasText symbols text v → ⊥
IsReadOf P symbols text (Some v) = P v × HasText symbols text v

-- the value of the domain's class that has the text, where one has it
abbrev pub IsParsed : List Text → Domain → Text → Option Numbered → Type 0
IsParsed symbols domain.Boolean text o = IsReadOf IsTruth symbols text o
IsParsed symbols (domain.Range lo hi) text o = IsReadOf IsNumber symbols text o
IsParsed symbols (domain.Numbers ns) text o = IsReadOf IsNumber symbols text o
IsParsed symbols (domain.Symbols ss) text o = IsReadOf IsSymbol symbols text o

-- the value, where the domain has it
abbrev pub IsAmong : Domain → Option Numbered → Option Numbered → Type 0
IsAmong d None r = r ≡ None
IsAmong d (Some v) r = (Has d v × (r ≡ Some v)) ⊎ ((Has d v → ⊥) × (r ≡ None))

-- a number is one of 64 bits
abbrev pub IsShort : Numbered → Type 0
IsShort (Num n) = mag n < 2 ^ 63
IsShort _ = Unit {0}

-- the value of the domain that has the text, where one has it
abbrev pub IsReadIn : List Text → Domain → Text → Option Numbered → Type 0
IsReadIn symbols d text None = (v : Numbered) → Has d v → IsShort v → HasText symbols text v → ⊥
IsReadIn symbols d text (Some v) = Has d v × HasText symbols text v
