-- The grammar of a list of expressions, as one that is read by one lexeme at a time.
use Rattle.std.specs.Prelude.{◌≡◌, refl, ◌⊎◌, Bool, true, false, List, [], ◌∷◌, Option, Some, None}
use Rattle.smv_lexer.specs.declared.token.TokenKind.TheVariants as k
use Rattle.smv_language.specs.Language.{Formula, Lexeme, num, sign, SpellsExpressions}
use Rattle.smv_expression_reader.specs.Recogniser.{role_of, State, stuck, is_whole, is_stuck, start}
use Rattle.smv_expression_reader.specs.Recogniser as machine
use Rattle.smv_expression_reader.specs.Complete.{completion}
use Rattle.smv_expression_reader.specs.PredictiveReader.{Grammar}
use Rattle.smv_expression_reader.specs.declared.machine.TokenRole.{TokenRole as Role}
use Rattle.smv_expression_reader.specs.declared.machine.TokenRole.TheVariants as role

-- what may still be expected of a list of expressions
pub data Sym : Type 0 where
  -- what is left of an expression
  formula : (st : State) → is_stuck st ≡ false → Sym
  -- what follows an expression, what follows a `;`, and the whole list
  more : Sym
  again : Sym
  expressions : Sym

-- the lexeme is a semicolon
abbrev pub is_semicolon : Role → Bool
is_semicolon role.Semicolon = true
is_semicolon _ = false

-- an expression in this state before other symbols, where it goes on
abbrev pub live : State → List Sym → Option (List Sym)
live stuck s = None
live st s = Some (formula st refl ∷ s)

-- what may follow a semicolon: nothing, or more expressions
abbrev pub IsAgain : List Lexeme → Type 0
IsAgain ts = (ts ≡ []) ⊎ ((es : List Formula) × SpellsExpressions ts es)

-- what may follow an expression: nothing, or a semicolon and what may follow that
abbrev pub IsMore : List Lexeme → Type 0
IsMore ts = (ts ≡ []) ⊎ ((us : List Lexeme) × (ts ≡ sign k.Semicolon ∷ us) × IsAgain us)

-- which lists a symbol stands for
abbrev pub spelled : Sym → List Lexeme → Type 0
spelled (formula st h) ts = is_whole (machine.run st ts) ≡ true
spelled more ts = IsMore ts
spelled again ts = IsAgain ts
spelled expressions ts = (es : List Formula) × SpellsExpressions ts es

-- whether it may be nothing
abbrev pub empty : Sym → Bool
empty (formula st h) = is_whole st
empty more = true
empty again = true
empty expressions = false

-- behind a semicolon the list may end or go on
abbrev pub after_semicolon : Role → Option (List Sym)
after_semicolon role.Semicolon = Some (again ∷ [])
after_semicolon _ = None

-- what is still expected of a symbol after a lexeme
abbrev pub next : Sym → Lexeme → Option (List Sym)
next (formula st h) t = live (machine.step st (role_of t)) []
next more t = after_semicolon (role_of t)
next again t = live (machine.step start (role_of t)) (more ∷ [])
next expressions t = live (machine.step start (role_of t)) (more ∷ [])

-- whether the lexeme may follow the symbol
abbrev pub follow : Sym → Lexeme → Bool
follow (formula st h) t = is_semicolon (role_of t)
follow _ t = false

-- a list that the symbol stands for
abbrev pub shortest : Sym → List Lexeme
shortest (formula st h) = completion st
shortest more = []
shortest again = []
shortest expressions = num 0 [] ∷ []

-- the grammar of a list of expressions
abbrev pub formulas : Grammar Sym
formulas = record { Spelled = spelled; empty = empty; next = next; follow = follow; shortest = shortest }
