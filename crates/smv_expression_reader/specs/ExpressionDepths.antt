-- The expressions in a text, as it is spelled, and whether they are too deep.
use Rattle.std.specs.Prelude.{ℕ, ◌≤◌, Bool, false, List, [], ◌∷◌, ◌++◌, nat_lt, ◌||◌}
use Rattle.base_values.specs.declared.limits.TheConstants.{MOST_HEIGHT, MOST_NESTED}
use Rattle.smv_lexer.specs.declared.token.Token.{Token}
use Rattle.smv_lexer.specs.Tokens.{HasTokens}
use Rattle.smv_language.specs.Language.{height_of, Formula, Lexeme, lexemes_of, nesting_of, SpellsMany, no_more, one_more, SpellsExpr}
use Rattle.smv_language.specs.Language.{SpellsFormula, open_ended, ended, SpellsExpressions, last_expression, more_expressions}
use Rattle.smv_expression_reader.specs.Lists.{BytesSpellExpressions}

-- an expression, and how it is spelled
pub record Spelling : Type 0 where
  pub lexemes : List Lexeme
  pub tree : Formula
  pub spelled : SpellsExpr lexemes tree

-- the tree is at most `MOST_HEIGHT` high, and its parentheses are nested at most `MOST_NESTED` deep
pub record IsWithin (s : Spelling) : Type 0 where
  pub low : height_of s.tree ≤ MOST_HEIGHT
  pub flat : nesting_of s.spelled ≤ MOST_NESTED

-- each of them is
abbrev pub AreWithin : List Spelling → Type 0
AreWithin [] = Unit {0}
AreWithin (s ∷ ss) = IsWithin s × AreWithin ss

-- the same, as a test
abbrev pub is_too_deep : Spelling → Bool
is_too_deep s = nat_lt MOST_NESTED (nesting_of s.spelled) || nat_lt MOST_HEIGHT (height_of s.tree)

-- some of them is
abbrev pub are_too_deep : List Spelling → Bool
are_too_deep [] = false
are_too_deep (s ∷ ss) = is_too_deep s || are_too_deep ss

-- an expression as it is spelled
abbrev pub spelling : {ts : List Lexeme} {e : Formula} → SpellsExpr ts e → Spelling
spelling {ts} {e} p = record { lexemes = ts; tree = e; spelled = p }

-- the expression of a formula, with a semicolon behind it or without
abbrev pub in_formula : {ts : List Lexeme} {e : Formula} → SpellsFormula ts e → Spelling
in_formula (open_ended p) = spelling p
in_formula (ended p) = spelling p

-- the expressions of a list of them
abbrev pub in_list : {ts : List Lexeme} {es : List Formula} → SpellsExpressions ts es → List Spelling
in_list (last_expression p) = in_formula p ∷ []
in_list (more_expressions p q) = spelling p ∷ in_list q

-- those of each of many parts
abbrev pub in_many : {A : Type 0} (One : List Lexeme → A → Type 0) (within : (ts : List Lexeme) (a : A) → One ts a →
    List Spelling) {ts : List Lexeme} {list : List A} →
    SpellsMany One ts list → List Spelling
in_many One within no_more = []
in_many One within (one_more {ts} {us} {a} p q) = within ts a p ++ in_many One within q

-- each of the expressions is within the depths, as the bytes spell them
abbrev pub HaveDepths : List ℕ → List Formula → Type 0
HaveDepths bytes es = (tokens : List Token) → HasTokens bytes tokens → (spelled : SpellsExpressions (lexemes_of bytes tokens) es) →
    AreWithin (in_list spelled)

-- the bytes spell a list of expressions, but not each within the depths
pub record AreTooDeep (bytes : List ℕ) : Type 0 where
  pub trees : List Formula
  pub spelled : BytesSpellExpressions bytes trees
  pub deep : HaveDepths bytes trees → ⊥
