-- Which instructions a list of tokens spells: a case for each line of the grammar.
use Rattle.std.specs.Prelude.{◌≡◌, ◌≢◌, ℕ, ℤ, true, false, List, [], ◌∷◌, ◌++◌, Option, Some, None, codes}
use Rattle.smv_lexer.specs.declared.token.TokenKind.{TokenKind}
use Rattle.smv_lexer.specs.declared.token.TokenKind.TheVariants as k
use Rattle.smv_lexer.specs.declared.token.Token.{Token}
use Rattle.smv_language.specs.Language.{Text, Formula, Value, symbol, Lexeme, word, num, sign, is_reserved, lexemes_of, SpellsInt}
use Rattle.smv_language.specs.Language.{SpellsMany, SpellsExpr}
use Rattle.smv_language.specs.Values.{truth, number}
use Rattle.smv_lexer.specs.Tokens.{HasTokens, sign_text}
use Rattle.fault_instructions.specs.declared.instructions.Dynamics.{Dynamics}
use Rattle.fault_instructions.specs.declared.instructions.Dynamics.TheVariants.{Permanent, Transient}
use Rattle.fault_instructions.specs.declared.instructions.Start.{Start}
use Rattle.fault_instructions.specs.declared.instructions.Start.TheVariants.{Nominal, Any}
use Rattle.fault_instructions.specs.declared.effects.PlainEffect.{PlainEffect}
use Rattle.fault_instructions.specs.declared.effects.ConstantEffect.{ConstantEffect}
use Rattle.fault_instructions.specs.declared.effects.ExpressionEffect.{ExpressionEffect}
use Rattle.fault_instructions.specs.declared.effects.NumberEffect.{NumberEffect}
use Rattle.fault_instructions.specs.declared.effects.NumbersEffect.{NumbersEffect}
use Rattle.fault_instructions.specs.Instructions.{EffectTree, plain, of_constant, of_expression, of_number, of_numbers, kind_of}
use Rattle.fault_instructions.specs.Instructions.{ModeTree, SliceTree, ExtensionTree, InstructionTree}
use Rattle.fault_instructions.specs.Effects.{keyword}

-- const = "TRUE" | "FALSE" | int | name
pub data SpellsConst : List Lexeme → Value → Type 0 where
  const_true : SpellsConst (word (codes "TRUE") ∷ []) (truth true)
  const_false : SpellsConst (word (codes "FALSE") ∷ []) (truth false)
  const_int : {ts : List Lexeme} {n : ℤ} → SpellsInt ts n → SpellsConst ts (number n)
  const_name : {x : Text} → is_reserved x ≡ false → SpellsConst (word x ∷ []) (symbol x)

-- the arguments of an effect in parentheses, where it has some
pub data SpellsArguments : List Lexeme → EffectTree → Type 0 where
  no_argument : {of : PlainEffect} → SpellsArguments [] (plain of)
  a_constant : {of : ConstantEffect} {ts : List Lexeme} {c : Value} → SpellsConst ts c →
      SpellsArguments (sign k.Open ∷ (ts ++ sign k.Close ∷ [])) (of_constant of c)
  an_expression : {of : ExpressionEffect} {ts : List Lexeme} {e : Formula} → SpellsExpr ts e →
      SpellsArguments (sign k.Open ∷ (ts ++ sign k.Close ∷ [])) (of_expression of e)
  a_number : {of : NumberEffect} {ts : List Lexeme} {n : ℤ} → SpellsInt ts n →
      SpellsArguments (sign k.Open ∷ (ts ++ sign k.Close ∷ [])) (of_number of n)
  two_numbers : {of : NumbersEffect} {xs ys : List Lexeme} {m n : ℤ} → SpellsInt xs m → SpellsInt ys n →
      SpellsArguments (sign k.Open ∷ (xs ++ sign k.Comma ∷ (ys ++ sign k.Close ∷ []))) (of_numbers of m n)

-- an effect is its word, and its arguments
pub data SpellsEffect : List Lexeme → EffectTree → Type 0 where
  an_effect : {us : List Lexeme} {e : EffectTree} → SpellsArguments us e → SpellsEffect (word (keyword (kind_of e)) ∷ us) e

-- "Permanent" | "Transient"
pub data SpellsDynamics : List Lexeme → Dynamics → Type 0 where
  d_permanent : SpellsDynamics (word (codes "Permanent") ∷ []) Permanent
  d_transient : SpellsDynamics (word (codes "Transient") ∷ []) Transient

-- [ "WHEN" expr ]
pub data SpellsGuard : List Lexeme → Option Formula → Type 0 where
  no_guard : SpellsGuard [] None
  a_guard : {ts : List Lexeme} {g : Formula} → SpellsExpr ts g → SpellsGuard (word (codes "WHEN") ∷ ts) (Some g)

-- [ "{" { token that is no "}" } "}" ], kept as the texts of its tokens
pub data IsTokenText : Lexeme → Text → Type 0 where
  number_text : {n : ℕ} {d : Text} → IsTokenText (num n d) d
  word_text : {x : Text} → IsTokenText (word x) x
  sign_of : {s : TokenKind} → s ≢ k.CloseBrace → IsTokenText (sign s) (sign_text s)

-- a mark, or none
pub data SpellsMark : List Lexeme → Option (List Text) → Type 0 where
  no_mark : SpellsMark [] None
  a_mark : {ts : List Lexeme} {xs : List Text} → SpellsMany (λ us x. (t : Lexeme) × (us ≡ t ∷ []) × IsTokenText t x) ts xs →
      SpellsMark (sign k.OpenBrace ∷ (ts ++ sign k.CloseBrace ∷ [])) (Some xs)

-- mode = "MODE" name mark ":" dynamics effect guard ";"
pub data SpellsMode : List Lexeme → ModeTree → Type 0 where
  a_mode : {x : Text} {ms ds es gs : List Lexeme} {mark : Option (List Text)} {d : Dynamics} {e : EffectTree} {g : Option Formula} →
      is_reserved x ≡ false → SpellsMark ms mark → SpellsDynamics ds d → SpellsEffect es e → SpellsGuard gs g →
      SpellsMode (word (codes "MODE") ∷ word x ∷ (ms ++ sign k.Colon ∷ (ds ++ (es ++ (gs ++ sign k.Semicolon ∷ [])))))
      (record { name = x; mark = mark; dynamics = d; effect = e; guard = g })

-- [ "INITIALLY" "ANY" ]
pub data SpellsStart : List Lexeme → Start → Type 0 where
  at_nominal : SpellsStart [] Nominal
  at_any : SpellsStart (word (codes "INITIALLY") ∷ word (codes "ANY") ∷ []) Any

-- slice = "SLICE" name "AFFECTS" name start "WITH" mode { mode }
pub data SpellsSlice : List Lexeme → SliceTree → Type 0 where
  a_slice : {x y : Text} {ns ts : List Lexeme} {start : Start} {ms : List ModeTree} →
      is_reserved x ≡ false → is_reserved y ≡ false → SpellsStart ns start → ms ≢ [] → SpellsMany SpellsMode ts ms →
      SpellsSlice (word (codes "SLICE") ∷ word x ∷ word (codes "AFFECTS") ∷ word y ∷ (ns ++ word (codes "WITH") ∷ ts))
      (record { name = x; target = y; start = start; modes = ms })

-- extension = "EXTENSION" "OF" "MODULE" name { slice }
pub data SpellsExtension : List Lexeme → ExtensionTree → Type 0 where
  an_extension : {x : Text} {ts : List Lexeme} {ss : List SliceTree} → is_reserved x ≡ false → SpellsMany SpellsSlice ts ss →
      SpellsExtension (word (codes "EXTENSION") ∷ word (codes "OF") ∷ word (codes "MODULE") ∷ word x
      ∷ ts) (record { of_module = x; slices = ss })

-- file = [ "FAULT" "EXTENSION" name ] { extension }
pub data SpellsInstructions : List Lexeme → InstructionTree → Type 0 where
  unnamed : {ts : List Lexeme} {xs : List ExtensionTree} → SpellsMany SpellsExtension ts xs →
      SpellsInstructions ts (record { name = None; extensions = xs })
  named : {x : Text} {ts : List Lexeme} {xs : List ExtensionTree} → is_reserved x ≡ false → SpellsMany SpellsExtension ts xs →
      SpellsInstructions (word (codes "FAULT") ∷ word (codes "EXTENSION") ∷ word x ∷ ts) (record { name = Some x; extensions = xs })

-- the tokens of the bytes spell the instructions
abbrev pub BytesSpellInstructions : List ℕ → InstructionTree → Type 0
BytesSpellInstructions bytes i = (tokens : List Token) × HasTokens bytes tokens × SpellsInstructions (lexemes_of bytes tokens) i
