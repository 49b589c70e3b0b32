-- What a signal says of the value of an expression, where every variable of the clauses has a value.
use Rattle.std.specs.Prelude.{◌≡◌, ℕ, ◌<◌, ◌^◌, ℤ, pos, Option, Some, List, length, slice_get}
use Rattle.smv_language.specs.ProgramTree.{Text}
use Rattle.smv_language.specs.Values.{Value, truth, number, symbol, Values, one, has}
use Rattle.sat_clauses.specs.Models.{TotalAssignment, literal_value, IsBelow}
use Rattle.sat_circuits.specs.Circuit.{Circuit}
use Rattle.sat_circuits.specs.Meaning.{HasTruth}
use Rattle.sat_circuits.specs.Words.{word_value, IsWordOf}
use Rattle.smv_type_laws.specs.ExpressionKinds.{Class}
use Rattle.smv_type_laws.specs.KindValues.{IsOfClass}
use Rattle.sat_encoding_laws.specs.Signals.{Signal, bit, word}
use Rattle.sat_encoding_laws.specs.Expressions.{Asked, its_value, whether_has}

-- the number is that of the symbol
pub record IsNumberOf (symbols : List Text) (x : Text) (z : ℤ) : Type 0 where
  pub place : ℕ
  pub at : slice_get symbols place ≡ Some x
  pub is : z ≡ pos place

-- the signal has the value: a literal a truth value, a word a number, or a symbol by its number
abbrev pub HasValue : List Text → TotalAssignment → Signal → Value → Type 0
HasValue symbols v (bit l) (truth b) = literal_value v l ≡ b
HasValue symbols v (word w) (number n) = word_value v w ≡ n
HasValue symbols v (word w) (symbol x) = IsNumberOf symbols x (word_value v w)
HasValue symbols v _ _ = ⊥

-- no symbol stands twice, and their numbers fit 32 bits
pub record AreSymbols (symbols : List Text) : Type 0 where
  pub apart : (i j : ℕ) (x : Text) → slice_get symbols i ≡ Some x → slice_get symbols j ≡ Some x → i ≡ j
  pub few : length symbols < 2 ^ 31

-- the signal may be used in that circuit: its variables are below the next free one, and a word has a sign
abbrev pub IsSignal : Circuit → Signal → Type 0
IsSignal s (bit l) = IsBelow s.free l
IsSignal s (word w) = IsWordOf s w

-- the clauses make the variable 1 true, and no gate defines it
pub record IsReady (s : Circuit) : Type 0 where
  pub truth : HasTruth s
  pub least : 1 < s.free

-- What is asked of an expression of that class, from what it gives: its only value, or whether a value of its class is
-- among its values.
abbrev pub Answers : List Text → TotalAssignment → Asked → Class → Option Values → Signal → Type 0
Answers symbols v its_value c given e = (x : Value) → given ≡ Some (one x) → HasValue symbols v e x
Answers symbols v (whether_has u) c given e = (x : Value) (vs : Values) → IsOfClass c x → HasValue symbols v u x → given ≡ Some vs →
    HasValue symbols v e (truth (has vs x))
