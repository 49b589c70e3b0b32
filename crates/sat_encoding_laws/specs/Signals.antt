-- What an expression becomes in a circuit, and the gates of each operator.
use Rattle.std.specs.Prelude.{ℕ, ℤ, false, List, [], ◌∷◌}
use Rattle.smv_language.specs.declared.expr.Op.{Op}
use Rattle.smv_language.specs.declared.expr.Op.TheVariants as op
use Rattle.sat_clauses.specs.Literal.{Literal, opposite}
use Rattle.sat_circuits.specs.Circuit.{Circuit, after}
use Rattle.sat_circuits.specs.Gates.{and_gate, or_gate, xor_gate, mux_gate, constant_lit}
use Rattle.sat_circuits.specs.Words.{fit}
use Rattle.sat_circuits.specs.Sums.{add_gates, subtract_gates, less_gates, equal_gates}
use Rattle.sat_circuits.specs.Numbers.{number_word}
use Rattle.sat_circuits.specs.Products.{multiply_gates}
use Rattle.sat_circuits.specs.Quotients.{choose_gates, divide_gates, remainder_gates}

-- a truth value is a literal, and a number or a symbol is a word
pub data Signal : Type 0 where
  bit : Literal → Signal
  word : List Literal → Signal

-- the literal of a truth value; a word, which no typed expression has there, counts as FALSE
abbrev pub literal_in : Signal → Literal
literal_in (bit l) = l
literal_in (word w) = constant_lit false

-- the word of a number or a symbol
abbrev pub word_in : Signal → List Literal
word_in (bit l) = l ∷ []
word_in (word w) = w

-- what gives a literal, as a signal
abbrev pub as_bit : Circuit × Literal → Circuit × Signal
as_bit r = (r.0, bit r.1)

-- what gives a word, as a signal
abbrev pub as_word : Circuit × List Literal → Circuit × Signal
as_word r = (r.0, word r.1)

-- what gives a literal, with its opposite
abbrev pub turned : Circuit × Literal → Circuit × Literal
turned r = (r.0, opposite r.1)

-- a word at that width
abbrev pub fitted : ℕ → Signal → Signal
fitted n (bit l) = bit l
fitted n (word w) = word (fit n w)

-- whether the two are the same value
abbrev pub same_gates : Signal → Signal → Circuit → Circuit × Literal
same_gates (bit a) (bit b) s = turned (xor_gate a b s)
same_gates (bit a) (word b) s = equal_gates (a ∷ []) b s
same_gates (word a) f s = equal_gates a (word_in f) s

-- the first where the condition is true, else the second; words at that width
abbrev pub choice_gates : ℕ → Literal → Signal → Signal → Circuit → Circuit × Signal
choice_gates n c (bit a) (bit b) s = as_bit (mux_gate c a b s)
choice_gates n c (bit a) (word b) s = as_word (choose_gates c (fit n (a ∷ [])) (fit n b) s)
choice_gates n c (word a) f s = as_word (choose_gates c (fit n a) (fit n (word_in f)) s)

-- whether the word is a number from one to another: not less than the first, and the last not less than it
unfoldable pub between_gates : List Literal → ℤ → ℤ → Circuit → Circuit × Literal
between_gates w lo hi s =
    after (less_gates w (number_word lo) s) (λ under t.
    after (less_gates (number_word hi) w t) (λ over u. and_gate (opposite under) (opposite over) u))

-- an operator on two values; a number has the width of the operator's kind
abbrev pub operator_gates : Op → ℕ → Signal → Signal → Circuit → Circuit × Signal
operator_gates op.Times n e f s = as_word (multiply_gates (word_in e) (word_in f) n s)
operator_gates op.Over n e f s = as_word (divide_gates (word_in e) (word_in f) n s)
operator_gates op.Mod n e f s = as_word (remainder_gates (word_in e) (word_in f) n s)
operator_gates op.Plus n e f s = as_word (add_gates (word_in e) (word_in f) n s)
operator_gates op.Minus n e f s = as_word (subtract_gates (word_in e) (word_in f) n s)
operator_gates op.Equal n e f s = as_bit (same_gates e f s)
operator_gates op.Differs n e f s = as_bit (turned (same_gates e f s))
operator_gates op.Less n e f s = as_bit (less_gates (word_in e) (word_in f) s)
operator_gates op.Greater n e f s = as_bit (less_gates (word_in f) (word_in e) s)
operator_gates op.AtMost n e f s = as_bit (turned (less_gates (word_in f) (word_in e) s))
operator_gates op.AtLeast n e f s = as_bit (turned (less_gates (word_in e) (word_in f) s))
operator_gates op.And n e f s = as_bit (and_gate (literal_in e) (literal_in f) s)
operator_gates op.Or n e f s = as_bit (or_gate (literal_in e) (literal_in f) s)
operator_gates op.Xor n e f s = as_bit (xor_gate (literal_in e) (literal_in f) s)
operator_gates op.Xnor n e f s = as_bit (turned (xor_gate (literal_in e) (literal_in f) s))
operator_gates op.Iff n e f s = as_bit (turned (xor_gate (literal_in e) (literal_in f) s))
operator_gates op.Implies n e f s = as_bit (or_gate (opposite (literal_in e)) (literal_in f) s)
operator_gates op.Union n e f s = (s, bit (constant_lit false))
operator_gates op.Within n e f s = (s, bit (constant_lit false))
