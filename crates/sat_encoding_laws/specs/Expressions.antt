-- Expressions as circuits: operands first, from left to right.
use Rattle.std.specs.Prelude.{ℕ, ℤ, false}
use Rattle.smv_language.specs.declared.expr.Op.{Op}
use Rattle.smv_language.specs.declared.expr.Op.TheVariants as op
use Rattle.smv_language.specs.Tree.{Tree, Trees, Branches, truth, number, leaf, not_of, negate, next_of, binary, choice, case_of, set_of}
use Rattle.smv_language.specs.Tree.{span, no_tree, tree_then, no_branch, branch_then}
use Rattle.sat_clauses.specs.Literal.{Literal, opposite}
use Rattle.sat_circuits.specs.Circuit.{Circuit, after}
use Rattle.sat_circuits.specs.Gates.{or_gate, constant_lit}
use Rattle.sat_circuits.specs.Numbers.{number_word}
use Rattle.sat_circuits.specs.Sums.{negate_gates}
use Rattle.sat_encoding_laws.specs.Signals.{Signal, bit, word, literal_in, word_in, as_bit, as_word, fitted, same_gates, choice_gates}
use Rattle.sat_encoding_laws.specs.Signals.{between_gates, operator_gates}

-- what is asked of an expression: its value, or whether that of a signal is among its values, as on the right of `in`
pub data Asked : Type 0 where
  its_value : Asked
  whether_has : Signal → Asked

-- the signals of names now and at the next moment, and the width of each expression's words
pub record Names (L : Type 0) : Type 0 where
  pub now : L → Signal
  pub next : L → Signal
  pub width : Tree L → ℕ

-- under `next` a name is what it is at the next moment
abbrev pub at_next : {L : Type 0} → Names L → Names L
at_next c = record { now = c.next; next = c.next; width = c.width }

-- of an expression that has one value: that value, or whether the signal has it
abbrev pub answer : Asked → Circuit × Signal → Circuit × Signal
answer its_value r = r
answer (whether_has v) r = after r (λ e t. as_bit (same_gates v e t))

-- whether the signal's number is one of a span; a span alone has no one value
abbrev pub span_gates : Asked → ℤ → ℤ → Circuit → Circuit × Signal
span_gates its_value lo hi s = (s, bit (constant_lit false))
span_gates (whether_has v) lo hi s = as_bit (between_gates (word_in v) lo hi s)

-- whether one of two is TRUE
abbrev pub union_gates : (Circuit → Circuit × Signal) → (Circuit → Circuit × Signal) → Circuit → Circuit × Signal
union_gates left right s = after (left s) (λ x t. after (right t) (λ y u. as_bit (or_gate (literal_in x) (literal_in y) u)))

-- the value of the left operand, and then whether the right one has it
abbrev pub within_gates : (Circuit → Circuit × Signal) → (Signal → Circuit → Circuit × Signal) → Circuit → Circuit × Signal
within_gates left has s = after (left s) (λ e t. has e t)

-- the values of both operands, and then the operator's gates
abbrev pub both_gates : Op → ℕ → (Circuit → Circuit × Signal) → (Circuit → Circuit × Signal) → Circuit → Circuit × Signal
both_gates o n left right s = after (left s) (λ e t. after (right t) (λ f u. operator_gates o n e f u))

-- An expression, over these names.
unfoldable mutual
  pub encoded : {L : Type 0} → Names L → Asked → Tree L → Circuit → Circuit × Signal
  encoded c m (truth b) s = answer m (s, bit (constant_lit b))
  encoded c m (number n) s = answer m (s, word (number_word n))
  encoded c m (leaf l) s = answer m (s, c.now l)
  encoded c m (not_of a) s = answer m (after (encoded c its_value a s) (λ e t. (t, bit (opposite (literal_in e)))))
  encoded c m (negate a) s = answer m (after (encoded c its_value a s) (λ e t. as_word (negate_gates (word_in e) (c.width (negate a)) t)))
  encoded c m (next_of a) s = answer m (encoded (at_next c) its_value a s)
  encoded c m (binary op.Union a b) s = union_gates (λ t. encoded c m a t) (λ t. encoded c m b t) s
  encoded c m (binary op.Within a b) s = answer m (within_gates (λ t. encoded c its_value a t) (λ e t. encoded c (whether_has e) b t) s)
  encoded c m (binary o a b) s =
      answer m (both_gates o (c.width (binary o a b)) (λ t. encoded c its_value a t) (λ t. encoded c its_value b t) s)
  encoded c m (choice d a b) s =
      after (encoded c its_value d s)
      (λ p t. after (encoded c m a t)
      (λ e u. after (encoded c m b u) (λ f w. choice_gates (c.width (choice d a b)) (literal_in p) e f w)))
  encoded c m (case_of bs) s = encoded_branches c m (c.width (case_of bs)) bs s
  encoded c m (set_of ts) s = encoded_members c m ts (constant_lit false) s
  encoded c m (span lo hi) s = span_gates m lo hi s

  -- conditions and values in written order, and the choices from the last but one branch to the first
  pub encoded_branches : {L : Type 0} → Names L → Asked → ℕ → Branches L → Circuit → Circuit × Signal
  encoded_branches c m n no_branch s = (s, bit (constant_lit false))
  encoded_branches c m n (branch_then d a no_branch) s = after (encoded c m a s) (λ e t. (t, fitted n e))
  encoded_branches c m n (branch_then d a (branch_then d' a' bs)) s =
      after (encoded c its_value d s) (λ p t.
      after (encoded c m a t) (λ e u.
      after (encoded_branches c m n (branch_then d' a' bs) u) (λ f w. choice_gates n (literal_in p) e f w)))

  -- whether the literal is TRUE or one of the members is
  pub encoded_members : {L : Type 0} → Names L → Asked → Trees L → Literal → Circuit → Circuit × Signal
  encoded_members c m no_tree r s = (s, bit r)
  encoded_members c m (tree_then t ts) r s =
      after (encoded c m t s) (λ x u. after (or_gate r (literal_in x) u) (λ q w. encoded_members c m ts q w))
