-- What the code computes of an expression: its value, or whether it may have a given one.
use Rattle.std.specs.Prelude.{ℤ, List, true, false, Option, Some, None, slice_get, if◌then◌else◌}
use Rattle.smv_language.specs.declared.expr.Op.{Op}
use Rattle.smv_language.specs.declared.expr.Op.TheVariants as op
use Rattle.smv_language.specs.Tree.{Tree, Trees, Branches, truth as is_truth, number as is_number, leaf, not_of, negate, next_of, binary}
use Rattle.smv_language.specs.Tree.{choice, case_of, set_of, span, no_tree, tree_then, no_branch, branch_then}
use Rattle.base_values.specs.declared.value.Value.{Value}
use Rattle.base_values.specs.declared.value.Value.TheVariants.{Bool as truth, Num, Sym}
use Rattle.smv_language.specs.declared.model.Flat.{Flat}
use Rattle.smv_language.specs.ModelTree.{leaf_of}
use Rattle.smv_language.specs.Flat.{FlatLeaf, flat_variable, flat_symbol, flat_definition}
use Rattle.smv_evaluation.specs.declared.ask.AskedValue.{AskedValue}
use Rattle.smv_evaluation.specs.declared.ask.AskedValue.TheVariants.{ItsValue, Whether}
use Rattle.smv_evaluation.specs.declared.ask.KnownValues.{KnownValues}
use Rattle.smv_evaluation.specs.OperatorValues.{same, is_true, opposite, negative, either, between, applied}

-- what is not there is FALSE
abbrev pub value_at : Option Value → Value
value_at None = truth false
value_at (Some v) = v

-- a value for each variable and each definition by its number; a symbol is itself
abbrev pub leaf_value : List Value → List Value → FlatLeaf → Value
leaf_value variables definitions (flat_variable i) = value_at (slice_get variables i)
leaf_value variables definitions (flat_definition i) = value_at (slice_get definitions i)
leaf_value variables definitions (flat_symbol i) = Sym i

-- the value of a name of the code
abbrev pub name_value : List Value → List Value → Flat → Value
name_value variables definitions name = leaf_value variables definitions (leaf_of name)

-- the value of a name, from what the code knows at a moment
abbrev pub known_value : KnownValues → Flat → Value
known_value k = name_value k.variables.now k.definitions.now

-- the answer of what has this one value
abbrev pub answer : AskedValue → Value → Value
answer ItsValue v = v
answer (Whether w) v = truth (same v w)

-- what is asked of an operator's left side
abbrev pub on_left : Op → AskedValue → AskedValue
on_left op.Union asked = asked
on_left _ asked = ItsValue

-- what is asked of the right side, once the left one has its value
abbrev pub on_right : Op → AskedValue → Value → AskedValue
on_right op.Union asked left = asked
on_right op.Within asked left = Whether left
on_right _ asked left = ItsValue

-- the answer of an operator, from those of its sides
abbrev pub operation : Op → AskedValue → Value → Value → Value
operation op.Union asked left right = either left right
operation op.Within asked left right = answer asked right
operation o asked left right = answer asked (applied o left right)

-- the answer of a span
abbrev pub in_span : AskedValue → ℤ → ℤ → Value
in_span ItsValue lo hi = truth false
in_span (Whether v) lo hi = truth (between lo hi v)

-- the answer of a tree, of the members of a set, and of the branches of a case
abbrev mutual
  pub asked_of : {L : Type 0} → (L → Value) → (L → Value) → AskedValue → Tree L → Value
  asked_of now next asked (is_truth b) = answer asked (truth b)
  asked_of now next asked (is_number n) = answer asked (Num n)
  asked_of now next asked (leaf l) = answer asked (now l)
  asked_of now next asked (not_of a) = answer asked (opposite (asked_of now next ItsValue a))
  asked_of now next asked (negate a) = answer asked (negative (asked_of now next ItsValue a))
  asked_of now next asked (next_of a) = asked_of next next asked a
  asked_of now next asked (binary o a b) =
      let left = asked_of now next (on_left o asked) a in
      operation o asked left (asked_of now next (on_right o asked left) b)
  asked_of now next asked (choice c a b) =
      if is_true (asked_of now next ItsValue c) then asked_of now next asked a else asked_of now next asked b
  asked_of now next asked (case_of bs) = taken_of now next asked bs
  asked_of now next asked (set_of ts) = members_of now next asked ts
  asked_of now next asked (span lo hi) = in_span asked lo hi

  pub members_of : {L : Type 0} → (L → Value) → (L → Value) → AskedValue → Trees L → Value
  members_of now next asked no_tree = truth false
  members_of now next asked (tree_then t ts) = if is_true (asked_of now next asked t) then truth true else members_of now next asked ts

  pub taken_of : {L : Type 0} → (L → Value) → (L → Value) → AskedValue → Branches L → Value
  taken_of now next asked no_branch = truth false
  taken_of now next asked (branch_then c a bs) =
      if is_true (asked_of now next ItsValue c) then asked_of now next asked a else taken_of now next asked bs
