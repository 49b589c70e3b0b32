-- What a model costs, and how many bits its states have.
use Rattle.std.specs.Prelude.{ℕ, zero, suc, ◌+◌, ◌/◌, ℤ, pos, negsuc, max, nat_eq, true, false, Option, Some, None, List, [], ◌∷◌, length}
use Rattle.std.specs.Prelude.{map, sum_by}
use Rattle.smv_language.specs.declared.expr.Op.{Op}
use Rattle.smv_language.specs.declared.expr.Op.TheVariants as op
use Rattle.smv_language.specs.declared.program.Member.{Member}
use Rattle.smv_language.specs.declared.program.Member.TheVariants as member
use Rattle.smv_language.specs.Language.{Tree, Trees, Branches, leaf, not_of, negate, next_of, binary, choice, case_of, set_of, span}
use Rattle.smv_language.specs.Language.{no_tree, tree_then, no_branch, branch_then, Text, DeclaredTree, boolean, range, members, instance}
use Rattle.smv_language.specs.Language.{same_text, Role, state, input, frozen_role, FlatFormula, FlatModel}
use Rattle.smv_language.specs.Tree.{truth, number}
use Rattle.smv_type_laws.specs.Intervals.{Interval, just}
use Rattle.smv_type_laws.specs.ExpressionKinds.{Kind, number_class, hull_of}

-- a product, a quotient and a remainder cost 64, every other node 1
abbrev pub op_cost : Op → ℕ
op_cost op.Times = 64
op_cost op.Over = 64
op_cost op.Mod = 64
op_cost _ = 1

-- the cost of a tree, by the weights of its nodes
abbrev mutual
  pub cost_of : {L : Type 0} → Tree L → ℕ
  cost_of (truth b) = 1
  cost_of (number n) = 1
  cost_of (leaf l) = 1
  cost_of (not_of a) = cost_of a + 1
  cost_of (negate a) = cost_of a + 1
  cost_of (next_of a) = cost_of a + 1
  cost_of (binary o a b) = cost_of a + cost_of b + op_cost o
  cost_of (choice c a b) = cost_of c + cost_of a + cost_of b + 1
  cost_of (case_of bs) = branches_cost bs + 1
  cost_of (set_of ts) = trees_cost ts + 1
  cost_of (span lo hi) = 1

  pub trees_cost : {L : Type 0} → Trees L → ℕ
  trees_cost no_tree = 0
  trees_cost (tree_then t ts) = cost_of t + trees_cost ts

  pub branches_cost : {L : Type 0} → Branches L → ℕ
  branches_cost no_branch = 0
  branches_cost (branch_then c a bs) = cost_of c + cost_of a + branches_cost bs

-- as many as the members of a variable, 3 for a range
abbrev pub declared_cost : DeclaredTree → ℕ
declared_cost boolean = 0
declared_cost (range lo hi) = 3
declared_cost (members ms) = length ms
declared_cost (instance m actuals) = 0

-- of all these formulas
abbrev pub formulas_cost : List FlatFormula → ℕ
formulas_cost fs = sum_by (λ f. cost_of f.value) fs

-- of all variables, definitions and conditions of a model
abbrev pub model_cost : FlatModel → ℕ
model_cost m =
    sum_by (λ x. declared_cost x.declared) m.variables + formulas_cost m.definitions + formulas_cost m.at_first + formulas_cost m.at_each
    + formulas_cost m.at_step

-- the number of binary digits of a number below 2 ^ most
unfoldable pub digits_in : ℕ → ℕ → ℕ
digits_in zero n = 0
digits_in (suc most) n = elim (nat_eq n 0) [ true ↦ 0 | false ↦ suc (digits_in most (n / 2)) ]

-- the number of binary digits of a number that fits 64 bits; 0 has none
abbrev pub digits_of : ℕ → ℕ
digits_of n = digits_in 64 n

-- the bits of a number that is not below 0, without a sign
abbrev pub digits_above : ℤ → ℕ
digits_above (pos n) = digits_of n
digits_above (negsuc n) = 0

-- The bits of a variable with these least and greatest numbers: as many as digits where none is below 0, and at
-- least 1; else one more than the digits of the greatest, and of the least with all bits turned over.
abbrev pub width_of : Interval → ℕ
width_of i = elim i.lo [ pos n ↦ max 1 (digits_above i.hi) | negsuc n ↦ suc (max (digits_of n) (digits_above i.hi)) ]

-- the place of a symbol among all symbols
abbrev pub symbol_number : List Text → Text → ℕ
symbol_number [] x = 0
symbol_number (y ∷ ys) x = elim (same_text y x) [ true ↦ 0 | false ↦ suc (symbol_number ys x) ]

-- members are numbers, and symbols are their numbers
abbrev pub member_number : List Text → Member → ℤ
member_number symbols (member.Number n) = n
member_number symbols (member.Symbol x) = pos (symbol_number symbols x)

-- the kind of one number
abbrev pub number_kind : ℤ → Kind
number_kind n = record { class = number_class; interval = Some (just n) }

-- the width of an interval that is known
abbrev pub width_in : Option Interval → ℕ
width_in None = 0
width_in (Some i) = width_of i

-- the bits of a variable of a declared type, over these symbols; an instance has none
abbrev pub declared_width : List Text → DeclaredTree → ℕ
declared_width symbols boolean = 1
declared_width symbols (range lo hi) = width_of (record { lo = lo; hi = hi })
declared_width symbols (members ms) = width_in (hull_of (map (λ m. number_kind (member_number symbols m)) ms))
declared_width symbols (instance m actuals) = 0

-- inputs are no part of a state
abbrev pub role_width : Role → ℕ → ℕ
role_width state n = n
role_width frozen_role n = n
role_width input n = 0

-- the bits of a model's state and frozen variables
abbrev pub state_bits : FlatModel → ℕ
state_bits m = sum_by (λ x. role_width x.role (declared_width m.symbols x.declared)) m.variables
