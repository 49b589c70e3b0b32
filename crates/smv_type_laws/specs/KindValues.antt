-- Values that lie in a kind, and expressions whose values are small and that divide by no 0.
use Rattle.std.specs.Prelude.{◌≡◌, ℤ, pos, IsTrue, Option, Some, None}
use Rattle.smv_language.specs.declared.expr.Op.{Op}
use Rattle.smv_language.specs.declared.expr.Op.TheVariants as op
use Rattle.smv_language.specs.Tree.{Tree, Trees, Branches, truth as is_truth, number as is_number, leaf, not_of, negate, next_of, binary}
use Rattle.smv_language.specs.Tree.{choice, case_of, set_of, span, no_tree, tree_then, no_branch, branch_then}
use Rattle.smv_language.specs.Values.{Value, truth, number, symbol, Values, one, has}
use Rattle.smv_language.specs.Evaluate.{Leaves, evaluate}
use Rattle.smv_type_laws.specs.Intervals.{Interval, IsIn, fits_number}
use Rattle.smv_type_laws.specs.ExpressionKinds.{Class, truth_class, number_class, symbol_class, Kind}

-- a value is of its class
abbrev pub IsOfClass : Class → Value → Type 0
IsOfClass truth_class (truth b) = Unit {0}
IsOfClass number_class (number n) = Unit {0}
IsOfClass symbol_class (symbol x) = Unit {0}
IsOfClass _ _ = ⊥

-- a number lies in an interval that is known
abbrev pub LiesIn : Option Interval → Value → Type 0
LiesIn None v = Unit {0}
LiesIn (Some i) (number n) = IsIn i n
LiesIn (Some i) (truth b) = Unit {0}
LiesIn (Some i) (symbol x) = Unit {0}

-- a value is of a kind: of its class, and in its interval
pub record IsOfKind (k : Kind) (v : Value) : Type 0 where
  pub class : IsOfClass k.class v
  pub lies : LiesIn k.interval v

-- what gives exactly one value, of the kind
pub record GivesOne (k : Kind) (given : Option Values) : Type 0 where
  pub value : Value
  pub is : given ≡ Some (one value)
  pub of_kind : IsOfKind k value

-- what gives values, each of the kind
pub record GivesSome (k : Kind) (given : Option Values) : Type 0 where
  pub values : Values
  pub is : given ≡ Some values
  pub of_kind : (v : Value) → IsTrue (has values v) → IsOfKind k v

-- no number of the values is beyond 32 bits
abbrev pub GivesSmall : Option Values → Type 0
GivesSmall given = (vs : Values) → given ≡ Some vs → (n : ℤ) → IsTrue (has vs (number n)) → IsTrue (fits_number n)

-- what divides is not 0
abbrev pub DividesByNoZero : Op → Option Values → Type 0
DividesByNoZero op.Over given = given ≡ Some (one (number (pos 0))) → ⊥
DividesByNoZero op.Mod given = given ≡ Some (one (number (pos 0))) → ⊥
DividesByNoZero _ given = Unit {0}

-- of the tree and of each of its parts, where it stands: its numbers are small, and what divides is not 0
abbrev mutual
  pub IsSafe : {L : Type 0} → Leaves L → Leaves L → Tree L → Type 0
  IsSafe now next (is_truth b) = GivesSmall (evaluate now next (is_truth b))
  IsSafe now next (is_number n) = GivesSmall (evaluate now next (is_number n))
  IsSafe now next (leaf l) = GivesSmall (now l)
  IsSafe now next (not_of a) = GivesSmall (evaluate now next (not_of a)) × IsSafe now next a
  IsSafe now next (negate a) = GivesSmall (evaluate now next (negate a)) × IsSafe now next a
  IsSafe now next (next_of a) = GivesSmall (evaluate now next (next_of a)) × IsSafe next next a
  IsSafe now next (binary o a b) =
      GivesSmall (evaluate now next (binary o a b)) × DividesByNoZero o (evaluate now next b) × IsSafe now next a × IsSafe now next b
  IsSafe now next (choice c a b) = GivesSmall (evaluate now next (choice c a b)) × IsSafe now next c × IsSafe now next a × IsSafe now next b
  IsSafe now next (case_of bs) = GivesSmall (evaluate now next (case_of bs)) × AreSafeBranches now next bs
  IsSafe now next (set_of ts) = GivesSmall (evaluate now next (set_of ts)) × AreSafe now next ts
  IsSafe now next (span lo hi) = GivesSmall (evaluate now next (span lo hi))

  pub AreSafe : {L : Type 0} → Leaves L → Leaves L → Trees L → Type 0
  AreSafe now next no_tree = Unit {0}
  AreSafe now next (tree_then t ts) = IsSafe now next t × AreSafe now next ts

  pub AreSafeBranches : {L : Type 0} → Leaves L → Leaves L → Branches L → Type 0
  AreSafeBranches now next no_branch = Unit {0}
  AreSafeBranches now next (branch_then c a bs) = IsSafe now next c × IsSafe now next a × AreSafeBranches now next bs
