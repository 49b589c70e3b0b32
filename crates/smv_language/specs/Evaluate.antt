-- The values of an expression, from those of its leaves now and at the next moment.
use Rattle.std.specs.Prelude.{true, false, Option, Some, None, pos, ◌-ℤ◌}
use Rattle.smv_language.specs.declared.expr.Op.{Op}
use Rattle.smv_language.specs.declared.expr.Op.TheVariants as op
use Rattle.smv_language.specs.Tree.{Tree, Trees, Branches, truth as is_truth, number as is_number, leaf, not_of, negate, next_of, binary}
use Rattle.smv_language.specs.Tree.{choice, case_of, set_of, span, no_tree, tree_then, no_branch, branch_then}
use Rattle.smv_language.specs.Values.{Value, truth, number, Values, no_value, one, from_to, either, has, apply, opposite}

-- what the leaves give; none where a leaf means no value
abbrev pub Leaves : Type 0 → Type 0
Leaves L = L → Option Values

-- a result as values
abbrev pub gives_one : Option Value → Option Values
gives_one (Some v) = Some (one v)
gives_one None = None

-- the opposite of one truth value
abbrev pub gives_not : Option Values → Option Values
gives_not (Some (one (truth b))) = Some (one (truth (opposite b)))
gives_not _ = None

-- one number with the other sign
abbrev pub gives_negative : Option Values → Option Values
gives_negative (Some (one (number n))) = Some (one (number (pos 0 -ℤ n)))
gives_negative _ = None

-- the values of both sides
abbrev pub gives_either : Option Values → Option Values → Option Values
gives_either (Some a) (Some b) = Some (either a b)
gives_either _ _ = None

-- TRUE exactly where the value is one of the others
abbrev pub gives_within : Option Values → Option Values → Option Values
gives_within (Some (one v)) (Some s) = Some (one (truth (has s v)))
gives_within _ _ = None

-- an operator on one value of each side
abbrev pub gives_applied : Op → Option Values → Option Values → Option Values
gives_applied o (Some (one v)) (Some (one w)) = gives_one (apply o v w)
gives_applied o _ _ = None

-- an operator on the values of its operands
abbrev pub gives_binary : Op → Option Values → Option Values → Option Values
gives_binary op.Union a b = gives_either a b
gives_binary op.Within a b = gives_within a b
gives_binary o a b = gives_applied o a b

-- the branch taken
abbrev pub gives_choice : Option Values → Option Values → Option Values → Option Values
gives_choice (Some (one (truth true))) a b = a
gives_choice (Some (one (truth false))) a b = b
gives_choice _ a b = None

-- the values of a tree, of the members of a set, and of the branches of a case
abbrev mutual
  pub evaluate : {L : Type 0} → Leaves L → Leaves L → Tree L → Option Values
  evaluate now next (is_truth b) = Some (one (truth b))
  evaluate now next (is_number n) = Some (one (number n))
  evaluate now next (leaf l) = now l
  evaluate now next (not_of a) = gives_not (evaluate now next a)
  evaluate now next (negate a) = gives_negative (evaluate now next a)
  evaluate now next (next_of a) = evaluate next next a
  evaluate now next (binary o a b) = gives_binary o (evaluate now next a) (evaluate now next b)
  evaluate now next (choice c a b) = gives_choice (evaluate now next c) (evaluate now next a) (evaluate now next b)
  evaluate now next (case_of bs) = evaluate_branches now next bs
  evaluate now next (set_of ts) = evaluate_trees now next ts
  evaluate now next (span lo hi) = Some (from_to lo hi)

  pub evaluate_trees : {L : Type 0} → Leaves L → Leaves L → Trees L → Option Values
  evaluate_trees now next no_tree = Some no_value
  evaluate_trees now next (tree_then t ts) = gives_either (evaluate now next t) (evaluate_trees now next ts)

  -- the first branch whose condition is TRUE
  pub evaluate_branches : {L : Type 0} → Leaves L → Leaves L → Branches L → Option Values
  evaluate_branches now next no_branch = None
  evaluate_branches now next (branch_then c a bs) = gives_choice (evaluate now next c) (evaluate now next a) (evaluate_branches now next bs)
