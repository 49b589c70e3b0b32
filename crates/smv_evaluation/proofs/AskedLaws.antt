-- The members of a set and the branches of a case, one after the other.
use Rattle.std.proofs.Common.{◌≡◌, ℕ, ◌+◌, ◌<◌, Bool, true, false, ◌||◌, cond, List, length, get_or, drop, refl, ap}
use Rattle.std.proofs.lemmas.List.{drop_more}
use Rattle.smv_language.specs.declared.expr.Expr.{Expr}
use Rattle.smv_language.specs.Language.{tree_of, trees_of, branches_of, Trees, no_tree, tree_then}
use Rattle.base_values.specs.declared.value.Value.{Value}
use Rattle.base_values.specs.declared.value.Value.TheVariants.{Bool as truth}
use Rattle.smv_evaluation.specs.declared.ask.AskedValue.{AskedValue}
use Rattle.smv_evaluation.specs.declared.ask.AskedValue.TheVariants.{ItsValue}
use Rattle.smv_evaluation.specs.OperatorValues.{is_true, either}
use Rattle.smv_evaluation.specs.Evaluation.{asked_of, members_of, taken_of}

pub members_more : {L : Type 0} (v w : L → Value) (asked : AskedValue) (ts : List (Expr L)) (i : ℕ) (d : Expr L) → i < length ts →
    members_of v w asked (trees_of (drop i ts)) ≡ cond (is_true (asked_of v w asked (tree_of (get_or ts i d)))) (truth true) (members_of v w asked (trees_of (drop (i + 1) ts)))
members_more v w asked ts i d h = ap (λ xs. members_of v w asked (trees_of xs)) (drop_more ts i d h)

pub taken_more : {L : Type 0} (v w : L → Value) (asked : AskedValue) (bs : List (Expr L × Expr L)) (i : ℕ) (d : Expr L × Expr L) → i < length bs →
    taken_of v w asked (branches_of (drop i bs)) ≡ cond (is_true (asked_of v w ItsValue (tree_of (get_or bs i d).0))) (asked_of v w asked (tree_of (get_or bs i d).1)) (taken_of v w asked (branches_of (drop (i + 1) bs)))
taken_more v w asked bs i d h = ap (λ xs. taken_of v w asked (branches_of xs)) (drop_more bs i d h)

-- of a set is answered TRUE or FALSE
pub members_truth : {L : Type 0} (v w : L → Value) (asked : AskedValue) (ts : Trees L) → truth (is_true (members_of v w asked ts)) ≡ members_of v w asked ts
members_truth v w asked no_tree = refl
members_truth v w asked (tree_then t ts) = by (is_true (asked_of v w asked t)) (members_of v w asked ts) (members_truth v w asked ts)
  where
    by : (b : Bool) (s : Value) → truth (is_true s) ≡ s → truth (is_true (cond b (truth true) s)) ≡ cond b (truth true) s
    by true s h = refl
    by false s h = h

pub either_is : (r s : Value) → truth (is_true s) ≡ s → either r s ≡ cond (is_true r) (truth true) s
either_is r s h = by (is_true r)
  where
    by : (b : Bool) → truth (b || is_true s) ≡ cond b (truth true) s
    by true = refl
    by false = h
