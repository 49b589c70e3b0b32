-- What the code answers for an expression is what the expression gives.
use Rattle.std.proofs.Common.{◌≡◌, List, Some, refl, subst}
use Rattle.smv_language.specs.Language.{Text, Tree, Trees, Branches, leaf, not_of, negate, next_of, binary, choice, case_of, set_of, span, no_tree, tree_then, no_branch, branch_then, AllLeaves, AllLeavesOfTrees, AllLeavesOfBranches, one, Leaves, evaluate, evaluate_trees, evaluate_branches, AreApart, told_value}
use Rattle.smv_language.specs.Tree.{truth as is_truth, number as is_number}
use Rattle.base_values.specs.declared.value.Value.{Value}
use Rattle.base_values.specs.declared.value.Value.TheVariants.{Bool as truth, Num}
use Rattle.smv_type_laws.specs.KindValues.{GivesSmall, IsSafe, AreSafe, AreSafeBranches}
use Rattle.smv_evaluation.specs.declared.ask.AskedValue.{AskedValue}
use Rattle.smv_evaluation.specs.declared.ask.AskedValue.TheVariants.{ItsValue}
use Rattle.smv_evaluation.specs.Evaluation.{on_left, on_right, asked_of, members_of, taken_of}
use Rattle.smv_evaluation.specs.EvaluableModels.{IsNumbered}
use Rattle.smv_evaluation.proofs.AskedLaws.{members_truth, either_is}
use Rattle.smv_evaluation.proofs.Rows.{Answers, value_row, not_row, negative_row, binary_row, choice_row, span_row, union_row, no_member_row, no_branch_row}

small_of : {L : Type 0} (now next : Leaves L) (t : Tree L) → IsSafe now next t → GivesSmall (evaluate now next t)
small_of now next (is_truth b) s = s
small_of now next (is_number n) s = s
small_of now next (leaf l) s = s
small_of now next (not_of a) s = s.0
small_of now next (negate a) s = s.0
small_of now next (next_of a) s = s.0
small_of now next (binary o a b) s = s.0
small_of now next (choice c a b) s = s.0
small_of now next (case_of bs) s = s.0
small_of now next (set_of ts) s = s.0
small_of now next (span lo hi) s = s

module _ (L : Type 0) (symbols : List Text) (apart : AreApart symbols) (good : L → Type 0) where
  -- a name has one value, which the code knows
  pub record HasValue (leaves : Leaves L) (values : L → Value) (l : L) : Type 0 where
    pub numbered : IsNumbered symbols (values l)
    pub gives : leaves l ≡ Some (one (told_value symbols (values l)))

  abbrev pub Knows : Leaves L → (L → Value) → Type 0
  Knows leaves values = (l : L) → good l → HasValue leaves values l

  mutual
    pub answered : (now next : Leaves L) (v w : L → Value) → Knows now v → Knows next w → (asked : AskedValue) (t : Tree L) → AllLeaves good t → IsSafe now next t →
        Answers symbols asked (evaluate now next t) (asked_of v w asked t)
    answered now next v w p q asked (is_truth b) g s = value_row symbols apart asked _ (truth b) tt refl
    answered now next v w p q asked (is_number n) g s = value_row symbols apart asked _ (Num n) tt refl
    answered now next v w p q asked (leaf l) g s = value_row symbols apart asked (now l) (v l) (p l g).numbered (p l g).gives
    answered now next v w p q asked (not_of a) g s = not_row symbols apart asked (evaluate now next a) (asked_of v w ItsValue a) (answered now next v w p q ItsValue a g s.1)
    answered now next v w p q asked (negate a) g s =
        negative_row symbols apart asked (evaluate now next a) (asked_of v w ItsValue a) (small_of now next a s.1) (answered now next v w p q ItsValue a g s.1)
    answered now next v w p q asked (next_of a) g s = answered next next w w q q asked a g s.1
    answered now next v w p q asked (binary o a b) g s =
        binary_row symbols apart o asked (evaluate now next a) (evaluate now next b) (asked_of v w (on_left o asked) a) (asked_of v w (on_right o asked (asked_of v w (on_left o asked) a)) b)
        (small_of now next a s.2) (small_of now next b s.3) s.1 (answered now next v w p q (on_left o asked) a g.0 s.2)
        (answered now next v w p q (on_right o asked (asked_of v w (on_left o asked) a)) b g.1 s.3)
    answered now next v w p q asked (choice c a b) g s =
        choice_row symbols apart asked (evaluate now next c) (evaluate now next a) (evaluate now next b) (asked_of v w ItsValue c) (asked_of v w asked a) (asked_of v w asked b)
        (answered now next v w p q ItsValue c g.0 s.1) (answered now next v w p q asked a g.1 s.2) (answered now next v w p q asked b g.2 s.3)
    answered now next v w p q asked (case_of bs) g s = taken_answered now next v w p q asked bs g s.1
    answered now next v w p q asked (set_of ts) g s = members_answered now next v w p q asked ts g s.1
    answered now next v w p q asked (span lo hi) g s = span_row symbols apart asked lo hi

    members_answered : (now next : Leaves L) (v w : L → Value) → Knows now v → Knows next w → (asked : AskedValue) (ts : Trees L) → AllLeavesOfTrees good ts → AreSafe now next ts →
        Answers symbols asked (evaluate_trees now next ts) (members_of v w asked ts)
    members_answered now next v w p q asked no_tree g s = no_member_row symbols apart asked
    members_answered now next v w p q asked (tree_then t ts) g s =
        subst (Answers symbols asked (evaluate_trees now next (tree_then t ts))) (either_is (asked_of v w asked t) (members_of v w asked ts) (members_truth v w asked ts))
        (union_row symbols apart asked (evaluate now next t) (evaluate_trees now next ts) (asked_of v w asked t) (members_of v w asked ts)
        (answered now next v w p q asked t g.0 s.0) (members_answered now next v w p q asked ts g.1 s.1))

    taken_answered : (now next : Leaves L) (v w : L → Value) → Knows now v → Knows next w → (asked : AskedValue) (bs : Branches L) → AllLeavesOfBranches good bs →
        AreSafeBranches now next bs → Answers symbols asked (evaluate_branches now next bs) (taken_of v w asked bs)
    taken_answered now next v w p q asked no_branch g s = no_branch_row symbols apart asked
    taken_answered now next v w p q asked (branch_then c a bs) g s =
        choice_row symbols apart asked (evaluate now next c) (evaluate now next a) (evaluate_branches now next bs) (asked_of v w ItsValue c) (asked_of v w asked a) (taken_of v w asked bs)
        (answered now next v w p q ItsValue c g.0 s.0) (answered now next v w p q asked a g.1 s.1) (taken_answered now next v w p q asked bs g.2 s.2)
