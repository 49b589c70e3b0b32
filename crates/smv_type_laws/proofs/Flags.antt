-- A part that is right where no set may stand is judged the same where sets may.
use Rattle.std.proofs.Common.{◌≡◌, ◌∙◌, Bool, true, false, [], ◌∷◌, ◌++◌, List, Option, refl, ap}
use Rattle.smv_language.specs.declared.expr.Op.TheVariants as op
use Rattle.smv_language.specs.Tree.{Tree, Branches, truth as is_truth, number as is_number, leaf, not_of, negate, next_of, binary, choice, case_of, set_of, span, no_branch, branch_then}
use Rattle.smv_type_laws.specs.ExpressionKinds.{Kind, broken_in, ends_in_true, Class, KindRule, some_values, judged_choice, judged_case, judge, judge_conditions, judge_values}
use Rattle.smv_type_laws.specs.Intervals.{Interval}
use Rattle.smv_type_laws.proofs.Parts.{none_first, none_second}
use Rattle.smv_type_laws.proofs.TreeLaws.{no_set}

-- what is no set breaks no rule by where it stands
same_place : (b : Bool) (own : List KindRule) (c : Class) (i : Option Interval) (parts : List KindRule) → b ≡ false → some_values true b own c i parts ≡ some_values false b own c i parts
same_place true own c i parts e = cc
same_place false own c i parts e = refl

mutual
  pub same_judged : {L : Type 0} (k : L → Kind) (t : Tree L) → (judge k false t).broken ≡ [] → judge k true t ≡ judge k false t
  same_judged k (is_truth b) e = refl
  same_judged k (is_number n) e = refl
  same_judged k (leaf l) e = refl
  same_judged k (not_of a) e = refl
  same_judged k (negate a) e = refl
  same_judged k (next_of a) e = refl
  same_judged k (binary op.Times a b) e = refl
  same_judged k (binary op.Over a b) e = refl
  same_judged k (binary op.Mod a b) e = refl
  same_judged k (binary op.Plus a b) e = refl
  same_judged k (binary op.Minus a b) e = refl
  same_judged k (binary op.Union a b) e = cc (no_set k (binary op.Union a b) e)
  same_judged k (binary op.Within a b) e = refl
  same_judged k (binary op.Equal a b) e = refl
  same_judged k (binary op.Differs a b) e = refl
  same_judged k (binary op.Less a b) e = refl
  same_judged k (binary op.Greater a b) e = refl
  same_judged k (binary op.AtMost a b) e = refl
  same_judged k (binary op.AtLeast a b) e = refl
  same_judged k (binary op.And a b) e = refl
  same_judged k (binary op.Or a b) e = refl
  same_judged k (binary op.Xor a b) e = refl
  same_judged k (binary op.Xnor a b) e = refl
  same_judged k (binary op.Iff a b) e = refl
  same_judged k (binary op.Implies a b) e = refl
  same_judged k (choice c a b) e =
      let sides = none_second (judge k false c).broken _ (none_second _ ((judge k false c).broken ++ ((judge k false a).broken ++ (judge k false b).broken)) e) in
      let left = same_judged k a (none_first _ _ sides) in
      let right = same_judged k b (none_second (judge k false a).broken _ sides) in
      (λ i. judged_choice true (judge k false c) (left i) (right i)) ∙ same_place _ _ _ _ _ (no_set k (choice c a b) e)
  same_judged k (case_of bs) e =
      let parts = none_second _ (broken_in (judge_conditions k bs) ++ broken_in (judge_values k false bs)) e in
      ap (judged_case true (ends_in_true bs) (judge_conditions k bs)) (same_values k bs (none_second (broken_in (judge_conditions k bs)) _ parts))
      ∙ same_place _ _ _ _ _ (no_set k (case_of bs) e)
  same_judged k (set_of ts) e = cc (no_set k (set_of ts) e)
  same_judged k (span lo hi) e = cc (no_set k (span lo hi) e)

  same_values : {L : Type 0} (k : L → Kind) (bs : Branches L) → broken_in (judge_values k false bs) ≡ [] → judge_values k true bs ≡ judge_values k false bs
  same_values k no_branch e = refl
  same_values k (branch_then c a bs) e =
      let first = same_judged k a (none_first _ _ e) in
      let rest = same_values k bs (none_second (judge k false a).broken _ e) in
      λ i. first i ∷ rest i
