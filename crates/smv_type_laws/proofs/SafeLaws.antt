-- In an expression that breaks no rule no number is beyond 32 bits, and nothing is divided by 0.
use Rattle.std.proofs.Common.{◌≡◌, ℕ, ◌≤◌, ◌^◌, Bool, true, false, ltb, List, [], ◌++◌, Option, Some, None, ℤ, pos, negsuc, ◌≤ℤ◌, sym, subst, arith}
use Rattle.std.proofs.lemmas.Int.{ints}
use Rattle.std.proofs.lemmas.Bool.{lt-ltb, ltb-true}
use Rattle.smv_language.specs.declared.expr.Op.{Op}
use Rattle.smv_language.specs.declared.expr.Op.TheVariants as op
use Rattle.smv_language.specs.Language.{Tree, Trees, Branches, leaf, not_of, negate, next_of, binary, choice, case_of, set_of, span, no_tree, tree_then, no_branch, branch_then, AllLeaves, AllLeavesOfTrees, AllLeavesOfBranches, Values, one, has, Leaves, evaluate}
use Rattle.smv_language.specs.Tree.{truth as is_truth, number as is_number}
use Rattle.smv_language.specs.Values.{number}
use Rattle.smv_type_laws.specs.Intervals.{Interval, fits_number}
use Rattle.smv_type_laws.specs.ExpressionKinds.{Class, truth_class, number_class, symbol_class, Kind, KindRule, mismatch, unless_class, wide, zero_rule, on_both, exact_interval, Judged, judged_binary, broken_in, judge, judge_trees, judge_conditions, judge_values, sets_on_left, sets_on_right}
use Rattle.smv_type_laws.specs.KindValues.{IsOfClass, LiesIn, GivesSmall, DividesByNoZero, IsSafe, AreSafe, AreSafeBranches}
use Rattle.smv_type_laws.proofs.Quotients.{NotZero, divisor_not_zero}
use Rattle.smv_type_laws.proofs.Parts.{none_first, none_second, not_if, class_kept, Bounded, Alone, Sound}
use Rattle.smv_type_laws.proofs.Rows.{number_given, bounded_as}
use Rattle.smv_type_laws.proofs.TreeLaws.{Hold, sound, single}
use Rattle.smv_lexer.proofs.SignLemmas.{both_true}

below : (n m h : ℕ) → ltb m h ≡ true → n ≤ m → ltb n h ≡ true
below n m h e p = let q = ltb-true m h e in lt-ltb n h (omega arith)

between_fits : (lo n hi : ℤ) → fits_number lo ≡ true → fits_number hi ≡ true → lo ≤ℤ n → n ≤ℤ hi → fits_number n ≡ true
between_fits lo (pos n) (pos hi) a b p q = below n hi (2 ^ 31) b (omega (arith, ints))
between_fits lo (pos n) (negsuc hi) a b p q = absurd (omega (arith, ints))
between_fits (pos lo) (negsuc n) hi a b p q = absurd (omega (arith, ints))
between_fits (negsuc lo) (negsuc n) hi a b p q = below n lo (2 ^ 31) a (omega (arith, ints))

small_in : (c : Class) (i : Option Interval) (n : ℤ) → Bounded c i → IsOfClass c (number n) → LiesIn i (number n) → fits_number n ≡ true
small_in truth_class i n b h l = absurd h
small_in symbol_class i n b h l = absurd h
small_in number_class None n b h l = absurd b
small_in number_class (Some i) n b h l = let e = both_true _ _ b in between_fits i.lo n i.hi e.0 e.1 l.above l.below

pub small : {j : Judged} {given : Option Values} → Sound j given → GivesSmall given
small {j} s vs e n h =
    let same : s.gives.values ≡ vs = cc (s.gives.is, e) in
    let k = s.gives.of_kind (number n) (subst (λ us. has us (number n) ≡ true) (sym same) h) in
    small_in j.kind.class j.kind.interval n s.bounded k.class k.lies

no_zero_in : (i : Option Interval) (n : ℤ) → Bounded number_class i → LiesIn i (number n) → zero_rule i ≡ [] → NotZero n
no_zero_in None n b l z = absurd b
no_zero_in (Some i) n b l z = divisor_not_zero i n (not_if _ _ z) l

no_zero : (b : Judged) (given : Option Values) → unless_class number_class mismatch b.kind ≡ [] → zero_rule b.kind.interval ≡ [] → Alone b given →
    given ≡ Some (one (number (pos 0))) → ⊥
no_zero b given c z a e =
    let same = class_kept _ _ b.kind c in
    let x = number_given a same in
    let is : x.0 ≡ pos 0 = cc (x.1, e) in
    let more : NotZero (pos 0) = subst NotZero is (no_zero_in b.kind.interval x.0 (bounded_as a same) x.2 z) in
    omega (arith, more)

divides : (a b : Judged) (given : Option Values) (o : Op) →
    (unless_class number_class mismatch a.kind ++ (unless_class number_class mismatch b.kind ++ (zero_rule b.kind.interval ++ wide (on_both (exact_interval o) a.kind.interval b.kind.interval)))) ++ (a.broken ++ b.broken) ≡ [] →
    (b.broken ≡ [] → Alone b given) → given ≡ Some (one (number (pos 0))) → ⊥
divides a b given o e h =
    let exact = on_both (exact_interval o) a.kind.interval b.kind.interval in
    let left = unless_class number_class mismatch a.kind in
    let right = unless_class number_class mismatch b.kind in
    let rest = zero_rule b.kind.interval ++ wide exact in
    let own = left ++ (right ++ rest) in
    let more = none_second left (right ++ rest) (none_first own (a.broken ++ b.broken) e) in
    no_zero b given (none_first right rest more) (none_first _ _ (none_second right rest more)) (h (none_second a.broken b.broken (none_second own (a.broken ++ b.broken) e)))

both_kept : (own left right : List KindRule) → own ++ (left ++ right) ≡ [] → (left ≡ []) × (right ≡ [])
both_kept own left right e = let parts = none_second own (left ++ right) e in (none_first left right parts, none_second left right parts)

sides_kept : (sets : Bool) (o : Op) (a b : Judged) → (judged_binary sets o a b).broken ≡ [] → (a.broken ≡ []) × (b.broken ≡ [])
sides_kept sets op.Times a b e = both_kept _ a.broken b.broken e
sides_kept sets op.Over a b e = both_kept _ a.broken b.broken e
sides_kept sets op.Mod a b e = both_kept _ a.broken b.broken e
sides_kept sets op.Plus a b e = both_kept _ a.broken b.broken e
sides_kept sets op.Minus a b e = both_kept _ a.broken b.broken e
sides_kept sets op.Union a b e = both_kept _ a.broken b.broken e
sides_kept sets op.Within a b e = both_kept _ a.broken b.broken e
sides_kept sets op.Equal a b e = both_kept _ a.broken b.broken e
sides_kept sets op.Differs a b e = both_kept _ a.broken b.broken e
sides_kept sets op.Less a b e = both_kept _ a.broken b.broken e
sides_kept sets op.Greater a b e = both_kept _ a.broken b.broken e
sides_kept sets op.AtMost a b e = both_kept _ a.broken b.broken e
sides_kept sets op.AtLeast a b e = both_kept _ a.broken b.broken e
sides_kept sets op.And a b e = both_kept _ a.broken b.broken e
sides_kept sets op.Or a b e = both_kept _ a.broken b.broken e
sides_kept sets op.Xor a b e = both_kept _ a.broken b.broken e
sides_kept sets op.Xnor a b e = both_kept _ a.broken b.broken e
sides_kept sets op.Iff a b e = both_kept _ a.broken b.broken e
sides_kept sets op.Implies a b e = both_kept _ a.broken b.broken e

module _ (L : Type 0) (k : L → Kind) (good : L → Type 0) where
  divisor : (now next : Leaves L) → Hold L k good now → Hold L k good next → (sets : Bool) (o : Op) (a b : Tree L) → AllLeaves good b → (judge k sets (binary o a b)).broken ≡ [] →
      DividesByNoZero o (evaluate now next b)
  divisor now next p q sets op.Over a b h e = divides (judge k false a) (judge k false b) (evaluate now next b) op.Over e (single k b (evaluate now next b) (sound L k good now next p q false b h))
  divisor now next p q sets op.Mod a b h e = divides (judge k false a) (judge k false b) (evaluate now next b) op.Mod e (single k b (evaluate now next b) (sound L k good now next p q false b h))
  divisor now next p q sets op.Times a b h e = tt
  divisor now next p q sets op.Plus a b h e = tt
  divisor now next p q sets op.Minus a b h e = tt
  divisor now next p q sets op.Union a b h e = tt
  divisor now next p q sets op.Within a b h e = tt
  divisor now next p q sets op.Equal a b h e = tt
  divisor now next p q sets op.Differs a b h e = tt
  divisor now next p q sets op.Less a b h e = tt
  divisor now next p q sets op.Greater a b h e = tt
  divisor now next p q sets op.AtMost a b h e = tt
  divisor now next p q sets op.AtLeast a b h e = tt
  divisor now next p q sets op.And a b h e = tt
  divisor now next p q sets op.Or a b h e = tt
  divisor now next p q sets op.Xor a b h e = tt
  divisor now next p q sets op.Xnor a b h e = tt
  divisor now next p q sets op.Iff a b h e = tt
  divisor now next p q sets op.Implies a b h e = tt

  mutual
    pub safe : (now next : Leaves L) → Hold L k good now → Hold L k good next → (sets : Bool) (t : Tree L) → AllLeaves good t → (judge k sets t).broken ≡ [] → IsSafe now next t
    safe now next p q sets (is_truth b) h e = small (sound L k good now next p q sets (is_truth b) h e)
    safe now next p q sets (is_number n) h e = small (sound L k good now next p q sets (is_number n) h e)
    safe now next p q sets (leaf l) h e = small (sound L k good now next p q sets (leaf l) h e)
    safe now next p q sets (not_of a) h e = (small (sound L k good now next p q sets (not_of a) h e), safe now next p q false a h (none_second _ (judge k false a).broken e))
    safe now next p q sets (negate a) h e = (small (sound L k good now next p q sets (negate a) h e), safe now next p q false a h (none_second _ (judge k false a).broken e))
    safe now next p q sets (next_of a) h e = (small (sound L k good now next p q sets (next_of a) h e), safe next next q q false a h e)
    safe now next p q sets (binary o a b) h e =
        let parts = sides_kept sets o (judge k (sets_on_left o) a) (judge k (sets_on_right o) b) e in
        (small (sound L k good now next p q sets (binary o a b) h e), divisor now next p q sets o a b h.1 e, safe now next p q (sets_on_left o) a h.0 parts.0, safe now next p q (sets_on_right o) b h.1 parts.1)
    safe now next p q sets (choice c a b) h e =
        let parts = none_second _ ((judge k false c).broken ++ ((judge k sets a).broken ++ (judge k sets b).broken)) e in
        let sides = none_second (judge k false c).broken _ parts in (
          small (sound L k good now next p q sets (choice c a b) h e),
          safe now next p q false c h.0 (none_first _ _ parts),
          safe now next p q sets a h.1 (none_first _ _ sides),
          safe now next p q sets b h.2 (none_second (judge k sets a).broken _ sides),
        )
    safe now next p q sets (case_of bs) h e =
        let parts = none_second _ (broken_in (judge_conditions k bs) ++ broken_in (judge_values k sets bs)) e in
        (small (sound L k good now next p q sets (case_of bs) h e), branches_safe now next p q sets bs h (none_first _ _ parts) (none_second (broken_in (judge_conditions k bs)) _ parts))
    safe now next p q sets (set_of ts) h e = (small (sound L k good now next p q sets (set_of ts) h e), members_safe now next p q ts h (none_second _ (broken_in (judge_trees k ts)) e))
    safe now next p q sets (span lo hi) h e = small (sound L k good now next p q sets (span lo hi) h e)

    members_safe : (now next : Leaves L) → Hold L k good now → Hold L k good next → (ts : Trees L) → AllLeavesOfTrees good ts → broken_in (judge_trees k ts) ≡ [] → AreSafe now next ts
    members_safe now next p q no_tree h e = tt
    members_safe now next p q (tree_then t ts) h e =
        (safe now next p q false t h.0 (none_first _ _ e), members_safe now next p q ts h.1 (none_second (judge k false t).broken _ e))

    branches_safe : (now next : Leaves L) → Hold L k good now → Hold L k good next → (sets : Bool) (bs : Branches L) → AllLeavesOfBranches good bs →
        broken_in (judge_conditions k bs) ≡ [] → broken_in (judge_values k sets bs) ≡ [] → AreSafeBranches now next bs
    branches_safe now next p q sets no_branch h e f = tt
    branches_safe now next p q sets (branch_then c a bs) h e f = (
      safe now next p q false c h.0 (none_first _ _ e),
      safe now next p q sets a h.1 (none_first _ _ f),
      branches_safe now next p q sets bs h.2 (none_second (judge k false c).broken _ e) (none_second (judge k sets a).broken _ f),
    )
