-- In an expression that breaks no rule each part has values of its kind.
use Rattle.std.proofs.Common.{◌≡◌, Bool, true, false, not, ◌&&◌, List, [], ◌∷◌, ◌++◌, flat_map, Option, Some, None, refl, ap}
use Rattle.smv_language.specs.declared.expr.Op.TheVariants as op
use Rattle.smv_language.specs.Language.{Tree, Trees, Branches, leaf, not_of, negate, next_of, binary, choice, case_of, set_of, span, no_tree, tree_then, no_branch, branch_then, Each, AllLeaves, AllLeavesOfTrees, AllLeavesOfBranches, symbol, Values, one, same_int, same_bool, opposite, same_text, Leaves, evaluate, evaluate_trees, evaluate_branches}
use Rattle.smv_language.specs.Tree.{truth as is_truth, number as is_number}
use Rattle.smv_language.specs.Values.{truth, number}
use Rattle.smv_type_laws.specs.Intervals.{Interval}
use Rattle.smv_type_laws.specs.ExpressionKinds.{Class, truth_class, number_class, symbol_class, Kind, KindRule, mismatch, not_boolean, set_here, rule_if, unless_class, Judged, kinds_in, broken_in, is_word_true, ends_in_true, judge, judge_trees, judge_conditions, judge_values}
use Rattle.smv_type_laws.specs.KindValues.{GivesOne}
use Rattle.smv_type_laws.proofs.Parts.{none_first, none_second, class_kept, Bounded, Inside, hull_of_holds, Alone, Sound, kind_as, some_of_one}
use Rattle.smv_type_laws.proofs.Rows.{Connects, Compares, Matches, truth_given, not_row, connective_row, order_row, same_row, within_row, number_row, negative_row, union_row, plus_works, minus_works, times_works, over_works, mod_works}
use Rattle.smv_type_laws.proofs.SetRows.{choice_row, Members, no_members, one_member, set_row, Branched, last_branch, one_branch, case_row, span_row, number_literal}

-- What operators give.
and_connects : Connects op.And
and_connects p q = (_, refl)

or_connects : Connects op.Or
or_connects p q = (_, refl)

xor_connects : Connects op.Xor
xor_connects p q = (_, refl)

xnor_connects : Connects op.Xnor
xnor_connects p q = (_, refl)

iff_connects : Connects op.Iff
iff_connects p q = (_, refl)

implies_connects : Connects op.Implies
implies_connects p q = (_, refl)

less_compares : Compares op.Less
less_compares m n = (_, refl)

greater_compares : Compares op.Greater
greater_compares m n = (_, refl)

at_most_compares : Compares op.AtMost
at_most_compares m n = (_, refl)

at_least_compares : Compares op.AtLeast
at_least_compares m n = (_, refl)

equal_matches : Matches op.Equal
equal_matches truth_class (truth a) (truth b) p q = (same_bool a b, refl)
equal_matches number_class (number a) (number b) p q = (same_int a b, refl)
equal_matches symbol_class (symbol a) (symbol b) p q = (same_text a b, refl)
equal_matches truth_class (truth a) (number b) p q = absurd q
equal_matches truth_class (truth a) (symbol b) p q = absurd q
equal_matches truth_class (number a) w p q = absurd p
equal_matches truth_class (symbol a) w p q = absurd p
equal_matches number_class (number a) (truth b) p q = absurd q
equal_matches number_class (number a) (symbol b) p q = absurd q
equal_matches number_class (truth a) w p q = absurd p
equal_matches number_class (symbol a) w p q = absurd p
equal_matches symbol_class (symbol a) (truth b) p q = absurd q
equal_matches symbol_class (symbol a) (number b) p q = absurd q
equal_matches symbol_class (truth a) w p q = absurd p
equal_matches symbol_class (number a) w p q = absurd p

differs_matches : Matches op.Differs
differs_matches truth_class (truth a) (truth b) p q = (opposite (same_bool a b), refl)
differs_matches number_class (number a) (number b) p q = (opposite (same_int a b), refl)
differs_matches symbol_class (symbol a) (symbol b) p q = (opposite (same_text a b), refl)
differs_matches truth_class (truth a) (number b) p q = absurd q
differs_matches truth_class (truth a) (symbol b) p q = absurd q
differs_matches truth_class (number a) w p q = absurd p
differs_matches truth_class (symbol a) w p q = absurd p
differs_matches number_class (number a) (truth b) p q = absurd q
differs_matches number_class (number a) (symbol b) p q = absurd q
differs_matches number_class (truth a) w p q = absurd p
differs_matches number_class (symbol a) w p q = absurd p
differs_matches symbol_class (symbol a) (truth b) p q = absurd q
differs_matches symbol_class (symbol a) (number b) p q = absurd q
differs_matches symbol_class (truth a) w p q = absurd p
differs_matches symbol_class (number a) w p q = absurd p

-- Where sets may not stand there is none.
no_set_here : (b : Bool) (own parts : List KindRule) → (own ++ rule_if (b && not false) set_here) ++ parts ≡ [] → b ≡ false
no_set_here true own parts e = cc (none_second own (set_here ∷ []) (none_first (own ++ set_here ∷ []) parts e))
no_set_here false own parts e = refl

pub no_set : {L : Type 0} (k : L → Kind) (t : Tree L) → (judge k false t).broken ≡ [] → (judge k false t).is_set ≡ false
no_set k (is_truth b) e = refl
no_set k (is_number n) e = refl
no_set k (leaf l) e = refl
no_set k (not_of a) e = refl
no_set k (negate a) e = refl
no_set k (next_of a) e = no_set k a e
no_set k (binary op.Times a b) e = refl
no_set k (binary op.Over a b) e = refl
no_set k (binary op.Mod a b) e = refl
no_set k (binary op.Plus a b) e = refl
no_set k (binary op.Minus a b) e = refl
no_set k (binary op.Union a b) e = no_set_here true _ _ e
no_set k (binary op.Within a b) e = refl
no_set k (binary op.Equal a b) e = refl
no_set k (binary op.Differs a b) e = refl
no_set k (binary op.Less a b) e = refl
no_set k (binary op.Greater a b) e = refl
no_set k (binary op.AtMost a b) e = refl
no_set k (binary op.AtLeast a b) e = refl
no_set k (binary op.And a b) e = refl
no_set k (binary op.Or a b) e = refl
no_set k (binary op.Xor a b) e = refl
no_set k (binary op.Xnor a b) e = refl
no_set k (binary op.Iff a b) e = refl
no_set k (binary op.Implies a b) e = refl
no_set k (choice c a b) e = no_set_here _ _ _ e
no_set k (case_of bs) e = no_set_here _ _ _ e
no_set k (set_of ts) e = no_set_here true _ _ e
no_set k (span lo hi) e = no_set_here true _ _ e

-- A leaf gives one value of its kind, and its interval is known.
pub record AtLeaf (kind : Kind) (given : Option Values) : Type 0 where
  pub bounded : Bounded kind.class kind.interval
  pub gives : GivesOne kind given

leaf_row : (kind : Kind) (given : Option Values) → AtLeaf kind given → Sound (record { kind = kind; is_set = false; broken = [] }) given
leaf_row kind given h = record { bounded = h.bounded; gives = some_of_one kind given h.gives; alone = λ e. h.gives }

alone : (j : Judged) (given : Option Values) → j.is_set ≡ false → Sound j given → Alone j given
alone j given e s = record { bounded = s.bounded; gives = s.alone e }

truth_row : (b : Bool) → Sound (record { kind = kind_as truth_class None; is_set = false; broken = [] }) (Some (one (truth b)))
truth_row b = leaf_row (kind_as truth_class None) _ (record { bounded = tt; gives = record { value = truth b; is = refl; of_kind = record { class = tt; lies = tt } } })

pub word_true : {L : Type 0} (now next : Leaves L) (c : Tree L) → is_word_true c ≡ true → evaluate now next c ≡ Some (one (truth true))
word_true now next (is_truth b) e = ap (λ p. Some (one (truth p))) e
word_true now next (is_number n) e = cc
word_true now next (leaf l) e = cc
word_true now next (not_of a) e = cc
word_true now next (negate a) e = cc
word_true now next (next_of a) e = cc
word_true now next (binary o a b) e = cc
word_true now next (choice c a b) e = cc
word_true now next (case_of bs) e = cc
word_true now next (set_of ts) e = cc
word_true now next (span lo hi) e = cc

-- a part where no set may stand
pub single : {L : Type 0} (k : L → Kind) (t : Tree L) (given : Option Values) → ((judge k false t).broken ≡ [] → Sound (judge k false t) given) → (judge k false t).broken ≡ [] → Alone (judge k false t) given
single k t given f e = alone (judge k false t) given (no_set k t e) (f e)

module _ (L : Type 0) (k : L → Kind) (good : L → Type 0) where
  -- these leaves give values of their kinds
  abbrev pub Hold : Leaves L → Type 0
  Hold g = (l : L) → good l → AtLeaf (k l) (g l)

  mutual
    pub sound : (now next : Leaves L) → Hold now → Hold next → (sets : Bool) (t : Tree L) → AllLeaves good t → (judge k sets t).broken ≡ [] → Sound (judge k sets t) (evaluate now next t)
    sound now next p q sets (is_truth b) h e = truth_row b
    sound now next p q sets (is_number n) h e = number_literal n e
    sound now next p q sets (leaf l) h e = leaf_row (k l) (now l) (p l h)
    sound now next p q sets (not_of a) h e = not_row _ _ e (single k a _ (sound now next p q false a h))
    sound now next p q sets (negate a) h e = negative_row _ _ e (single k a _ (sound now next p q false a h))
    sound now next p q sets (next_of a) h e = sound next next q q false a h e
    sound now next p q sets (binary op.Times a b) h e = number_row op.Times times_works _ _ _ _ e (single k a _ (sound now next p q false a h.0)) (single k b _ (sound now next p q false b h.1))
    sound now next p q sets (binary op.Over a b) h e = number_row op.Over over_works _ _ _ _ e (single k a _ (sound now next p q false a h.0)) (single k b _ (sound now next p q false b h.1))
    sound now next p q sets (binary op.Mod a b) h e = number_row op.Mod mod_works _ _ _ _ e (single k a _ (sound now next p q false a h.0)) (single k b _ (sound now next p q false b h.1))
    sound now next p q sets (binary op.Plus a b) h e = number_row op.Plus plus_works _ _ _ _ e (single k a _ (sound now next p q false a h.0)) (single k b _ (sound now next p q false b h.1))
    sound now next p q sets (binary op.Minus a b) h e = number_row op.Minus minus_works _ _ _ _ e (single k a _ (sound now next p q false a h.0)) (single k b _ (sound now next p q false b h.1))
    sound now next p q sets (binary op.Union a b) h e = union_row sets _ _ _ _ e (sound now next p q true a h.0) (sound now next p q true b h.1)
    sound now next p q sets (binary op.Within a b) h e = within_row _ _ _ _ e (single k a _ (sound now next p q false a h.0)) (sound now next p q true b h.1)
    sound now next p q sets (binary op.Equal a b) h e = same_row op.Equal equal_matches _ _ _ _ e (single k a _ (sound now next p q false a h.0)) (single k b _ (sound now next p q false b h.1))
    sound now next p q sets (binary op.Differs a b) h e = same_row op.Differs differs_matches _ _ _ _ e (single k a _ (sound now next p q false a h.0)) (single k b _ (sound now next p q false b h.1))
    sound now next p q sets (binary op.Less a b) h e = order_row op.Less less_compares _ _ _ _ e (single k a _ (sound now next p q false a h.0)) (single k b _ (sound now next p q false b h.1))
    sound now next p q sets (binary op.Greater a b) h e = order_row op.Greater greater_compares _ _ _ _ e (single k a _ (sound now next p q false a h.0)) (single k b _ (sound now next p q false b h.1))
    sound now next p q sets (binary op.AtMost a b) h e = order_row op.AtMost at_most_compares _ _ _ _ e (single k a _ (sound now next p q false a h.0)) (single k b _ (sound now next p q false b h.1))
    sound now next p q sets (binary op.AtLeast a b) h e = order_row op.AtLeast at_least_compares _ _ _ _ e (single k a _ (sound now next p q false a h.0)) (single k b _ (sound now next p q false b h.1))
    sound now next p q sets (binary op.And a b) h e = connective_row op.And and_connects _ _ _ _ e (single k a _ (sound now next p q false a h.0)) (single k b _ (sound now next p q false b h.1))
    sound now next p q sets (binary op.Or a b) h e = connective_row op.Or or_connects _ _ _ _ e (single k a _ (sound now next p q false a h.0)) (single k b _ (sound now next p q false b h.1))
    sound now next p q sets (binary op.Xor a b) h e = connective_row op.Xor xor_connects _ _ _ _ e (single k a _ (sound now next p q false a h.0)) (single k b _ (sound now next p q false b h.1))
    sound now next p q sets (binary op.Xnor a b) h e = connective_row op.Xnor xnor_connects _ _ _ _ e (single k a _ (sound now next p q false a h.0)) (single k b _ (sound now next p q false b h.1))
    sound now next p q sets (binary op.Iff a b) h e = connective_row op.Iff iff_connects _ _ _ _ e (single k a _ (sound now next p q false a h.0)) (single k b _ (sound now next p q false b h.1))
    sound now next p q sets (binary op.Implies a b) h e = connective_row op.Implies implies_connects _ _ _ _ e (single k a _ (sound now next p q false a h.0)) (single k b _ (sound now next p q false b h.1))
    sound now next p q sets (choice c a b) h e = choice_row sets _ _ _ _ _ _ e (single k c _ (sound now next p q false c h.0)) (sound now next p q sets a h.1) (sound now next p q sets b h.2)
    sound now next p q sets (case_of bs) h e =
        case_row sets (ends_in_true bs) (judge_conditions k bs) (judge_values k sets bs) (evaluate_branches now next bs) e
        (λ f. branches_sound now next p q sets bs h f.ended f.truths f.conditions_kept f.values_kept _ f.alike _ (hull_of_holds (kinds_in (judge_values k sets bs))))
    sound now next p q sets (set_of ts) h e =
        set_row sets (judge_trees k ts) (evaluate_trees now next ts) e (λ f alike. members_sound now next p q ts h f _ alike _ (hull_of_holds (kinds_in (judge_trees k ts))))
    sound now next p q sets (span lo hi) h e = span_row sets lo hi e

    pub members_sound : (now next : Leaves L) → Hold now → Hold next → (ts : Trees L) → AllLeavesOfTrees good ts → broken_in (judge_trees k ts) ≡ [] →
        (c : Class) → flat_map (unless_class c mismatch) (kinds_in (judge_trees k ts)) ≡ [] → (target : Option Interval) → Each (Inside target) (kinds_in (judge_trees k ts)) →
        Members c target (kinds_in (judge_trees k ts)) (evaluate_trees now next ts)
    members_sound now next p q no_tree h e c f target within = no_members c target
    members_sound now next p q (tree_then t ts) h e c f target within =
        let j = judge k false t in
        one_member c target j (kinds_in (judge_trees k ts)) (evaluate now next t) (evaluate_trees now next ts)
        (alone j (evaluate now next t) (no_set k t (none_first j.broken _ e)) (sound now next p q false t h.0 (none_first j.broken _ e)))
        (class_kept c mismatch j.kind (none_first _ _ f)) within.0
        (members_sound now next p q ts h.1 (none_second j.broken _ e) c (none_second (unless_class c mismatch j.kind) _ f) target within.1)

    pub branches_sound : (now next : Leaves L) → Hold now → Hold next → (sets : Bool) (bs : Branches L) → AllLeavesOfBranches good bs → ends_in_true bs ≡ true →
        flat_map (unless_class truth_class not_boolean) (kinds_in (judge_conditions k bs)) ≡ [] → broken_in (judge_conditions k bs) ≡ [] → broken_in (judge_values k sets bs) ≡ [] →
        (c : Class) → flat_map (unless_class c mismatch) (kinds_in (judge_values k sets bs)) ≡ [] → (target : Option Interval) → Each (Inside target) (kinds_in (judge_values k sets bs)) →
        Branched c target (judge_values k sets bs) (evaluate_branches now next bs)
    branches_sound now next p q sets no_branch h ends truths ec ev c f target within = cc
    branches_sound now next p q sets (branch_then d a no_branch) h ends truths ec ev c f target within =
        let j = judge k sets a in
        last_branch c target j (evaluate now next d) (evaluate now next a) (word_true now next d ends) (sound now next p q sets a h.1 (none_first j.broken _ ev))
        (class_kept c mismatch j.kind (none_first _ _ f)) within.0
    branches_sound now next p q sets (branch_then d a (branch_then d' a' bs)) h ends truths ec ev c f target within =
        let i = judge k false d in
        let j = judge k sets a in
        let t = truth_given (alone i (evaluate now next d) (no_set k d (none_first i.broken _ ec)) (sound now next p q false d h.0 (none_first i.broken _ ec)))
        (class_kept truth_class not_boolean i.kind (none_first _ _ truths)) in
        one_branch c target j (judge_values k sets (branch_then d' a' bs)) (evaluate now next d) (evaluate now next a) (evaluate_branches now next (branch_then d' a' bs)) t.0 t.1
        (sound now next p q sets a h.1 (none_first j.broken _ ev)) (class_kept c mismatch j.kind (none_first _ _ f)) within.0
        (branches_sound now next p q sets (branch_then d' a' bs) h.2 ends (none_second (unless_class truth_class not_boolean i.kind) _ truths) (none_second i.broken _ ec)
        (none_second j.broken _ ev) c (none_second (unless_class c mismatch j.kind) _ f) target within.1)
