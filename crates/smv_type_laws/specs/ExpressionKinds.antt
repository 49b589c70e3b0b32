-- The kind of an expression, and the rules that it breaks, by the table of kinds.
use Rattle.std.specs.Prelude.{ℕ, ℤ, ◌&&◌, ◌||◌, Bool, true, false, not, int_lt, Option, Some, None, List, [], ◌∷◌, ◌++◌, map, flat_map}
use Rattle.std.specs.Prelude.{if◌then◌else◌}
use Rattle.smv_language.specs.declared.expr.Op.{Op}
use Rattle.smv_language.specs.declared.expr.Op.TheVariants as op
use Rattle.smv_language.specs.Tree.{Tree, Trees, Branches, truth, number, leaf, not_of, negate, next_of, binary, choice, case_of, set_of}
use Rattle.smv_language.specs.Tree.{span, no_tree, tree_then, no_branch, branch_then}
use Rattle.smv_type_laws.specs.Intervals.{Interval, just, hull, sum_of, difference_of, negative_of, product_of, quotient_of, remainder_of}
use Rattle.smv_type_laws.specs.Intervals.{has_zero, fits}

-- truth values, numbers, or symbols
pub data Class : Type 0 where
  truth_class : Class
  number_class : Class
  symbol_class : Class

-- a class, and for numbers the interval in which they lie, where one is known
pub record Kind : Type 0 where
  pub class : Class
  pub interval : Option Interval

-- the rules of kinds, in the order of their numbers
pub data KindRule : Type 0 where
  mismatch : KindRule
  not_boolean : KindRule
  set_here : KindRule
  may_divide_by_zero : KindRule
  too_wide : KindRule
  empty_range : KindRule
  mixed_enum : KindRule
  case_end : KindRule
  too_large : KindRule
  double_member : KindRule

-- a rule's number; of the rules broken at an item the least is reported
abbrev pub number_of : KindRule → ℕ
number_of mismatch = 1
number_of not_boolean = 2
number_of set_here = 3
number_of may_divide_by_zero = 4
number_of too_wide = 5
number_of empty_range = 6
number_of mixed_enum = 7
number_of case_end = 8
number_of too_large = 9
number_of double_member = 10

-- an expression's kind, whether it is a set, and the rules that it and its parts break
pub record Judged : Type 0 where
  pub kind : Kind
  pub is_set : Bool
  pub broken : List KindRule

-- both are the same class
abbrev pub same_class : Class → Class → Bool
same_class truth_class truth_class = true
same_class number_class number_class = true
same_class symbol_class symbol_class = true
same_class _ _ = false

-- the rule, where it is broken
abbrev pub rule_if : Bool → KindRule → List KindRule
rule_if true r = r ∷ []
rule_if false r = []

-- the rule, where the kind is of another class
abbrev pub unless_class : Class → KindRule → Kind → List KindRule
unless_class c r k = rule_if (not (same_class k.class c)) r

-- an interval that is known ends within 32 bits
abbrev pub wide : Option Interval → List KindRule
wide None = []
wide (Some i) = rule_if (not (fits i)) too_wide

-- a divisor's interval that is known has no 0
abbrev pub zero_rule : Option Interval → List KindRule
zero_rule None = []
zero_rule (Some j) = rule_if (has_zero j) may_divide_by_zero

-- an operation on two intervals that are known
abbrev pub on_both : (Interval → Interval → Option Interval) → Option Interval → Option Interval → Option Interval
on_both f (Some i) (Some j) = f i j
on_both f _ _ = None

-- the hull of two intervals that are known
abbrev pub joined : Option Interval → Option Interval → Option Interval
joined a b = on_both (λ i j. Some (hull i j)) a b

-- where none of these rules is broken
abbrev pub where_kept : List KindRule → Option Interval → Option Interval
where_kept [] i = i
where_kept (r ∷ rs) i = None

-- An expression with the rules that it breaks itself, its class, its exact interval, and the rules that its parts
-- break. Where it breaks one itself it has its class and no interval.
abbrev pub one_value : List KindRule → Class → Option Interval → List KindRule → Judged
one_value own c i parts = record { kind = record { class = c; interval = where_kept own i }; is_set = false; broken = own ++ parts }

-- the same of what may be a set, where sets may stand or may not
abbrev pub some_values : Bool → Bool → List KindRule → Class → Option Interval → List KindRule → Judged
some_values sets is_set own c i parts =
    let all = own ++ rule_if (is_set && not sets) set_here in
    record { kind = record { class = c; interval = where_kept all i }; is_set = is_set; broken = all ++ parts }

-- `!`
abbrev pub judged_not : Judged → Judged
judged_not a = one_value (unless_class truth_class not_boolean a.kind) truth_class None a.broken

-- `&`, bar, `xor`, `xnor`, `->`, `<->`
abbrev pub judged_connective : Judged → Judged → Judged
judged_connective a b =
    one_value (unless_class truth_class not_boolean a.kind ++ unless_class truth_class not_boolean b.kind) truth_class None (a.broken
    ++ b.broken)

-- the numbers of an interval that is known, with the other sign
abbrev pub negative_interval : Option Interval → Option Interval
negative_interval None = None
negative_interval (Some i) = Some (negative_of i)

-- unary `-` has the exact interval
abbrev pub judged_negative : Judged → Judged
judged_negative a =
    let exact = negative_interval a.kind.interval in
    one_value (unless_class number_class mismatch a.kind ++ wide exact) number_class exact a.broken

-- the exact interval; none where the divisor may be 0
abbrev pub exact_interval : Op → Interval → Interval → Option Interval
exact_interval op.Plus i j = Some (sum_of i j)
exact_interval op.Minus i j = Some (difference_of i j)
exact_interval op.Times i j = Some (product_of i j)
exact_interval op.Over i j = if has_zero j then None else Some (quotient_of i j)
exact_interval op.Mod i j = if has_zero j then None else Some (remainder_of i j)
exact_interval _ i j = None

-- `/` and `mod` ask that the divisor is not 0
abbrev pub divisor_rule : Op → Option Interval → List KindRule
divisor_rule op.Over j = zero_rule j
divisor_rule op.Mod j = zero_rule j
divisor_rule _ j = []

-- `+`, `-`, `*`, `/`, `mod`
abbrev pub judged_number : Op → Judged → Judged → Judged
judged_number o a b =
    let exact = on_both (exact_interval o) a.kind.interval b.kind.interval in
    one_value (unless_class number_class mismatch a.kind
    ++ (unless_class number_class mismatch b.kind ++ (divisor_rule o b.kind.interval ++ wide exact)))
    number_class exact (a.broken ++ b.broken)

-- `<`, `>`, `<=`, `>=`
abbrev pub judged_order : Judged → Judged → Judged
judged_order a b =
    one_value (unless_class number_class mismatch a.kind ++ unless_class number_class mismatch b.kind) truth_class None (a.broken
    ++ b.broken)

-- `=`, `!=`, `in`
abbrev pub judged_same : Judged → Judged → Judged
judged_same a b = one_value (unless_class a.kind.class mismatch b.kind) truth_class None (a.broken ++ b.broken)

-- `union` gives the values of both sides
abbrev pub judged_union : Bool → Judged → Judged → Judged
judged_union sets a b =
    some_values sets true (unless_class a.kind.class mismatch b.kind) a.kind.class (joined a.kind.interval b.kind.interval) (a.broken
    ++ b.broken)

-- an operator on two operands
abbrev pub judged_binary : Bool → Op → Judged → Judged → Judged
judged_binary sets op.Times a b = judged_number op.Times a b
judged_binary sets op.Over a b = judged_number op.Over a b
judged_binary sets op.Mod a b = judged_number op.Mod a b
judged_binary sets op.Plus a b = judged_number op.Plus a b
judged_binary sets op.Minus a b = judged_number op.Minus a b
judged_binary sets op.Union a b = judged_union sets a b
judged_binary sets op.Within a b = judged_same a b
judged_binary sets op.Equal a b = judged_same a b
judged_binary sets op.Differs a b = judged_same a b
judged_binary sets op.Less a b = judged_order a b
judged_binary sets op.Greater a b = judged_order a b
judged_binary sets op.AtMost a b = judged_order a b
judged_binary sets op.AtLeast a b = judged_order a b
judged_binary sets op.And a b = judged_connective a b
judged_binary sets op.Or a b = judged_connective a b
judged_binary sets op.Xor a b = judged_connective a b
judged_binary sets op.Xnor a b = judged_connective a b
judged_binary sets op.Iff a b = judged_connective a b
judged_binary sets op.Implies a b = judged_connective a b

-- sets may stand on both sides of `union`, and on the right of `in`: where one may on the left
abbrev pub sets_on_left : Op → Bool
sets_on_left op.Union = true
sets_on_left _ = false

-- where a set may stand on the right
abbrev pub sets_on_right : Op → Bool
sets_on_right op.Union = true
sets_on_right op.Within = true
sets_on_right _ = false

-- the class of the first; of none, that of truth values
abbrev pub first_class : List Kind → Class
first_class [] = truth_class
first_class (k ∷ ks) = k.class

-- the hull of the intervals of all, where each is known
abbrev pub hull_from : Option Interval → List Kind → Option Interval
hull_from i [] = i
hull_from i (k ∷ ks) = hull_from (joined i k.interval) ks

-- the hull of the intervals of a list, where each is known
abbrev pub hull_of : List Kind → Option Interval
hull_of [] = None
hull_of (k ∷ ks) = hull_from k.interval ks

-- the rule for each of another class than the first
abbrev pub unlike_first : KindRule → List Kind → List KindRule
unlike_first r ks = flat_map (unless_class (first_class ks) r) ks

-- the rules that parts break
abbrev pub broken_in : List Judged → List KindRule
broken_in js = flat_map (λ j. j.broken) js

-- the kinds of parts
abbrev pub kinds_in : List Judged → List Kind
kinds_in js = map (λ j. j.kind) js

-- some part is a set
abbrev pub some_set : List Judged → Bool
some_set [] = false
some_set (j ∷ js) = j.is_set || some_set js

-- `c ? a : b`
abbrev pub judged_choice : Bool → Judged → Judged → Judged → Judged
judged_choice sets c a b =
    some_values sets (a.is_set || b.is_set) (unless_class truth_class not_boolean c.kind ++ unless_class a.kind.class mismatch b.kind)
    a.kind.class (joined a.kind.interval b.kind.interval) (c.broken ++ (a.broken ++ b.broken))

-- the branches of a `case`: the conditions, whether the last is the word TRUE, and the values
abbrev pub judged_case : Bool → Bool → List Judged → List Judged → Judged
judged_case sets ends conditions values =
    some_values sets (some_set values)
    (flat_map (unless_class truth_class not_boolean) (kinds_in conditions)
    ++ (unlike_first mismatch (kinds_in values) ++ rule_if (not ends) case_end))
    (first_class (kinds_in values)) (hull_of (kinds_in values)) (broken_in conditions ++ broken_in values)

-- the members of a set
abbrev pub judged_set : Bool → List Judged → Judged
judged_set sets members =
    some_values sets true (unlike_first mismatch (kinds_in members)) (first_class (kinds_in members)) (hull_of (kinds_in members))
    (broken_in members)

-- a span has its first end no greater than its last, and ends within 32 bits
abbrev pub judged_span : Bool → ℤ → ℤ → Judged
judged_span sets lo hi =
    let exact = Some (record { lo = lo; hi = hi }) in
    some_values sets true (rule_if (int_lt hi lo) empty_range ++ wide exact) number_class exact []

-- the word TRUE, and no other expression
abbrev pub is_word_true : {L : Type 0} → Tree L → Bool
is_word_true (truth b) = b
is_word_true _ = false

-- the last condition is the word TRUE
abbrev pub ends_in_true : {L : Type 0} → Branches L → Bool
ends_in_true no_branch = false
ends_in_true (branch_then c a no_branch) = is_word_true c
ends_in_true (branch_then c a (branch_then d b bs)) = ends_in_true (branch_then d b bs)

-- A tree over leaves of these kinds, where sets may stand or may not.
abbrev mutual
  pub judge : {L : Type 0} → (L → Kind) → Bool → Tree L → Judged
  judge k sets (truth b) = one_value [] truth_class None []
  judge k sets (number n) = one_value (wide (Some (just n))) number_class (Some (just n)) []
  judge k sets (leaf l) = record { kind = k l; is_set = false; broken = [] }
  judge k sets (not_of a) = judged_not (judge k false a)
  judge k sets (negate a) = judged_negative (judge k false a)
  judge k sets (next_of a) = judge k false a
  judge k sets (binary o a b) = judged_binary sets o (judge k (sets_on_left o) a) (judge k (sets_on_right o) b)
  judge k sets (choice c a b) = judged_choice sets (judge k false c) (judge k sets a) (judge k sets b)
  judge k sets (case_of bs) = judged_case sets (ends_in_true bs) (judge_conditions k bs) (judge_values k sets bs)
  judge k sets (set_of ts) = judged_set sets (judge_trees k ts)
  judge k sets (span lo hi) = judged_span sets lo hi

  pub judge_trees : {L : Type 0} → (L → Kind) → Trees L → List Judged
  judge_trees k no_tree = []
  judge_trees k (tree_then t ts) = judge k false t ∷ judge_trees k ts

  pub judge_conditions : {L : Type 0} → (L → Kind) → Branches L → List Judged
  judge_conditions k no_branch = []
  judge_conditions k (branch_then c a bs) = judge k false c ∷ judge_conditions k bs

  pub judge_values : {L : Type 0} → (L → Kind) → Bool → Branches L → List Judged
  judge_values k sets no_branch = []
  judge_values k sets (branch_then c a bs) = judge k sets a ∷ judge_values k sets bs
