-- The rules of one node, where of the rules that are broken the first alone is kept.
use Rattle.std.specs.Prelude.{ℕ, ℤ, ◌||◌, Bool, true, false, not, nat_lt, int_lt, Option, Some, None, if◌then◌else◌}
use Rattle.smv_language.specs.declared.expr.Op.{Op}
use Rattle.smv_language.specs.declared.expr.Op.TheVariants as op
use Rattle.smv_type_laws.specs.Intervals.{Interval, just, has_zero, fits}
use Rattle.smv_type_laws.specs.ExpressionKinds.{on_both, joined, negative_interval, exact_interval}
use Rattle.smv_types.specs.NumberAnswers.{fitting}
use Rattle.smv_types.specs.declared.fault.TypeRule.{TypeRule}
use Rattle.smv_types.specs.declared.fault.TypeRule.TheVariants.{Mismatch, NotBoolean, SetHere, MayDivideByZero, TooWide, EmptyRange}
use Rattle.smv_types.specs.declared.fault.TypeRule.TheVariants.{MixedEnum, CaseEnd, TooLarge, DoubleMember, OutOfMemory}
use Rattle.smv_types.specs.declared.sort.Class.{Class}
use Rattle.smv_types.specs.declared.sort.Class.TheVariants.{Truth, Number, Symbol}
use Rattle.smv_types.specs.declared.sort.Sort.{Sort}
use Rattle.smv_types.specs.declared.sort.JudgedExpr.{JudgedExpr}
use Rattle.smv_types.specs.declared.sort.Exact.{Exact}

-- the number of a rule
abbrev pub rule_number : TypeRule → ℕ
rule_number Mismatch = 1
rule_number NotBoolean = 2
rule_number SetHere = 3
rule_number MayDivideByZero = 4
rule_number TooWide = 5
rule_number EmptyRange = 6
rule_number MixedEnum = 7
rule_number CaseEnd = 8
rule_number TooLarge = 9
rule_number DoubleMember = 10
rule_number OutOfMemory = 11

-- the rule with the lower number
abbrev pub lesser_rule : TypeRule → TypeRule → TypeRule
lesser_rule a b = if nat_lt (rule_number b) (rule_number a) then b else a

-- the rule with the lower number
abbrev pub lower : Option TypeRule → Option TypeRule → Option TypeRule
lower None b = b
lower (Some a) None = Some a
lower (Some a) (Some b) = Some (lesser_rule a b)

-- the rule, where it is not kept
abbrev pub unless : Bool → TypeRule → Option TypeRule
unless true r = None
unless false r = Some r

-- the classes are the same
abbrev pub same_class : Class → Class → Bool
same_class Truth Truth = true
same_class Number Number = true
same_class Symbol Symbol = true
same_class _ _ = false

-- the rule, where values are of another class
abbrev pub class_rule : Class → TypeRule → Sort → Option TypeRule
class_rule c r s = unless (same_class s.class c) r

-- where no rule is broken
abbrev pub where_kept : Option TypeRule → Option Interval → Option Interval
where_kept None i = i
where_kept (Some r) i = None

-- a single value of this class, which breaks this rule itself and this one in its parts
abbrev pub one_value : Option TypeRule → Class → Option Interval → Option TypeRule → JudgedExpr
one_value own c i parts = record { sort = record { class = c; interval = where_kept own i }; is_set = false; broken = lower own parts }

-- values that are a set or not, and whether a set may stand here
abbrev pub some_values : Bool → Bool → Option TypeRule → Sort → Option TypeRule → JudgedExpr
some_values sets is_set own s parts =
    let all = lower own (unless (sets || not is_set) SetHere) in
    record { sort = record { class = s.class; interval = where_kept all s.interval }; is_set = is_set; broken = lower all parts }

-- an exact interval, with the rule that it breaks
abbrev pub exact_of : Option Interval → Exact
exact_of None = record { interval = None; wide = None }
exact_of (Some i) = record { interval = fitting i; wide = unless (fits i) TooWide }

-- of an interval that is none where it passes 32 bits
abbrev pub found : Option Interval → Exact
found None = record { interval = None; wide = Some TooWide }
found (Some i) = record { interval = Some i; wide = None }

-- a number that is written
abbrev pub row_literal : ℤ → JudgedExpr
row_literal n = let e = exact_of (Some (just n)) in one_value e.wide Number e.interval None

-- the numbers from one to another, as a set
abbrev pub row_span : Bool → ℤ → ℤ → JudgedExpr
row_span sets lo hi =
    let e = exact_of (Some (record { lo = lo; hi = hi })) in
    some_values sets true (lower (unless (not (int_lt hi lo)) EmptyRange) e.wide) (record { class = Number; interval = e.interval }) None

-- the same of one of its numbers
abbrev pub row_range : ℤ → ℤ → JudgedExpr
row_range lo hi = let all = row_span true lo hi in record { sort = all.sort; is_set = false; broken = all.broken }

-- a truth value negated
abbrev pub row_not : JudgedExpr → JudgedExpr
row_not a = one_value (class_rule Truth NotBoolean a.sort) Truth None a.broken

-- two truth values joined
abbrev pub row_connective : JudgedExpr → JudgedExpr → JudgedExpr
row_connective a b = one_value (lower (class_rule Truth NotBoolean a.sort) (class_rule Truth NotBoolean b.sort)) Truth None
    (lower a.broken b.broken)

-- a number negated
abbrev pub row_negative : JudgedExpr → JudgedExpr
row_negative a =
    let e = exact_of (negative_interval a.sort.interval) in one_value (lower (class_rule Number Mismatch a.sort) e.wide) Number e.interval
    a.broken

-- the operator divides, and the divisor may be 0
abbrev pub is_divided : Op → Option Interval → Bool
is_divided op.Over (Some j) = has_zero j
is_divided op.Mod (Some j) = has_zero j
is_divided _ _ = false

-- two numbers under an arithmetic operator
abbrev pub row_number : Op → JudgedExpr → JudgedExpr → JudgedExpr
row_number o a b =
    let e = exact_of (on_both (exact_interval o) a.sort.interval b.sort.interval) in
    one_value (lower (class_rule Number Mismatch a.sort)
    (lower (class_rule Number Mismatch b.sort) (lower (unless (not (is_divided o b.sort.interval)) MayDivideByZero) e.wide)))
    Number e.interval (lower a.broken b.broken)

-- two numbers compared
abbrev pub row_order : JudgedExpr → JudgedExpr → JudgedExpr
row_order a b = one_value (lower (class_rule Number Mismatch a.sort) (class_rule Number Mismatch b.sort)) Truth None
    (lower a.broken b.broken)

-- two values of one class compared
abbrev pub row_same : JudgedExpr → JudgedExpr → JudgedExpr
row_same a b = one_value (class_rule a.sort.class Mismatch b.sort) Truth None (lower a.broken b.broken)

-- the union of two values or sets of one class
abbrev pub row_union : Bool → JudgedExpr → JudgedExpr → JudgedExpr
row_union sets a b =
    some_values sets true (class_rule a.sort.class Mismatch b.sort) (record {
      class = a.sort.class;
      interval = joined a.sort.interval b.sort.interval;
    }) (lower a.broken b.broken)

-- an operator on two parts
abbrev pub row_binary : Bool → Op → JudgedExpr → JudgedExpr → JudgedExpr
row_binary sets op.Times a b = row_number op.Times a b
row_binary sets op.Over a b = row_number op.Over a b
row_binary sets op.Mod a b = row_number op.Mod a b
row_binary sets op.Plus a b = row_number op.Plus a b
row_binary sets op.Minus a b = row_number op.Minus a b
row_binary sets op.Union a b = row_union sets a b
row_binary sets op.Within a b = row_same a b
row_binary sets op.Equal a b = row_same a b
row_binary sets op.Differs a b = row_same a b
row_binary sets op.Less a b = row_order a b
row_binary sets op.Greater a b = row_order a b
row_binary sets op.AtMost a b = row_order a b
row_binary sets op.AtLeast a b = row_order a b
row_binary sets op.And a b = row_connective a b
row_binary sets op.Or a b = row_connective a b
row_binary sets op.Xor a b = row_connective a b
row_binary sets op.Xnor a b = row_connective a b
row_binary sets op.Iff a b = row_connective a b
row_binary sets op.Implies a b = row_connective a b

-- a condition and two values of one class
abbrev pub row_choice : Bool → JudgedExpr → JudgedExpr → JudgedExpr → JudgedExpr
row_choice sets c a b =
    some_values sets (a.is_set || b.is_set) (lower (class_rule Truth NotBoolean c.sort) (class_rule a.sort.class Mismatch b.sort))
    (record { class = a.sort.class; interval = joined a.sort.interval b.sort.interval }) (lower c.broken (lower a.broken b.broken))
