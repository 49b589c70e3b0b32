-- What the code answers for what the definitions of kinds say: of all rules that are broken, the first.
use Rattle.std.specs.Prelude.{Option, Some, None, List}
use Rattle.smv_type_laws.specs.ExpressionKinds as found
use Rattle.smv_type_laws.specs.ExpressionKinds.{Kind, KindRule, truth_class, number_class, symbol_class, mismatch, not_boolean, set_here}
use Rattle.smv_type_laws.specs.ExpressionKinds.{may_divide_by_zero, too_wide, empty_range, mixed_enum, case_end, too_large, double_member}
use Rattle.smv_type_laws.specs.Models.{least}
use Rattle.smv_types.specs.declared.fault.TypeRule.{TypeRule}
use Rattle.smv_types.specs.declared.fault.TypeRule.TheVariants.{Mismatch, NotBoolean, SetHere, MayDivideByZero, TooWide, EmptyRange}
use Rattle.smv_types.specs.declared.fault.TypeRule.TheVariants.{MixedEnum, CaseEnd, TooLarge, DoubleMember}
use Rattle.smv_types.specs.declared.sort.Class.{Class}
use Rattle.smv_types.specs.declared.sort.Class.TheVariants.{Truth, Number, Symbol}
use Rattle.smv_types.specs.declared.sort.Sort.{Sort}
use Rattle.smv_types.specs.declared.sort.JudgedExpr.{JudgedExpr}

-- a class of the definitions as the code has it
abbrev pub told_class : found.Class → Class
told_class truth_class = Truth
told_class number_class = Number
told_class symbol_class = Symbol

-- a rule of the definitions as the code has it
abbrev pub told_rule : KindRule → TypeRule
told_rule mismatch = Mismatch
told_rule not_boolean = NotBoolean
told_rule set_here = SetHere
told_rule may_divide_by_zero = MayDivideByZero
told_rule too_wide = TooWide
told_rule empty_range = EmptyRange
told_rule mixed_enum = MixedEnum
told_rule case_end = CaseEnd
told_rule too_large = TooLarge
told_rule double_member = DoubleMember

-- the rule, where there is one
abbrev pub told_first : Option KindRule → Option TypeRule
told_first None = None
told_first (Some r) = Some (told_rule r)

-- the first of these rules
abbrev pub told_rules : List KindRule → Option TypeRule
told_rules rs = told_first (least rs)

-- a kind as the code has it
abbrev pub told_sort : Kind → Sort
told_sort k = record { class = told_class k.class; interval = k.interval }

-- a judgement as the code has it, with the first of its rules
abbrev pub told : found.Judged → JudgedExpr
told j = record { sort = told_sort j.kind; is_set = j.is_set; broken = told_rules j.broken }

-- the same the other way round
abbrev pub seen_class : Class → found.Class
seen_class Truth = truth_class
seen_class Number = number_class
seen_class Symbol = symbol_class

-- the code's word for a kind, as the definitions have it
abbrev pub seen_sort : Sort → Kind
seen_sort s = record { class = seen_class s.class; interval = s.interval }
