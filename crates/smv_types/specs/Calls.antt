-- What is answered for an expression of a typed model.
use Rattle.std.specs.Prelude.{Bool, true, false, Option, Some, None, Result, Ok, Err, List}
use Rattle.base_values.specs.declared.limits.TheConstants.{LEAST_NUMBER, GREATEST_NUMBER}
use Rattle.smv_language.specs.Language.{Tree, Value, FlatLeaf, FlatModel}
use Rattle.smv_flat_laws.specs.FlatTrace.{AreInDomains}
use Rattle.smv_type_laws.specs.ExpressionKinds as found
use Rattle.smv_type_laws.specs.ExpressionKinds.{KindRule}
use Rattle.smv_type_laws.specs.Laws.{IsClosed, ReadsOwn, KeepsKind}
use Rattle.smv_type_laws.specs.Models.{judged_in}
use Rattle.smv_types.specs.declared.fault.TypeRule.{TypeRule}
use Rattle.smv_types.specs.declared.fault.TypeRule.TheVariants.{TooLarge}
use Rattle.smv_types.specs.declared.fault.TypeFault.{TypeFault}
use Rattle.smv_types.specs.declared.calls.Kind.{Kind}
use Rattle.smv_types.specs.declared.calls.Kind.TheVariants.{Bool as ABool, Num, Sym}
use Rattle.smv_types.specs.declared.sort.Class.TheVariants.{Truth, Number, Symbol}
use Rattle.smv_types.specs.declared.sort.Sort.{Sort}
use Rattle.smv_types.specs.Answers.{told_rule, told_sort}

-- a sort as a kind; a missing interval is that of all numbers within 32 bits
abbrev pub sort_kind : Sort → Kind
sort_kind s =
    elim s.class [
      | Truth ↦ ABool
      | Number ↦ elim s.interval [ Some i ↦ Num i.lo i.hi | None ↦ Num LEAST_NUMBER GREATEST_NUMBER ]
      | Symbol ↦ Sym
    ]

-- a kind as it is shown
abbrev pub shown : found.Kind → Kind
shown k = sort_kind (told_sort k)

-- the rule, at no item of the model
abbrev pub fault_of : TypeRule → TypeFault
fault_of r = record { rule = r; item = 0 }

-- a value's kind, or the rule for which it is refused
abbrev pub value_answer : Option KindRule → found.Kind → Result Kind TypeFault
value_answer None k = Ok (shown k)
value_answer (Some r) k = Err (fault_of (told_rule r))

-- nothing, or the rule for which a condition is refused
abbrev pub top_answer : Option KindRule → Result (Unit {0}) TypeFault
top_answer None = Ok tt
top_answer (Some r) = Err (fault_of (told_rule r))

-- the same of what the code judges
abbrev pub value_by : Option TypeRule → Sort → Result Kind TypeFault
value_by None s = Ok (sort_kind s)
value_by (Some r) s = Err (fault_of r)

-- a condition that breaks no rule may still be too large
abbrev pub top_by : Option TypeRule → Bool → Result (Unit {0}) TypeFault
top_by (Some r) large = Err (fault_of r)
top_by None true = Err (fault_of TooLarge)
top_by None false = Ok tt

-- An expression over the model's own names keeps its kind, at values of the domains.
abbrev pub LiesInKind : FlatModel → Tree FlatLeaf → Type 0
LiesInKind m e =
    IsClosed m → ReadsOwn m e → (v w : List Value) → AreInDomains m.variables v → AreInDomains m.variables w →
    KeepsKind m v w (judged_in m false e) e
