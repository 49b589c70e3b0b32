-- Which rule is told of several.
use Rattle.std.specs.Prelude.{◌≡◌, Bool, if◌then◌else◌, List, [], ◌∷◌, Option, Some, None, IfSome}
use Rattle.smv_scope.specs.declared.fault.FlatRule.{FlatRule}
use Rattle.smv_scope.specs.declared.fault.FlatRule.TheVariants as code
use Rattle.smv_scope.specs.declared.fault.FlatRule.TheVariants.{NoMain}
use Rattle.smv_scope.specs.declared.fault.FlatFault.{FlatFault}
use Rattle.smv_language.specs.ProgramTree.{ProgramTree}
use Rattle.smv_flat_laws.specs.Rules as rules
use Rattle.smv_flat_laws.specs.Rules.{IsFirstBroken}

-- the first rule of a list that is broken
abbrev pub first_of : List (Bool × FlatRule) → Option FlatRule
first_of [] = None
first_of (r ∷ rs) = if r.0 then Some r.1 else first_of rs

-- the rule that a told one is; want of memory is none
abbrev pub rule_of : FlatRule → Option rules.Rule
rule_of code.NoMain = Some rules.no_main
rule_of code.MainHasParameters = Some rules.main_has_parameters
rule_of code.DoubleModule = Some rules.double_module
rule_of code.DoubleName = Some rules.double_name
rule_of code.NoSuchModule = Some rules.no_such_module
rule_of code.WrongCount = Some rules.wrong_count
rule_of code.ModuleLoop = Some rules.module_loop
rule_of code.NoSuchName = Some rules.no_such_name
rule_of code.NotATarget = Some rules.not_a_target
rule_of code.DoubleAssign = Some rules.double_assign
rule_of code.DefineLoop = Some rules.define_loop
rule_of code.NextHere = Some rules.next_here
rule_of code.InputHere = Some rules.input_here
rule_of code.TooMany = Some rules.too_many
rule_of code.OutOfMemory = None

-- the fault is the first broken rule of the program with its item, or want of memory
abbrev pub IsFaultOf : ProgramTree → FlatFault → Type 0
IsFaultOf p f = IfSome (rule_of f.rule) (λ r. IsFirstBroken p r f.item)

-- want of memory
abbrev pub IsWant : FlatFault → Type 0
IsWant f = f.rule ≡ code.OutOfMemory
