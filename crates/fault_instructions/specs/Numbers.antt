-- Numbers that a template negates: every number of 64 bits but the least can be negated within 64 bits.
use Rattle.std.specs.Prelude.{ℤ, negsuc, ◌≤ℤ◌, All}
use Rattle.smv_language.specs.declared.program.Member.{Member}
use Rattle.smv_language.specs.declared.program.Member.TheVariants as member
use Rattle.smv_language.specs.ProgramTree.{DeclaredTree, boolean, range, members, instance}
use Rattle.smv_language.specs.Values.{Value, truth, number, symbol}
use Rattle.fault_instructions.specs.Instructions.{EffectTree, EachArgument}

-- the number's negation is within 64 bits
abbrev pub HasNegation : ℤ → Type 0
HasNegation n = negsuc 9223372036854775806 ≤ℤ n

-- each number of the constant has a negation
abbrev pub ValueHasNegation : Value → Type 0
ValueHasNegation (truth b) = Unit {0}
ValueHasNegation (number n) = HasNegation n
ValueHasNegation (symbol x) = Unit {0}

-- each number of the effect
abbrev pub EffectHasNegations : EffectTree → Type 0
EffectHasNegations e = EachArgument ValueHasNegation (λ f. Unit {0}) HasNegation e

-- a member that is a number has a negation
abbrev pub MemberHasNegation : Member → Type 0
MemberHasNegation (member.Number n) = HasNegation n
MemberHasNegation (member.Symbol x) = Unit {0}

-- each number of the type
abbrev pub TypeHasNegations : DeclaredTree → Type 0
TypeHasNegations boolean = Unit {0}
TypeHasNegations (range lo hi) = HasNegation lo × HasNegation hi
TypeHasNegations (members ms) = All MemberHasNegation ms
TypeHasNegations (instance m actuals) = Unit {0}
