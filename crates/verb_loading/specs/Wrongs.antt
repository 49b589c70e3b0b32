-- What is wrong with an input, from the faults of the layers that read it.
use Rattle.std.specs.Prelude.{ℕ}
use Rattle.smv_lexer.specs.declared.token.LexFault.{LexFault}
use Rattle.smv_lexer.specs.declared.token.LexFault.TheVariants as lex
use Rattle.smv_expression_reader.specs.declared.fault.ParseFault.{ParseFault}
use Rattle.smv_expression_reader.specs.declared.fault.ParseFault.TheVariants as parse
use Rattle.smv_scope.specs.declared.fault.FlatRule.{FlatRule}
use Rattle.smv_scope.specs.declared.fault.FlatRule.TheVariants as rule
use Rattle.smv_scope.specs.declared.fault.FlatFault.{FlatFault}
use Rattle.smv_types.specs.declared.fault.TypeFault.{TypeFault}
use Rattle.smv_types.specs.declared.fault.TypeRule.{TypeRule}
use Rattle.smv_types.specs.declared.fault.TypeRule.TheVariants as kind
use Rattle.fault_instructions.specs.declared.fault.EffectFault.TheVariants as effect
use Rattle.fault_rules.specs.declared.fault.InstructionRule.{InstructionRule as WeaveRule}
use Rattle.fault_rules.specs.declared.fault.InstructionRule.TheVariants as weave
use Rattle.fault_extend.specs.declared.fault.WeaveFault.{WeaveFault}
use Rattle.fault_extend.specs.declared.fault.WeaveCause.{WeaveCause}
use Rattle.fault_extend.specs.declared.fault.WeaveCause.TheVariants as cause
use Rattle.smv_flat_laws.specs.Rules as rules
use Rattle.smv_type_laws.specs.ExpressionKinds as kinds
use Rattle.verb_loading.specs.declared.status.InputFault.{InputFault}
use Rattle.verb_loading.specs.declared.status.Part.{Part}
use Rattle.verb_loading.specs.declared.status.Part.TheVariants as part
use Rattle.verb_loading.specs.declared.wrong.Wrong.{Wrong}
use Rattle.verb_loading.specs.declared.wrong.Wrong.TheVariants as wrong

-- the rule of this number of a part is broken at a place
abbrev pub broken : Part → ℕ → ℕ → Wrong
broken p number place = wrong.Refused (record { part = p; number = number; place = place })

-- the bytes from this place on begin with no token
abbrev pub lex_wrong : LexFault → Wrong
lex_wrong (lex.BadByte at) = broken part.Lex 1 at
lex_wrong (lex.OpenComment at) = broken part.Lex 2 at
lex_wrong (lex.NumberTooBig at) = broken part.Lex 3 at
lex_wrong lex.OutOfMemory = wrong.Memory

-- reading stops at this place, or the text spells what is too deep
abbrev pub parse_wrong : ParseFault → Wrong
parse_wrong (parse.Lex fault) = lex_wrong fault
parse_wrong (parse.Unexpected at) = broken part.Parse 1 at
parse_wrong (parse.End at) = broken part.Parse 2 at
parse_wrong parse.TooDeep = broken part.Parse 3 0
parse_wrong (parse.LeftOut at) = broken part.Parse 4 at
parse_wrong parse.OutOfMemory = wrong.Memory

-- the rules of names, instances and assignments, by their numbers
abbrev pub flat_rule : FlatRule → ℕ → Wrong
flat_rule rule.NoMain at = broken part.Flat 1 at
flat_rule rule.MainHasParameters at = broken part.Flat 2 at
flat_rule rule.DoubleModule at = broken part.Flat 3 at
flat_rule rule.DoubleName at = broken part.Flat 4 at
flat_rule rule.NoSuchModule at = broken part.Flat 5 at
flat_rule rule.WrongCount at = broken part.Flat 6 at
flat_rule rule.ModuleLoop at = broken part.Flat 7 at
flat_rule rule.NoSuchName at = broken part.Flat 8 at
flat_rule rule.NotATarget at = broken part.Flat 9 at
flat_rule rule.DoubleAssign at = broken part.Flat 10 at
flat_rule rule.DefineLoop at = broken part.Flat 11 at
flat_rule rule.NextHere at = broken part.Flat 12 at
flat_rule rule.InputHere at = broken part.Flat 13 at
flat_rule rule.TooMany at = broken part.Flat 14 at
flat_rule rule.OutOfMemory at = wrong.Memory

-- so of a fault of names with its item
abbrev pub flat_wrong : FlatFault → Wrong
flat_wrong fault = flat_rule fault.rule fault.item

-- the rules of kinds and limits, by their numbers
abbrev pub type_rule : TypeRule → ℕ → Wrong
type_rule kind.Mismatch at = broken part.Kinds 1 at
type_rule kind.NotBoolean at = broken part.Kinds 2 at
type_rule kind.SetHere at = broken part.Kinds 3 at
type_rule kind.MayDivideByZero at = broken part.Kinds 4 at
type_rule kind.TooWide at = broken part.Kinds 5 at
type_rule kind.EmptyRange at = broken part.Kinds 6 at
type_rule kind.MixedEnum at = broken part.Kinds 7 at
type_rule kind.CaseEnd at = broken part.Kinds 8 at
type_rule kind.TooLarge at = broken part.Kinds 9 at
type_rule kind.DoubleMember at = broken part.Kinds 10 at
type_rule kind.OutOfMemory at = wrong.Memory

-- so of a fault of kinds with its item
abbrev pub type_wrong : TypeFault → Wrong
type_wrong fault = type_rule fault.rule fault.item

-- the rules of slices and modes, by their numbers; the seventh is told by the effect's own number
abbrev pub weave_rule : WeaveRule → ℕ → Wrong
weave_rule weave.NoSuchModule at = broken part.Weave 1 at
weave_rule weave.NoSuchVariable at = broken part.Weave 2 at
weave_rule weave.NotAStateVariable at = broken part.Weave 3 at
weave_rule weave.DoubleSlice at = broken part.Weave 4 at
weave_rule weave.DoubleMode at = broken part.Weave 5 at
weave_rule weave.VariableTaken at = broken part.Weave 6 at
weave_rule (weave.Effect effect.WrongKind) at = broken part.Effect 1 at
weave_rule (weave.Effect effect.Outside) at = broken part.Effect 2 at
weave_rule (weave.Effect effect.OneValueOnly) at = broken part.Effect 3 at
weave_rule weave.NameTaken at = broken part.Weave 8 at
weave_rule weave.TooManyFaults at = broken part.Weave 9 at
weave_rule weave.OutOfMemory at = wrong.Memory

-- a rule of the weave, or one of names or kinds that a guard or a Follows breaks, at the item of its mode
abbrev pub cause_wrong : WeaveCause → ℕ → Wrong
cause_wrong (cause.Weave rule) at = weave_rule rule at
cause_wrong (cause.Flat fault) at = flat_rule fault.rule at
cause_wrong (cause.Kinds fault) at = type_rule fault.rule at

-- so of a fault of the weave with its item
abbrev pub weave_wrong : WeaveFault → Wrong
weave_wrong fault = cause_wrong fault.cause fault.item

-- a rule of names is broken, told at a place
abbrev pub names_fault : rules.Rule → ℕ → InputFault
names_fault r place = record { part = part.Flat; number = rules.number_of r; place = place }

-- a rule of kinds, or a limit of size
abbrev pub kinds_fault : kinds.KindRule → ℕ → InputFault
kinds_fault r place = record { part = part.Kinds; number = kinds.number_of r; place = place }

-- this is so of the fault, where the input is refused; want of memory refuses nothing
abbrev pub IfRefused : (InputFault → Type 0) → Wrong → Type 0
IfRefused P (wrong.Refused fault) = P fault
IfRefused P wrong.Memory = Unit {0}
