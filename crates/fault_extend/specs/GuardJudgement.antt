-- What is judged of the expressions of a mode, one after the other.
use Rattle.std.specs.Prelude.{◌≡◌, ◌<◌, ℕ, Bool, true, false, Option, Some, None, IfSome, nat_lt, if◌then◌else◌, Result, Ok, Err}
use Rattle.std.specs.Option.{option_map}
use Rattle.smv_language.specs.Language.{Tree, Formula, DeclaredTree, ProgramTree, program_tree, Place, FlatLeaf, FlatModel, model_tree}
use Rattle.smv_language.specs.declared.program.Member.{Member}
use Rattle.fault_instructions.specs.Instructions.{ModeTree}
use Rattle.smv_flat_laws.specs.Rules.{Rule, number_of}
use Rattle.smv_type_laws.specs.ExpressionKinds as found
use Rattle.smv_type_laws.specs.ExpressionKinds.{Class, truth_class, number_class, symbol_class, same_class}
use Rattle.smv_type_laws.specs.DeclaredKinds.{member_kind}
use Rattle.smv_type_laws.specs.Models.{judged_in}
use Rattle.smv_language.specs.declared.expr.Expr.{Expr}
use Rattle.smv_language.specs.declared.model.Flat.{Flat}
use Rattle.smv_scope.specs.declared.fault.FlatFault.{FlatFault}
use Rattle.smv_scope.specs.Faults.{rule_of}
use Rattle.smv_types.specs.declared.calls.Kind.{Kind}
use Rattle.smv_types.specs.declared.calls.Kind.TheVariants.{Bool as ABool, Num, Sym}
use Rattle.fault_extend_laws.specs.Uses.{Use}
use Rattle.fault_extend_laws.specs.Expressions.{SomeBreaks}
use Rattle.smv_types.specs.declared.fault.TypeFault.{TypeFault}
use Rattle.fault_extend.specs.declared.guards.Nominal.{Nominal}
use Rattle.fault_extend.specs.declared.guards.Resolved.{Resolved}
use Rattle.fault_extend.specs.declared.guards.GuardVerdict.{GuardVerdict}

-- the program as a tree
abbrev pub program_in : Nominal → ProgramTree
program_in n = program_tree n.program.now

-- its flat model as a tree
abbrev pub model_in : Nominal → FlatModel
model_in n = model_tree n.typed.now.model

-- a mode at an instance, of this item
abbrev pub use_at : Place → DeclaredTree → ModeTree → ℕ → Use
use_at at type mode n = record { place = at; item = n; type = type; mode = mode }

-- the rule of names is broken by the expression, where there is one, and none of a lower number
pub record IsLeastOfSome (p : ProgramTree) (at : Place) (inputs : Bool) (e : Option Formula) (r : Rule) : Type 0 where
  pub broken : SomeBreaks p at inputs e r
  pub lowest : (other : Rule) → number_of other < number_of r → SomeBreaks p at inputs e other → ⊥

-- no rule of names is broken by the expression, where there is one
abbrev pub IsSomeKept : ProgramTree → Place → Bool → Option Formula → Type 0
IsSomeKept p at inputs e = (r : Rule) → SomeBreaks p at inputs e r → ⊥

-- the fault is the least rule that the expression breaks, or want of memory
abbrev pub IsSomeFault : ProgramTree → Place → Bool → Option Formula → FlatFault → Type 0
IsSomeFault p at inputs e f = IfSome (rule_of f.rule) (λ r. (f.item ≡ 0) × IsLeastOfSome p at inputs e r)

-- a rule's number; want of memory comes before all
abbrev pub told_number : Option Rule → ℕ
told_number None = 0
told_number (Some r) = number_of r

-- the kind of a flat form, where there is one
abbrev pub kind_of_form : FlatModel → Option (Tree FlatLeaf) → Option found.Kind
kind_of_form m form = option_map (λ e. (judged_in m false e).kind) form

-- the class of a kind that is shown
abbrev pub class_shown : Kind → Class
class_shown ABool = truth_class
class_shown (Num lo hi) = number_class
class_shown Sym = symbol_class

-- the kind, where there is one, is of the class
abbrev pub fits_class : Option Kind → Class → Bool
fits_class None c = true
fits_class (Some k) c = same_class (class_shown k) c

-- the class of a type that lists this member first
abbrev pub member_class : Option Member → Class
member_class None = truth_class
member_class (Some m) = (member_kind m).class

-- what an answer for an expression says
abbrev pub judged_by : Result Kind TypeFault → GuardVerdict
judged_by (Ok k) = record { rule = None; kind = Some k }
judged_by (Err f) = record { rule = Some f.rule; kind = None }

-- the fault with the lower number
abbrev pub lower_fault : FlatFault → FlatFault → FlatFault
lower_fault a b = if nat_lt (told_number (rule_of b.rule)) (told_number (rule_of a.rule)) then b else a

-- both expressions, or the fault of one, or the lower of two
abbrev pub both_forms : Result (Option (Expr Flat)) FlatFault → Result (Option (Expr Flat)) FlatFault → Result Resolved FlatFault
both_forms (Ok f) (Ok g) = Ok (record { follows = f; guard = g })
both_forms (Err a) (Ok g) = Err a
both_forms (Ok f) (Err b) = Err b
both_forms (Err a) (Err b) = Err (lower_fault a b)
