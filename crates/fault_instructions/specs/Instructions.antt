-- Instructions as contracts see them: trees alone.
use Rattle.std.specs.Prelude.{ℤ, Bool, true, false, List, [], ◌∷◌, ◌++◌, Option, Some, None, map, if◌then◌else◌}
use Rattle.fault_instructions.specs.declared.instructions.Dynamics.{Dynamics}
use Rattle.fault_instructions.specs.declared.instructions.Start.{Start}
use Rattle.fault_instructions.specs.declared.instructions.Constant.{Constant}
use Rattle.fault_instructions.specs.declared.instructions.Constant.TheVariants as constant
use Rattle.fault_instructions.specs.declared.effects.PlainEffect.{PlainEffect}
use Rattle.fault_instructions.specs.declared.effects.ConstantEffect.{ConstantEffect}
use Rattle.fault_instructions.specs.declared.effects.ExpressionEffect.{ExpressionEffect}
use Rattle.fault_instructions.specs.declared.effects.NumberEffect.{NumberEffect}
use Rattle.fault_instructions.specs.declared.effects.NumbersEffect.{NumbersEffect}
use Rattle.fault_instructions.specs.declared.effects.EffectKind.{EffectKind}
use Rattle.fault_instructions.specs.declared.effects.EffectKind.TheVariants as kind
use Rattle.fault_instructions.specs.declared.instructions.Effect.{Effect}
use Rattle.fault_instructions.specs.declared.instructions.Effect.TheVariants as effect
use Rattle.fault_instructions.specs.declared.instructions.ModeRule.{ModeRule}
use Rattle.fault_instructions.specs.declared.instructions.Slice.{Slice}
use Rattle.fault_instructions.specs.declared.instructions.Extension.{Extension}
use Rattle.fault_instructions.specs.declared.instructions.Instructions.{Instructions}
use Rattle.smv_language.specs.Language.{Text, Path, Formula, tree_of, Value, symbol, same_text}
use Rattle.smv_language.specs.declared.expr.Expr.{Expr}
use Rattle.smv_language.specs.Values.{truth, number}

-- an effect with its arguments
pub data EffectTree : Type 0 where
  plain : PlainEffect → EffectTree
  of_constant : ConstantEffect → Value → EffectTree
  of_expression : ExpressionEffect → Formula → EffectTree
  of_number : NumberEffect → ℤ → EffectTree
  of_numbers : NumbersEffect → ℤ → ℤ → EffectTree

-- the effect without its arguments
abbrev pub kind_of : EffectTree → EffectKind
kind_of (plain k) = kind.Plain k
kind_of (of_constant k c) = kind.OfConstant k
kind_of (of_expression k e) = kind.OfExpression k
kind_of (of_number k n) = kind.OfNumber k
kind_of (of_numbers k m n) = kind.OfNumbers k

-- what holds of each argument: a constant, an expression, or numbers
abbrev pub EachArgument : (Value → Type 0) → (Formula → Type 0) → (ℤ → Type 0) → EffectTree → Type 0
EachArgument V F N (plain k) = Unit {0}
EachArgument V F N (of_constant k c) = V c
EachArgument V F N (of_expression k e) = F e
EachArgument V F N (of_number k n) = N n
EachArgument V F N (of_numbers k m n) = N m × N n

-- a mode; its mark is the list of the texts of its tokens
pub record ModeTree : Type 0 where
  pub name : Text
  pub mark : Option (List Text)
  pub dynamics : Dynamics
  pub effect : EffectTree
  pub guard : Option Formula

-- a slice: its name, the variable that it affects, where it may start, and its modes
pub record SliceTree : Type 0 where
  pub name : Text
  pub target : Text
  pub start : Start
  pub modes : List ModeTree

-- an extension of a module by slices
pub record ExtensionTree : Type 0 where
  pub of_module : Text
  pub slices : List SliceTree

-- a file: its own name, where it has one, and its extensions
pub record InstructionTree : Type 0 where
  pub name : Option Text
  pub extensions : List ExtensionTree

-- the value of a constant
abbrev pub constant_value : Constant → Value
constant_value (constant.Truth b) = truth b
constant_value (constant.Number n) = number n
constant_value (constant.Symbol x) = symbol x

-- the code's effects as trees
abbrev pub effect_tree : Effect → EffectTree
effect_tree (effect.Plain k) = plain k
effect_tree (effect.OfConstant k c) = of_constant k (constant_value c)
effect_tree (effect.OfExpression k e) = of_expression k (tree_of e)
effect_tree (effect.OfNumber k n) = of_number k n
effect_tree (effect.OfNumbers k m n) = of_numbers k m n

-- the code's guards as trees
abbrev pub guard_tree : Option (Expr Path) → Option Formula
guard_tree None = None
guard_tree (Some e) = Some (tree_of e)

-- the code's modes as trees
abbrev pub mode_tree : ModeRule → ModeTree
mode_tree m = record { name = m.name; mark = m.mark; dynamics = m.dynamics; effect = effect_tree m.effect; guard = guard_tree m.guard }

-- the code's slices as trees
abbrev pub slice_tree : Slice → SliceTree
slice_tree s = record { name = s.name; target = s.target; start = s.start; modes = map mode_tree s.modes }

-- the code's extensions as trees
abbrev pub extension_tree : Extension → ExtensionTree
extension_tree x = record { of_module = x.«module»; slices = map slice_tree x.slices }

-- the code's instructions as trees
abbrev pub instruction_tree : Instructions → InstructionTree
instruction_tree i = record { name = i.name; extensions = map extension_tree i.extensions }

-- the slices of a module, in the order of the file
abbrev pub slices_from : List ExtensionTree → Text → List SliceTree
slices_from [] m = []
slices_from (x ∷ xs) m = if same_text x.of_module m then x.slices ++ slices_from xs m else slices_from xs m

-- the slices of all extensions of a module, in written order
abbrev pub slices_of : InstructionTree → Text → List SliceTree
slices_of i m = slices_from i.extensions m

-- the module's variable is the target of a slice
abbrev pub is_target : List SliceTree → Text → Bool
is_target [] x = false
is_target (s ∷ ss) x = if same_text s.target x then true else is_target ss x

-- some slice affects the variable of the module
abbrev pub is_affected : InstructionTree → Text → Text → Bool
is_affected i m x = is_target (slices_of i m) x
