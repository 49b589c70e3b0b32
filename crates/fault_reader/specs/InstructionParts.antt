-- What the second pass reads of instructions, part by part, and what it leaves.
use Rattle.std.specs.Prelude.{Bool, true, false, not, List, Option, Some, None, codes, length, if◌then◌else◌}
use Rattle.smv_language.specs.Language.{Text, Formula, Value, symbol, Lexeme}
use Rattle.smv_language.specs.Values.{truth, number}
use Rattle.fault_instructions.specs.declared.instructions.Dynamics.{Dynamics}
use Rattle.fault_instructions.specs.declared.instructions.Dynamics.TheVariants.{Permanent, Transient}
use Rattle.fault_instructions.specs.declared.instructions.Start.{Start}
use Rattle.fault_instructions.specs.declared.instructions.Start.TheVariants.{Nominal, Any}
use Rattle.fault_instructions.specs.declared.effects.ConstantEffect.{ConstantEffect}
use Rattle.fault_instructions.specs.declared.effects.ExpressionEffect.{ExpressionEffect}
use Rattle.fault_instructions.specs.declared.effects.NumberEffect.{NumberEffect}
use Rattle.fault_instructions.specs.declared.effects.NumbersEffect.{NumbersEffect}
use Rattle.fault_instructions.specs.declared.effects.EffectKind.{EffectKind}
use Rattle.fault_instructions.specs.declared.effects.EffectKind.TheVariants as kind
use Rattle.fault_instructions.specs.Effects.{effect_kinds, first_kind}
use Rattle.fault_instructions.specs.Instructions.{EffectTree, plain, of_constant, of_expression, of_number, of_numbers}
use Rattle.fault_instructions.specs.Instructions.{ModeTree, SliceTree, ExtensionTree, InstructionTree}
use Rattle.smv_expression_reader.specs.SecondPass.{Read, got, none, and_then}
use Rattle.smv_expression_reader.specs.SecondPass.{rest_of, has_next, expect_at, name_at, expr_at, each_at, some_at}
use Rattle.smv_expression_reader.specs.SecondPass.{int_at, has_word, word_at, text_at, end_at}
use Rattle.smv_expression_reader.specs.declared.mark.Mark.TheVariants as marks

-- a truth value, a symbol or a number
abbrev pub const_at : List Lexeme → Read Value
const_at ts =
    if has_word (codes "TRUE") ts then got (truth true) (rest_of ts) else
    (if has_word (codes "FALSE") ts then got (truth false) (rest_of ts) else
    (if has_next marks.Name ts then and_then (name_at ts) (λ x r. got (symbol x) r) else and_then (int_at ts) (λ n r. got (number n) r)))

-- a constant in parentheses
abbrev pub constant_from : ConstantEffect → List Lexeme → Read EffectTree
constant_from of ts = and_then (expect_at marks.Open ts)
    (λ _ r. and_then (const_at r) (λ c s. and_then (expect_at marks.Close s) (λ _ q. got (of_constant of c) q)))

-- an expression in parentheses
abbrev pub expression_from : ExpressionEffect → List Lexeme → Read EffectTree
expression_from of ts = and_then (expect_at marks.Open ts)
    (λ _ r. and_then (expr_at r) (λ e s. and_then (expect_at marks.Close s) (λ _ q. got (of_expression of e) q)))

-- a number in parentheses
abbrev pub number_from : NumberEffect → List Lexeme → Read EffectTree
number_from of ts = and_then (expect_at marks.Open ts)
    (λ _ r. and_then (int_at r) (λ d s. and_then (expect_at marks.Close s) (λ _ q. got (of_number of d) q)))

-- two numbers in parentheses
abbrev pub numbers_from : NumbersEffect → List Lexeme → Read EffectTree
numbers_from of ts =
    and_then (expect_at marks.Open ts)
    (λ _ r. and_then (int_at r)
    (λ d s. and_then (expect_at marks.Comma s)
    (λ _ q. and_then (int_at q) (λ f y. and_then (expect_at marks.Close y) (λ _ z. got (of_numbers of d f) z)))))

-- what stands behind the word of an effect
abbrev pub arguments_at : EffectKind → List Lexeme → Read EffectTree
arguments_at (kind.Plain of) ts = got (plain of) ts
arguments_at (kind.OfConstant of) ts = constant_from of ts
arguments_at (kind.OfExpression of) ts = expression_from of ts
arguments_at (kind.OfNumber of) ts = number_from of ts
arguments_at (kind.OfNumbers of) ts = numbers_from of ts

-- the effect whose word stands next
abbrev pub kind_at : List Lexeme → Option EffectKind
kind_at ts = first_kind (λ w. has_word w ts) effect_kinds

-- an effect of this kind, where there is one
abbrev pub kind_from : Option EffectKind → List Lexeme → Read EffectTree
kind_from None ts = none
kind_from (Some k) ts = arguments_at k ts

-- an effect, by its word
abbrev pub effect_at : List Lexeme → Read EffectTree
effect_at ts = kind_from (kind_at ts) (rest_of ts)

-- whether a mode can be left
abbrev pub dynamics_at : List Lexeme → Read Dynamics
dynamics_at ts = if has_word (codes "Permanent") ts then got Permanent (rest_of ts) else and_then (word_at (codes "Transient") ts)
    (λ _ r. got Transient r)

-- the condition behind `WHEN`, or none
abbrev pub guard_at : List Lexeme → Read (Option Formula)
guard_at ts = if has_word (codes "WHEN") ts then and_then (expr_at (rest_of ts)) (λ e r. got (Some e) r) else got None ts

-- whether a mark goes on
abbrev pub in_braces : List Lexeme → Bool
in_braces ts = not (has_next marks.CloseBrace ts)

-- the texts of a mark's tokens
abbrev pub texts_at : List Lexeme → Read (List Text)
texts_at ts = each_at in_braces text_at (length ts) ts

-- a mark in braces, or none
abbrev pub marked_at : List Lexeme → Read (Option (List Text))
marked_at ts = if has_next marks.OpenBrace ts then and_then (texts_at (rest_of ts))
    (λ xs r. and_then (expect_at marks.CloseBrace r) (λ _ s. got (Some xs) s)) else got None ts

-- what stands before the effect of a mode
pub record HeadTree : Type 0 where
  pub name : Text
  pub mark : Option (List Text)
  pub dynamics : Dynamics

-- the head of these parts
abbrev pub head_tree : Text → Option (List Text) → Dynamics → HeadTree
head_tree x m d = record { name = x; mark = m; dynamics = d }

-- a mode up to its effect
abbrev pub head_at : List Lexeme → Read HeadTree
head_at ts =
    and_then (word_at (codes "MODE") ts)
    (λ _ r. and_then (name_at r)
    (λ x s. and_then (marked_at s)
    (λ m q. and_then (expect_at marks.Colon q) (λ _ y. and_then (dynamics_at y) (λ d z. got (head_tree x m d) z)))))

-- the mode of a head, an effect and a guard
abbrev pub mode_with : HeadTree → EffectTree → Option Formula → ModeTree
mode_with h e g = record { name = h.name; mark = h.mark; dynamics = h.dynamics; effect = e; guard = g }

-- a mode, and the semicolon behind it
abbrev pub mode_at : List Lexeme → Read ModeTree
mode_at ts = and_then (head_at ts)
    (λ h r. and_then (effect_at r)
    (λ e s. and_then (guard_at s) (λ g q. and_then (expect_at marks.Semicolon q) (λ _ z. got (mode_with h e g) z))))

-- one mode or more
abbrev pub modes_at : List Lexeme → Read (List ModeTree)
modes_at ts = some_at (has_word (codes "MODE")) mode_at mode_at ts

-- which states a slice may start in
abbrev pub start_at : List Lexeme → Read Start
start_at ts = if has_word (codes "INITIALLY") ts then and_then (word_at (codes "ANY") (rest_of ts)) (λ _ r. got Any r) else got Nominal ts

-- a slice with its modes
abbrev pub slice_at : List Lexeme → Read SliceTree
slice_at ts =
    and_then (word_at (codes "SLICE") ts)
    (λ _ r. and_then (name_at r) (λ x s. and_then (word_at (codes "AFFECTS") s) (λ _ q. and_then (name_at q) (λ y p.
    and_then (start_at p) (λ st w. and_then (word_at (codes "WITH") w) (λ _ o. and_then (modes_at o) (λ ms z. got (record {
      name = x;
      target = y;
      start = st;
      modes = ms;
    }) z)))))))

-- slices, as long as another begins
abbrev pub slices_at : List Lexeme → Read (List SliceTree)
slices_at ts = each_at (has_word (codes "SLICE")) slice_at (length ts) ts

-- an extension with its slices
abbrev pub extension_at : List Lexeme → Read ExtensionTree
extension_at ts =
    and_then (word_at (codes "EXTENSION") ts)
    (λ _ r. and_then (word_at (codes "OF") r) (λ _ s. and_then (word_at (codes "MODULE") s) (λ _ q. and_then (name_at q) (λ x y.
    and_then (slices_at y) (λ ss z. got (record { of_module = x; slices = ss }) z)))))

-- extensions, as long as another begins
abbrev pub extensions_at : List Lexeme → Read (List ExtensionTree)
extensions_at ts = each_at (has_word (codes "EXTENSION")) extension_at (length ts) ts

-- the name of a file, behind its first word
abbrev pub given_name_at : List Lexeme → Read Text
given_name_at ts = and_then (word_at (codes "EXTENSION") ts) (λ _ r. name_at r)

-- the name that a file gives itself, where it does
abbrev pub file_name_at : List Lexeme → Read (Option Text)
file_name_at ts = if has_word (codes "FAULT") ts then and_then (given_name_at (rest_of ts)) (λ x r. got (Some x) r) else got None ts

-- the instructions of these parts
abbrev pub instructions_of : Option Text → List ExtensionTree → InstructionTree
instructions_of x xs = record { name = x; extensions = xs }

-- a whole file
abbrev pub file_at : List Lexeme → Read InstructionTree
file_at ts = and_then (file_name_at ts)
    (λ x r. and_then (extensions_at r) (λ xs s. and_then (end_at s) (λ _ q. got (instructions_of x xs) q)))
