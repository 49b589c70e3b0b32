-- The machine that makes the tree: a stack of the parts that wait for an operand to their right.
use Rattle.std.specs.Prelude.{ℕ, ℤ, pos, Bool, false, List, [], ◌∷◌, ◌++◌, Option, Some, None, nat_le, if◌then◌else◌}
use Rattle.smv_language.specs.declared.expr.Op.{Op}
use Rattle.smv_language.specs.declared.expr.Op.TheVariants as op
use Rattle.smv_language.specs.Language.{Tree, leaf, not_of, negate, next_of, binary, choice, case_of, set_of, span, trees_from}
use Rattle.smv_language.specs.Language.{branches_from, Lexeme, word, num, Path, Text, at_expr, at_iff, at_choice, at_or, at_sum, at_neg}
use Rattle.smv_language.specs.Language.{at_not, line_of, minus}
use Rattle.smv_language.specs.Tree.{truth, number}
use Rattle.smv_expression_reader.specs.Recogniser.{role_of}
use Rattle.smv_expression_reader.specs.declared.machine.TokenRole.{TokenRole as Role}
use Rattle.smv_expression_reader.specs.declared.machine.TokenRole.TheVariants as role

-- what waits for the operand to its right
pub data Part : Type 0 where
  minus_part : Part
  bang_part : Part
  left_part : Op → Tree Path → Part
  answered : Tree Path → Tree Path → Part
  -- what waits for more than an operand
  asked : Tree Path → Part
  group_part : Part
  next_part : Part
  set_part : List (Tree Path) → Part
  condition_part : List (Tree Path × Tree Path) → Part
  outcome_part : List (Tree Path × Tree Path) → Tree Path → Part

-- the operand that stands last
pub data Hand : Type 0 where
  number_hand : ℕ → Hand
  name_hand : Path → Hand
  other_hand : Tree Path → Hand

-- what has been read last, over the parts that wait: nothing yet, a name and its dot, what begins a span, `next`, branches, or an operand
pub data Build : Type 0 where
  ready : List Part → Build
  name_on : Path → List Part → Build
  high_on : ℤ → List Part → Build
  minus_high_on : ℤ → List Part → Build
  next_on : List Part → Build
  branch_on : List (Tree Path × Tree Path) → List Part → Build
  holds : Hand → List Part → Build
  broken : Build

-- the tree of an operand
abbrev pub value : Hand → Tree Path
value (number_hand n) = number (pos n)
value (name_hand p) = leaf p
value (other_hand t) = t

-- `->` is looser than each line that repeats an operator
abbrev pub looseness : Option ℕ → ℕ
looseness (Some l) = l
looseness None = at_expr

-- a part takes its operand where no operator of a tighter line than its own follows
abbrev pub takes_operand : ℕ → Part → Bool
takes_operand l minus_part = nat_le l at_neg
takes_operand l bang_part = nat_le l at_not
takes_operand l (left_part o a) = nat_le l (looseness (line_of o))
takes_operand l (answered c a) = nat_le l at_choice
takes_operand l _ = false

-- a part with its operand
abbrev pub joined : Part → Tree Path → Tree Path
joined minus_part t = negate t
joined bang_part t = not_of t
joined (left_part o a) t = binary o a t
joined (answered c a) t = choice c a t
joined _ t = t

-- an operand, and the parts that still wait
pub record Held : Type 0 where
  pub tree : Tree Path
  pub parts : List Part

-- before what follows of line l
abbrev pub reduce : ℕ → Tree Path → List Part → Held
reduce l t [] = record { tree = t; parts = [] }
reduce l t (p ∷ ps) = if takes_operand l p then reduce l (joined p t) ps else record { tree = t; parts = p ∷ ps }

-- a lexeme that closes what is open, or goes on inside it, behind a whole operand
abbrev pub shut : Tree Path → List Part → Role → Build
shut t (group_part ∷ ps) role.Closes = holds (other_hand t) ps
shut t (next_part ∷ ps) role.Closes = holds (other_hand (next_of t)) ps
shut t (set_part ts ∷ ps) role.Comma = ready (set_part (ts ++ t ∷ []) ∷ ps)
shut t (set_part ts ∷ ps) role.ClosesSet = holds (other_hand (set_of (trees_from (ts ++ t ∷ [])))) ps
shut t (asked c ∷ ps) role.Colon = ready (answered c t ∷ ps)
shut t (condition_part bs ∷ ps) role.Colon = ready (outcome_part bs t ∷ ps)
shut t (outcome_part bs c ∷ ps) role.Semicolon = branch_on (bs ++ (c, t) ∷ []) ps
shut t _ _ = broken

-- the same, of an operand with its parts
abbrev pub shut_held : Held → Role → Build
shut_held h c = shut h.tree h.parts c

-- an operator behind its left operand
abbrev pub left_held : Op → Held → Build
left_held o h = ready (left_part o h.tree ∷ h.parts)

-- a `?` behind its condition
abbrev pub asked_held : Held → Build
asked_held h = ready (asked h.tree ∷ h.parts)

-- the level to which an operator lets the parts before it take their operands
abbrev pub level : Option ℕ → ℕ
level (Some l) = l
level None = at_iff

-- an operator, a `?`, or what closes, behind an operand
abbrev pub go_on : Tree Path → List Part → Role → Build
go_on t ps (role.Joins o) = left_held o (reduce (level (line_of o)) t ps)
go_on t ps role.Minus = left_held op.Minus (reduce at_sum t ps)
go_on t ps role.Asks = asked_held (reduce at_or t ps)
go_on t ps c = shut_held (reduce at_expr t ps) c

-- a `-` before the first number of a span is its own
abbrev pub span_from : ℕ → List Part → Build
span_from n (minus_part ∷ ps) = high_on (minus n) ps
span_from n ps = high_on (pos n) ps

-- what stands behind an operand: two dots, a dot, or what goes on
abbrev pub after_hand : Hand → List Part → Role → Build
after_hand (number_hand n) ps role.Dots = span_from n ps
after_hand (name_hand p) ps role.Dot = name_on p ps
after_hand h ps c = go_on (value h) ps c

-- the text of a word
abbrev pub name_in : Lexeme → Text
name_in (word x) = x
name_in _ = []

-- the number of a number
abbrev pub number_in : Lexeme → ℕ
number_in (num n d) = n
number_in _ = 0

-- what begins an operand
abbrev pub open_operand : List Part → Lexeme → Role → Build
open_operand ps t (role.Truth b) = holds (other_hand (truth b)) ps
open_operand ps t role.Name = holds (name_hand (name_in t ∷ [])) ps
open_operand ps t role.Number = holds (number_hand (number_in t)) ps
open_operand ps t role.Next = next_on ps
open_operand ps t role.Case = ready (condition_part [] ∷ ps)
open_operand ps t role.Minus = ready (minus_part ∷ ps)
open_operand ps t role.Bang = ready (bang_part ∷ ps)
open_operand ps t role.Opens = ready (group_part ∷ ps)
open_operand ps t role.OpensSet = ready (set_part [] ∷ ps)
open_operand ps t _ = broken

-- the state after one more lexeme
abbrev pub build_step : Build → Lexeme → Role → Build
build_step (ready ps) t c = open_operand ps t c
build_step (name_on p ps) t role.Name = holds (name_hand (p ++ name_in t ∷ [])) ps
build_step (name_on p ps) t c = broken
build_step (high_on lo ps) t role.Minus = minus_high_on lo ps
build_step (high_on lo ps) t role.Number = holds (other_hand (span lo (pos (number_in t)))) ps
build_step (high_on lo ps) t c = broken
build_step (minus_high_on lo ps) t role.Number = holds (other_hand (span lo (minus (number_in t)))) ps
build_step (minus_high_on lo ps) t c = broken
build_step (next_on ps) t role.Opens = ready (next_part ∷ ps)
build_step (next_on ps) t c = broken
build_step (branch_on bs ps) t role.Esac = holds (other_hand (case_of (branches_from bs))) ps
build_step (branch_on bs ps) t c = open_operand (condition_part bs ∷ ps) t c
build_step (holds h ps) t c = after_hand h ps c
build_step broken t c = broken

-- the state after a list of lexemes
abbrev pub build : Build → List Lexeme → Build
build st [] = st
build st (t ∷ ts) = build (build_step st t (role_of t)) ts

-- the tree, where nothing waits any more
abbrev pub finished : Held → Option (Tree Path)
finished h = if_empty h.parts (Some h.tree)
  where
    if_empty : List Part → Option (Tree Path) → Option (Tree Path)
    if_empty [] o = o
    if_empty (p ∷ ps) o = None

-- the tree of a whole list
abbrev pub finish : Build → Option (Tree Path)
finish (holds h ps) = finished (reduce at_expr (value h) ps)
finish _ = None

-- the tree of a list of lexemes, where it spells one
abbrev pub built : List Lexeme → Option (Tree Path)
built ts = finish (build (ready []) ts)
