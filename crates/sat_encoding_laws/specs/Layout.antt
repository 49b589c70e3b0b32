-- Which variables of the clause lists are the bits of a model's variables. Variable 1 is true; the state now begins at
-- 2, then the next state, and then the inputs. Bits stand by variables in flat order, least significant first.
use Rattle.std.specs.Prelude.{ℕ, zero, suc, ◌+◌, ◌*◌, ℤ, pos, negsuc, false, Option, Some, None, List, [], ◌∷◌, ◌++◌, map, sum_by}
use Rattle.smv_language.specs.Language.{Text, DeclaredTree, boolean, range, members, instance, Role, state, input, frozen_role}
use Rattle.smv_language.specs.Language.{FlatVariable, FlatModel}
use Rattle.smv_type_laws.specs.Intervals.{Interval}
use Rattle.smv_type_laws.specs.ExpressionKinds.{hull_of}
use Rattle.smv_type_laws.specs.DeclaredKinds.{judged_declared}
use Rattle.smv_type_laws.specs.Costs.{width_of, member_number, number_kind, declared_width, role_width, state_bits}
use Rattle.sat_clauses.specs.Literal.{Literal, plain}
use Rattle.sat_circuits.specs.Gates.{constant_lit}
use Rattle.sat_circuits.specs.Words.{fit}
use Rattle.sat_encoding_laws.specs.Widths.{kind_width}
use Rattle.sat_encoding_laws.specs.Signals.{Signal, bit, word}

-- the bits of a variable among those of the state; an input has none there
abbrev pub state_width : List Text → FlatVariable → ℕ
state_width symbols x = role_width x.role (declared_width symbols x.declared)

-- state and frozen variables are no inputs
abbrev pub width_as_input : Role → ℕ → ℕ
width_as_input state n = 0
width_as_input frozen_role n = 0
width_as_input input n = n

-- the bits of a variable among those of the inputs
abbrev pub input_width : List Text → FlatVariable → ℕ
input_width symbols x = width_as_input x.role (declared_width symbols x.declared)

-- the bits of a model's inputs
abbrev pub input_bits : FlatModel → ℕ
input_bits m = sum_by (input_width m.symbols) m.variables

-- where the bits of the next state begin
abbrev pub next_place : FlatModel → ℕ
next_place m = state_bits m + 2

-- where the bits of the inputs begin
abbrev pub input_place : FlatModel → ℕ
input_place m = 2 * state_bits m + 2

-- the first variable of a gate
abbrev pub gates_place : FlatModel → ℕ
gates_place m = 2 * state_bits m + input_bits m + 2

-- so many variables from one on
abbrev pub literals_from : ℕ → ℕ → List Literal
literals_from zero n = []
literals_from (suc k) n = plain n ∷ literals_from k (n + 1)

-- numbers that are never below 0 have no bit for the sign: it is FALSE
abbrev pub with_sign : ℤ → List Literal → List Literal
with_sign (pos n) w = w ++ constant_lit false ∷ []
with_sign (negsuc n) w = w

-- the least and the greatest number of a type, where symbols are their numbers
abbrev pub declared_interval : List Text → DeclaredTree → Option Interval
declared_interval symbols boolean = None
declared_interval symbols (range lo hi) = Some (record { lo = lo; hi = hi })
declared_interval symbols (members ms) = hull_of (map (λ m. number_kind (member_number symbols m)) ms)
declared_interval symbols (instance m actuals) = None

-- the word of numbers of the interval whose bits begin at n, at that width; an instance has no value
abbrev pub number_signal : ℕ → Option Interval → ℕ → Signal
number_signal width (Some i) n = word (fit width (with_sign i.lo (literals_from (width_of i) n)))
number_signal width None n = bit (constant_lit false)

-- the signal of a variable of the type whose bits begin at n
abbrev pub variable_signal : List Text → DeclaredTree → ℕ → Signal
variable_signal symbols boolean n = bit (plain n)
variable_signal symbols d n = number_signal (kind_width symbols (judged_declared d).kind) (declared_interval symbols d) n

-- where the bits of a variable of this role begin
abbrev pub place_of : Role → ℕ → ℕ → ℕ
place_of state p q = p
place_of frozen_role p q = p
place_of input p q = q

-- the signals of variables in flat order, where the next state bit is p and the next input bit is q
abbrev pub variable_signals : List Text → ℕ → ℕ → List FlatVariable → List Signal
variable_signals symbols p q [] = []
variable_signals symbols p q (x ∷ xs) =
    variable_signal symbols x.declared (place_of x.role p q)
    ∷ variable_signals symbols (p + state_width symbols x) (q + input_width symbols x) xs

-- the variables now
abbrev pub signals_now : FlatModel → List Signal
signals_now m = variable_signals m.symbols 2 (input_place m) m.variables

-- the variables at the next moment; no formula asks for an input there
abbrev pub signals_next : FlatModel → List Signal
signals_next m = variable_signals m.symbols (next_place m) (input_place m) m.variables
