-- The clause lists of a model: its first states, its states, its steps and its bad states.
use Rattle.std.specs.Prelude.{ℕ, ◌-◌, Bool, true, false, not, ◌&&◌, nat_lt, Option, Some, None, List, [], ◌∷◌, ◌++◌, map, length, slice_get}
use Rattle.std.specs.Prelude.{pos, if◌then◌else◌}
use Rattle.smv_language.specs.declared.program.Member.{Member}
use Rattle.smv_language.specs.declared.program.Member.TheVariants as member
use Rattle.smv_language.specs.Tree.{Tree, number, leaf, set_of, span, truth, trees_from}
use Rattle.smv_language.specs.ProgramTree.{Text, DeclaredTree, boolean, range, members, instance}
use Rattle.smv_language.specs.Flat.{FlatLeaf, flat_variable, flat_symbol, flat_definition, FlatVariable, FlatFormula, FlatModel}
use Rattle.smv_type_laws.specs.Costs.{symbol_number, state_bits}
use Rattle.smv_type_laws.specs.Models.{judged_in}
use Rattle.sat_clauses.specs.declared.system.System.{System}
use Rattle.sat_clauses.specs.Literal.{Literal, opposite}
use Rattle.sat_circuits.specs.Circuit.{Circuit, after, fold_gates}
use Rattle.sat_circuits.specs.Gates.{constant_lit}
use Rattle.sat_circuits.specs.Words.{fit}
use Rattle.sat_circuits.specs.Numbers.{number_word}
use Rattle.sat_circuits.specs.Counts.{at_most_gates}
use Rattle.sat_encoding_laws.specs.Widths.{symbol_width, kind_width}
use Rattle.sat_encoding_laws.specs.Signals.{Signal, bit, word, literal_in, as_bit}
use Rattle.sat_encoding_laws.specs.Expressions.{its_value, whether_has, Names, encoded}
use Rattle.sat_encoding_laws.specs.Layout.{input_bits, gates_place, signals_now, signals_next}
use Rattle.sat_encoding_laws.specs.Inputs.{is_input, reads_input}

-- of what is not there, or was left out, FALSE
abbrev pub signal_or_false : Option Signal → Signal
signal_or_false None = bit (constant_lit false)
signal_or_false (Some e) = e

-- the signal of a name, from those of the variables and the definitions; a symbol is its number
abbrev pub leaf_signal : List Text → List Signal → List Signal → FlatLeaf → Signal
leaf_signal symbols variables definitions (flat_variable i) = signal_or_false (slice_get variables i)
leaf_signal symbols variables definitions (flat_symbol i) = word (fit (symbol_width symbols) (number_word (pos i)))
leaf_signal symbols variables definitions (flat_definition i) = signal_or_false (slice_get definitions i)

-- a copy of a model's variables and definitions at one moment
pub record Copy : Type 0 where
  pub variables : List Signal
  pub definitions : List Signal

-- the copy of these signals
abbrev pub copy_of : List Signal → List Signal → Copy
copy_of variables definitions = record { variables = variables; definitions = definitions }

-- the names of a model, from its copies now and at the next moment
abbrev pub names_of : FlatModel → Copy → Copy → Names FlatLeaf
names_of m now next =
    record {
      now = leaf_signal m.symbols now.variables now.definitions;
      next = leaf_signal m.symbols next.variables next.definitions;
      width = λ e. kind_width m.symbols (judged_in m false e).kind;
    }

-- one definition more, over those before it; one that reads an input may be left out
abbrev pub definition_gates : FlatModel → List Signal → Bool → FlatFormula → List Signal → Circuit → Circuit × List Signal
definition_gates m variables all d done s =
    if reads_input m d.value && not all then (s, done ++ bit (constant_lit false) ∷ [])
    else after (encoded (names_of m (copy_of variables done) (copy_of variables done)) its_value d.value s) (λ e t. (t, done ++ e ∷ []))

-- the definitions of a copy, all or those through which no input is reached
abbrev pub definitions_gates : FlatModel → List Signal → Bool → Circuit → Circuit × List Signal
definitions_gates m variables all s = fold_gates (definition_gates m variables all) m.definitions [] s

-- the literal holds
unfoldable pub asserted : Literal → Circuit → Circuit
asserted l s = record { clauses = s.clauses ++ (l ∷ []) ∷ []; free = s.free }

-- what was built holds
abbrev pub asserted_signal : Circuit × Signal → Circuit
asserted_signal r = asserted (literal_in r.1) r.0

-- the formulas hold, each in turn
abbrev pub formulas_gates : Names FlatLeaf → List FlatFormula → Circuit → Circuit
formulas_gates c [] s = s
formulas_gates c (f ∷ fs) s = formulas_gates c fs (asserted_signal (encoded c its_value f.value s))

-- a member of a type as an expression
abbrev pub member_tree : List Text → Member → Tree FlatLeaf
member_tree symbols (member.Number n) = number n
member_tree symbols (member.Symbol x) = leaf (flat_symbol (symbol_number symbols x))

-- a type as the expression of its values
abbrev pub type_tree : List Text → DeclaredTree → Tree FlatLeaf
type_tree symbols boolean = set_of (trees_from (truth false ∷ truth true ∷ []))
type_tree symbols (range lo hi) = span lo hi
type_tree symbols (members ms) = set_of (trees_from (map (member_tree symbols) ms))
type_tree symbols (instance m actuals) = set_of (trees_from [])

-- the variable has a value of its type, which a boolean has anyway
abbrev pub type_gates : FlatModel → Names FlatLeaf → DeclaredTree → Signal → Circuit → Circuit
type_gates m c boolean e s = s
type_gates m c d e s = asserted_signal (encoded c (whether_has e) (type_tree m.symbols d) s)

-- the domains of variables with these signals, of all or of those that are no inputs
abbrev pub domains_gates : FlatModel → Names FlatLeaf → Bool → List FlatVariable → List Signal → Circuit → Circuit
domains_gates m c all (x ∷ xs) (e ∷ es) s =
    domains_gates m c all xs es (if is_input x.role && not all then s else type_gates m c x.declared e s)
domains_gates m c all _ _ s = s

-- what holds of a copy at each moment: the domains, and the formulas
abbrev pub moment_gates : FlatModel → Copy → Bool → Circuit → Circuit
moment_gates m copy all s =
    formulas_gates (names_of m copy copy) m.at_each (domains_gates m (names_of m copy copy) all m.variables copy.variables s)

-- a copy of the model: its definitions, its domains and what holds at each moment
abbrev pub copy_gates : FlatModel → List Signal → Bool → Circuit → Circuit × Copy
copy_gates m variables all s =
    after (definitions_gates m variables all s) (λ ds t. (moment_gates m (copy_of variables ds) all t, copy_of variables ds))

-- variable 1 is true, and no gate is built
abbrev pub start_of : FlatModel → Circuit
start_of m = record { clauses = (constant_lit true ∷ []) ∷ []; free = gates_place m }

-- the copy now, without what reads inputs
abbrev pub state_circuit : FlatModel → Circuit × Copy
state_circuit m = copy_gates m (signals_now m) false (start_of m)

-- the first states
abbrev pub first_circuit : FlatModel → Circuit
first_circuit m = let now = state_circuit m in formulas_gates (names_of m now.1 now.1) m.at_first now.0

-- the copy now with all definitions and domains, then that of the next moment, and what holds of the two
abbrev pub step_circuit : FlatModel → Circuit
step_circuit m =
    let now = copy_gates m (signals_now m) true (start_of m) in
    let next = copy_gates m (signals_next m) false now.0 in
    formulas_gates (names_of m now.1 next.1) m.at_step next.0

-- the clauses of all states
abbrev pub state_list : FlatModel → List (List Literal)
state_list m = (state_circuit m).0.clauses

-- the clauses of the first states
abbrev pub first_list : FlatModel → List (List Literal)
first_list m = (first_circuit m).clauses

-- the clauses of the steps
abbrev pub step_list : FlatModel → List (List Literal)
step_list m = (step_circuit m).clauses

-- the clause lists of a model
abbrev pub system_of : FlatModel → System
system_of m = record { state_bits = state_bits m; input_bits = input_bits m; first = first_list m; step = step_list m }

-- the literals of the history bits now, by the numbers of their variables
abbrev pub history_literals : FlatModel → List ℕ → List Literal
history_literals m history = map (λ i. literal_in (signal_or_false (slice_get (signals_now m) i))) history

-- the item at a place from 0, or FALSE
abbrev pub literal_at : List Literal → ℕ → Literal
literal_at bits i = literal_in (signal_or_false (elim (slice_get bits i) [ Some l ↦ Some (bit l) | None ↦ None ]))

-- some fault of the set has not failed; faults have numbers from 1
abbrev pub unlisted_clause : List Literal → List ℕ → List Literal
unlisted_clause bits set = map (λ n. opposite (literal_at bits (n - 1))) set

-- at most so many faults have failed; where that is every number of them nothing is asked
abbrev pub size_gates : List Literal → ℕ → Circuit → Circuit
size_gates bits size s = if nat_lt size (length bits) then asserted_signal (as_bit (at_most_gates bits size s)) else s

-- the states at which the top event holds, that have failed at most so many faults and all of none of the sets
abbrev pub bad_list : FlatModel → Tree FlatLeaf → List ℕ → List (List ℕ) → ℕ → List (List Literal)
bad_list m top history sets size =
    let now = state_circuit m in
    let bits = history_literals m history in
    (size_gates bits size (asserted_signal (encoded (names_of m now.1 now.1) its_value top now.0))).clauses
    ++ map (unlisted_clause bits) sets
