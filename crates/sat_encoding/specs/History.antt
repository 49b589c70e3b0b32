-- Which variables are the bits of a model's history, and the circuit of its bad states.
use Rattle.std.specs.Prelude.{◌≡◌, ◌≤◌, ℕ, ◌-◌, List, length, slice_get}
use Rattle.std.specs.List.{range_with_len}
use Rattle.smv_language.specs.Flat.{FlatModel}
use Rattle.smv_flat_laws.specs.History.{Mode, with_history}
use Rattle.sat_encoding_laws.specs.FlatTraces.{history_of}
use Rattle.sat_clauses.specs.Literal.{Literal}
use Rattle.sat_encoding_laws.specs.Signals.{Signal, literal_in}
use Rattle.sat_encoding_laws.specs.Lists.{signal_or_false}

-- the numbers of the last so many variables
abbrev pub last_numbers : FlatModel → ℕ → List ℕ
last_numbers m k = range_with_len (length m.variables - k) k

-- The bits of a model's history are its last variables, which follow the model's own.
abbrev pub HistoryIsLast : Type 0
HistoryIsLast =
    (m : FlatModel) (fs : List Mode) →
    (length fs ≤ length (with_history m fs).variables)
    × (last_numbers (with_history m fs) (length fs) ≡ history_of m fs)

-- the literal of a signal by its number, or FALSE
abbrev pub literal_of : List Signal → ℕ → Literal
literal_of signals i = literal_in (signal_or_false (slice_get signals i))
