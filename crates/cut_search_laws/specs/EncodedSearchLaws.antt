-- The lists of an encodable model with history are those that a search for cut sets and a certificate stand on.
use Rattle.std.specs.Prelude.{ℕ, List}
use Rattle.smv_language.specs.Language.{Tree, FlatLeaf, FlatModel}
use Rattle.smv_flat_laws.specs.History.{Mode, with_history}
use Rattle.sat_clauses.specs.Literal.{Literal}
use Rattle.sat_clauses.specs.States.{IsInvariant}
use Rattle.sat_encoding_laws.specs.FlatTraces.{history_of}
use Rattle.sat_encoding_laws.specs.EncodedLaws.{AreOwn}
use Rattle.sat_encoding_laws.specs.Lists.{history_literals, bad_list}
use Rattle.sat_encoding_laws.specs.Encodable.{IsEncodable, IsFitTop}
use Rattle.cut_search_laws.specs.Problem.{Problem, problem_of}
use Rattle.cut_search_laws.specs.FlatSearch.{IsSearched, IsBadFor, AreHistory, AreInvariant}

-- A search stands on the lists of the model with history, and on its list of bad states for any sets and size.
abbrev pub ListsServe : Type 0
ListsServe =
    (m : FlatModel) (fs : List Mode) (top : Tree FlatLeaf) → AreOwn m fs top → IsEncodable (with_history m fs) →
    IsSearched (problem_of m fs top)
    × (IsFitTop (with_history m fs) top → (sets : List (List ℕ)) (size : ℕ) →
    IsBadFor (problem_of m fs top) size sets (bad_list (with_history m fs) top (history_of m fs) sets size))

-- The literals of the history bits are what a search takes them for.
abbrev pub HistoryServes : Type 0
HistoryServes =
    (m : FlatModel) (fs : List Mode) (top : Tree FlatLeaf) →
    AreHistory (problem_of m fs top) (history_literals (with_history m fs) (history_of m fs))

-- An invariant that a search ends with is one that a certificate takes.
abbrev pub InvariantsServe : Type 0
InvariantsServe =
    (problem : Problem) (bad clauses : List (List Literal)) → AreInvariant problem bad clauses → IsInvariant problem.system bad clauses
