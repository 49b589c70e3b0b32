-- The record of the encoding is the one that the search takes.
use Rattle.smv_flat_laws.specs.History.{with_history}
use Rattle.sat_encoding_laws.specs.FlatTraces.{history_of}
use Rattle.sat_encoding_laws.proofs.EncodingLaws.{models_encoded, bad_states_encoded}
use Rattle.sat_encoding_laws.proofs.HistoryPlaces.{history_last}
use Rattle.cut_search_laws.specs.EncodedSearchLaws.{ListsServe, InvariantsServe}

pub lists_serve : ListsServe
lists_serve m fs top own is = (
  record { own = own.names_own; modes = own.modes; top_own = own.top_own; encoded = models_encoded (with_history m fs) is },
  (λ fit sets size. bad_states_encoded (with_history m fs) is top fit (history_of m fs) (history_last m fs).0 sets size),
)

pub invariants_serve : InvariantsServe
invariants_serve problem bad clauses are = record {
  holds_first = are.inductive.holds_first;
  is_kept = are.inductive.is_kept;
  excludes = are.excludes;
}
