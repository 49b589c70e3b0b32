use Rattle.sat_encoding_laws.proofs.HistoryPlaces.{history_last}
use Rattle.sat_encoding_laws.proofs.HistoryTyped.{history_typed}
use Rattle.sat_encoding_laws.proofs.HistoryEncodable.{history_encodable}
use Rattle.sat_encoding_laws.proofs.history_bits_are_last.Goals as goal

pub returns-clause-last : goal.returns-clause-last
returns-clause-last c = history_last

pub returns-clause-typed : goal.returns-clause-typed
returns-clause-typed c = history_typed

pub returns-clause-encodable : goal.returns-clause-encodable
returns-clause-encodable c = history_encodable
