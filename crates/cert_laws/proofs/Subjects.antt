-- The exact lists are those of a model.
use Rattle.std.proofs.Common.{refl}
use Rattle.smv_flat_laws.specs.History.{with_history}
use Rattle.sat_encoding_laws.specs.FlatTraces.{history_of}
use Rattle.sat_encoding_laws.specs.Bits.{state_of, inputs_of}
use Rattle.sat_encoding_laws.proofs.EncodingLaws.{models_encoded, bad_states_encoded}
use Rattle.sat_encoding_laws.proofs.HistoryPlaces.{history_last}
use Rattle.cert_laws.specs.Subject.{SubjectsAreRight}

pub subjects_right : SubjectsAreRight
subjects_right m fs top is fit = record {
  faults = refl;
  encoded = record { state_of = state_of (with_history m fs); inputs_of = inputs_of (with_history m fs); encoding = models_encoded (with_history m fs) is };
  bad = λ sets size numbered small. bad_states_encoded (with_history m fs) is top fit (history_of m fs) (history_last m fs).0 sets size;
}
