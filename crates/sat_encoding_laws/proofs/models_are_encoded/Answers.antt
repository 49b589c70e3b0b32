use Rattle.sat_encoding_laws.proofs.EncodingLaws.{models_encoded, bad_states_encoded}
use Rattle.sat_encoding_laws.proofs.models_are_encoded.Goals as goal

pub returns-clause-system : goal.returns-clause-system
returns-clause-system c = models_encoded

pub returns-clause-bad : goal.returns-clause-bad
returns-clause-bad c = bad_states_encoded
