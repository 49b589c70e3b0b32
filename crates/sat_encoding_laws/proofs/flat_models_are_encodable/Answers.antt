use Rattle.sat_encoding_laws.proofs.FlatEncodable.{flat_models_encodable}
use Rattle.sat_encoding_laws.proofs.flat_models_are_encodable.Goals as goal

pub returns : goal.returns
returns c = flat_models_encodable
