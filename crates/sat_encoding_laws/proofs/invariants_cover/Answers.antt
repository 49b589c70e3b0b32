use Rattle.sat_encoding_laws.proofs.Covering.{invariants_cover}
use Rattle.sat_encoding_laws.proofs.invariants_cover.Goals as goal

pub returns : goal.returns
returns c = invariants_cover
