use Rattle.sat_encoding_laws.proofs.ByRole.{bits_by_role}
use Rattle.sat_encoding_laws.proofs.bits_go_by_role.Goals as goal

pub returns : goal.returns
returns c = bits_by_role
