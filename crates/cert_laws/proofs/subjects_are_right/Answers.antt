use Rattle.cert_laws.proofs.Subjects.{subjects_right}
use Rattle.cert_laws.proofs.subjects_are_right.Goals as goal

pub returns : goal.returns
returns c = subjects_right
