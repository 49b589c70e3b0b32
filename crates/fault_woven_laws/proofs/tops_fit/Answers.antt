use Rattle.fault_woven_laws.proofs.Fits.{tops_fit}
use Rattle.fault_woven_laws.proofs.tops_fit.Goals as goal

pub returns : goal.returns
returns c = tops_fit
