use Rattle.fault_orders.proofs.Speaking.{against_exactly}
use Rattle.fault_orders.proofs.against_is_exact.Goals as goal

pub returns : goal.returns
returns c = λ m fs first second f g knows modes pair top known is_truth set numbered. against_exactly m fs first second f g knows pair top known is_truth set numbered
