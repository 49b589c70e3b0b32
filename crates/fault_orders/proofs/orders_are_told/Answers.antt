use Rattle.fault_orders.proofs.Ordered.{orders_told}
use Rattle.fault_orders.proofs.orders_are_told.Goals as goal

pub returns : goal.returns
returns c = λ m fs first second f g knows modes pair. orders_told m fs first second f g knows modes pair
