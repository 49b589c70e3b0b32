use Rattle.smv_flat_laws.proofs.history_is_exact.Goals as goal
use Rattle.smv_flat_laws.proofs.HistoryTraces.{history_exactly}

pub returns : goal.returns
returns c = history_exactly
