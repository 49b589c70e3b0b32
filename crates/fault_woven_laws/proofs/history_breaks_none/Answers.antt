use Rattle.fault_woven_laws.proofs.history_breaks_none.Goals as goal
use Rattle.fault_woven_laws.proofs.WovenLaws.{modes_symbols, modes_are_modes, history_none}

pub returns-clause-symbols : goal.returns-clause-symbols
returns-clause-symbols c = modes_symbols

pub returns-clause-modes : goal.returns-clause-modes
returns-clause-modes c = modes_are_modes

pub returns-clause-history : goal.returns-clause-history
returns-clause-history c = history_none
