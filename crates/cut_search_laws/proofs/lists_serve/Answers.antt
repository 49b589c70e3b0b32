use Rattle.cut_search_laws.proofs.HistoryTells.{history_serves}
use Rattle.cut_search_laws.proofs.Serves.{lists_serve as lemma}
use Rattle.cut_search_laws.proofs.lists_serve.Goals as goal

pub returns : goal.returns
returns c = record { lists = lemma; history = history_serves }
