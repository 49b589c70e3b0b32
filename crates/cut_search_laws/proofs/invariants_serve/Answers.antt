use Rattle.cut_search_laws.proofs.Serves.{invariants_serve as lemma}
use Rattle.cut_search_laws.proofs.invariants_serve.Goals as goal

pub returns : goal.returns
returns c = lemma
