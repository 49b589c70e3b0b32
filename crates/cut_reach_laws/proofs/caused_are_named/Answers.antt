use Rattle.cut_reach_laws.proofs.NamedLaws.{caused_named, spelled_words}
use Rattle.cut_reach_laws.proofs.caused_are_named.Goals as goal

pub returns-clause-names : goal.returns-clause-names
returns-clause-names c = caused_named

pub returns-clause-words : goal.returns-clause-words
returns-clause-words c = spelled_words
