use Rattle.verb_command_line.proofs.SetLemmas.{cut_some, cut_none}
use Rattle.verb_command_line.proofs.set.first_of.Goals as goal

pub returns-in-Some-clause-words : goal.returns-in-Some-clause-words
returns-in-Some-clause-words c = cut_some c.args.text.now c.split_once.result _ c.in-Some.is c.split_once.ensures.cases

pub returns-in-None-clause-words : goal.returns-in-None-clause-words
returns-in-None-clause-words c = cut_none c.args.text.now c.split_once.result c.in-None.is c.split_once.ensures.cases
