use Rattle.verb_command_line.specs.Sets.{words_of}
use Rattle.verb_command_line.proofs.SetLemmas.{two_words}
use Rattle.verb_command_line.proofs.set.has_two.Goals as goal

pub returns : goal.returns
returns c = two_words (words_of c.args.text.now) _ _ _ c.first_of.ensures.words c.is_some.ensures
