use Rattle.verb_command_line.specs.CommandView.{texts}
use Rattle.verb_command_line.proofs.ReadingLaws.{means_seen, breaks_seen, one_command, one_fault, commands_have_no_fault}
use Rattle.verb_command_line.proofs.read.read_words.Goals as goal

pub returns-clause-ok : goal.returns-clause-ok
returns-clause-ok c = means_seen (texts c.args.words.now) c.read.result c.read.ensures

pub returns-clause-fault : goal.returns-clause-fault
returns-clause-fault c = breaks_seen (texts c.args.words.now) c.read.result c.read.ensures

pub returns-clause-one_command : goal.returns-clause-one_command
returns-clause-one_command c = one_command (texts c.args.words.now)

pub returns-clause-one_fault : goal.returns-clause-one_fault
returns-clause-one_fault c = one_fault (texts c.args.words.now)

pub returns-clause-apart : goal.returns-clause-apart
returns-clause-apart c = commands_have_no_fault (texts c.args.words.now)
