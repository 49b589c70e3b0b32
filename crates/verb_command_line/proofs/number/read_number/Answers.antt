use Rattle.std.proofs.Common.{sym, ◌∙◌}
use Rattle.verb_command_line.proofs.NumberLemmas.{parsed_number}
use Rattle.verb_command_line.proofs.number.read_number.Goals as goal

pub returns : goal.returns
returns c = parsed_number c.args.word.now c.parse.result c.ok.result c.parse.ensures.value.0 (sym c.is_number.ensures ∙ c.if-not-is_number.false) c.ok.ensures.value
