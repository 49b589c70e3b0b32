use Rattle.std.proofs.Common.{ap, sym, ◌∙◌, map}
use Rattle.verb_command_line.specs.WordReading.{has_file}
use Rattle.verb_command_line.specs.CommandView.{viewed}
use Rattle.verb_command_line.proofs.PairLemmas.{no_pair}
use Rattle.verb_command_line.proofs.faults.names_file.Goals as goal

pub returns : goal.returns
returns c = ap (λ ps. has_file (map viewed c.args.options.now) ps c.args.name.now) (sym (no_pair c.loop-rest.rest.now c.in_default.len_below)) ∙ c.loop-rest.invariant
