use Rattle.std.proofs.Common.{ap, sym, ◌∙◌}
use Rattle.verb_command_line.specs.WordReading.{value_in}
use Rattle.verb_command_line.proofs.PairLemmas.{no_pair}
use Rattle.verb_command_line.proofs.pairs.value_of.Goals as goal

pub returns : goal.returns
returns c = ap (λ ps. value_in ps c.args.option.now) (sym (no_pair c.loop-rest.rest.now c.in_default.len_below)) ∙ c.loop-rest.invariant
