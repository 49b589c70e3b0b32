use Rattle.std.proofs.Common.{◌≡◌, ◌∙◌}
use Rattle.std.proofs.lemmas.Result.{IfOk-weaker}
use Rattle.verb_command_line.specs.Sets.{words_of, numbers_of}
use Rattle.verb_command_line.specs.WordReading.{smalls}
use Rattle.verb_command_line.proofs.SetLemmas.{smalls_of_set}
use Rattle.verb_command_line.proofs.set.set_numbers.Goals as goal

pub returns : goal.returns
returns c is =
    IfOk-weaker c.spelled_numbers.result (λ n. n.items ≡ smalls (words_of c.args.set.now)) (λ n. n.items ≡ numbers_of c.args.set.now) (λ n p. p ∙ smalls_of_set c.args.set.now is) c.spelled_numbers.ensures
