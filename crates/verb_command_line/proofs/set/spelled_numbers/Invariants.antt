use Rattle.std.proofs.Common.{◌≡◌, ◌++◌}
use Rattle.std.specs.Option.{option_map}
use Rattle.verb_command_line.specs.Sets.{words_of}
use Rattle.verb_command_line.specs.WordReading.{smalls, words_left, left_length}
use Rattle.verb_command_line.proofs.set.spelled_numbers.Given as goal

abbrev pub invariant-loop-rest : goal.invariant-loop-rest
invariant-loop-rest l = l.numbers.items ++ smalls (words_left (option_map (λ t. t.now) l.rest)) ≡ smalls (words_of l.set)

abbrev pub decreases-loop-rest : goal.decreases-loop-rest
decreases-loop-rest l = left_length (option_map (λ t. t.now) l.rest)
