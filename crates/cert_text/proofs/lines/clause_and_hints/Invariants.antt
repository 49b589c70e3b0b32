use Rattle.std.proofs.Common.{◌≡◌, length}
use Rattle.cert_laws.specs.LineReading.{step_of_words}
use Rattle.cert_text.specs.LineWords.{words_after}
use Rattle.cert_text.proofs.LineLaws.{stepped}
use Rattle.cert_text.proofs.lines.clause_and_hints.Given as goal

abbrev pub invariant-loop-word : goal.invariant-loop-word
invariant-loop-word l = stepped l.lits (step_of_words (words_after l.rest)) ≡ step_of_words (words_after l.words)

abbrev pub decreases-loop-word : goal.decreases-loop-word
decreases-loop-word l = length l.rest
