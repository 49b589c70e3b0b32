use Rattle.std.proofs.Common.{◌≡◌, length}
use Rattle.cert_laws.specs.LineReading.{each_in, hint_in}
use Rattle.cert_text.specs.LineWords.{words_after}
use Rattle.cert_text.proofs.LineLaws.{joined}
use Rattle.cert_text.proofs.lines.hints_in.Given as goal

abbrev pub invariant-loop-word : goal.invariant-loop-word
invariant-loop-word l = joined l.hints (each_in hint_in (words_after l.rest)) ≡ each_in hint_in (words_after l.words)

abbrev pub decreases-loop-word : goal.decreases-loop-word
decreases-loop-word l = length l.rest
