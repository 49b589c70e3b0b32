-- Where there is no memory, nothing is promised but that.
use Rattle.std.proofs.Common.{ℕ, List}
use Rattle.smv_language.specs.ProgramTree.{Text}
use Rattle.verb_loading.specs.declared.status.Status.TheVariants as status
use Rattle.verb_loading.specs.CaseAnswers.{Told, Said}
use Rattle.xsap_tops.specs.Ended.{HasRun}
use Rattle.xsap_main.proofs.EndedLaws.{no_desk}

pub without_memory : (words : List Text) (before after : Told) (said now : Said) (faults counted : ℕ) → HasRun words status.Memory before after said now faults counted
without_memory words before after said now faults counted = record { answered = λ answer. absurd answer; failed = λ is. no_desk is }
