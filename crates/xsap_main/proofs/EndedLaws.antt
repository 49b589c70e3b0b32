-- Where there is no memory, nothing is promised but that.
use Rattle.std.proofs.Common.{◌≡◌, ℕ, List}
use Rattle.smv_language.specs.ProgramTree.{Text}
use Rattle.verb_command_line.specs.declared.fault.WordFault.{WordFault}
use Rattle.verb_loading.specs.declared.status.Status.TheVariants as status
use Rattle.verb_loading.specs.CaseAnswers.{Told, Said}
use Rattle.xsap_main.specs.ProgramEnding.{HasRun}

no_words : {P : Type 0} (f : WordFault) → status.Memory ≡ status.Words f → P
no_words f e = cc

pub no_desk : {P : Type 0} → status.Memory ≡ status.Desk → P
no_desk e = cc

pub without_memory : (words : List Text) (before after : Told) (said now : Said) (faults counted : ℕ) → HasRun words status.Memory before after said now faults counted
without_memory words before after said now faults counted =
    record { answered = λ answer. absurd answer; told = λ rule place answer broken. absurd answer; meant = λ f is. no_words f is; failed = λ is. no_desk is }
