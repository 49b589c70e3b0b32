use Rattle.std.proofs.Common.{sym, ap, ◌∙◌}
use Rattle.smv_language.specs.Text.{program_text}
use Rattle.fault_instructions.specs.InstructionText.{instructions_text}
use Rattle.verb_loading.specs.LoadedEvents.{case_in}
use Rattle.verb_run.specs.Runs.{is_made}
use Rattle.verb_run.proofs.verbs.prepare_made.Goals as goal

pub returns-clause-ok : goal.returns-clause-ok
returns-clause-ok c =
    let made = c.in_ok-made.ensures in
    is_made (case_in c.in_ok-made.made.loaded) (record { is_case = made.event.loaded.is_case; program = made.program; instructions = made.instructions })

pub returns-clause-making : goal.returns-clause-making
returns-clause-making c =
    let made = c.in_ok-made.ensures in
    record { event = made.event; model_text = made.model_text ∙ ap program_text (sym made.program); faults_text = made.faults_text ∙ ap instructions_text (sym made.instructions) }
