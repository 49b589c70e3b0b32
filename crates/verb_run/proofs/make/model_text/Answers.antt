use Rattle.std.proofs.Common.{ap, subst, ◌∙◌}
use Rattle.std.proofs.lemmas.Result.{IfOk-weaker}
use Rattle.smv_language.specs.Language.{program_text, BytesSpellProgram}
use Rattle.verb_run.proofs.make.model_text.Goals as goal

pub returns-clause-text : goal.returns-clause-text
returns-clause-text c = IfOk-weaker c.print_program.result _ _ (λ text is. is ∙ ap program_text c.in_ok-program.ensures.model) c.print_program.ensures.text

pub returns-clause-spells : goal.returns-clause-spells
returns-clause-spells c =
    IfOk-weaker c.print_program.result _ _ (λ text spells. subst (BytesSpellProgram text.items) c.in_ok-program.ensures.model (spells c.in_ok-program.ensures.writable)) c.print_program.ensures.spells
