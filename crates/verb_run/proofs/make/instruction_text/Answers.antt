use Rattle.std.proofs.Common.{ap, subst, ◌∙◌}
use Rattle.std.proofs.lemmas.Result.{IfOk-weaker}
use Rattle.fault_instructions.specs.InstructionText.{instructions_text}
use Rattle.fault_instructions.specs.SpellsInstructions.{BytesSpellInstructions}
use Rattle.verb_run.proofs.make.instruction_text.Goals as goal

pub returns-clause-text : goal.returns-clause-text
returns-clause-text c = IfOk-weaker c.print_instructions.result _ _ (λ text is. is ∙ ap instructions_text c.in_ok-instructions.ensures.instructions) c.print_instructions.ensures.text

pub returns-clause-spells : goal.returns-clause-spells
returns-clause-spells c =
    IfOk-weaker c.print_instructions.result _ _ (λ text spells. subst (BytesSpellInstructions text.items) c.in_ok-instructions.ensures.instructions (spells c.in_ok-instructions.ensures.writable))
    c.print_instructions.ensures.spells
