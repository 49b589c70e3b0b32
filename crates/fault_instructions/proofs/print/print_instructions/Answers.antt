use Rattle.std.proofs.Common.{◌≡◌, arith, sym, subst}
use Rattle.smv_language.proofs.TextLaws.{print_rules}
use Rattle.fault_instructions.specs.Instructions.{instruction_tree}
use Rattle.fault_instructions.specs.InstructionText.{instructions_text}
use Rattle.fault_instructions.specs.SpellsInstructions.{BytesSpellInstructions}
use Rattle.fault_instructions.proofs.InstructionSpells.{instructions_spell}
use Rattle.fault_instructions.proofs.SpelledInstructions.{instructions_writable}
use Rattle.fault_instructions.proofs.print.print_instructions.Goals as goal

pub returns-clause-spells : goal.returns-clause-spells
returns-clause-spells c = λ h.
    let text : c.into_vec.result.items ≡ instructions_text (instruction_tree c.args.i.now) = grind (arith, print_rules) in
    subst (λ z. BytesSpellInstructions z (instruction_tree c.args.i.now)) (sym text) (instructions_spell (instruction_tree c.args.i.now) h)

pub returns-clause-again : goal.returns-clause-again
returns-clause-again c = λ bytes spelled.
    let text : c.into_vec.result.items ≡ instructions_text (instruction_tree c.args.i.now) = grind (arith, print_rules) in
    subst (λ z. BytesSpellInstructions z (instruction_tree c.args.i.now)) (sym text)
    (instructions_spell (instruction_tree c.args.i.now) (instructions_writable bytes (instruction_tree c.args.i.now) spelled))
