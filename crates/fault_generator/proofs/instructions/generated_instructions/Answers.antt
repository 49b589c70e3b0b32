use Rattle.std.proofs.Common.{◌≡◌, subst, sym}
use Rattle.std.proofs.lemmas.Result.{IfOk-weaker}
use Rattle.fault_instructions.specs.Instructions.{instruction_tree}
use Rattle.fault_instructions.specs.WritableInstructions.{IsWritableInstructions}
use Rattle.fault_generator.specs.Generator.{generated_instructions}
use Rattle.fault_generator.proofs.Writable.{instructions_writable}
use Rattle.fault_generator.proofs.instructions.generated_instructions.Goals as goal

pub returns-clause-writable : goal.returns-clause-writable
returns-clause-writable c =
    IfOk-weaker c.one_extension.result (λ i. instruction_tree i ≡ generated_instructions) (λ i. IsWritableInstructions (instruction_tree i))
    (λ i e. subst IsWritableInstructions (sym e) instructions_writable) c.one_extension.ensures
