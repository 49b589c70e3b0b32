use Rattle.std.proofs.Common.{◌≡◌, subst, sym, arith}
use Rattle.std.proofs.lemmas.Result.{IfOk-weaker}
use Rattle.smv_language.specs.Language.{program_tree, IsWritableProgram}
use Rattle.fault_generator.specs.Generator.{generated_model}
use Rattle.fault_generator.proofs.Writable.{model_writable}
use Rattle.fault_generator.proofs.model.generated_model.Goals as goal

pub returns-clause-writable : goal.returns-clause-writable
returns-clause-writable c =
    IfOk-weaker c.both_modules.result (λ p. program_tree p ≡ generated_model c.args.number c.args.stages) (λ p. IsWritableProgram (program_tree p))
    (λ p e. subst IsWritableProgram (sym e) (model_writable c.args.number c.args.stages (omega (arith, c.ranges.stages)))) c.both_modules.ensures
