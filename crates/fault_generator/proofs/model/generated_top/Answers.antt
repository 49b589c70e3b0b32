use Rattle.std.proofs.Common.{◌≡◌, subst, sym}
use Rattle.std.proofs.lemmas.Result.{IfOk-weaker}
use Rattle.smv_language.specs.Language.{tree_of, IsWritable}
use Rattle.fault_generator.specs.Generator.{generated_top}
use Rattle.fault_generator.proofs.Writable.{top_writable}
use Rattle.fault_generator.proofs.model.generated_top.Goals as goal

pub returns-clause-writable : goal.returns-clause-writable
returns-clause-writable c =
    IfOk-weaker c.named.result (λ top. tree_of top ≡ generated_top) (λ top. IsWritable (tree_of top)) (λ top e. subst IsWritable (sym e) top_writable) c.named.ensures
