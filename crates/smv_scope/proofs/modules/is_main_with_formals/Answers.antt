-- A module of another name isn't `main`.
use Rattle.std.proofs.Common.{◌&&◌, codes, ap, ◌∙◌, sym}
use Rattle.smv_flat_laws.specs.Rules.{has_formals}
use Rattle.smv_scope.proofs.HeaderLaws.{same_test}
use Rattle.smv_scope.proofs.modules.is_main_with_formals.Goals as goal

pub returns-else-is_main : goal.returns-else-is_main
returns-else-is_main c =
    c.if-is_main.false
    ∙ sym (ap (λ b. b && has_formals c.args.module.now.formals) (same_test c.is_main.result c.args.module.now.name (codes "main") c.is_main.ensures ∙ c.if-is_main.false))
