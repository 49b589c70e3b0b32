use Rattle.std.proofs.Common.{◌≡◌, true, IfOk, subst}
use Rattle.smv_language.specs.declared.model.FlatModel.{FlatModel}
use Rattle.smv_scope.specs.ClosedModels.{is_closed, bounds_of}
use Rattle.test_encoding.proofs.bad.resolved.Goals as goal

pub returns : goal.returns
returns c = subst (λ (m : FlatModel). IfOk c.resolve_top.result (λ top. is_closed (bounds_of m) top ≡ true)) c.model.ensures.model c.resolve_top.ensures.closed
