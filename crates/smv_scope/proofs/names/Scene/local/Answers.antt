-- The entry of a text in the names of the instance's module.
use lib.Pointwise.{pointwise}
use Rattle.std.proofs.Common.{ap, ◌∙◌, Bor, List, ℕ}
use Rattle.std.specs.Prelude.{nat_eq}
use Rattle.std.specs.Map.{lookup}
use Rattle.smv_scope.specs.TableLookUps.{local_in}
use Rattle.smv_scope.proofs.Tables.{looked_up}
use Rattle.smv_scope.proofs.names.Scene.local.Goals as goal

pub returns-in-Some : goal.returns-in-Some
returns-in-Some c = record {
  local =
      c.copied.ensures
      ∙ c.get.ensures.value
      ∙ ap (λ (x : List ℕ). lookup (λ (k : Bor (List ℕ)). pointwise nat_eq x k.now) c.in-Some.names.now.locals.entries) c.text.ensures
      ∙ looked_up c.args.part.now c.in-Some.names.now.locals.entries
      ∙ ap (λ o. local_in o c.args.part.now) c.in-Some.ensures.names;
}
