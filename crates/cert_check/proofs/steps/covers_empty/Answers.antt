use Rattle.std.proofs.Common.{IsTrue, ◌∙◌, subst}
use Rattle.std.specs.Prelude.{◌↔◌, All}
use Rattle.cert_laws.specs.Acceptance.{Covers}
use Rattle.cert_check.proofs.steps.covers_empty.Goals as goal

pub returns : goal.returns
returns c =
    let known = c.args.checker.now.clauses in
    subst (λ cs. IsTrue c.covers_all.result ↔ All (Covers known) cs) (c.as_slice.ensures ∙ c.in_ok-goals.ensures) c.covers_all.ensures
