use Rattle.std.proofs.Common.{◌∙◌, arith}
use Rattle.cert_derivations.proofs.Highest.{of_both}
use Rattle.cert_derivations.proofs.given.checker_of.Goals as goal

pub returns-clause-vars : goal.returns-clause-vars
returns-clause-vars c =
    let both = of_both c.args.given.now c.args.more.now in
    c.in_ok-add_all-2.ensures.vars ∙ c.in_ok-add_all.ensures.vars ∙ c.in_ok-checker.ensures.vars ∙ grind (arith, both)
