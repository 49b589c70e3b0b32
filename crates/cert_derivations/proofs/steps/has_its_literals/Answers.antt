use Rattle.std.proofs.Common.{ℕ, IsTrue, All, subst, arith}
use Rattle.sat_clauses.specs.Derivation.{IsUpTo}
use Rattle.cert_derivations.proofs.steps.has_its_literals.Goals as goal

pub returns : goal.returns
returns c =
    let up_to : IsTrue c.are_up_to.result = grind arith in
    let in_range = subst (λ (n : ℕ). All (IsUpTo n) c.args.lits.now) c.vars.ensures (c.are_up_to.ensures.0 up_to) in
    ((λ is. (in_range, c.has_no_opposites.ensures.0 is)), (λ h. c.has_no_opposites.ensures.1 h.1))
