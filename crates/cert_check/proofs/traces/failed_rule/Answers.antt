use Rattle.std.proofs.Common.{◌≡◌, false, IsTrue, arith}
use Rattle.std.proofs.lemmas.Bool.{both_ways}
use Rattle.cert_check.specs.Moments.{not_exactly}
use Rattle.cert_check.proofs.traces.failed_rule.Goals as goal

pub returns-then-has_failed_exactly : goal.returns-then-has_failed_exactly
returns-then-has_failed_exactly c =
    let is : IsTrue c.has_failed_exactly.result = grind arith in
    record { is_one = c.requires.reaching.is_trace; reaching = c.requires.reaching.reaches; exactly = c.has_failed_exactly.ensures.0 is }

pub returns-else-has_failed_exactly : goal.returns-else-has_failed_exactly
returns-else-has_failed_exactly c =
    let is_not : c.has_failed_exactly.result ≡ false = grind arith in
    not_exactly c.requires.reaching.is_trace c.requires.reaching.reaches (λ h. both_ways _ is_not (c.has_failed_exactly.ensures.1 h))
