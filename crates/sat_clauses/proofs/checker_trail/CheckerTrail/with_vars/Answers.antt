use Rattle.std.proofs.Common.{◌≡◌, ◌+◌, None, length, replicate, ap, ◌∙◌, arith}
use Rattle.std.proofs.lemmas.List.{length-replicate}
use Rattle.sat_clauses.proofs.DeriveTrailLemmas.{None-at_free, count-free}
use Rattle.sat_clauses.proofs.checker_trail.CheckerTrail.with_vars.Goals as goal

pub invariant_of-result : goal.invariant_of-result
invariant_of-result c =
    let a = c.in_ok-assign.assign in
    let n = c.args.vars + 1 in
    let free : a ≡ replicate n None = c.in_ok-assign.ensures in
    let places : length a ≡ n = ap length free ∙ length-replicate n None in
    record {
      listed = λ x ne. absurd (ne (None-at_free a n free x));
      in_range = λ k d lt. absurd (omega (arith, ap length c.in_ok-set.ensures.items));
      counted = omega (arith, count-free a n free, c.in_ok-set.ensures.len);
      room = omega (arith, c.in_ok-set.ensures.exact);
    }
