use Rattle.std.proofs.Common.{◌∙◌, ◌+◌, ◌<◌, ◌≤◌, IsTrue, sym, subst, arith}
use Rattle.std.specs.Prelude.{All}
use Rattle.std.proofs.lemmas.Bool.{both_ways, false≢true}
use Rattle.sat_clauses.specs.Literal.{Literal}
use Rattle.cert_check.proofs.clauses.is_invariant_clause.Goals as goal

pub returns-then-not-are_over_bits : goal.returns-then-not-are_over_bits
returns-then-not-are_over_bits c =
    let bits = c.from.ensures ∙ c.bits.ensures.bits in (
      (λ e. absurd (false≢true e)),
      (λ h. absurd (both_ways _ c.if-not-are_over_bits.true (c.are_over_bits.ensures.1 (subst (λ n. All (λ (l : Literal). (2 ≤ l.var) × (l.var < n + 2)) c.args.clause.now) (sym bits) h.0)))),
    )

pub returns : goal.returns
returns c =
    let bits = c.from.ensures ∙ c.bits.ensures.bits in
    let over : IsTrue c.are_over_bits.result = grind arith in (
      (λ e. (subst (λ n. All (λ (l : Literal). (2 ≤ l.var) × (l.var < n + 2)) c.args.clause.now) bits (c.are_over_bits.ensures.0 over), c.has_no_opposites.ensures.0 e)),
      (λ h. c.has_no_opposites.ensures.1 h.1),
    )
