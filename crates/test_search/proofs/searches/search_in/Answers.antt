use Rattle.std.proofs.Common.{ℕ, All, subst, arith}
use Rattle.sat_clauses.specs.Derivation.{IsUpTo}
use Rattle.test_search.proofs.searches.search_in.Goals as goal

pub solve_in-requires-clause-can_solve : goal.solve_in-requires-clause-can_solve
solve_in-requires-clause-can_solve g c = record {
  vars = c.vars-vars.ensures.is_store.small;
  clauses_in_range = λ k d lt j l m. let h = c.vars-vars.ensures.is_store.in_range k d lt j l m in omega (arith, h);
  assumptions_in_range = subst (λ (n : ℕ). All (IsUpTo n) c.args.assumptions.now) c.vars-vars.ensures.value (c.are_up_to.ensures.0 c.if-not-are_up_to.false);
  apart = c.has_no_opposites.ensures.0 c.if-not-has_no_opposites.false;
}
