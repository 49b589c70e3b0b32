use Rattle.std.proofs.Common.{List, All, Contains, refl, subst}
use Rattle.sat_clauses.specs.Literal.{Literal, opposite}
use Rattle.sat_solver.proofs.proposed.core.Goals as goal

pub returns-clause-right : goal.returns-clause-right
returns-clause-right g c = λ added.
    record {
      negated = subst (λ (x : List Literal). All (λ l. Contains c.args.question.assumptions.now (opposite l)) x) c.lits.ensures (c.if-not-are_negated.ensures refl);
      follows = (c.in_ok-refutes.ensures.shown c.if-not-branch.false).follows;
      listed = (c.in_ok-refutes.ensures.shown c.if-not-branch.false).listed;
    }
