use Rattle.std.proofs.Common.{IsTrue, arith}
use Rattle.sat_solver.proofs.solve.can_solve.Goals as goal

pub returns : goal.returns
returns c =
    let all : IsTrue c.are_all_up_to.result = grind arith in
    let up_to : IsTrue c.are_up_to.result = grind arith in (
      (λ is. record {
        vars = omega arith;
        clauses_in_range = c.are_all_up_to.ensures.0 all;
        assumptions_in_range = c.are_up_to.ensures.0 up_to;
        apart = c.has_no_opposites.ensures.0 is;
      }),
      (λ can. c.has_no_opposites.ensures.1 can.apart),
    )
