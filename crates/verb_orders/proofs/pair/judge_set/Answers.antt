use Rattle.std.proofs.Common.{◌≡◌, ◌+◌, false, IsTrue, refl, arith}
use Rattle.std.proofs.lemmas.Bool.{both_ways}
use Rattle.verb_orders.specs.Pairs.{outside_refusal}
use Rattle.verb_orders.proofs.PairLaws.{one_numbered, first_outside, one_stop}
use Rattle.verb_orders.proofs.pair.judge_set.Goals as goal
use Rattle.base_values.proofs.ResultLaws.{same_fault}

pub returns-then-not-is_fault-clause-refused : goal.returns-then-not-is_fault-clause-refused
returns-then-not-is_fault-clause-refused c r e =
    let is_not : c.is_fault.result ≡ false = grind arith in (
      c.loop-k.k + 1,
      one_stop (outside_refusal (c.loop-k.k + 1)) r c.set_stop.result c.set_stop.ensures (same_fault e),
      first_outside c.args.faults c.args.set.now c.loop-k.k (c.loop-k.k + 1) (omega arith) refl c.loop-k.invariant (λ of. both_ways _ is_not (c.is_fault.ensures.1 (of.counts, of.within))),
    )

pub loop-k-preserved : goal.loop-k-preserved
loop-k-preserved c =
    let is : IsTrue c.is_fault.result = grind arith in
    let h = c.is_fault.ensures.0 is in
    one_numbered c.args.faults c.args.set.now c.loop-k.k (omega arith) (record { counts = h.0; within = h.1 }) c.loop-k.invariant
