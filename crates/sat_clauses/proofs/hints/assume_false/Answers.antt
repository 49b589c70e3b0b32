use Rattle.std.proofs.Common.{◌≡◌, length, take, ap, ◌∙◌, arith}
use Rattle.sat_clauses.specs.Literal.{Literal}
use Rattle.sat_clauses.proofs.FalseLemmas.{length-made_false, make_next_false, keep_next_false}
use Rattle.sat_clauses.proofs.hints.assume_false.Goals as goal
use Rattle.sat_clauses.proofs.hints.assume_false.Goals.{then-is_none, else-is_none}

pub value-requires : goal.value-requires
value-requires c =
    let here = c.requires.in_range c.loop-lit.lit-index c.lit-item.result c.loop-lit-test.true in
    let same_length : length c.loop-lit.trail ≡ length c.args.trail.now = ap length c.loop-lit.invariant ∙ length-made_false c.args.trail.now (take c.loop-lit.lit-index c.args.lits.now) in
    omega (arith, here, ap (λ (l : Literal). l.var) c.lit-item.is, ap length c.assign.ensures)

pub set-requires-clause-in_range : goal.set-requires-clause-in_range
set-requires-clause-in_range c =
    let here = c.requires.in_range c.loop-lit.lit-index c.lit-item.result c.loop-lit-test.true in
    let same_length : length c.loop-lit.trail ≡ length c.args.trail.now = ap length c.loop-lit.invariant ∙ length-made_false c.args.trail.now (take c.loop-lit.lit-index c.args.lits.now) in
    omega (arith, here, ap (λ (l : Literal). l.var) c.lit-item.is, ap (λ (l : Literal). l.var) c.neg.ensures)

pub loop-lit-preserved : goal.loop-lit-preserved
loop-lit-preserved c =
    let a = c.args.trail.now in
    let lits = c.args.lits.now in
    let i = c.loop-lit.lit-index in
    let lit = c.lit-item.result in
    elim c.if-is_none.branch [
      | then-is_none w ↦
          grind (arith, make_next_false a lits i lit c.loop-lit.trail c.if-is_none.trail c.loop-lit-test.true c.lit-item.is c.loop-lit.invariant)
      | else-is_none w ↦
          grind (arith, keep_next_false a lits i lit c.loop-lit.trail c.requires.free c.requires.no_opposites c.loop-lit-test.true c.lit-item.is c.loop-lit.invariant)
    ]
