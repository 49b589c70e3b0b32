use Rattle.std.proofs.Common.{◌≡◌, ◌∙◌, Some, ap, sym, arith}
use Rattle.std.specs.Prelude.{slice_get}
use Rattle.cert_check.proofs.OrderLaws.{there_at, apart_next, not_apart, rest_apart}
use Rattle.cert_check.proofs.sets.is_apart.Goals as goal

pub returns-then-other-set : goal.returns-then-other-set
returns-then-other-set c =
    let at : slice_get c.args.sets.now c.loop-j.j ≡ Some c.as_slice-other.result.now = there_at c.args.sets.now c.loop-j.j c.args.k c.args.set.now c.index-sets-j.result c.requires.set c.loop-j-test.true c.index-sets-j.is ∙ ap Some (sym c.as_slice-other.ensures) in
    sym (rest_apart c.args.sets.now c.args.set.now c.args.k c.loop-j.j c.as_slice-other.result.now c.requires.order c.requires.set c.loop-j-test.true at c.if-other-set.true c.loop-j.invariant)

pub returns-then-is_contained : goal.returns-then-is_contained
returns-then-is_contained c =
    let at : slice_get c.args.sets.now c.loop-j.j ≡ Some c.as_slice-other.result.now = there_at c.args.sets.now c.loop-j.j c.args.k c.args.set.now c.index-sets-j.result c.requires.set c.loop-j-test.true c.index-sets-j.is ∙ ap Some (sym c.as_slice-other.ensures) in
    sym (not_apart c.args.sets.now c.args.set.now c.args.k c.loop-j.j c.as_slice-other.result.now c.loop-j-test.true at (sym c.is_contained.ensures ∙ c.if-is_contained.true))

pub loop-j-preserved : goal.loop-j-preserved
loop-j-preserved c =
    let at : slice_get c.args.sets.now c.loop-j.j ≡ Some c.as_slice-other.result.now = there_at c.args.sets.now c.loop-j.j c.args.k c.args.set.now c.index-sets-j.result c.requires.set c.loop-j-test.true c.index-sets-j.is ∙ ap Some (sym c.as_slice-other.ensures) in
    apart_next c.args.sets.now c.args.set.now c.loop-j.j c.as_slice-other.result.now at (c.requires.order.rising c.args.k c.args.set.now (omega arith) c.requires.set) c.if-other-set.false (sym c.is_contained.ensures ∙ c.if-is_contained.false) c.loop-j.invariant
