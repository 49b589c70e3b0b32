use Rattle.std.proofs.Common.{◌≡◌, ℕ, length, ◌∙◌, subst, arith}
use Rattle.sat_circuits.specs.Meaning.{StopsWithin}
use Rattle.sat_circuits.proofs.Extension.{OnErr-from, AllBelow-more}
use Rattle.sat_circuits.specs.Sums.{negate_gates}
use Rattle.sat_circuits.proofs.DivideMeans.{negate_where-stops, negate_where-later, negate_where-exact}
use Rattle.sat_circuits.proofs.quotients.negated_where.Goals as goal
use Rattle.sat_circuits.proofs.quotients.negated_where.Goals.{In_ok-negated}

made : (c : In_ok-negated) → negate_gates c.args.word.now (length c.args.word.now) c.args.g.now ≡ (c.negation.new.g, c.in_ok-negated.negated)
made c = subst (λ (k : ℕ). negate_gates c.args.word.now k c.args.g.now ≡ (c.negation.new.g, c.in_ok-negated.negated)) c.len.ensures c.in_ok-negated.ensures.exact

pub returns-in_err-negated-clause-err : goal.returns-in_err-negated-clause-err
returns-in_err-negated-clause-err c =
    OnErr-from _ _
    (negate_where-stops c.args.c c.args.word.now c.args.g.now c.negation.new.g
    (subst (λ (k : ℕ). StopsWithin c.args.g.now c.negation.new.g (negate_gates c.args.word.now k c.args.g.now).0) c.len.ensures c.in_err-negated.ensures.err))

pub choose-requires-clause-same : goal.choose-requires-clause-same
choose-requires-clause-same c = c.in_ok-negated.ensures.value.shape.long ∙ c.len.ensures

pub choose-requires-clause-choice : goal.choose-requires-clause-choice
choose-requires-clause-choice c = omega (arith, c.requires.choice, c.in_ok-negated.ensures.next)

pub choose-requires-clause-left : goal.choose-requires-clause-left
choose-requires-clause-left c = c.in_ok-negated.ensures.value.shape.below

pub choose-requires-clause-right : goal.choose-requires-clause-right
choose-requires-clause-right c = AllBelow-more c.args.g.now.free c.negation.new.g.free (omega (arith, c.in_ok-negated.ensures.next)) c.args.word.now c.requires.word.below

pub choose-requires-clause-room : goal.choose-requires-clause-room
choose-requires-clause-room c = omega (arith, c.in_ok-negated.ensures.value.shape.long, c.len.ensures, c.in_ok-negated.ensures.next, c.requires.room)

pub returns-in_err-chosen-clause-err : goal.returns-in_err-chosen-clause-err
returns-in_err-chosen-clause-err c =
    OnErr-from _ _
    (negate_where-later c.args.c c.args.word.now c.args.g.now c.negation.new.g c.choose.new.g c.in_ok-negated.negated (made (goal.at.returns-in_err-chosen-clause-err c).In_ok-negated)
    c.in_ok-negated.ensures.value.extends.begins c.in_err-chosen.ensures.err)

pub returns-clause-exact : goal.returns-clause-exact
returns-clause-exact c =
    negate_where-exact c.args.c c.args.word.now c.args.g.now c.negation.new.g c.choose.new.g c.in_ok-negated.negated c.in_ok-chosen.chosen (made (goal.at.returns-clause-exact c).In_ok-negated) c.in_ok-chosen.ensures.exact

pub returns-clause-shape : goal.returns-clause-shape
returns-clause-shape c = record {
  long = c.in_ok-chosen.ensures.value.shape.long ∙ c.in_ok-negated.ensures.value.shape.long ∙ c.len.ensures;
  below = c.in_ok-chosen.ensures.value.shape.below;
  free = omega (arith, c.in_ok-chosen.ensures.value.shape.free, c.in_ok-negated.ensures.next, c.in_ok-negated.ensures.value.shape.long, c.len.ensures);
}
