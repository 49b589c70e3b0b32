use Rattle.std.proofs.Common.{◌+◌, ◌*◌, ℕ, sym, ◌∙◌, ap, subst, arith}
use Rattle.std.proofs.Math.Nat.{mul-le-mul_left}
use Rattle.sat_circuits.proofs.Extension.{OnErr-from, AllBelow-more}
use Rattle.sat_circuits.specs.Words.{IsOfWidth}
use Rattle.sat_circuits.proofs.DivideMeans.{magnitudes-first, magnitudes-second, magnitudes-third, magnitudes-exact}
use Rattle.sat_circuits.proofs.quotients.magnitudes_divided.Goals as goal

pub returns-in_err-dividend-clause-err : goal.returns-in_err-dividend-clause-err
returns-in_err-dividend-clause-err c = OnErr-from _ _ (magnitudes-first c.args.a.now c.args.b.now c.args.width c.args.g.now c.magnitude.new.g c.in_err-dividend.ensures.err)

pub magnitude-requires-2-clause-least : goal.magnitude-requires-2-clause-least
magnitude-requires-2-clause-least c = omega (arith, c.requires.least, c.in_ok-dividend.ensures.shape.free)

pub magnitude-requires-2-clause-word : goal.magnitude-requires-2-clause-word
magnitude-requires-2-clause-word c = record {
  signed = c.requires.right.signed;
  below = AllBelow-more c.args.g.now.free c.magnitude.new.g.free (omega (arith, c.in_ok-dividend.ensures.shape.free)) c.args.b.now c.requires.right.below;
}

pub magnitude-requires-2-clause-room : goal.magnitude-requires-2-clause-room
magnitude-requires-2-clause-room c = omega (arith, c.requires.room, c.requires.widths.1, c.in_ok-dividend.ensures.shape.free)

pub returns-in_err-divisor-clause-err : goal.returns-in_err-divisor-clause-err
returns-in_err-divisor-clause-err c =
    OnErr-from _ _ (magnitudes-second c.args.a.now c.args.b.now c.args.width c.args.g.now c.magnitude.new.g c.in_ok-dividend.dividend c.in_ok-dividend.ensures.exact c.magnitude-2.new.g c.in_err-divisor.ensures.err)

pub long_division-requires-clause-same : goal.long_division-requires-clause-same
long_division-requires-clause-same c = c.in_ok-dividend.ensures.shape.long ∙ sym c.in_ok-divisor.ensures.shape.long

pub long_division-requires-clause-widths : goal.long_division-requires-clause-widths
long_division-requires-clause-widths c =
    (omega (arith, c.in_ok-divisor.ensures.shape.long, c.requires.widths.0), omega (arith, c.in_ok-divisor.ensures.shape.long, c.requires.widths.1))

pub long_division-requires-clause-left : goal.long_division-requires-clause-left
long_division-requires-clause-left c =
    AllBelow-more c.magnitude.new.g.free c.magnitude-2.new.g.free (omega (arith, c.in_ok-divisor.ensures.shape.free)) _ c.in_ok-dividend.ensures.shape.below

pub long_division-requires-clause-right : goal.long_division-requires-clause-right
long_division-requires-clause-right c = c.in_ok-divisor.ensures.shape.below

pub long_division-requires-clause-room : goal.long_division-requires-clause-room
long_division-requires-clause-room c =
    omega (
      arith,
      c.requires.room,
      c.requires.widths.1,
      c.in_ok-dividend.ensures.shape.free,
      c.in_ok-divisor.ensures.shape.free,
      ap (λ k. (11 * k + 5) * k) c.in_ok-divisor.ensures.shape.long,
      mul-le-mul_left (11 * c.args.width + 5) c.requires.widths.1,
    )

pub returns-in_err-quotient-clause-err : goal.returns-in_err-quotient-clause-err
returns-in_err-quotient-clause-err c =
    OnErr-from _ _
    (magnitudes-third c.args.a.now c.args.b.now c.args.width c.args.g.now c.magnitude.new.g c.in_ok-dividend.dividend c.in_ok-dividend.ensures.exact c.magnitude-2.new.g c.in_ok-divisor.divisor c.in_ok-divisor.ensures.exact c.long_division.new.g
    c.in_err-quotient.ensures.err)

pub returns-clause-exact : goal.returns-clause-exact
returns-clause-exact c =
    magnitudes-exact c.args.a.now c.args.b.now c.args.width c.args.g.now c.magnitude.new.g c.in_ok-dividend.dividend c.in_ok-dividend.ensures.exact c.magnitude-2.new.g c.in_ok-divisor.divisor c.in_ok-divisor.ensures.exact c.long_division.new.g
    (c.in_ok-quotient.quotient, c.in_ok-quotient.rest) c.in_ok-quotient.ensures.exact

pub returns-clause-shape : goal.returns-clause-shape
returns-clause-shape c = record {
  first = subst (λ (k : ℕ). IsOfWidth k c.long_division.new.g c.in_ok-quotient.quotient) c.in_ok-divisor.ensures.shape.long c.in_ok-quotient.ensures.shape.first;
  second = subst (λ (k : ℕ). IsOfWidth k c.long_division.new.g c.in_ok-quotient.rest) c.in_ok-divisor.ensures.shape.long c.in_ok-quotient.ensures.shape.second;
  free =
      omega (arith, c.in_ok-quotient.ensures.shape.free, c.in_ok-dividend.ensures.shape.free, c.in_ok-divisor.ensures.shape.free, ap (λ k. (11 * k + 5) * k) c.in_ok-divisor.ensures.shape.long);
}
