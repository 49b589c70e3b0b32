use Rattle.std.proofs.Common.{◌-ℤ◌, arith, rules}
use Rattle.std.proofs.lemmas.Int.{ints, to_z-of_z}
use mir.Syntax.{w64}
use mir.Val.{SFits}
use Rattle.smv_types.specs.NumberAnswers.{IsSmall}
use Rattle.smv_types.proofs.IntervalLaws.{difference_fits}
use Rattle.smv_types.proofs.interval.Interval.minus.Goals as goal

pub returns : goal.returns
returns c =
    let a : SFits w64 c.self.inside.lo = search rules in
    let b : SFits w64 c.self.inside.hi = search rules in
    let p : SFits w64 c.other.inside.lo = search rules in
    let q : SFits w64 c.other.inside.hi = search rules in
    let self_lo : IsSmall c.self.inside.lo = (c.self.invariant.0, omega (arith, ints, c.self.invariant.1, c.self.invariant.2)) in
    let self_hi : IsSmall c.self.inside.hi = (omega (arith, ints, c.self.invariant.0, c.self.invariant.1), c.self.invariant.2) in
    let other_lo : IsSmall c.other.inside.lo = (c.other.invariant.0, omega (arith, ints, c.other.invariant.1, c.other.invariant.2)) in
    let other_hi : IsSmall c.other.inside.hi = (omega (arith, ints, c.other.invariant.0, c.other.invariant.1), c.other.invariant.2) in
    let x : SFits w64 (c.self.inside.lo -ℤ c.other.inside.hi) = difference_fits _ _ self_lo other_hi in
    let y : SFits w64 (c.self.inside.hi -ℤ c.other.inside.lo) = difference_fits _ _ self_hi other_lo in
    rw (← c.self.view_is) (rw (← c.other.view_is) (simp to_z-of_z at c.between.ensures))
