use Rattle.std.proofs.Common.{◌-ℤ◌, pos, arith, rules}
use Rattle.std.proofs.lemmas.Int.{ints, to_z-of_z}
use mir.Syntax.{w64}
use mir.Val.{SFits}
use Rattle.smv_types.proofs.interval.Interval.negated.Goals as goal

pub returns : goal.returns
returns c =
    let a : SFits w64 c.self.inside.lo = search rules in
    let b : SFits w64 c.self.inside.hi = search rules in
    let x : SFits w64 (pos 0 -ℤ c.self.inside.hi) = search (rules, arith, ints) in
    let y : SFits w64 (pos 0 -ℤ c.self.inside.lo) = search (rules, arith, ints) in
    rw (← c.self.view_is) (simp to_z-of_z at c.between.ensures)
