use Rattle.std.proofs.Common.{◌≡◌, ◌∙◌, rules}
use Rattle.std.proofs.lemmas.Int.{to_z-of_z}
use mir.Syntax.{w64}
use mir.Val.{SFits}
use Rattle.smv_types.specs.NumberAnswers.{fitting}
use Rattle.std.specs.Prelude.{int_div}
use Rattle.smv_type_laws.specs.Intervals.{hull, just}
use Rattle.smv_types.proofs.IntervalLaws.{by_corners}
use Rattle.smv_types.proofs.interval.Interval.over.Goals as goal

pub returns : goal.returns
returns c =
    let a : SFits w64 c.self.inside.lo = search rules in
    let b : SFits w64 c.self.inside.hi = search rules in
    let p : SFits w64 c.divisor.inside.lo = search rules in
    let q : SFits w64 c.divisor.inside.hi = search rules in
    let f0 : SFits w64 c.quotient.result = search rules in
    let f1 : SFits w64 c.quotient-2.result = search rules in
    let f2 : SFits w64 c.quotient-3.result = search rules in
    let f3 : SFits w64 c.quotient-4.result = search rules in
    let e0 : c.quotient.result ≡ int_div c.self.inside.lo c.divisor.inside.lo = simp to_z-of_z at c.quotient.ensures in
    let e1 : c.quotient-2.result ≡ int_div c.self.inside.lo c.divisor.inside.hi = simp to_z-of_z at c.quotient-2.ensures in
    let e2 : c.quotient-3.result ≡ int_div c.self.inside.hi c.divisor.inside.lo = simp to_z-of_z at c.quotient-3.ensures in
    let e3 : c.quotient-4.result ≡ int_div c.self.inside.hi c.divisor.inside.hi = simp to_z-of_z at c.quotient-4.ensures in
    let e : c.of_four.result ≡ fitting (hull (hull (just c.quotient.result) (just c.quotient-2.result)) (hull (just c.quotient-3.result) (just c.quotient-4.result))) = simp to_z-of_z at c.of_four.ensures in
    rw (← c.self.view_is) (rw (← c.divisor.view_is) (e ∙ by_corners e0 e1 e2 e3))
