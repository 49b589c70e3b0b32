use Rattle.std.proofs.Common.{◌≡◌, ◌∙◌, ◌*ℤ◌, rules}
use Rattle.std.proofs.lemmas.Int.{to_z-of_z}
use mir.Syntax.{w64}
use mir.Val.{SFits}
use Rattle.smv_types.specs.NumberAnswers.{fitting}
use Rattle.smv_type_laws.specs.Intervals.{hull, just}
use Rattle.smv_types.proofs.IntervalLaws.{by_corners}
use Rattle.smv_types.proofs.interval.Interval.times.Goals as goal

pub returns : goal.returns
returns c =
    let a : SFits w64 c.self.inside.lo = search rules in
    let b : SFits w64 c.self.inside.hi = search rules in
    let p : SFits w64 c.other.inside.lo = search rules in
    let q : SFits w64 c.other.inside.hi = search rules in
    let f0 : SFits w64 c.product.result = search rules in
    let f1 : SFits w64 c.product-2.result = search rules in
    let f2 : SFits w64 c.product-3.result = search rules in
    let f3 : SFits w64 c.product-4.result = search rules in
    let e0 : c.product.result ≡ c.self.inside.lo *ℤ c.other.inside.lo = simp to_z-of_z at c.product.ensures in
    let e1 : c.product-2.result ≡ c.self.inside.lo *ℤ c.other.inside.hi = simp to_z-of_z at c.product-2.ensures in
    let e2 : c.product-3.result ≡ c.self.inside.hi *ℤ c.other.inside.lo = simp to_z-of_z at c.product-3.ensures in
    let e3 : c.product-4.result ≡ c.self.inside.hi *ℤ c.other.inside.hi = simp to_z-of_z at c.product-4.ensures in
    let e : c.of_four.result ≡ fitting (hull (hull (just c.product.result) (just c.product-2.result)) (hull (just c.product-3.result) (just c.product-4.result))) = simp to_z-of_z at c.of_four.ensures in
    rw (← c.self.view_is) (rw (← c.other.view_is) (e ∙ by_corners e0 e1 e2 e3))
