use Rattle.std.proofs.Common.{◌≡◌, ◌-◌, ◌++◌, ◌∷◌, [], min, length, sym, ◌∙◌, ap, arith}
use Rattle.std.specs.Prelude.{slice_get}
use Rattle.sat_circuits.specs.Words.{fit}
use Rattle.sat_circuits.proofs.WordMeans.{fit_more}
use Rattle.sat_circuits.proofs.word.fitted.Goals as goal

pub loop-i-init : goal.loop-i-init
unfolding fit
loop-i-init c = c.new-fitted.ensures

pub loop-i-preserved : goal.loop-i-preserved
loop-i-preserved c =
    let place : min c.loop-i.i (length c.args.word.now - 1) ≡ c.min.result = omega arith in
    c.in_ok-push.ensures.ok ∙ ap (λ w. w ++ c.at.result.now ∷ []) c.loop-i.invariant
    ∙ sym (fit_more c.loop-i.i c.args.word.now c.at.result.now (ap (slice_get c.args.word.now) place ∙ c.at.ensures))
