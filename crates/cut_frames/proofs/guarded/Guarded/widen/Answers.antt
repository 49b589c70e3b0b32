use Rattle.std.proofs.Common.{◌<◌, ◌^◌, ℕ, refl, subst}
use Rattle.cut_frames.proofs.GuardedSteps.{widen_more}
use Rattle.cut_frames.proofs.guarded.Guarded.widen.Goals as goal

pub loop-preserved : goal.loop-preserved
loop-preserved g c =
    let b = c.loop.self in
    widen_more c.args.self.now b (record { search = c.fresh.new.self; vars = c.in_ok-var.var; places = b.places; step = b.step; bad = b.bad; frames = b.frames; simple = b.simple; past = b.past }) c.loop.counter c.loop.invariant
    (record { places = refl; simple = refl; step = refl; bad = refl; frames = refl }) c.in_ok-var.ensures.var.next (subst (λ (n : ℕ). n < 2 ^ 62) c.in_ok-var.ensures.var.next c.in_ok-var.ensures.var.small) c.in_ok-var.ensures.ok
