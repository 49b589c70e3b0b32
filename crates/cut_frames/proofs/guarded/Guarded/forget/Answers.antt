use Rattle.std.proofs.Common.{refl}
use Rattle.cut_frames.specs.declared.guarded.Guarded.{Guarded}
use Rattle.cut_frames.proofs.GuardedSteps.{forgot_well}
use Rattle.cut_frames.proofs.GuardedLaws.{asks}
use Rattle.cut_frames.proofs.guarded.Guarded.forget.Goals as goal

pub returns : goal.returns
returns c =
    let s = c.args.self.now in
    let t : Guarded = record { search = c.forget.new.self; vars = s.vars; places = s.places; step = s.step; bad = s.bad; frames = s.frames; simple = s.simple; past = s.past } in
    asks s t (forgot_well s t c.requires (record { places = refl; simple = refl; step = refl; bad = refl; frames = refl }) refl c.in_ok-forget.ensures.vars c.in_ok-forget.ensures.marked c.in_ok-forget.ensures.added)
