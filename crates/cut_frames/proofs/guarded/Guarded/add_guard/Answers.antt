use Rattle.std.proofs.Common.{◌≡◌, ◌∷◌, ◌++◌, [], refl, arith}
use Rattle.std.proofs.lemmas.Grind.{common_steps}
use Rattle.sat_clauses.specs.Literal.{plain}
use Rattle.cut_frames.proofs.GuardedSteps.{frame_added}
use Rattle.cut_frames.proofs.guarded.Guarded.add_guard.Goals as goal

pub returns : goal.returns
returns g c =
    let b = c.widen.new.self in
    let frames : c.push.new.self.items ≡ b.frames.items ++ plain b.vars ∷ [] = grind (arith, common_steps) in
    frame_added c.args.self.now b (record { search = b.search; vars = b.vars; places = b.places; step = b.step; bad = b.bad; frames = c.push.new.self; simple = b.simple; past = b.past }) c.requires c.in_ok-widen.ensures refl refl refl refl refl refl frames
