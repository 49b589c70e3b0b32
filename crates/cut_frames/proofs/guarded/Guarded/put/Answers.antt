use Rattle.std.proofs.Common.{refl}
use Rattle.cut_frames.proofs.GuardedSteps.{put_well}
use Rattle.cut_frames.proofs.guarded.Guarded.put.Goals as goal

pub returns : goal.returns
returns c = put_well c.args.self.now (record { search = c.add.new.self; vars = c.args.self.now.vars; places = c.args.self.now.places; step = c.args.self.now.step; bad = c.args.self.now.bad; frames = c.args.self.now.frames; simple = c.args.self.now.simple; past = c.args.self.now.past }) c.args.clause.now c.requires.well
    (record { places = refl; simple = refl; step = refl; bad = refl; frames = refl }) refl c.in_ok-add.ensures.ok
