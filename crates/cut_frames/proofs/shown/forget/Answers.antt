use Rattle.std.proofs.Common.{rules, ◌≡◌, sym, subst, filter, All}
use Rattle.std.proofs.lemmas.Fn.{filter_same}
use Rattle.cut_frames.specs.FrameLists.{frame_at}
use Rattle.cut_frames.specs.Levels.{frames_of}
use Rattle.cut_frames.specs.KnownSteps.{counts, IsShown}
use Rattle.cut_frames.proofs.ShownLaws.{all_counted}
use Rattle.cut_frames.proofs.shown.forget.Goals as goal

pub returns : goal.returns
returns c =
    let left : c.retain.new.self.items ≡ filter (counts c.args.i c.args.frames.now.held.items) c.args.seen.now.items = filter_same _ _ _ (λ x b f' k. search rules) _ _ c.retain.ensures.filtered in
    subst (All (IsShown c.args.system.now (frame_at (frames_of c.args.frames.now) c.args.i) c.args.i)) (sym left)
    (all_counted c.args.system.now c.args.frames.now c.args.i c.args.seen.now.items c.requires.within c.requires.seen)
