use Rattle.std.proofs.Common.{refl, ◌∙◌, false}
use Rattle.cut_search.proofs.search.clear_all.Goals as goal
use Rattle.cut_search.proofs.SearchLemmas.{looking_begins, looking_more, falls_more, looked_with}

pub looks-init : goal.looks-init
looks-init g c = record { system = refl; looking = looking_begins (g.E.Encoded.problem c.args.model.now) c.args.bounds.size c.args.found.items c.args.frames.now.frames c.requires.numbered c.requires.listed; bad = c.requires.bad }

pub looks-smaller : goal.looks-smaller
looks-smaller g c =
    falls_more (g.E.Encoded.problem c.args.model.now) c.args.bounds.size c.looks.list.items c.in_ok-next.next.items c.look.new.frames c.looks.invariant.looking.are
    (looked_with (g.E.Encoded.problem c.args.model.now) c.args.bounds.size c.looks.list.items c.in_ok-next.next.items c.look.new.frames c.in_ok-next.clear false c.if-clear.false c.in_ok-next.ensures.looked)

pub looks-preserved : goal.looks-preserved
looks-preserved g c = record {
  system = c.look.ensures.system ∙ c.looks.invariant.system;
  looking =
      looking_more (g.E.Encoded.problem c.args.model.now) c.args.bounds.size c.args.found.items c.looks.list.items c.in_ok-next.next.items c.args.frames.now.frames c.looks.frames.frames c.look.new.frames.frames c.look.new.frames
      c.looks.invariant.looking c.look.ensures.kept
      (looked_with (g.E.Encoded.problem c.args.model.now) c.args.bounds.size c.looks.list.items c.in_ok-next.next.items c.look.new.frames c.in_ok-next.clear false c.if-clear.false c.in_ok-next.ensures.looked);
  bad = (looked_with (g.E.Encoded.problem c.args.model.now) c.args.bounds.size c.looks.list.items c.in_ok-next.next.items c.look.new.frames c.in_ok-next.clear false c.if-clear.false c.in_ok-next.ensures.looked).1;
}
