use Rattle.std.proofs.Common.{◌≡◌, take}
use Rattle.base_files.specs.Desk.{IsLater}
use Rattle.verb_tops.specs.Each.{HasReported}
use Rattle.verb_tops.specs.Work.{case_of_asked, events_of_asked, size_of_asked}
use Rattle.verb_tops.proofs.each.search_in.Given as goal

abbrev pub invariant-loop-i : goal.invariant-loop-i
invariant-loop-i g l = record {
  system : l.frames.system ≡ l.initial.frames.system;
  reported : HasReported (case_of_asked l.asked) (take l.i (events_of_asked l.asked)) l.asked.loaded.depth (size_of_asked l.asked) l.asked.stem.now l.status
      (g.D.Desk.told l.fn.desk).files (g.D.Desk.told l.desk).files (g.D.Desk.told l.fn.desk).said (g.D.Desk.told l.desk).said;
  stays : IsLater (g.D.Desk.told l.fn.desk) (g.D.Desk.told l.desk);
}
