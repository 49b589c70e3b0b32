-- looks since the first list and frames, which are asked about the list bad of the sets; each new set leaves fewer patterns of faults uncovered
use Rattle.std.proofs.Common.{◌≡◌, length}
use Rattle.cut_search_laws.specs.FoundSets.{sets_of}
use Rattle.cut_search_laws.specs.FlatSearch.{IsBadFor}
use Rattle.cut_search_laws.specs.UncoveredPatterns.{uncovered}
use Rattle.cut_search.specs.Progress.{AreLooking}
use Rattle.cut_search.proofs.search.clear_all.Given as goal

abbrev pub invariant-looks : goal.invariant-looks
invariant-looks g l = record {
  system : l.frames.system ≡ l.initial.frames.system;
  looking : AreLooking (g.E.Encoded.problem l.model) l.bounds.size l.initial.list.items l.list.items l.initial.frames.frames l.frames.frames;
  bad : IsBadFor (g.E.Encoded.problem l.model) l.bounds.size (sets_of l.list.items) l.frames.bad;
}

abbrev pub decreases-looks : goal.decreases-looks
decreases-looks g l = uncovered (length (g.E.Encoded.problem l.model).modes) (sets_of l.list.items)
