use Rattle.std.proofs.Common.{◌∙◌, sym, subst}
use Rattle.cut_search.proofs.search.analyse.Goals as goal
use Rattle.cut_search.proofs.SearchLemmas.{tells_first, in_order, all_rise}
use Rattle.cut_search.specs.Answer.{IsEnd}

pub returns-clause-answer : goal.returns-clause-answer
returns-clause-answer g c = record {
  found = c.in_ok-found.found.items;
  are = c.in_ok-found.ensures.listed;
  sets = c.in_ok-made.ensures.sets;
  traces = c.in_ok-made.ensures.traces;
  in_order = in_order (g.E.Encoded.problem c.args.model.now) c.args.size c.in_ok-found.found.items c.in_ok-made.made.sets c.in_ok-made.ensures.sets c.in_ok-found.ensures.listed;
  rising = all_rise (g.E.Encoded.problem c.args.model.now) c.args.size c.in_ok-found.found.items c.in_ok-made.made.sets c.in_ok-made.ensures.sets c.in_ok-found.ensures.listed;
  ends = subst (IsEnd (g.E.Encoded.problem c.args.model.now) c.args.depth c.args.size c.in_ok-found.found.items) (sym c.in_ok-made.ensures.end) c.in_ok-found.ensures.ends;
  first =
      tells_first (g.E.Encoded.problem c.args.model.now) c.in_ok-made.made.first c.in_ok-first.first c.begin_again.new.self.system c.is_searched.ensures c.in_ok-made.ensures.first
      (c.begin_again.ensures.system ∙ c.requires) c.in_ok-first.ensures.first;
  size_is = c.in_ok-made.ensures.size;
}
