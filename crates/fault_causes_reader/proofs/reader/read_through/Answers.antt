use Rattle.std.proofs.Common.{Some, None, sym, ap, ◌∙◌}
use Rattle.fault_causes_reader.specs.CauseStages.{so_far}
use Rattle.fault_causes_reader.specs.StageView.{stage_of, written_trees, read_view}
use Rattle.fault_causes_reader.proofs.CausesStops.{path_more, ended}
use Rattle.fault_causes_reader.proofs.reader.read_through.Goals as goal

pub returns-in-None : goal.returns-in-None
returns-in-None c = (
  c.loop-i-test.true,
  (so_far (stage_of c.loop-i.state) (written_trees c.loop-i.causes), c.loop-i.invariant),
  path_more c.args.tokens.now c.loop-i.i c.index-tokens-i.result (Some (so_far (stage_of c.loop-i.state) (written_trees c.loop-i.causes))) None c.loop-i-test.true c.index-tokens-i.is c.loop-i.invariant
      (sym (ap (λ z. read_view z c.step.new.causes) c.in-None.is) ∙ c.in_ok-next.ensures),
)

pub loop-i-preserved : goal.loop-i-preserved
loop-i-preserved c =
    path_more c.args.tokens.now c.loop-i.i c.index-tokens-i.result (Some (so_far (stage_of c.loop-i.state) (written_trees c.loop-i.causes)))
    (Some (so_far (stage_of c.in-Some.next) (written_trees c.step.new.causes))) c.loop-i-test.true c.index-tokens-i.is c.loop-i.invariant
    (sym (ap (λ z. read_view z c.step.new.causes) c.in-Some.is) ∙ c.in_ok-next.ensures)

pub returns : goal.returns
returns c = ended c.args.tokens.now (written_trees c.loop-i.causes) (stage_of c.loop-i.state) c.loop-i.i c.ending.result c.loop-i-test.false c.loop-i.invariant c.ending.ensures
