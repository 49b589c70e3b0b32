use Rattle.fault_generator.specs.Generator.{rails_of}
use Rattle.fault_generator.specs.Stages.{told_rails}
use Rattle.fault_generator.proofs.RailLaws.{stage_on}
use Rattle.fault_generator.proofs.rails.rails.Goals as goal

pub loop-i-preserved : goal.loop-i-preserved
loop-i-preserved c = (
  c.next_number-seed.ensures.small,
  stage_on c.loop-i.i c.args.stages c.loop-i.seed c.next_number-seed.result c.is_on_rail_a.result (told_rails c.loop-i.rails) (told_rails c.add.new.self) (rails_of c.args.number c.args.stages)
      c.loop-i-test.true c.next_number-seed.ensures.next c.is_on_rail_a.ensures c.in_ok-add.ensures c.loop-i.invariant.1,
)
