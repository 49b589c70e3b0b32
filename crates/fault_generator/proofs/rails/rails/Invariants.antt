-- the stages that are left, after those that stand, are all of them
use Rattle.std.proofs.Common.{◌≡◌, ◌<◌, ◌+◌, ◌-◌, ◌^◌}
use Rattle.fault_generator.specs.Generator.{rails_after, with_stages, rails_of}
use Rattle.fault_generator.specs.Stages.{told_rails}
use Rattle.fault_generator.proofs.rails.rails.Given as goal

abbrev pub invariant-loop-i : goal.invariant-loop-i
invariant-loop-i l = (l.seed < 2 ^ 32) × (with_stages (rails_after (l.stages - l.i) l.seed) (l.i + 1) (told_rails l.rails) ≡ rails_of l.number l.stages)
