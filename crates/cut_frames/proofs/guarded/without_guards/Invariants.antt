use Rattle.std.proofs.Common.{◌≡◌, take}
use Rattle.cut_frames.specs.Guards.{unguarded}
use Rattle.cut_frames.proofs.guarded.without_guards.Given as goal

abbrev pub invariant-loop-lit : goal.invariant-loop-lit
invariant-loop-lit l = l.kept.items ≡ unguarded l.places (take l.lit-index l.lit-items)
