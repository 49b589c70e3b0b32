use Rattle.std.proofs.Common.{◌≡◌, drop}
use Rattle.base_files.specs.Memory.{kept_at}
use Rattle.base_files.proofs.fails.kept_of.Given as goal

abbrev pub invariant-loop-fail : goal.invariant-loop-fail
invariant-loop-fail l = kept_at l.fails l.call l.number ≡ kept_at (drop l.fail-index l.fails) l.call l.number
