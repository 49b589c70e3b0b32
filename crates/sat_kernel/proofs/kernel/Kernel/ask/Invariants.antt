use Rattle.std.proofs.Common.{◌≡◌}
use Rattle.sat_kernel.proofs.kernel.Kernel.ask.Given as goal

-- the advisers have their room, and none was turned to
abbrev pub invariant-loop : goal.invariant-loop
invariant-loop g l = record {
  vars : l.panel.vars ≡ l.initial.panel.vars;
  rotated : l.panel.rotated ≡ l.initial.panel.rotated;
}
