-- The modules that the walk isn't in yet go down from an instance to those inside it.
use Rattle.std.proofs.Common.{◌+◌, ◌-◌, ◌*◌, length}
use Rattle.smv_scope.specs.ClosedModels.{AreVariables}
use Rattle.smv_scope.proofs.GoneLaws.{GoneSoFar}
use Rattle.smv_scope.proofs.walk.Walk.+walk.Given as goal

abbrev pub decreases-enter : goal.decreases-enter
decreases-enter l = 5 * (length l.modules.now.list.items - length l.self.now.inside.items)

abbrev pub decreases-add_instance : goal.decreases-add_instance
decreases-add_instance l = 5 * (length l.modules.now.list.items - length l.self.now.inside.items) + 1

abbrev pub decreases-declare : goal.decreases-declare
decreases-declare l = 5 * (length l.modules.now.list.items - length l.self.now.inside.items) + 2

abbrev pub decreases-meet : goal.decreases-meet
decreases-meet l = 5 * (length l.modules.now.list.items - length l.self.now.inside.items) + 3

abbrev pub decreases-go_through : goal.decreases-go_through
decreases-go_through l = 5 * (length l.modules.now.list.items - length l.self.now.inside.items) + 4

abbrev pub invariant-go_through-loop-numbered : goal.invariant-go_through-loop-numbered
invariant-go_through-loop-numbered l = record {
  far : GoneSoFar l.modules l.initial.self l.spot l.items l.numbered-index l.self l.own.items;
  variables : AreVariables l.self.variables;
}
