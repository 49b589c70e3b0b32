-- All formals are answered.
use Rattle.std.proofs.Common.{◌≤◌, length, rules}
use Rattle.smv_scope.proofs.Turns.{scene_made}
use Rattle.smv_scope.proofs.Answered.{rows_done}
use Rattle.smv_scope.proofs.names.Scene.answer_formals.Goals as goal

pub returns-clause-scene : goal.returns-clause-scene
returns-clause-scene c =
    let all : length c.args.self.now.formals.items ≤ c.loop-spot.spot = search rules in
    scene_made c.loop-spot.self c.loop-spot.invariant.ready
    (rows_done c.args.self.now c.loop-spot.self c.loop-spot.spot c.loop-spot.invariant.same c.requires c.loop-spot.invariant.ready all c.loop-spot.invariant.answered)
