-- One instance is written.
use Rattle.std.proofs.Common.{rules}
use Rattle.smv_scope.proofs.PlaceLaws.{set_own}
use Rattle.smv_scope.proofs.walk.Walk.leave.Goals as goal

pub returns-clause-spots : goal.returns-clause-spots
returns-clause-spots c = set_own c.args.self.now.spots.items c.args.spot c.index_mut.result.now c.args.own (search rules) c.index_mut.ensures.value
