use Rattle.std.proofs.Common.{◌≡◌, drop}
use Rattle.smv_language.specs.ExpressionTree.{tree_of}
use Rattle.smv_evaluation.specs.MomentTables.{HasRoom}
use Rattle.smv_evaluation.specs.Replay.{replayed_from}
use Rattle.smv_evaluation.proofs.trace.replay_rest.Given as goal

abbrev pub invariant-loop-i : goal.invariant-loop-i
invariant-loop-i l = record {
  rest : replayed_from l.model (tree_of l.top) l.now l.i (drop l.i l.moments) ≡ replayed_from l.model (tree_of l.top) l.initial.now 1 (drop 1 l.moments);
  room_now : HasRoom l.model l.now;
  room_next : HasRoom l.model l.next;
}
