use Rattle.std.proofs.Common.{◌≡◌, [], drop}
use Rattle.smv_expression_reader.specs.TreeBuilder as machine
use Rattle.smv_expression_reader.specs.PartViews.{parts_of}
use Rattle.smv_expression_reader.specs.BuildViews.{build_view}
use Rattle.smv_expression_reader.proofs.tree.tree.Given as goal

abbrev pub invariant-loop-token : goal.invariant-loop-token
invariant-loop-token l = machine.build (build_view l.build (parts_of l.parts.items)) (drop l.token-index l.tokens) ≡ machine.build (machine.ready []) l.tokens
