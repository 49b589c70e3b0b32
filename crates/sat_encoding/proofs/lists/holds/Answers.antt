use Rattle.smv_language.specs.ModelTree.{flat_tree}
use Rattle.sat_encoding.proofs.LoopLaws.{holds_is}
use Rattle.sat_encoding.proofs.lists.holds.Goals as goal

pub returns : goal.returns
returns c =
    holds_is c.args.names.now (flat_tree c.args.e.now) c.args.g.now c.expression.new.g _ c.in_ok-part.part c.literal-l.result c.in_ok-part.ensures c.requires.right c.literal-l.ensures.value c.in_ok-assert_true.ensures.ok
