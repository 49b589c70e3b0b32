use Rattle.std.proofs.Common.{arith}
use Rattle.sat_simplify.proofs.UnreadLaws.{left_goes}
use Rattle.sat_simplify.proofs.unread.Pass.turn.Goals as goal

pub returns-then-can_go : goal.returns-then-can_go
returns-then-can_go c =
    left_goes c.args.places c.args.list.now c.args.self.now.left c.begin_of-begin.result c.args.self.now.kept.items c.args.self.now.marks.items c.requires.left (c.can_go.ensures (grind arith))
