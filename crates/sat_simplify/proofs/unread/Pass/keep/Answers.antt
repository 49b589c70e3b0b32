use Rattle.std.proofs.Common.{subst}
use Rattle.sat_simplify.specs.CompactNumbers.{HasMarked}
use Rattle.sat_simplify.proofs.UnreadLaws.{left_keeps}
use Rattle.sat_simplify.proofs.unread.Pass.keep.Goals as goal

pub returns : goal.returns
returns c =
    left_keeps c.args.places c.args.list.now c.args.self.now.left c.args.last c.args.self.now.kept.items c.push.new.self.items c.args.self.now.marks.items c.mark_clause.new.marks.items c.requires.last c.in_ok-push.ensures.items c.requires.left
    (subst (HasMarked c.args.places c.args.self.now.marks.items c.mark_clause.new.marks.items) c.lits_at.ensures c.in_ok-mark_clause.ensures)
