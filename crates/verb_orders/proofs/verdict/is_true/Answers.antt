use Rattle.std.proofs.Common.{◌≡◌, ◌-◌, length, arith}
use Rattle.verb_orders.proofs.VerdictLaws.{not_there, is_there}
use Rattle.verb_orders.proofs.verdict.is_true.Goals as goal

pub returns-then-at-len : goal.returns-then-at-len
returns-then-at-len c = let at : c.saturating_sub-at.result ≡ length c.args.moment.now - c.args.place = omega arith in not_there c.args.moment.now _ _ at (omega arith)

pub returns-in-Bool : goal.returns-in-Bool
returns-in-Bool c = let at : c.saturating_sub-at.result ≡ length c.args.moment.now - c.args.place = omega arith in is_there c.args.moment.now _ _ _ at c.in-Bool.ensures
