use Rattle.std.proofs.Common.{◌≡◌, false, IsTrue, arith}
use Rattle.verb_orders.proofs.pair.judge_pair.Goals as goal

pub returns-then-is_pair-clause-ok : goal.returns-then-is_pair-clause-ok
returns-then-is_pair-clause-ok c = let is : IsTrue c.is_pair.result = grind arith in c.is_pair.ensures.yes is

pub returns-clause-kept : goal.returns-clause-kept
returns-clause-kept c r e h = let is_not : c.is_pair.result ≡ false = grind arith in c.is_pair.ensures.no is_not h
