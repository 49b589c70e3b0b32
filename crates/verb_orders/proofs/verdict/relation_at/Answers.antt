use Rattle.std.proofs.Common.{◌≡◌, true, false, ◌∙◌, sym, arith}
use Rattle.verb_orders.proofs.VerdictLaws.{told_before, told_after, told_together}
use Rattle.verb_orders.proofs.verdict.relation_at.Goals as goal

pub returns-then-is_true : goal.returns-then-is_true
returns-then-is_true c = let is : c.is_true.result ≡ true = grind arith in told_before _ _ (sym c.is_true.ensures ∙ is)

pub returns-then-is_true-2 : goal.returns-then-is_true-2
returns-then-is_true-2 c =
    let first : c.is_true.result ≡ false = grind arith in
    let is : c.is_true-2.result ≡ true = grind arith in
    told_after _ _ (sym c.is_true.ensures ∙ first) (sym c.is_true-2.ensures ∙ is)

pub returns : goal.returns
returns c =
    let first : c.is_true.result ≡ false = grind arith in
    let second : c.is_true-2.result ≡ false = grind arith in
    told_together _ _ (sym c.is_true.ensures ∙ first) (sym c.is_true-2.ensures ∙ second)
