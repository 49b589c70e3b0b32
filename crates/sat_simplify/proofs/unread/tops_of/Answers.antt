use Rattle.std.proofs.Common.{◌+◌, ℕ, All, length, sym, subst, take, ap, ◌∙◌}
use Rattle.std.proofs.lemmas.List.{length_push}
use Rattle.sat_clauses.specs.Derivation.{IsUpTo}
use Rattle.sat_simplify.specs.Unread.{AreTops}
use Rattle.sat_simplify.proofs.UnreadLaws.{tops_more, raised_more}
use Rattle.sat_simplify.proofs.unread.tops_of.Goals as goal

pub loop-clause-preserved : goal.loop-clause-preserved
loop-clause-preserved c =
    let inv = c.loop-clause.invariant in
    record {
      tops = subst (AreTops c.args.list.now) (sym c.in_ok-push.ensures.items)
          (tops_more c.args.list.now c.loop-clause.tops.items c.loop-clause.top inv.tops (subst (λ (n : ℕ). All (All (IsUpTo c.loop-clause.top)) (take n c.args.list.now)) (sym inv.long) inv.up_to));
      long = ap length c.in_ok-push.ensures.items ∙ (length_push c.loop-clause.tops.items c.loop-clause.top ∙ ap (λ (n : ℕ). n + 1) inv.long);
      up_to = raised_more c.args.list.now c.loop-clause.clause-index c.loop-clause.top c.top_of-top.result c.clause-item.result c.loop-clause-test.true c.clause-item.is c.top_of-top.ensures.least inv.up_to (subst (All (IsUpTo c.top_of-top.result)) c.lits.ensures c.top_of-top.ensures.up_to);
    }
