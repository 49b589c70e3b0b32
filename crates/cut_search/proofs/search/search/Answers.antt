use Rattle.std.proofs.Common.{◌≡◌, ℕ, ◌≤◌, ◌-◌, ◌∙◌, length, sym, subst, arith}
use Rattle.cut_search.proofs.search.search.Goals as goal
use Rattle.cut_search.proofs.SearchLemmas.{ends_bounded, ends_proved}

reached : (d r f : ℕ) → d ≤ r → r ≡ f → f ≤ d → f ≡ d
reached d r f a b e = omega (arith, a, b, e)

pub frontiers-init : goal.frontiers-init
frontiers-init g c = record {
  system = c.begin.ensures.system ∙ c.requires.system;
  between = c.in_ok-list.ensures.between;
  within = subst (λ n. n ≤ c.args.bounds.depth) (sym c.in_ok-list.ensures.frontier) (omega arith);
}

pub returns-then-frontier-bounds-clause-ends : goal.returns-then-frontier-bounds-clause-ends
returns-then-frontier-bounds-clause-ends g c =
    ends_bounded (g.E.Encoded.problem c.args.model.now) c.args.bounds.depth c.args.bounds.size c.frontiers.list.items c.frontiers.frames c.is_searched.ensures c.frontiers.invariant.between
    (reached c.args.bounds.depth c.frontier.result (length c.frontiers.frames.frames - 1) c.if-frontier-bounds.true c.frontier.ensures.value c.frontiers.invariant.within)

pub returns-in-Some-clause-ends : goal.returns-in-Some-clause-ends
returns-in-Some-clause-ends g c =
    ends_proved (g.E.Encoded.problem c.args.model.now) c.args.bounds.depth c.args.bounds.size c.frontiers.list.items c.in_ok-next.next.items c.frontiers.frames.frames c.further.new.frames c.in_ok-next.proof c.in-Some.clauses
    c.is_searched.ensures c.frontiers.invariant.between.are c.in-Some.is c.in_ok-next.ensures.gone
