use Rattle.std.proofs.Common.{◌≡◌, ℕ, ◌+◌, List, length, ap, sym, ◌∙◌, subst, arith}
use Rattle.sat_clauses.specs.Models.{ClausesBelow}
use Rattle.sat_clauses.specs.TrailRecord.{TrailValue}
use Rattle.sat_solver.specs.ThreadsRecord.{ThreadsValue}
use Rattle.sat_solver.specs.Arena.{AreWatched}
use Rattle.sat_solver.proofs.PickLemmas.{tables_more, below_more}
use Rattle.sat_solver.proofs.arena.ArenaStore.more.Goals as goal

pub invariant_of-self-2 : goal.invariant_of-self-2
invariant_of-self-2 c =
    let s = c.self.inside in
    let cs = s.clauses.clauses in
    let grown = c.in_ok-more.ensures.ok in
    let same : c.more.new.self.vars ≡ s.trail.vars + 1 = ap (λ (x : TrailValue). x.vars) grown in
    let firsts : c.add_list-2.new.self.homes ≡ s.firsts.homes = ap (λ (x : ThreadsValue). x.homes) c.in_ok-add_list-2.ensures.ok ∙ ap (λ (x : ThreadsValue). x.homes) c.in_ok-add_list.ensures.ok in
    let seconds : c.add_list-4.new.self.homes ≡ s.seconds.homes = ap (λ (x : ThreadsValue). x.homes) c.in_ok-add_list-4.ensures.ok ∙ ap (λ (x : ThreadsValue). x.homes) c.in_ok-add_list-3.ensures.ok in
    let tables = tables_more s.trail.vars s.trail.lits cs s.firsts.homes s.seconds.homes c.more.ensures.is_trail c.self.invariant.in_range c.self.invariant.watched in
    record {
      in_range = subst (λ (n : ℕ). ClausesBelow (n + 1) cs) (sym same) (below_more (s.trail.vars + 1) cs c.self.invariant.in_range);
      lists_first = omega (arith, same, ap (λ (x : ThreadsValue). x.lists) c.in_ok-add_list-2.ensures.ok, ap (λ (x : ThreadsValue). x.lists) c.in_ok-add_list.ensures.ok, c.self.invariant.lists_first);
      lists_second = omega (arith, same, ap (λ (x : ThreadsValue). x.lists) c.in_ok-add_list-4.ensures.ok, ap (λ (x : ThreadsValue). x.lists) c.in_ok-add_list-3.ensures.ok, c.self.invariant.lists_second);
      places_first = omega (arith, ap length firsts, c.self.invariant.places_first);
      places_second = omega (arith, ap length seconds, c.self.invariant.places_second);
      watched = subst (λ (x : TrailValue). AreWatched x.vars x.lits cs c.add_list-2.new.self.homes c.add_list-4.new.self.homes) (sym grown)
          (subst (λ (x : List ℕ). AreWatched (s.trail.vars + 1) s.trail.lits cs x c.add_list-4.new.self.homes) (sym firsts)
          (subst (λ (x : List ℕ). AreWatched (s.trail.vars + 1) s.trail.lits cs s.firsts.homes x) (sym seconds) tables));
      room = omega (arith, ap length firsts, ap length seconds, c.clear.ensures.capacity, c.self.invariant.room);
    }
