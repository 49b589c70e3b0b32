use Rattle.std.proofs.Common.{◌≡◌, ℕ, ◌+◌, ap, sym, subst, arith}
use Rattle.sat_clauses.specs.Models.{ClausesBelow}
use Rattle.sat_clauses.specs.TrailRecord.{TrailValue}
use Rattle.sat_solver.specs.Arena.{AreWatched}
use Rattle.sat_solver.proofs.ArenaLemmas.{tables_undone}
use Rattle.sat_solver.proofs.arena.ArenaStore.undo.Goals as goal

pub invariant_of-self : goal.invariant_of-self
invariant_of-self c =
    let s = c.self.inside in
    let cs = s.clauses.clauses in
    let same : c.undo.new.self.vars ≡ s.trail.vars = ap (λ (x : TrailValue). x.vars) c.undo.ensures in
    record {
      in_range = subst (λ (n : ℕ). ClausesBelow (n + 1) cs) (sym same) c.self.invariant.in_range;
      lists_first = omega (arith, same, c.self.invariant.lists_first);
      lists_second = omega (arith, same, c.self.invariant.lists_second);
      places_first = c.self.invariant.places_first;
      places_second = c.self.invariant.places_second;
      watched = subst (λ (x : TrailValue). AreWatched x.vars x.lits cs s.firsts.homes s.seconds.homes) (sym c.undo.ensures) (tables_undone s.trail.vars s.trail.lits c.args.keep cs s.firsts.homes s.seconds.homes c.self.invariant.watched);
      room = omega (arith, c.clear.ensures.capacity, c.self.invariant.room);
    }
