use Rattle.std.proofs.Common.{◌≡◌, ℕ, Bool, List, [], All, length, sym, ap, ◌∙◌, subst, arith}
use Rattle.sat_clauses.specs.StoreRecord.{StoreValue}
use Rattle.sat_clauses.specs.Derivation.{IsUpTo}
use Rattle.sat_solver.specs.LivingClauses.{IsAlive}
use Rattle.sat_solver.proofs.AliveLemmas.{alive_none}
use Rattle.sat_solver.proofs.alive.copied.Goals as goal

pub loop-place-init : goal.loop-place-init
loop-place-init c =
    let cs = c.args.store.now.clauses in
    let ms = c.args.marks.now in
    let none = c.in_ok-alive.ensures.clauses in
    record {
      within = omega arith;
      so_far = subst (λ (s : StoreValue). IsAlive cs ms 0 s.clauses c.in_ok-alive.alive.marks.items) (sym none)
          (subst (λ (ns : List Bool). IsAlive cs ms 0 [] ns) (sym c.in_ok-alive.ensures.marks) (alive_none cs ms));
      vars = ap (λ (s : StoreValue). s.vars) none;
      trail = ap (λ (s : StoreValue). s.trail) none;
    }

pub look_at-requires-clause-in_range : goal.look_at-requires-clause-in_range
look_at-requires-clause-in_range c = subst (λ (n : ℕ). All (All (IsUpTo n)) c.args.store.now.clauses) (sym c.loop-place.invariant.vars) c.requires.in_range

pub loop-place-preserved : goal.loop-place-preserved
loop-place-preserved c = record {
  within = omega (arith, c.count-count.ensures);
  so_far = c.in_ok-look_at.ensures.so_far;
  vars = c.in_ok-look_at.ensures.vars ∙ c.loop-place.invariant.vars;
  trail = c.in_ok-look_at.ensures.trail ∙ c.loop-place.invariant.trail;
}

pub returns-clause-stay : goal.returns-clause-stay
returns-clause-stay c =
    let cs = c.args.store.now.clauses in
    let all : c.loop-place.place ≡ length cs = omega (arith, c.count-count.ensures, c.loop-place.invariant.within) in
    subst (λ (n : ℕ). IsAlive cs c.args.marks.now n c.loop-place.alive.store.clauses c.loop-place.alive.marks.items) all c.loop-place.invariant.so_far
