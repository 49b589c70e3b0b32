use Rattle.std.proofs.Common.{◌≡◌, ℕ, ◌+◌, ◌-◌, ◌<◌, ◌++◌, [], ◌∷◌, List, Bool, Option, None, length, replicate, get_or, set, is_ok, ap, sym, ◌∙◌, subst, arith}
use Rattle.std.proofs.lemmas.Bool.{cond-true}
use Rattle.std.proofs.lemmas.List.{length-set, length-replicate}
use Rattle.sat_clauses.specs.Literal.{Literal}
use Rattle.sat_clauses.specs.Assignment.{Assignment, value_of}
use Rattle.sat_clauses.specs.TrailRecord.{TrailValue}
use Rattle.sat_clauses.specs.Trail.{assigned_by, assigned_from, AreFresh}
use Rattle.sat_clauses.specs.TrailInside.{trail_of}
use Rattle.sat_clauses.proofs.TrailLemmas.{has_room, set_values, placed_more, AreFresh_push}
use Rattle.sat_clauses.proofs.trail.LiteralTrail.set.Goals as goal

-- what the call asks, said of the fields
places : (t u : TrailValue) (a : Assignment) → t ≡ u → t.vars ≡ length a - 1 → 0 < length a → u.vars + 1 ≡ length a
places t u a is e positive = omega (arith, ap (λ (t : TrailValue). t.vars) is)

free_here : (n : ℕ) (t u : TrailValue) (l : Literal) → t ≡ u → u.vars + 1 ≡ n → value_of (assigned_by u.vars u.lits) l ≡ None → value_of (assigned_from (replicate n None) t.lits) l ≡ None
free_here n t u l is e free =
    subst (λ (m : ℕ). value_of (assigned_from (replicate m None) t.lits) l ≡ None) e
    (subst (λ (ys : List Literal). value_of (assigned_by u.vars ys) l ≡ None) (sym (ap (λ (t : TrailValue). t.lits) is)) free)

pub unwrap-requires : goal.unwrap-requires
unwrap-requires c =
    let a = c.self.inside.assign in
    let n = places (trail_of c.self.inside) c.args.self.now a c.self.view_is (omega arith) c.self.invariant.positive in
    let free = free_here (length a) (trail_of c.self.inside) c.args.self.now c.args.lit c.self.view_is n c.requires.free in
    let shorter = has_room (length a) c.self.inside.lits.items c.args.lit c.self.invariant.fresh (omega arith) free in
    c.push.ensures.succeeds (omega (arith, shorter, c.self.invariant.room))

pub invariant_of-self : goal.invariant_of-self
invariant_of-self c =
    let a = c.self.inside.assign in
    let ys = c.self.inside.lits.items in
    let l = c.args.lit in
    let b = c.set.new.self in
    let n = places (trail_of c.self.inside) c.args.self.now a c.self.view_is (omega arith) c.self.invariant.positive in
    let free = free_here (length a) (trail_of c.self.inside) c.args.self.now l c.self.view_is n c.requires.free in
    let pushed : c.push.new.self.items ≡ ys ++ l ∷ [] = c.push.ensures.items ∙ cond-true _ _ _ (ap is_ok c.unwrap.ensures) in
    let same : length a ≡ length b = sym (ap length c.set.ensures ∙ length-set a l.var _) in
    record {
      matches = subst (λ (m : ℕ). b ≡ assigned_from (replicate m None) c.push.new.self.items) same (set_values (length a) ys c.push.new.self.items l a b pushed c.self.invariant.matches c.set.ensures);
      fresh = subst (λ (m : ℕ). AreFresh (replicate m None) c.push.new.self.items) same
          (subst (AreFresh (replicate (length a) None)) (sym pushed) (AreFresh_push (replicate (length a) None) ys l c.self.invariant.fresh (omega (arith, n, c.requires.in_range, length-replicate {A = Option Bool} (length a) None)) free));
      positive = omega (arith, same, c.self.invariant.positive);
      small = omega (arith, same, c.self.invariant.small);
      room = omega (arith, same, c.self.invariant.room, c.push.ensures.capacity);
      as_many = length-set c.self.inside.places.items c.var.result c.len.result ∙ (c.self.invariant.as_many ∙ same);
      placed = λ i d lt.
          ap (λ (v : ℕ). get_or (set c.self.inside.places.items v c.len.result) (get_or c.push.new.self.items i d).var 0) c.var.ensures.value
          ∙ placed_more (length a) c.self.inside.places.items ys c.push.new.self.items l c.len.result pushed (c.len.ensures ∙ c.self.inside.lits.ok.0)
          (omega (arith, n, c.requires.in_range, c.self.invariant.as_many)) c.self.invariant.fresh free c.self.invariant.placed i d lt;
    }
