use Rattle.std.proofs.Common.{◌≡◌, ℕ, ◌+◌, ◌++◌, [], ◌∷◌, List, Bool, Option, None, length, replicate, get_or, is_ok, ap, sym, ◌∙◌, subst, arith}
use Rattle.std.proofs.lemmas.List.{length-append, replicate_more}
use Rattle.std.proofs.lemmas.Bool.{cond-true}
use Rattle.sat_clauses.specs.Literal.{Literal}
use Rattle.sat_clauses.specs.Trail.{assigned_from, AreFresh}
use Rattle.sat_clauses.proofs.TrailLemmas.{assigned_from_more, AreFresh_more, at_most_all, same_with_zero}
use Rattle.sat_clauses.proofs.trail.LiteralTrail.more.Goals as goal

pub overflow_sub-missing : goal.overflow_sub-missing
overflow_sub-missing c =
    omega (arith, at_most_all (length c.self.inside.assign) c.self.inside.lits.items c.self.invariant.fresh)

pub invariant_of-self-2 : goal.invariant_of-self-2
invariant_of-self-2 c =
    let a = c.self.inside.assign in
    let n = length a in
    let ys = c.self.inside.lits.items in
    let b = c.more.new.self in
    let grown : b ≡ a ++ None ∷ [] = c.in_ok-more.ensures.ok in
    let same : n + 1 ≡ length b = sym (ap length grown ∙ length-append a (None ∷ [])) in
    let kept : c.reserve.new.self.items ≡ ys = c.reserve.ensures.items in
    let values : b ≡ assigned_from (replicate (n + 1) None) ys =
    grown ∙ (ap (λ (x : List (Option Bool)). x ++ None ∷ []) c.self.invariant.matches
    ∙ (sym (assigned_from_more (replicate n None) ys c.self.invariant.fresh)
    ∙ ap (λ (x : List (Option Bool)). assigned_from x ys) (replicate_more n None))) in
    let fresh : AreFresh (replicate (n + 1) None) ys =
    subst (λ (x : List (Option Bool)). AreFresh x ys) (replicate_more n None) (AreFresh_more (replicate n None) ys c.self.invariant.fresh) in
    let pushed : c.push.new.self.items ≡ c.self.inside.places.items ++ 0 ∷ [] =
    c.push.ensures.items ∙ (cond-true _ _ _ (ap is_ok c.unwrap.ensures) ∙ ap (λ (x : List ℕ). x ++ 0 ∷ []) c.reserve-2.ensures.items) in
    record {
      matches = subst (λ (m : ℕ). b ≡ assigned_from (replicate m None) c.reserve.new.self.items) same (values ∙ ap (assigned_from (replicate (n + 1) None)) (sym kept));
      fresh = subst (λ (m : ℕ). AreFresh (replicate m None) c.reserve.new.self.items) same (subst (AreFresh (replicate (n + 1) None)) (sym kept) fresh);
      positive = omega (arith, same);
      small = omega (arith, same);
      room = omega (arith, same, c.in_ok-reserve.ensures.ok);
      as_many = omega (arith, ap length pushed, length-append c.self.inside.places.items (0 ∷ []), c.self.invariant.as_many, same);
      placed = λ i d lt.
          ap (λ (x : List ℕ). get_or x (get_or c.reserve.new.self.items i d).var 0) pushed
          ∙ (same_with_zero c.self.inside.places.items (get_or c.reserve.new.self.items i d).var
          ∙ (ap (λ (x : List Literal). get_or c.self.inside.places.items (get_or x i d).var 0) kept ∙ c.self.invariant.placed i d (omega (arith, ap length kept))));
    }
