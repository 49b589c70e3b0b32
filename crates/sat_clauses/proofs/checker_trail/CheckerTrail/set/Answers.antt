use Rattle.std.proofs.Common.{◌≡◌, ◌≢◌, ℕ, ◌+◌, ◌<◌, ◌++◌, [], ◌∷◌, Some, None, not, All, Contains, length, get_or, count_by, is_none, is_ok, vec_len, sym, ap, ◌∙◌, subst, arith}
use Rattle.std.proofs.lemmas.Bool.{cond-true}
use Rattle.std.proofs.lemmas.List.{length-set}
use Rattle.std.proofs.lemmas.List.Elements.{All-push}
use Rattle.sat_clauses.specs.Assignment.{Assignment, value_of}
use Rattle.sat_clauses.proofs.DeriveTrailLemmas.{None-from_value, listed_more, count_less}
use Rattle.sat_clauses.proofs.checker_trail.CheckerTrail.set.Goals as goal

pub invariant_of-self : goal.invariant_of-self
invariant_of-self c =
    let a = c.self.inside.assign in
    let xs = c.self.inside.set.items in
    let l = c.args.lit in
    let pushed : c.push.new.self.items ≡ xs ++ l.var ∷ [] = c.push.ensures.items ∙ (cond-true _ _ _ (ap is_ok c.unwrap.ensures) ∙ ap (λ v. xs ++ v ∷ []) c.var.ensures.value) in
    let longer : vec_len c.push.new.self ≡ vec_len c.self.inside.set + 1 = c.push.ensures.len ∙ cond-true _ _ _ (ap is_ok c.unwrap.ensures) in
    let places : length c.set.new.self ≡ length a = ap length c.set.ensures ∙ length-set a l.var _ in
    let inside : l.var < length a = omega (arith, ap length c.self.view_is, c.requires.in_range) in
    let free : get_or a l.var None ≡ None = None-from_value l.negated _ (ap (λ (b : Assignment). value_of b l) c.self.view_is ∙ c.requires.free) in
    record {
      listed = λ x ne. subst (λ ys. Contains ys x) (sym pushed)
          (listed_more a xs l.var (Some (not l.negated)) c.self.invariant.listed x (subst (λ (b : Assignment). get_or b x None ≢ None) c.set.ensures ne));
      in_range = subst (All (λ (x : ℕ). x < length c.set.new.self)) (sym pushed)
          (subst (λ (n : ℕ). All (λ (x : ℕ). x < n) (xs ++ l.var ∷ [])) (sym places) (All-push (λ (x : ℕ). x < length a) xs l.var c.self.invariant.in_range inside));
      counted = omega (arith, longer, ap (count_by is_none) c.set.ensures, count_less a l.var (not l.negated) inside free, c.self.invariant.counted);
      room = omega (arith, places, c.push.ensures.capacity);
    }
