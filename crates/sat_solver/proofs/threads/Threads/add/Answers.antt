use Rattle.std.proofs.Common.{◌≡◌, ℕ, ◌++◌, [], ◌∷◌, List, length, is_ok, ap, sym, ◌∙◌, subst, arith}
use Rattle.std.proofs.lemmas.Bool.{cond-true}
use Rattle.std.proofs.lemmas.List.{length-append}
use Rattle.sat_solver.specs.Threads.{AreThreaded, at}
use Rattle.sat_solver.proofs.ThreadLemmas.{one_more_number}
use Rattle.sat_solver.proofs.threads.Threads.add.Goals as goal

pub invariant_of-self-2 : goal.invariant_of-self-2
invariant_of-self-2 c =
    let next : c.push-2.new.self.items ≡ c.self.inside.next.items ++ 0 ∷ [] = c.push-2.ensures.items ∙ (cond-true _ _ _ (ap is_ok c.unwrap.ensures) ∙ ap (λ (x : List ℕ). x ++ 0 ∷ []) c.reserve.ensures.items) in
    let homes : c.push.new.self.items ≡ c.self.inside.homes.items ++ 0 ∷ [] = c.in_ok-push.ensures.items in
    let t = one_more_number (length c.self.inside.heads.items) c.self.inside.heads.items c.self.inside.next.items c.self.inside.homes.items c.self.invariant.threaded in
    record {
      as_many = omega (arith, ap length next, ap length homes, length-append c.self.inside.next.items (0 ∷ []), length-append c.self.inside.homes.items (0 ∷ []), c.self.invariant.as_many);
      some_list = c.self.invariant.some_list;
      threaded = subst (λ (x : List ℕ). AreThreaded (length c.self.inside.heads.items) (at c.self.inside.heads.items) (at x) (at c.push.new.self.items)) (sym next)
          (subst (λ (x : List ℕ). AreThreaded (length c.self.inside.heads.items) (at c.self.inside.heads.items) (at (c.self.inside.next.items ++ 0 ∷ [])) (at x)) (sym homes) t);
    }
