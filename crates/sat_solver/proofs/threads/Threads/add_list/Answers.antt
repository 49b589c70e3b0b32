use Rattle.std.proofs.Common.{◌≡◌, ℕ, ◌+◌, ◌++◌, [], ◌∷◌, List, length, ap, sym, ◌∙◌, subst, arith}
use Rattle.std.proofs.lemmas.List.{length-append}
use Rattle.sat_solver.specs.Threads.{AreThreaded, at}
use Rattle.sat_solver.proofs.ThreadLemmas.{one_more_list}
use Rattle.sat_solver.proofs.threads.Threads.add_list.Goals as goal

pub invariant_of-self-2 : goal.invariant_of-self-2
invariant_of-self-2 c =
    let old = c.self.inside.heads.items in
    let heads : c.push.new.self.items ≡ old ++ 0 ∷ [] = c.in_ok-push.ensures.items in
    let longer : length old + 1 ≡ length c.push.new.self.items = sym (ap length heads ∙ length-append old (0 ∷ [])) in
    let t = one_more_list (length old) old c.self.inside.next.items c.self.inside.homes.items c.self.invariant.threaded in
    record {
      as_many = c.self.invariant.as_many;
      some_list = omega (arith, longer);
      threaded = subst (λ (n : ℕ). AreThreaded n (at c.push.new.self.items) (at c.self.inside.next.items) (at c.self.inside.homes.items)) longer
          (subst (λ (x : List ℕ). AreThreaded (length old + 1) (at x) (at c.self.inside.next.items) (at c.self.inside.homes.items)) (sym heads) t);
    }
