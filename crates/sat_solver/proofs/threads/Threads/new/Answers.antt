use Rattle.std.proofs.Common.{◌≡◌, ℕ, List, length, replicate, ap, sym, ◌∙◌, arith}
use Rattle.std.proofs.lemmas.List.{length-replicate}
use Rattle.sat_solver.specs.Threads.{at}
use Rattle.sat_solver.proofs.ThreadLemmas.{nothing_threaded, at_replicate}
use Rattle.sat_solver.proofs.threads.Threads.new.Goals as goal

pub invariant_of-result : goal.invariant_of-result
invariant_of-result c =
    let heads = c.in_ok-vec.field-0.items in
    let n = c.args.lists in
    let zeros : heads ≡ replicate n 0 = grind (arith, c.in_ok-vec.ensures.items_if_clones_equal) in
    let none : (x : ℕ) → at heads x ≡ 0 = λ x. ap (λ (y : List ℕ). at y x) zeros ∙ at_replicate n x in
    let empty : (x : ℕ) → at c.new-2.result.items x ≡ 0 = λ x. ap (λ (y : List ℕ). at y x) c.new-2.ensures.items in
    let many : length heads ≡ n = ap length zeros ∙ length-replicate {A = ℕ} n 0 in
    record {
      as_many = ap length c.new.ensures.items ∙ sym (ap length c.new-2.ensures.items);
      some_list = omega (arith, many, c.requires);
      threaded = nothing_threaded (length heads) (at heads) (at c.new.result.items) (at c.new-2.result.items) (omega (arith, many, c.requires)) none empty;
    }
