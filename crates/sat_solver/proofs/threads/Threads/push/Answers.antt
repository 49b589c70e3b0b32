use Rattle.std.proofs.Common.{◌≡◌, ℕ, ◌+◌, ◌<◌, List, length, set, ap, sym, ◌∙◌, subst, arith}
use Rattle.std.proofs.lemmas.List.{length-set, get_or_read}
use Rattle.sat_solver.specs.ThreadsRecord.{ThreadsValue}
use Rattle.sat_solver.specs.Threads.{AreThreaded, at}
use Rattle.sat_solver.proofs.ThreadLemmas.{pushed_lists}
use Rattle.sat_solver.proofs.threads.Threads.push.Goals as goal

pub invariant_of-self : goal.invariant_of-self
invariant_of-self c =
    let t = c.self.inside in
    let l = c.args.list in
    let n = c.args.number in
    let within : l < length t.heads.items = omega (arith, c.requires.within, ap (λ (v : ThreadsValue). v.lists) c.self.view_is) in
    let homes_is : t.homes.items ≡ c.args.self.now.homes = ap (λ (v : ThreadsValue). v.homes) c.self.view_is in
    let known : n < length t.homes.items = omega (arith, c.requires.known, ap length homes_is) in
    let free : at t.homes.items n ≡ 0 = ap (λ (x : List ℕ). at x n) homes_is ∙ c.requires.free in
    let head : c.index.result.now ≡ at t.heads.items l = get_or_read t.heads.items l c.index.result.now within c.index.ensures 0 in
    let same : length t.heads.items ≡ length (set t.heads.items l (n + 1)) = sym (length-set t.heads.items l (n + 1)) in
    let next : length (set t.next.items n c.index.result.now) ≡ length t.next.items = length-set t.next.items n c.index.result.now in
    let homes : length (set t.homes.items n l) ≡ length t.homes.items = length-set t.homes.items n l in
    record {
      as_many = next ∙ (c.self.invariant.as_many ∙ sym homes);
      some_list = subst (λ (m : ℕ). 0 < m) same c.self.invariant.some_list;
      threaded = subst (λ (m : ℕ). AreThreaded m (at (set t.heads.items l (n + 1))) (at (set t.next.items n c.index.result.now)) (at (set t.homes.items n l))) same
          (pushed_lists t.heads.items t.next.items t.homes.items l n c.index.result.now c.self.invariant.threaded c.requires.positive within known (omega (arith, known, c.self.invariant.as_many)) free head);
    }
