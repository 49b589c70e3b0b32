use Rattle.std.proofs.Common.{◌≡◌, ℕ, ◌+◌, ◌-◌, ◌<◌, List, length, set, ap, sym, ◌∙◌, subst, arith}
use Rattle.std.proofs.lemmas.List.{length-set, get_or_read}
use Rattle.sat_solver.specs.ThreadsRecord.{ThreadsValue}
use Rattle.sat_solver.specs.Threads.{AreThreaded, at}
use Rattle.sat_solver.proofs.ThreadLemmas.{within_from_some, popped_lists}
use Rattle.sat_solver.proofs.threads.Threads.pop.Goals as goal

-- the number that comes first is one of those that are known
known : (heads next homes : List ℕ) (l head : ℕ) → AreThreaded (length heads) (at heads) (at next) (at homes) → 0 < l → at heads l ≡ head → 0 < head → head - 1 < length homes
known heads next homes l head t positive is some =
    let z : at homes (head - 1) ≡ l = t.top l (head - 1) positive (omega arith) in
    within_from_some homes (head - 1) (omega arith)

pub index-requires : goal.index-requires
index-requires c =
    let t = c.self.inside in
    let l = c.args.list in
    let head = c.index-head.result.now in
    let within : l < length t.heads.items = omega (arith, c.requires.within, ap (λ (v : ThreadsValue). v.lists) c.self.view_is) in
    let is : head ≡ at t.heads.items l = get_or_read t.heads.items l head within c.index-head.ensures 0 in
    let k = known t.heads.items t.next.items t.homes.items l head c.self.invariant.threaded c.requires.positive (sym is) (omega arith) in
    omega (arith, k, c.self.invariant.as_many, t.next.ok.0)

pub index_mut-requires-2 : goal.index_mut-requires-2
index_mut-requires-2 c =
    let t = c.self.inside in
    let l = c.args.list in
    let head = c.index-head.result.now in
    let within : l < length t.heads.items = omega (arith, c.requires.within, ap (λ (v : ThreadsValue). v.lists) c.self.view_is) in
    let is : head ≡ at t.heads.items l = get_or_read t.heads.items l head within c.index-head.ensures 0 in
    let k = known t.heads.items t.next.items t.homes.items l head c.self.invariant.threaded c.requires.positive (sym is) (omega arith) in
    omega (arith, k, t.homes.ok.0)

pub invariant_of-self : goal.invariant_of-self
invariant_of-self c =
    let t = c.self.inside in
    let l = c.args.list in
    let head = c.index-head.result.now in
    let n = head - 1 in
    let within : l < length t.heads.items = omega (arith, c.requires.within, ap (λ (v : ThreadsValue). v.lists) c.self.view_is) in
    let is : head ≡ at t.heads.items l = get_or_read t.heads.items l head within c.index-head.ensures 0 in
    let k = known t.heads.items t.next.items t.homes.items l head c.self.invariant.threaded c.requires.positive (sym is) (omega arith) in
    let first : at t.heads.items l ≡ n + 1 = omega (arith, is) in
    let next : c.index.result.now ≡ at t.next.items n = get_or_read t.next.items n c.index.result.now (omega (arith, k, c.self.invariant.as_many)) c.index.ensures 0 in
    let same : length t.heads.items ≡ length (set t.heads.items l c.index.result.now) = sym (length-set t.heads.items l c.index.result.now) in
    let homes : length (set t.homes.items n 0) ≡ length t.homes.items = length-set t.homes.items n 0 in
    record {
      as_many = c.self.invariant.as_many ∙ sym homes;
      some_list = subst (λ (m : ℕ). 0 < m) same c.self.invariant.some_list;
      threaded = subst (λ (m : ℕ). AreThreaded m (at (set t.heads.items l c.index.result.now)) (at t.next.items) (at (set t.homes.items n 0))) same
          (popped_lists t.heads.items t.next.items t.homes.items l n c.index.result.now c.self.invariant.threaded c.requires.positive within first next);
    }
