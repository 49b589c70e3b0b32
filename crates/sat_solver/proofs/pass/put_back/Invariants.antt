use Rattle.std.proofs.Common.{◌≡◌, ◌≢◌, ◌⊎◌, ℕ, length, count_by, eqb}
use Rattle.sat_solver.specs.Threads.{at}
use Rattle.sat_solver.proofs.pass.put_back.Given as goal

-- those that have left the list are where they belong
abbrev pub invariant-loop-number : goal.invariant-loop-number
invariant-loop-number l = record {
  lists : l.mine.lists ≡ l.initial.mine.lists;
  places : length l.mine.homes ≡ length l.initial.mine.homes;
  back : (i : ℕ) → at l.initial.mine.homes i ≡ 1 → (at l.mine.homes i ≡ 1) ⊎ (at l.mine.homes i ≡ l.list);
  rest : (i : ℕ) → at l.initial.mine.homes i ≢ 1 → at l.mine.homes i ≡ at l.initial.mine.homes i;
}

abbrev pub decreases-loop-number : goal.decreases-loop-number
decreases-loop-number l = count_by (eqb 1) l.mine.homes
