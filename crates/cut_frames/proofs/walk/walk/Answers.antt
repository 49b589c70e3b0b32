use Rattle.std.proofs.Common.{◌≡◌, ◌≤◌, ◌<◌, ◌+◌, ◌-◌, ℕ, true, List, [], sym, subst, arith, length, slice_index_or}
use Rattle.std.proofs.lemmas.Grind.{common_steps}
use Rattle.sat_clauses.specs.Assignment.{Assignment}
use Rattle.cut_frames.specs.Chain.{IsFirstState}
use Rattle.cut_frames.specs.Path.{IsPath, state_in}
use Rattle.cut_frames.proofs.WalkLaws.{linked_path}
use Rattle.cut_frames.proofs.walk.walk.Goals as goal

as_long : (n w m : ℕ) → n ≡ w → w - 1 ≤ m → n ≤ m + 1
as_long n w m e le = omega (arith, e, le)

pub returns-clause-path : goal.returns-clause-path
returns-clause-path g c =
    let some : 0 < length c.in_ok-owed.owed = grind (arith, common_steps) in
    let same : length c.in_ok-owed.owed ≡ length c.in_ok-way.way.items = grind (arith, common_steps) in
    let short : length c.in_ok-way.way.items - 1 ≤ c.args.most = grind (arith, common_steps) in
    let is : c.in_ok-is_at_first.field-0 ≡ true = grind (arith, common_steps) in
    subst (IsPath c.args.problem.system.now c.args.problem.bad.now c.args.most) (sym c.reversed.ensures)
    (linked_path c.args.problem.system.now c.args.problem.bad.now c.args.most c.in_ok-owed.owed c.in_ok-owed.ensures.linked some (as_long (length c.in_ok-owed.owed) (length c.in_ok-way.way.items) c.args.most same short)
    (subst (λ (o : List Assignment). IsFirstState c.args.problem.system.now (state_in c.args.problem.system.now (slice_index_or o (length o - 1) []))) c.as_slice-2.ensures (c.in_ok-is_at_first.ensures.first is)))
