use Rattle.std.proofs.Common.{◌≡◌, eqb, set, count_by, ap, ◌∙◌, arith}
use Rattle.std.proofs.lemmas.List.{set-set}
use Rattle.sat_solver.specs.ThreadsRecord.{ThreadsValue}
use Rattle.sat_solver.specs.Threads.{at}
use Rattle.sat_solver.proofs.ThreadLemmas.{within_from_some}
use Rattle.sat_solver.proofs.PassLemmas.{count_moved}
use Rattle.sat_solver.proofs.pass.put_back.Goals as goal

pub loop-number-smaller : goal.loop-number-smaller
loop-number-smaller c =
    let hs = c.loop-number.mine.homes in
    let i = c.in-Some.number in
    let was : at hs i ≡ 1 = c.in-Some.ensures.was in
    let new : c.push.new.self.homes ≡ set hs i c.args.list =
    ap (λ (t : ThreadsValue). t.homes) c.push.ensures ∙ (ap (λ (t : ThreadsValue). set t.homes i c.args.list) c.in-Some.ensures.taken ∙ set-set hs i 0 c.args.list) in
    let less = count_moved hs i 1 c.args.list (within_from_some hs i (omega arith)) was (let r = c.requires.apart in omega arith) in
    omega (arith, less, ap (count_by (eqb 1)) new)
