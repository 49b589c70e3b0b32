use Rattle.std.proofs.Common.{◌≡◌, None, length, reverse, sym, ap, ◌∙◌, arith}
use Rattle.sat_clauses.specs.Assignment.{Assignment, value_of}
use Rattle.sat_solver.specs.Trail.{assigned}
use Rattle.sat_solver.specs.Score.{score}
use Rattle.sat_solver.proofs.ScoreLemmas.{score_push}
use Rattle.sat_solver.proofs.SearchLemmas.{OnOk-more, has_room}
use Rattle.sat_solver.proofs.RunningLemmas.{running_pushed}
use Rattle.sat_solver.proofs.solve.push.Goals as goal

pub returns-clause-running : goal.returns-clause-running
returns-clause-running g c =
    running_pushed c.args.question.assumptions.now (g.S.Store.held c.args.store.now) c.args.trail.now c.set.new.self (record { lit = c.args.lit; reason = c.args.reason }) c.set.result
    c.requires.running c.requires.in_range c.requires.free c.requires.reason c.set.ensures.values c.set.ensures.entries c.set.ensures.followed

pub returns-clause-rises : goal.returns-clause-rises
returns-clause-rises g c =
    let n = length c.args.trail.now.values in
    let xs = c.args.trail.now.entries in
    let l = c.args.lit in
    let free : value_of (assigned n (reverse xs)) l ≡ None = ap (λ (a : Assignment). value_of a l) (sym c.requires.running.sound.lawful.matches) ∙ c.requires.free in
    let room = has_room n xs l c.requires.running.sound.lawful.fresh c.requires.in_range free in
    OnOk-more c.set.result c.set.ensures.entries
    (λ e. omega (arith, score_push n xs (record { lit = l; reason = c.args.reason }) room, ap (score n) e))
