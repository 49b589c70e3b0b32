use Rattle.sat_solver.proofs.ChoiceLemmas.{choice_assumes, assumed_assumes}
use Rattle.sat_solver.proofs.solve.decide.Goals as goal

pub next_pick-requires-clause-assumed : goal.next_pick-requires-clause-assumed
next_pick-requires-clause-assumed g c = choice_assumes (g.S.Store.held c.args.store.now).clauses c.args.question.assumptions.now c.args.trail.now c.requires.running.sound

pub next_pick-requires-clause-in_turn : goal.next_pick-requires-clause-in_turn
next_pick-requires-clause-in_turn g c count has = assumed_assumes (g.S.Store.held c.args.store.now).clauses c.args.question.assumptions.now c.args.trail.now count c.requires.running.sound has
