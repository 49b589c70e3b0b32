use Rattle.cut_frames.proofs.shrink.by_halves.Goals as goal

pub turns-init : goal.turns-init
turns-init g c = (c.requires.values, c.requires.kept)

pub halve-requires-clause-values : goal.halve-requires-clause-values
halve-requires-clause-values g c = c.turns.invariant.0

pub halve-requires-clause-kept : goal.halve-requires-clause-kept
halve-requires-clause-kept g c = c.turns.invariant.1

pub turns-preserved : goal.turns-preserved
turns-preserved g c = (c.in_ok-halves.ensures.values, c.in_ok-halves.ensures.kept)

pub returns-clause-values : goal.returns-clause-values
returns-clause-values g c = c.turns.invariant.0

pub returns-clause-kept : goal.returns-clause-kept
returns-clause-kept g c = c.turns.invariant.1
