use Rattle.std.proofs.Common.{◌≡◌, ◌≤◌, ◌<◌, ◌+◌, ℕ, All, sym, subst, arith}
use Rattle.std.proofs.lemmas.Grind.{common_steps}
use Rattle.cut_frames.specs.Levels.{frames_of}
use Rattle.cut_frames.specs.Parts.{IsPart, IsOfFirst}
use Rattle.cut_frames.proofs.PartLemmas.{part_all, part_apart, first_whole, some_of, holds_askable}
use Rattle.cut_frames.proofs.smaller.needed.Goals as goal

pub chosen-requires-clause-over : goal.chosen-requires-clause-over
chosen-requires-clause-over g c = let bits : c.from-bits.result ≡ c.args.at.system.now.state_bits = grind (arith, common_steps) in subst (λ (b : ℕ). All (λ l. l.var < b + 2) c.args.clause.now) (sym bits) (λ k d lt. (c.requires.clause.over_bits k d lt).1)

pub chosen-requires-clause-one : goal.chosen-requires-clause-one
chosen-requires-clause-one g c = c.requires.cores.after.0

pub chosen-requires-clause-other : goal.chosen-requires-clause-other
chosen-requires-clause-other g c = c.requires.cores.after.0

pub core-requires-clause-over : goal.core-requires-clause-over
core-requires-clause-over g c = part_all (λ l. (2 ≤ l.var) × (l.var < c.args.at.system.now.state_bits + 2)) c.in_ok-alone.alone c.args.clause.now c.in_ok-alone.ensures.part c.requires.clause.over_bits

pub core-requires-clause-apart : goal.core-requires-clause-apart
core-requires-clause-apart g c = part_apart c.in_ok-alone.alone c.args.clause.now c.in_ok-alone.ensures.part c.requires.clause.apart

pub core-requires-clause-kept : goal.core-requires-clause-kept
core-requires-clause-kept g c = holds_askable c.args.at.system.now (frames_of c.args.at.frames.now) c.args.kept.now c.requires.kept

pub chosen-requires-in-None-clause-over : goal.chosen-requires-in-None-clause-over
chosen-requires-in-None-clause-over g c = let bits : c.from-bits.result ≡ c.args.at.system.now.state_bits = grind (arith, common_steps) in subst (λ (b : ℕ). All (λ l. l.var < b + 2) c.args.clause.now) (sym bits) (λ k d lt. (c.requires.clause.over_bits k d lt).1)

pub chosen-requires-in-None-clause-one : goal.chosen-requires-in-None-clause-one
chosen-requires-in-None-clause-one g c = c.requires.cores.first.0

pub chosen-requires-in-None-clause-other : goal.chosen-requires-in-None-clause-other
chosen-requires-in-None-clause-other g c = c.requires.cores.after.0

pub returns-in-Some-clause-enough : goal.returns-in-Some-clause-enough
returns-in-Some-clause-enough g c = record {
  part = c.in_ok-alone.ensures.part;
  first = let w = some_of c.in_ok-_core.field-0 c.in-Some._core (λ core. IsPart core c.in_ok-alone.alone × IsOfFirst c.args.at.system.now core) c.in-Some.is c.in_ok-_core.ensures.core in first_whole c.args.at.system.now c.in-Some._core c.in_ok-alone.alone w.0 w.1;
  after = c.in_ok-alone.ensures.one;
}

pub returns-in-Some-clause-asked : goal.returns-in-Some-clause-asked
returns-in-Some-clause-asked g c = c.in_ok-_core.ensures.asked

pub returns-in_ok-both-in-None-clause-enough : goal.returns-in_ok-both-in-None-clause-enough
returns-in_ok-both-in-None-clause-enough g c = record {
  part = c.in_ok-both-in-None.ensures.part;
  first = first_whole c.args.at.system.now c.args.cores.now.first c.in_ok-both-in-None.both c.in_ok-both-in-None.ensures.one c.requires.cores.first.1;
  after = c.in_ok-both-in-None.ensures.other;
}

pub returns-in_ok-both-in-None-clause-asked : goal.returns-in_ok-both-in-None-clause-asked
returns-in_ok-both-in-None-clause-asked g c = c.in_ok-_core.ensures.asked
