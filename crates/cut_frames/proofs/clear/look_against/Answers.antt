use Rattle.std.proofs.Common.{map}
use Rattle.sat_clauses.specs.Literal.{opposite}
use Rattle.cut_frames.specs.Bits.{literals_from}
use Rattle.cut_frames.specs.Levels.{frames_of}
use Rattle.cut_frames.specs.Parts.{IsPart, IsOfFirst}
use Rattle.cut_frames.proofs.PartLemmas.{some_of, asked_more, holds_stays, holds_askable}
use Rattle.cut_frames.proofs.clear.look_against.Goals as goal

pub core_against-requires-clause-kept : goal.core_against-requires-clause-kept
core_against-requires-clause-kept g c = holds_askable c.args.at.system.now (frames_of c.args.at.frames.now) c.args.kept.now c.requires.kept

pub look_for_step-requires-clause-first : goal.look_for_step-requires-clause-first
look_for_step-requires-clause-first g c = some_of c.in_ok-core_against.field-0 c.in-Some.first (λ core. IsPart core (map opposite (literals_from 2 c.args.state.now)) × IsOfFirst c.args.at.system.now core) c.in-Some.is c.in_ok-core_against.ensures.core

pub look_for_step-requires-clause-kept : goal.look_for_step-requires-clause-kept
look_for_step-requires-clause-kept g c = holds_stays c.args.at.system.now (frames_of c.args.at.frames.now) c.args.kept.now c.core_against.new.kept c.requires.kept c.in_ok-core_against.ensures.asked

pub returns-in-None-clause-look : goal.returns-in-None-clause-look
returns-in-None-clause-look g c = c.in_ok-core_against.ensures.first c.in-None.is

pub returns-in-None-clause-asked : goal.returns-in-None-clause-asked
returns-in-None-clause-asked g c = c.in_ok-core_against.ensures.asked

pub returns-in_ok-look-in-Some-clause-look : goal.returns-in_ok-look-in-Some-clause-look
returns-in_ok-look-in-Some-clause-look g c = c.in_ok-look-in-Some.ensures.look

pub returns-in_ok-look-in-Some-clause-asked : goal.returns-in_ok-look-in-Some-clause-asked
returns-in_ok-look-in-Some-clause-asked g c = asked_more c.args.kept.now c.core_against.new.kept c.look_for_step.new.kept c.in_ok-core_against.ensures.asked c.in_ok-look-in-Some.ensures.asked
