use Rattle.cut_frames.specs.Levels.{frames_of}
use Rattle.cut_frames.specs.Parts.{IsPart, IsOfFirst, IsAfter}
use Rattle.cut_frames.proofs.PartLemmas.{after_whole, some_of, asked_more, holds_stays, holds_askable, part_stands}
use Rattle.cut_frames.proofs.smaller.part_of.Goals as goal

pub core-requires-clause-kept : goal.core-requires-clause-kept
core-requires-clause-kept g c = holds_askable c.args.at.system.now (frames_of c.args.at.frames.now) c.args.kept.now c.requires.kept

pub step_core-requires-clause-kept : goal.step_core-requires-clause-kept
step_core-requires-clause-kept g c = (holds_stays c.args.at.system.now (frames_of c.args.at.frames.now) c.args.kept.now c.core.new.kept c.requires.kept c.in_ok-first.ensures.asked)

pub needed-requires-clause-cores : goal.needed-requires-clause-cores
needed-requires-clause-cores g c = record {
  first = some_of c.in_ok-first.field-0 c.in-Some.first (λ core. IsPart core c.args.clause.now × IsOfFirst c.args.at.system.now core) c.in-Some.is c.in_ok-first.ensures.core;
  after = some_of c.in_ok-after.field-0 c.in-Some-2.after (λ core. IsPart core c.args.clause.now × IsAfter c.args.at.system.now (frames_of c.args.at.frames.now) c.args.at.level core) c.in-Some-2.is c.in_ok-after.ensures.core;
}

pub needed-requires-clause-kept : goal.needed-requires-clause-kept
needed-requires-clause-kept g c = holds_stays c.args.at.system.now (frames_of c.args.at.frames.now) c.core.new.kept c.step_core.new.kept (holds_stays c.args.at.system.now (frames_of c.args.at.frames.now) c.args.kept.now c.core.new.kept c.requires.kept c.in_ok-first.ensures.asked) c.in_ok-after.ensures.asked

pub returns-clause-part : goal.returns-clause-part
returns-clause-part g c = c.in_ok-part.ensures.enough.part

pub returns-clause-stands : goal.returns-clause-stands
returns-clause-stands g c = part_stands c.args.at.system.now (frames_of c.args.at.frames.now) c.args.at.level c.args.clause.now c.in_ok-part.part c.requires.clause.over_bits c.requires.clause.apart c.in_ok-part.ensures.enough.part c.in_ok-part.ensures.enough.first (after_whole c.args.at.system.now (frames_of c.args.at.frames.now) c.args.at.level c.in-Some-2.after c.in_ok-part.part c.in_ok-part.ensures.enough.after (some_of c.in_ok-after.field-0 c.in-Some-2.after (λ core. IsPart core c.args.clause.now × IsAfter c.args.at.system.now (frames_of c.args.at.frames.now) c.args.at.level core) c.in-Some-2.is c.in_ok-after.ensures.core).1)

pub returns-clause-asked : goal.returns-clause-asked
returns-clause-asked g c = asked_more c.args.kept.now c.core.new.kept c.needed.new.kept c.in_ok-first.ensures.asked (asked_more c.core.new.kept c.step_core.new.kept c.needed.new.kept c.in_ok-after.ensures.asked c.in_ok-part.ensures.asked)

pub returns-in_default-clause-asked : goal.returns-in_default-clause-asked
returns-in_default-clause-asked g c = c.in_ok-first.ensures.asked

pub returns-in_default-2-clause-asked : goal.returns-in_default-2-clause-asked
returns-in_default-2-clause-asked g c = asked_more c.args.kept.now c.core.new.kept c.step_core.new.kept c.in_ok-first.ensures.asked c.in_ok-after.ensures.asked
