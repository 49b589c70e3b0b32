use Rattle.std.proofs.Common.{refl, sym, ◌∙◌, subst}
use Rattle.cut_frames.specs.Levels.{frames_of}
use Rattle.cut_frames.specs.Parts.{AreAgreed}
use Rattle.cut_frames.proofs.Sets.{part_itself, part_more}
use Rattle.cut_frames.proofs.PartLemmas.{asked_more, holds_stays}
use Rattle.cut_frames.proofs.smaller.smaller.Goals as goal

pub turns-init : goal.turns-init
turns-init g c = record { same = refl; part = part_itself c.args.clause; stands = c.requires.stands; holds = c.requires.kept; asked = λ system list frames h. h }

pub try_next-requires-clause-agreed : goal.try_next-requires-clause-agreed
try_next-requires-clause-agreed g c = subst (AreAgreed c.args.at.system.now) (sym c.turns.invariant.same) c.requires.agreed

pub try_next-requires-clause-stands : goal.try_next-requires-clause-stands
try_next-requires-clause-stands g c = c.turns.invariant.stands

pub try_next-requires-clause-kept : goal.try_next-requires-clause-kept
try_next-requires-clause-kept g c = c.turns.invariant.holds

pub turns-preserved : goal.turns-preserved
turns-preserved g c = record {
  same = c.try_next.ensures.same ∙ c.turns.invariant.same;
  part = part_more c.in_ok-attempt.attempt.clause c.turns.attempt.clause c.args.clause c.in_ok-attempt.ensures.part c.turns.invariant.part;
  stands = c.in_ok-attempt.ensures.stands;
  holds = holds_stays c.args.at.system.now (frames_of c.args.at.frames.now) c.turns.kept c.try_next.new.kept c.turns.invariant.holds c.in_ok-attempt.ensures.asked;
  asked = asked_more c.args.kept.now c.turns.kept c.try_next.new.kept c.turns.invariant.asked c.in_ok-attempt.ensures.asked;
}

pub returns-clause-same : goal.returns-clause-same
returns-clause-same g c = c.turns.invariant.same

pub returns-clause-part : goal.returns-clause-part
returns-clause-part g c = c.turns.invariant.part

pub returns-clause-stands : goal.returns-clause-stands
returns-clause-stands g c = c.turns.invariant.stands

pub returns-clause-asked : goal.returns-clause-asked
returns-clause-asked g c = c.turns.invariant.asked
