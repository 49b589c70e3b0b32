use Rattle.std.proofs.Common.{◌≤◌, ◌<◌, ◌+◌, not, List, ◌∙◌, ap}
use Rattle.sat_clauses.specs.Literal.{Literal}
use Rattle.cut_frames.specs.Levels.{frames_of}
use Rattle.cut_frames.specs.Parts.{IsPart, MayStand}
use Rattle.cut_frames.proofs.Sets.{part_itself, part_more}
use Rattle.cut_frames.proofs.PartLemmas.{part_all, part_apart, some_of, chosen_part}
use Rattle.std.specs.Prelude.{filter, nat_eq}
use Rattle.cut_frames.proofs.smaller.try_next.Goals as goal

pub returns-in_default-clause-part : goal.returns-in_default-clause-part
returns-in_default-clause-part g c = part_itself c.args.attempt.clause

pub returns-in_default-clause-stands : goal.returns-in_default-clause-stands
returns-in_default-clause-stands g c = c.requires.stands

pub returns-in_default-clause-asked : goal.returns-in_default-clause-asked
returns-in_default-clause-asked g c = λ system list frames h. h

pub part_of-requires-clause-clause : goal.part_of-requires-clause-clause
part_of-requires-clause-clause g c =
    let part = chosen_part (λ (l : Literal). not (nat_eq l.var c.in-Some.var)) c.args.attempt.clause c.in_ok-fewer.fewer (c.in_ok-fewer.ensures ∙ ap (filter (λ (l : Literal). not (nat_eq l.var c.in-Some.var))) c.lits.ensures) in
    record {
      over_bits = part_all (λ l. (2 ≤ l.var) × (l.var < c.args.at.system.now.state_bits + 2)) c.in_ok-fewer.fewer c.args.attempt.clause part c.requires.stands.over_bits;
      apart = part_apart c.in_ok-fewer.fewer c.args.attempt.clause part c.requires.stands.apart;
    }

pub part_of-requires-clause-kept : goal.part_of-requires-clause-kept
part_of-requires-clause-kept g c = c.requires.kept

pub returns-in-Some-2-clause-part : goal.returns-in-Some-2-clause-part
returns-in-Some-2-clause-part g c = part_more c.in-Some-2.part c.in_ok-fewer.fewer c.args.attempt.clause (some_of c.in_ok-part.field-0 c.in-Some-2.part (λ (d : List Literal). IsPart d c.in_ok-fewer.fewer) c.in-Some-2.is c.in_ok-part.ensures.part) (chosen_part (λ (l : Literal). not (nat_eq l.var c.in-Some.var)) c.args.attempt.clause c.in_ok-fewer.fewer (c.in_ok-fewer.ensures ∙ ap (filter (λ (l : Literal). not (nat_eq l.var c.in-Some.var))) c.lits.ensures))

pub returns-in-Some-2-clause-stands : goal.returns-in-Some-2-clause-stands
returns-in-Some-2-clause-stands g c = some_of c.in_ok-part.field-0 c.in-Some-2.part (MayStand c.args.at.system.now (frames_of c.args.at.frames.now) c.args.at.level) c.in-Some-2.is c.in_ok-part.ensures.stands

pub returns-in-Some-2-clause-asked : goal.returns-in-Some-2-clause-asked
returns-in-Some-2-clause-asked g c = c.in_ok-part.ensures.asked

pub returns-in_ok-push-in-None-clause-part : goal.returns-in_ok-push-in-None-clause-part
returns-in_ok-push-in-None-clause-part g c = part_itself c.args.attempt.clause

pub returns-in_ok-push-in-None-clause-stands : goal.returns-in_ok-push-in-None-clause-stands
returns-in_ok-push-in-None-clause-stands g c = c.requires.stands

pub returns-in_ok-push-in-None-clause-asked : goal.returns-in_ok-push-in-None-clause-asked
returns-in_ok-push-in-None-clause-asked g c = c.in_ok-part.ensures.asked
