use Rattle.std.proofs.Common.{◌≡◌, refl, sym, ◌∙◌, subst, arith, List, ℕ, suc, ◌+◌, ◌<◌, length, true, false}
use Rattle.sat_clauses.specs.Literal.{Literal}
use Rattle.sat_clauses.specs.Hints.{HasNoOpposites}
use Rattle.cut_frames.specs.Chain.{IsOverBits}
use Rattle.cut_frames.specs.FrontierGrowth.{Keeps}
use Rattle.cut_frames.specs.FrameLists.{frame_at}
use Rattle.cut_frames.specs.Guards.{IsPut}
use Rattle.cut_frames.specs.Levels.{frames_of, held_at}
use Rattle.cut_frames.specs.GuardedSearch.{places_of}
use Rattle.cut_frames.specs.OwnVariables.{apart_system, apart_list}
use Rattle.cut_frames.proofs.LevelLaws.{length_frames, put_of, gained_raise}
use Rattle.cut_frames.proofs.PushLemmas.{held_in_frame, moved_none, moved_raise, framed_raise, raised_apart}
use Rattle.cut_frames.proofs.PartLemmas.{kept_stays}
use Rattle.cut_frames.proofs.QueryLemmas.{bits_up_to}
use Rattle.cut_frames.proofs.advance.push_clause.Goals as goal

inside : (i l m n : ℕ) → i < l → m ≡ suc l → n ≡ m → i + 1 < n
inside i l m n lt e f = omega (arith, lt, e, f)

pub returns-then-number-level-clause-pushed : goal.returns-then-number-level-clause-pushed
returns-then-number-level-clause-pushed g c = λ is keeps. c.if-number-level.true (c.number_at-number.ensures ∙ is)

pub keeps-requires-clause-clause : goal.keeps-requires-clause-clause
keeps-requires-clause-clause g c =
    let framed = c.requires.frame.framed.framed in
    let at = held_at c.args.frames.now c.args.candidate.place in
    let stands = held_in_frame c.args.frames.now c.args.candidate.level c.args.candidate.place c.requires.place (sym c.number_at-number.ensures ∙ c.if-number-level.false) c.requires.frame.next in
    record {
      over_bits = subst (IsOverBits c.args.problem.system.now) (sym c.clause_at.ensures) (framed.over_bits c.args.candidate.level at.clause stands);
      apart = subst HasNoOpposites (sym c.clause_at.ensures) (framed.apart c.args.candidate.level at.clause stands);
    }

pub keeps-requires-clause-kept : goal.keeps-requires-clause-kept
keeps-requires-clause-kept g c = record { bad = c.args.problem.bad.now; kept = c.requires.kept }

pub returns-then-not-branch-clause-pushed : goal.returns-then-not-branch-clause-pushed
returns-then-not-branch-clause-pushed g c =
    let answer : c.in_ok-keeps.field-0 ≡ false = grind arith in
    λ is keeps. c.in_ok-keeps.ensures.answer.lost answer (subst (Keeps c.args.problem.system.now (frame_at (frames_of c.args.frames.now) c.args.candidate.level)) (sym c.clause_at.ensures) keeps)

pub returns-then-not-branch-clause-kept : goal.returns-then-not-branch-clause-kept
returns-then-not-branch-clause-kept g c = kept_stays c.args.problem.system.now c.args.problem.bad.now (frames_of c.args.frames.now) c.args.kept.now c.keeps.new.kept c.requires.kept c.in_ok-keeps.ensures.asked

pub add-requires-clause-well : goal.add-requires-clause-well
add-requires-clause-well g c = (kept_stays c.args.problem.system.now c.args.problem.bad.now (frames_of c.args.frames.now) c.args.kept.now c.keeps.new.kept c.requires.kept c.in_ok-keeps.ensures.asked).well

pub add-requires-clause-within : goal.add-requires-clause-within
add-requires-clause-within g c = inside c.args.candidate.level c.args.frames.now.last (length (frames_of c.args.frames.now)) (length c.keeps.new.kept.frames.items) c.requires.frame.next (length_frames c.args.frames.now) (kept_stays c.args.problem.system.now c.args.problem.bad.now (frames_of c.args.frames.now) c.args.kept.now c.keeps.new.kept c.requires.kept c.in_ok-keeps.ensures.asked).count

pub add-requires-clause-up_to : goal.add-requires-clause-up_to
add-requires-clause-up_to g c =
    bits_up_to c.args.problem.system.now c.keeps.new.kept.places c.clause_at-2.result.now (kept_stays c.args.problem.system.now c.args.problem.bad.now (frames_of c.args.frames.now) c.args.kept.now c.keeps.new.kept c.requires.kept c.in_ok-keeps.ensures.asked).places
    (subst (IsOverBits c.args.problem.system.now) (sym c.clause_at-2.ensures) (c.requires.frame.framed.framed.over_bits c.args.candidate.level (held_at c.args.frames.now c.args.candidate.place).clause
    (held_in_frame c.args.frames.now c.args.candidate.level c.args.candidate.place c.requires.place (sym c.number_at-number.ensures ∙ c.if-number-level.false) c.requires.frame.next)))

pub returns-clause-pushed : goal.returns-clause-pushed
returns-clause-pushed g c = λ is keeps. raised_apart c.args.frames.now c.raise.new.self c.args.candidate.level c.args.candidate.place (record { clause = (held_at c.args.frames.now c.args.candidate.place).clause; highest = c.args.candidate.level + 1 }) c.requires.place refl c.raise.ensures.items is

pub returns-clause-kept : goal.returns-clause-kept
returns-clause-kept g c =
    c.in_ok-add.ensures (apart_system c.args.problem.system.now) (apart_list (places_of c.args.problem.system.now) c.args.problem.bad.now) (frames_of c.args.frames.now) (frames_of c.raise.new.self) (kept_stays c.args.problem.system.now c.args.problem.bad.now (frames_of c.args.frames.now) c.args.kept.now c.keeps.new.kept c.requires.kept c.in_ok-keeps.ensures.asked)
    (subst (λ (d : List Literal). IsPut (c.args.candidate.level + 1) d (frames_of c.args.frames.now) (frames_of c.raise.new.self)) (sym c.clause_at-2.ensures)
    (put_of (c.args.candidate.level + 1) (held_at c.args.frames.now c.args.candidate.place).clause (frames_of c.args.frames.now) (frames_of c.raise.new.self)
    (gained_raise c.args.frames.now c.raise.new.self c.args.candidate.level c.args.candidate.place (record { clause = (held_at c.args.frames.now c.args.candidate.place).clause; highest = c.args.candidate.level + 1 }) c.raise.ensures.last c.requires.frame.next c.requires.place
    (sym c.number_at-number.ensures ∙ c.if-number-level.false) refl refl c.raise.ensures.items)))

pub returns-then-number-level-clause-frames : goal.returns-then-number-level-clause-frames
returns-then-number-level-clause-frames g c = record { framed = c.requires.frame.framed; moved = moved_none c.args.problem.system.now c.args.frames.now c.args.candidate.level }

pub returns-in_err-keeps-clause-frames : goal.returns-in_err-keeps-clause-frames
returns-in_err-keeps-clause-frames g c = record { framed = c.requires.frame.framed; moved = moved_none c.args.problem.system.now c.args.frames.now c.args.candidate.level }

pub returns-in_err-add-clause-frames : goal.returns-in_err-add-clause-frames
returns-in_err-add-clause-frames g c = record { framed = c.requires.frame.framed; moved = moved_none c.args.problem.system.now c.args.frames.now c.args.candidate.level }

pub returns-then-not-branch-clause-frames : goal.returns-then-not-branch-clause-frames
returns-then-not-branch-clause-frames g c = record { framed = c.requires.frame.framed; moved = moved_none c.args.problem.system.now c.args.frames.now c.args.candidate.level }

pub returns-clause-frames : goal.returns-clause-frames
returns-clause-frames g c =
    let answer : c.in_ok-keeps.field-0 ≡ true = grind arith in
    record {
      framed = framed_raise c.args.problem.system.now c.args.frames.now c.raise.new.self c.args.candidate.level c.args.candidate.place (record { clause = (held_at c.args.frames.now c.args.candidate.place).clause; highest = c.args.candidate.level + 1 }) c.requires.frame.framed c.requires.frame.some c.raise.ensures.last c.requires.frame.next c.requires.place
          (sym c.number_at-number.ensures ∙ c.if-number-level.false) refl refl c.raise.ensures.items
          (subst (Keeps c.args.problem.system.now (frame_at (frames_of c.args.frames.now) c.args.candidate.level)) c.clause_at.ensures (c.in_ok-keeps.ensures.answer.kept answer));
      moved = moved_raise c.args.problem.system.now c.args.frames.now c.raise.new.self c.args.candidate.level c.args.candidate.place (record { clause = (held_at c.args.frames.now c.args.candidate.place).clause; highest = c.args.candidate.level + 1 }) c.raise.ensures.last c.requires.frame.next c.requires.place
          (sym c.number_at-number.ensures ∙ c.if-number-level.false) refl refl c.raise.ensures.items;
    }
