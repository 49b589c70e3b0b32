use Rattle.std.proofs.Common.{◌≡◌, ◌≤◌, ◌<◌, ◌+◌, ◌-◌, ◌*◌, ℕ, suc, All, List, sym, subst, arith, length, map}
use Rattle.std.proofs.lemmas.Grind.{common_steps}
use Rattle.sat_clauses.specs.Literal.{Literal, opposite}
use Rattle.sat_clauses.specs.Derivation.{IsUpTo}
use Rattle.sat_clauses.specs.Hints.{HasNoOpposites}
use Rattle.cut_frames.specs.Bits.{literals_from, moved_back}
use Rattle.cut_frames.specs.Levels.{frames_of}
use Rattle.cut_frames.specs.GuardedSearch.{places_of}
use Rattle.cut_frames.specs.OwnVariables.{apart_system, apart_list}
use Rattle.cut_frames.specs.Parts.{IsPart, IsAfter}
use Rattle.cut_frames.specs.declared.guarded.Beside.TheVariants.{Step}
use Rattle.cut_frames.proofs.ApartLaws.{sat_told, unsat_told}
use Rattle.cut_frames.proofs.LevelLaws.{length_frames}
use Rattle.cut_frames.proofs.LookLemmas.{before_deeper}
use Rattle.cut_frames.proofs.QueryLemmas.{literals_up_to, literals_apart}
use Rattle.cut_frames.proofs.PartLemmas.{asked_more, holds_stays, broken_part, after_state, opposed_back, next_above}
use Rattle.cut_frames.proofs.clear.look_for_step.Goals as goal

room_next : (b n u v : ℕ) → n ≡ b → v ≡ 2 * b + u + 1 → b + 2 + n ≤ v + 1
room_next b n u v e p = omega (arith, e, p)

before : (level l m n : ℕ) → level ≤ l → m ≡ suc l → n ≡ m → level - 1 < n
before level l m n le e f = omega (arith, le, e, f)

pub ask-requires-clause-well : goal.ask-requires-clause-well
ask-requires-clause-well g c = c.requires.kept.kept.well

pub ask-requires-clause-frame : goal.ask-requires-clause-frame
ask-requires-clause-frame g c = before c.args.at.level c.args.at.frames.now.last (length (frames_of c.args.at.frames.now)) (length c.args.kept.now.frames.items) c.requires.at.level (length_frames c.args.at.frames.now) c.requires.kept.kept.count

pub ask-requires-clause-up_to : goal.ask-requires-clause-up_to
ask-requires-clause-up_to g c =
    let assumed : c.as_slice-2.result.now ≡ literals_from (c.args.at.system.now.state_bits + 2) c.args.state.now = grind (arith, common_steps) in
    subst (All (IsUpTo c.args.kept.now.places)) (sym assumed)
    (literals_up_to (c.args.at.system.now.state_bits + 2) c.args.kept.now.places c.args.state.now (room_next c.args.at.system.now.state_bits (length c.args.state.now) c.args.at.system.now.input_bits c.args.kept.now.places c.requires.state c.requires.kept.kept.places))

pub ask-requires-clause-apart : goal.ask-requires-clause-apart
ask-requires-clause-apart g c = let assumed : c.as_slice-2.result.now ≡ literals_from (c.args.at.system.now.state_bits + 2) c.args.state.now = grind (arith, common_steps) in subst HasNoOpposites (sym assumed) (literals_apart (c.args.at.system.now.state_bits + 2) c.args.state.now)

pub returns-in_ok-moment-in-Sat-clause-look : goal.returns-in_ok-moment-in-Sat-clause-look
returns-in_ok-moment-in-Sat-clause-look g c =
    let assumed : c.as_slice-2.result.now ≡ literals_from (c.args.at.system.now.state_bits + 2) c.args.state.now = grind (arith, common_steps) in
    let both = before_deeper c.args.at.system.now (frames_of c.args.at.frames.now) (c.args.at.level - 1) c.requires.kept.bad c.args.state.now c.in-Sat.values c.in_ok-moment-in-Sat.moment c.requires.at.framed.framed c.requires.state
    (sat_told c.args.at.system.now c.requires.kept.bad (frames_of c.args.at.frames.now) Step (c.args.at.level - 1) c.as_slice-2.result.now (literals_from (c.args.at.system.now.state_bits + 2) c.args.state.now) c.in_ok-values.field-0 c.in-Sat.values assumed c.in-Sat.is
    (c.in_ok-values.ensures.verdict (apart_system c.args.at.system.now) (apart_list (places_of c.args.at.system.now) c.requires.kept.bad) (frames_of c.args.at.frames.now) c.requires.kept.kept)) c.in_ok-moment-in-Sat.ensures in
    (c.requires.at.some, both.0, both.1)

pub returns-in_ok-moment-in-Sat-clause-asked : goal.returns-in_ok-moment-in-Sat-clause-asked
returns-in_ok-moment-in-Sat-clause-asked g c = c.in_ok-values.ensures.asked

pub join-requires : goal.join-requires
join-requires g c =
    let assumed : c.as_slice-2.result.now ≡ literals_from (c.args.at.system.now.state_bits + 2) c.args.state.now = grind (arith, common_steps) in
    let told = unsat_told c.args.at.system.now c.requires.kept.bad (frames_of c.args.at.frames.now) Step (c.args.at.level - 1) c.as_slice-2.result.now (literals_from (c.args.at.system.now.state_bits + 2) c.args.state.now) c.in_ok-values.field-0 c.in-Unsat.core assumed c.in-Unsat.is
    (c.in_ok-values.ensures.verdict (apart_system c.args.at.system.now) (apart_list (places_of c.args.at.system.now) c.requires.kept.bad) (frames_of c.args.at.frames.now) c.requires.kept.kept) in
    let bits : c.from-bits.result ≡ c.args.at.system.now.state_bits = grind (arith, common_steps) in
    subst (λ (b : ℕ). All (λ l. b + 2 ≤ l.var) c.in-Unsat.core) (sym bits) (next_above c.args.at.system.now.state_bits c.args.state.now c.in-Unsat.core (broken_part (c.args.at.system.now.state_bits + 2) c.args.state.now c.in-Unsat.core told.negated))

pub blocking-requires-clause-cores : goal.blocking-requires-clause-cores
blocking-requires-clause-cores g c =
    let assumed : c.as_slice-2.result.now ≡ literals_from (c.args.at.system.now.state_bits + 2) c.args.state.now = grind (arith, common_steps) in
    let told = unsat_told c.args.at.system.now c.requires.kept.bad (frames_of c.args.at.frames.now) Step (c.args.at.level - 1) c.as_slice-2.result.now (literals_from (c.args.at.system.now.state_bits + 2) c.args.state.now) c.in_ok-values.field-0 c.in-Unsat.core assumed c.in-Unsat.is
    (c.in_ok-values.ensures.verdict (apart_system c.args.at.system.now) (apart_list (places_of c.args.at.system.now) c.requires.kept.bad) (frames_of c.args.at.frames.now) c.requires.kept.kept) in
    let back : c.in_ok-after-in-Unsat.after ≡ map (moved_back c.args.at.system.now.state_bits) c.in-Unsat.core = grind (arith, common_steps) in
    record {
      first = c.requires.first;
      after = subst (λ (d : List Literal). IsPart d (map opposite (literals_from 2 c.args.state.now)) × IsAfter c.args.at.system.now (frames_of c.args.at.frames.now) c.args.at.level d) (sym back) (
        opposed_back c.args.at.system.now.state_bits c.args.state.now c.in-Unsat.core (broken_part (c.args.at.system.now.state_bits + 2) c.args.state.now c.in-Unsat.core told.negated),
        after_state c.args.at.system.now (frames_of c.args.at.frames.now) c.args.at.level c.requires.kept.bad c.args.state.now c.in-Unsat.core c.requires.at.fit c.requires.at.framed.framed c.requires.state told,
      );
    }

pub blocking-requires-clause-kept : goal.blocking-requires-clause-kept
blocking-requires-clause-kept g c = holds_stays c.args.at.system.now (frames_of c.args.at.frames.now) c.args.kept.now c.ask.new.self c.requires.kept c.in_ok-values.ensures.asked

pub returns-in_ok-clause-in-Unsat-clause-look : goal.returns-in_ok-clause-in-Unsat-clause-look
returns-in_ok-clause-in-Unsat-clause-look g c = c.in_ok-clause-in-Unsat.ensures.blocks

pub returns-in_ok-clause-in-Unsat-clause-asked : goal.returns-in_ok-clause-in-Unsat-clause-asked
returns-in_ok-clause-in-Unsat-clause-asked g c = asked_more c.args.kept.now c.ask.new.self c.blocking.new.kept c.in_ok-values.ensures.asked c.in_ok-clause-in-Unsat.ensures.asked
