use Rattle.std.proofs.Common.{◌≡◌, ◌+◌, ◌*◌, ◌^◌, ◌<◌, ◌≤◌, ℕ, suc, All, List, true, refl, sym, ◌∙◌, subst, arith, length, slice_index_or}
use Rattle.std.specs.List.{list_any}
use Rattle.std.proofs.lemmas.Grind.{common_steps}
use Rattle.cut_frames.specs.Bits.{against_next, read_from}
use Rattle.cut_frames.specs.Levels.{frames_of}
use Rattle.cut_frames.specs.declared.guarded.Beside.TheVariants.{Step}
use Rattle.sat_clauses.specs.Derivation.{IsUpTo}
use Rattle.sat_clauses.specs.Hints.{HasNoOpposites}
use Rattle.cut_frames.specs.GuardedSearch.{places_of}
use Rattle.cut_frames.specs.OwnVariables.{apart_system, apart_list}
use Rattle.cut_frames.proofs.LevelLaws.{length_frames}
use Rattle.cut_frames.proofs.ApartLaws.{sat_told, unsat_told}
use Rattle.cut_frames.proofs.QueryLemmas.{against_up_to, against_apart, states_low}
use Rattle.cut_frames.proofs.PushLemmas.{kept, not_kept}
use Rattle.std.proofs.lemmas.List.Elements.{All-push}
use Rattle.cut_frames.specs.FrameLists.{frame_at}
use Rattle.cut_frames.specs.KnownSteps.{shows, IsShown}
use Rattle.cut_frames.specs.declared.shown.Seen.{Seen}
use Rattle.cut_frames.proofs.ShownLaws.{found_shown, shown_lost}
use Rattle.cut_frames.proofs.advance.keeps.Goals as goal

room : (b u v : ℕ) → v ≡ 2 * b + u + 1 → 2 * b + 1 ≤ v
room b u v e = omega (arith, e)

inside : (k l m n : ℕ) → k ≤ l → m ≡ suc l → n ≡ m → k < n
inside k l m n le e f = omega (arith, le, e, f)

pub turn_next-requires-clause-low : goal.turn_next-requires-clause-low
turn_next-requires-clause-low g c = λ k d lt. below (slice_index_or c.args.clause.now k d).var c.args.at.system.now.state_bits (c.requires.clause.over_bits k d lt).1 (states_low c.args.at.system.now.state_bits c.args.at.system.now.input_bits c.requires.at.fit.bits)
  where
    below : (x b : ℕ) → x < b + 2 → 2 * b + 1 < 2 ^ 31 → x < 2 ^ 31
    below x b lt le = omega (arith, lt, le)

pub ask-requires-clause-frame : goal.ask-requires-clause-frame
ask-requires-clause-frame g c = inside c.args.at.level c.args.at.frames.now.last (length (frames_of c.args.at.frames.now)) (length c.args.kept.now.frames.items) c.requires.at.level (length_frames c.args.at.frames.now) c.requires.kept.kept.count

pub ask-requires-clause-up_to : goal.ask-requires-clause-up_to
ask-requires-clause-up_to g c =
    let assumed : c.as_slice-2.result.now ≡ against_next c.args.at.system.now.state_bits c.args.clause.now = grind (arith, common_steps) in
    subst (All (IsUpTo c.args.kept.now.places)) (sym assumed)
    (against_up_to c.args.at.system.now.state_bits c.args.kept.now.places c.args.clause.now (room c.args.at.system.now.state_bits c.args.at.system.now.input_bits c.args.kept.now.places c.requires.kept.kept.places) c.requires.clause.over_bits)

pub ask-requires-clause-apart : goal.ask-requires-clause-apart
ask-requires-clause-apart g c =
    let assumed : c.as_slice-2.result.now ≡ against_next c.args.at.system.now.state_bits c.args.clause.now = grind (arith, common_steps) in
    subst HasNoOpposites (sym assumed) (against_apart c.args.at.system.now.state_bits c.args.clause.now c.requires.clause.apart)

pub returns-in-Sat-clause-answer : goal.returns-in-Sat-clause-answer
returns-in-Sat-clause-answer g c =
    let assumed : c.as_slice-2.result.now ≡ against_next c.args.at.system.now.state_bits c.args.clause.now = grind (arith, common_steps) in
    record {
      kept = λ e. cc;
      lost = λ e k. not_kept c.args.at.system.now (frames_of c.args.at.frames.now) c.args.at.level c.requires.kept.bad c.args.clause.now c.in-Sat.values c.requires.at.framed.framed c.requires.clause.over_bits
          (sat_told c.args.at.system.now c.requires.kept.bad (frames_of c.args.at.frames.now) Step c.args.at.level c.as_slice-2.result.now (against_next c.args.at.system.now.state_bits c.args.clause.now) c.in_ok-values.field-0 c.in-Sat.values assumed c.in-Sat.is
          (c.in_ok-values.ensures.verdict (apart_system c.args.at.system.now) (apart_list (places_of c.args.at.system.now) c.requires.kept.bad) (frames_of c.args.at.frames.now) c.requires.kept.kept)) k;
    }

pub returns-clause-answer : goal.returns-clause-answer
returns-clause-answer g c =
    let assumed : c.as_slice-2.result.now ≡ against_next c.args.at.system.now.state_bits c.args.clause.now = grind (arith, common_steps) in
    record {
      kept = λ e. kept c.args.at.system.now (frames_of c.args.at.frames.now) c.args.at.level c.requires.kept.bad c.args.clause.now c.in-Unsat._core c.requires.at.fit c.requires.at.framed.framed c.requires.at.some c.requires.clause.over_bits
          (unsat_told c.args.at.system.now c.requires.kept.bad (frames_of c.args.at.frames.now) Step c.args.at.level c.as_slice-2.result.now (against_next c.args.at.system.now.state_bits c.args.clause.now) c.in_ok-values.field-0 c.in-Unsat._core assumed c.in-Unsat.is
          (c.in_ok-values.ensures.verdict (apart_system c.args.at.system.now) (apart_list (places_of c.args.at.system.now) c.requires.kept.bad) (frames_of c.args.at.frames.now) c.requires.kept.kept));
      lost = λ e k. cc;
    }

pub returns-then-is_broken-clause-answer : goal.returns-then-is_broken-clause-answer
returns-then-is_broken-clause-answer g c =
    let broken : list_any (shows c.args.at.level c.args.clause.now) c.as_slice.result.now ≡ true = sym c.is_broken.ensures ∙ c.if-is_broken.true in
    record {
      kept = λ e. cc;
      lost = λ e k. shown_lost c.args.at.system.now (frame_at (frames_of c.args.at.frames.now) c.args.at.level) c.args.at.level c.args.clause.now c.args.seen.now.items c.requires.seen
          (subst (λ (ts : List Seen). list_any (shows c.args.at.level c.args.clause.now) ts ≡ true) c.as_slice.ensures.value broken) k;
    }

pub returns-in-Sat-clause-seen : goal.returns-in-Sat-clause-seen
returns-in-Sat-clause-seen g c =
    let sys = c.args.at.system.now in
    let frame = frame_at (frames_of c.args.at.frames.now) c.args.at.level in
    let assumed : c.as_slice-2.result.now ≡ against_next sys.state_bits c.args.clause.now = grind (arith, common_steps) in
    let from_is : c.in_ok-from-in-Sat.from ≡ read_from 2 sys.state_bits c.in-Sat.values = grind (arith, common_steps) in
    let to_is : c.in_ok-to-in-Sat.to ≡ read_from (sys.state_bits + 2) sys.state_bits c.in-Sat.values = grind (arith, common_steps) in
    let found = sat_told sys c.requires.kept.bad (frames_of c.args.at.frames.now) Step c.args.at.level c.as_slice-2.result.now (against_next sys.state_bits c.args.clause.now) c.in_ok-values.field-0 c.in-Sat.values assumed c.in-Sat.is
    (c.in_ok-values.ensures.verdict (apart_system sys) (apart_list (places_of sys) c.requires.kept.bad) (frames_of c.args.at.frames.now) c.requires.kept.kept) in
    let shown = found_shown sys (frames_of c.args.at.frames.now) c.args.at.level c.requires.kept.bad (against_next sys.state_bits c.args.clause.now) c.in-Sat.values c.requires.at.framed.framed found in
    let step : Seen = record { level = c.args.at.level; from = c.in_ok-from-in-Sat.from; to = c.in_ok-to-in-Sat.to } in
    let same : step ≡ record { level = c.args.at.level; from = read_from 2 sys.state_bits c.in-Sat.values; to = read_from (sys.state_bits + 2) sys.state_bits c.in-Sat.values } = rw from_is (rw to_is refl) in
    subst (All (IsShown sys frame c.args.at.level)) (sym c.in_ok-push-in-Sat.ensures.items)
    (All-push (IsShown sys frame c.args.at.level) c.args.seen.now.items step c.requires.seen (subst (IsShown sys frame c.args.at.level) (sym same) shown))

pub returns-in-Sat-clause-asked : goal.returns-in-Sat-clause-asked
returns-in-Sat-clause-asked g c = c.in_ok-values.ensures.asked

pub returns-clause-asked : goal.returns-clause-asked
returns-clause-asked g c = c.in_ok-values.ensures.asked

pub returns-then-is_broken-clause-asked : goal.returns-then-is_broken-clause-asked
returns-then-is_broken-clause-asked g c = λ system list frames h. h
