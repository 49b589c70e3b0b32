use Rattle.std.proofs.Common.{◌≡◌, ◌≤◌, ◌<◌, ◌+◌, ◌-◌, ◌*◌, ◌^◌, ℕ, suc, List, All, refl, sym, subst, arith, length, map, slice_index_or}
use Rattle.std.proofs.lemmas.Grind.{common_steps}
use Rattle.sat_clauses.specs.Literal.{Literal}
use Rattle.sat_clauses.specs.Derivation.{IsUpTo}
use Rattle.sat_clauses.specs.Hints.{HasNoOpposites}
use Rattle.cut_frames.specs.Bits.{against_next, moved_back}
use Rattle.cut_frames.specs.Levels.{frames_of}
use Rattle.sat_solver.specs.declared.solve.Verdict.TheVariants.{Unsat}
use Rattle.cut_frames.specs.GuardedSearch.{places_of, Tells}
use Rattle.cut_frames.specs.OwnVariables.{apart_system, apart_list}
use Rattle.cut_frames.specs.Parts.{IsPart, IsAfter}
use Rattle.cut_frames.specs.declared.guarded.Beside.TheVariants.{Step}
use Rattle.cut_frames.proofs.ApartLaws.{unsat_told}
use Rattle.cut_frames.proofs.LevelLaws.{length_frames}
use Rattle.cut_frames.proofs.QueryLemmas.{against_up_to, against_apart, states_low}
use Rattle.cut_frames.proofs.PartLemmas.{some_of, back_part, after_core, core_high}
use Rattle.cut_frames.proofs.smaller.step_core.Goals as goal

room : (b u v : ℕ) → v ≡ 2 * b + u + 1 → 2 * b + 1 ≤ v
room b u v e = omega (arith, e)

before : (level l m n : ℕ) → level ≤ l → m ≡ suc l → n ≡ m → level - 1 < n
before level l m n le e f = omega (arith, le, e, f)

pub turn_next-requires-clause-low : goal.turn_next-requires-clause-low
turn_next-requires-clause-low g c = λ k d lt. below (slice_index_or c.args.clause.now k d).var c.args.at.system.now.state_bits (c.requires.clause.over_bits k d lt).1 (states_low c.args.at.system.now.state_bits c.args.at.system.now.input_bits c.requires.at.fit.bits)
  where
    below : (x b : ℕ) → x < b + 2 → 2 * b + 1 < 2 ^ 31 → x < 2 ^ 31
    below x b lt le = omega (arith, lt, le)

pub refute-requires-clause-well : goal.refute-requires-clause-well
refute-requires-clause-well g c = c.requires.kept.kept.well

pub refute-requires-clause-frame : goal.refute-requires-clause-frame
refute-requires-clause-frame g c = before c.args.at.level c.args.at.frames.now.last (length (frames_of c.args.at.frames.now)) (length c.args.kept.now.frames.items) c.requires.at.level (length_frames c.args.at.frames.now) c.requires.kept.kept.count

pub refute-requires-clause-up_to : goal.refute-requires-clause-up_to
refute-requires-clause-up_to g c =
    let assumed : c.as_slice.result.now ≡ against_next c.args.at.system.now.state_bits c.args.clause.now = grind (arith, common_steps) in
    subst (All (IsUpTo c.args.kept.now.places)) (sym assumed)
    (against_up_to c.args.at.system.now.state_bits c.args.kept.now.places c.args.clause.now (room c.args.at.system.now.state_bits c.args.at.system.now.input_bits c.args.kept.now.places c.requires.kept.kept.places) c.requires.clause.over_bits)

pub refute-requires-clause-apart : goal.refute-requires-clause-apart
refute-requires-clause-apart g c =
    let assumed : c.as_slice.result.now ≡ against_next c.args.at.system.now.state_bits c.args.clause.now = grind (arith, common_steps) in
    subst HasNoOpposites (sym assumed) (against_apart c.args.at.system.now.state_bits c.args.clause.now c.requires.clause.apart)

pub returns-in-None-clause-asked : goal.returns-in-None-clause-asked
returns-in-None-clause-asked g c = c.in_ok-refute.ensures.asked

pub join-requires : goal.join-requires
join-requires g c =
    let assumed : c.as_slice.result.now ≡ against_next c.args.at.system.now.state_bits c.args.clause.now = grind (arith, common_steps) in
    let bits : c.from-bits.result ≡ c.args.at.system.now.state_bits = grind (arith, common_steps) in
    subst (λ (b : ℕ). All (λ l. b + 2 ≤ l.var) c.in-Some.core) (sym bits) (core_high c.args.at.system.now.state_bits c.args.clause.now c.in-Some.core c.requires.clause.over_bits
    (unsat_told c.args.at.system.now c.requires.kept.bad (frames_of c.args.at.frames.now) Step (c.args.at.level - 1) c.as_slice.result.now (against_next c.args.at.system.now.state_bits c.args.clause.now) (Unsat c.in-Some.core) c.in-Some.core assumed refl
    ((some_of c.in_ok-refute.field-0 c.in-Some.core (λ core. Tells c.args.kept.now Step (c.args.at.level - 1) c.as_slice.result.now (Unsat core)) c.in-Some.is c.in_ok-refute.ensures.core) (apart_system c.args.at.system.now) (apart_list (places_of c.args.at.system.now) c.requires.kept.bad) (frames_of c.args.at.frames.now) c.requires.kept.kept)).negated)

pub returns-clause-core : goal.returns-clause-core
returns-clause-core g c =
    let assumed : c.as_slice.result.now ≡ against_next c.args.at.system.now.state_bits c.args.clause.now = grind (arith, common_steps) in
    let told = unsat_told c.args.at.system.now c.requires.kept.bad (frames_of c.args.at.frames.now) Step (c.args.at.level - 1) c.as_slice.result.now (against_next c.args.at.system.now.state_bits c.args.clause.now) (Unsat c.in-Some.core) c.in-Some.core assumed refl
    ((some_of c.in_ok-refute.field-0 c.in-Some.core (λ core. Tells c.args.kept.now Step (c.args.at.level - 1) c.as_slice.result.now (Unsat core)) c.in-Some.is c.in_ok-refute.ensures.core) (apart_system c.args.at.system.now) (apart_list (places_of c.args.at.system.now) c.requires.kept.bad) (frames_of c.args.at.frames.now) c.requires.kept.kept) in
    let is : c.in_ok-back-in-Some.back ≡ map (moved_back c.args.at.system.now.state_bits) c.in-Some.core = grind (arith, common_steps) in
    subst (λ (b : List Literal). IsPart b c.args.clause.now × IsAfter c.args.at.system.now (frames_of c.args.at.frames.now) c.args.at.level b) (sym is)
    (back_part c.args.at.system.now c.args.clause.now c.in-Some.core told.negated, after_core c.args.at.system.now (frames_of c.args.at.frames.now) c.args.at.level c.requires.kept.bad c.args.clause.now c.in-Some.core c.requires.at.fit c.requires.at.framed.framed c.requires.clause.over_bits told)

pub returns-clause-asked : goal.returns-clause-asked
returns-clause-asked g c = c.in_ok-refute.ensures.asked
