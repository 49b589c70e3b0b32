use Rattle.std.proofs.Common.{◌≡◌, ◌≤◌, ◌+◌, ◌*◌, ℕ, All, Some, sym, subst, arith, length}
use Rattle.std.proofs.lemmas.Grind.{common_steps}
use Rattle.sat_clauses.specs.Derivation.{IsUpTo}
use Rattle.sat_clauses.specs.Hints.{HasNoOpposites}
use Rattle.cut_frames.specs.Bits.{literals_from}
use Rattle.cut_frames.specs.GuardedSearch.{Finds, places_of}
use Rattle.cut_frames.specs.Levels.{frames_of}
use Rattle.cut_frames.specs.OwnVariables.{apart_system, apart_list}
use Rattle.cut_frames.specs.declared.guarded.Beside.TheVariants.{Bad}
use Rattle.cut_frames.proofs.ApartLaws.{found_alone}
use Rattle.cut_frames.proofs.PartLemmas.{some_of}
use Rattle.cut_frames.proofs.QueryLemmas.{literals_up_to, literals_apart}
use Rattle.cut_frames.proofs.WalkLaws.{bad_begun}
use Rattle.cut_frames.proofs.walk.begin.Goals as goal

room_now : (b n u v : ℕ) → n ≡ b → v ≡ 2 * b + u + 1 → 2 + n ≤ v + 1
room_now b n u v e p = omega (arith, e, p)

pub find-requires-clause-up_to : goal.find-requires-clause-up_to
find-requires-clause-up_to g c =
    let assumed : c.as_slice-2.result.now ≡ literals_from 2 c.args.state.now = grind (arith, common_steps) in
    subst (All (IsUpTo c.args.kept.now.places)) (sym assumed)
    (literals_up_to 2 c.args.kept.now.places c.args.state.now (room_now c.args.problem.system.now.state_bits (length c.args.state.now) c.args.problem.system.now.input_bits c.args.kept.now.places c.requires.state c.requires.kept.places))

pub find-requires-clause-apart : goal.find-requires-clause-apart
find-requires-clause-apart g c = let assumed : c.as_slice-2.result.now ≡ literals_from 2 c.args.state.now = grind (arith, common_steps) in subst HasNoOpposites (sym assumed) (literals_apart 2 c.args.state.now)

pub returns-in-Some-clause-bad : goal.returns-in-Some-clause-bad
returns-in-Some-clause-bad g c =
    let assumed : c.as_slice-2.result.now ≡ literals_from 2 c.args.state.now = grind (arith, common_steps) in
    let found = some_of c.in_ok-values.field-0 c.in-Some.values (Finds c.args.kept.now Bad c.as_slice-2.result.now) c.in-Some.is c.in_ok-values.ensures.found in
    bad_begun c.args.problem.system.now c.args.problem.bad.now (literals_from 2 c.args.state.now) c.in-Some.values c.in_ok-state_moment-in-Some.field-0
    (found_alone c.args.problem.system.now c.args.problem.bad.now (frames_of c.args.frames.now) Bad c.as_slice-2.result.now (literals_from 2 c.args.state.now) c.in-Some.values assumed
    (found (apart_system c.args.problem.system.now) (apart_list (places_of c.args.problem.system.now) c.args.problem.bad.now) (frames_of c.args.frames.now) c.requires.kept)) c.in_ok-state_moment-in-Some.ensures
