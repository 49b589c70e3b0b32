use Rattle.std.proofs.Common.{◌≡◌, ◌≤◌, ◌<◌, ◌+◌, ◌*◌, ◌^◌, ◌++◌, ◌-◌, ℕ, All, Some, sym, ap, subst, arith, length, ◌∙◌, slice_index_or, []}
use Rattle.std.proofs.lemmas.Grind.{common_steps}
use Rattle.std.proofs.lemmas.List.{length-append}
use Rattle.sat_clauses.specs.Derivation.{IsUpTo}
use Rattle.sat_clauses.specs.Hints.{HasNoOpposites}
use Rattle.cut_frames.specs.Bits.{literals_from, read_from}
use Rattle.cut_frames.specs.GuardedSearch.{Finds, places_of}
use Rattle.cut_frames.specs.Levels.{frames_of}
use Rattle.cut_frames.specs.OwnVariables.{apart_system, apart_list}
use Rattle.cut_frames.specs.Path.{Leads, state_in}
use Rattle.cut_frames.specs.declared.guarded.Beside.TheVariants.{Step}
use Rattle.cut_frames.proofs.ApartLaws.{found_alone}
use Rattle.cut_frames.proofs.BitLemmas.{length_read}
use Rattle.cut_frames.proofs.PartLemmas.{some_of}
use Rattle.cut_frames.proofs.QueryLemmas.{literals_up_to, literals_apart}
use Rattle.cut_frames.proofs.WalkLaws.{stepped_back}
use Rattle.cut_frames.proofs.walk.step_back.Goals as goal

room_both : (b n m k u v : ℕ) → n ≡ b → m ≡ b → k ≡ n + m → v ≡ 2 * b + u + 1 → 2 + k ≤ v + 1
room_both b n m k u v e f g p = omega (arith, e, f, g, p)

small_both : (b n m k u : ℕ) → n ≡ b → m ≡ b → k ≡ n + m → 2 * b + u + 1 < 2 ^ 31 → 2 + k < 2 ^ 62
small_both b n m k u e f g p = omega (arith, e, f, g, p)

pub literals-requires-clause-small : goal.literals-requires-clause-small
literals-requires-clause-small g c =
    let both : c.as_slice-2.result.now ≡ c.args.state.now ++ read_from 2 c.args.problem.system.now.state_bits c.index-owed-owed.result = grind (arith, common_steps) in
    small_both c.args.problem.system.now.state_bits (length c.args.state.now) (length (read_from 2 c.args.problem.system.now.state_bits c.index-owed-owed.result)) (length c.as_slice-2.result.now) c.args.problem.system.now.input_bits
    c.requires.state (length_read 2 c.args.problem.system.now.state_bits c.index-owed-owed.result)
    (ap length both ∙ length-append c.args.state.now (read_from 2 c.args.problem.system.now.state_bits c.index-owed-owed.result)) c.requires.problem.fit.bits

pub find-requires-clause-up_to : goal.find-requires-clause-up_to
find-requires-clause-up_to g c =
    let next = read_from 2 c.args.problem.system.now.state_bits c.index-owed-owed.result in
    let assumed : c.as_slice-3.result.now ≡ literals_from 2 (c.args.state.now ++ read_from 2 c.args.problem.system.now.state_bits c.index-owed-owed.result) = grind (arith, common_steps) in
    subst (All (IsUpTo c.args.kept.now.places)) (sym assumed)
    (literals_up_to 2 c.args.kept.now.places (c.args.state.now ++ next) (room_both c.args.problem.system.now.state_bits (length c.args.state.now) (length next) (length (c.args.state.now ++ next)) c.args.problem.system.now.input_bits c.args.kept.now.places
    c.requires.state (length_read 2 c.args.problem.system.now.state_bits c.index-owed-owed.result) (length-append c.args.state.now next) c.requires.kept.places))

pub find-requires-clause-apart : goal.find-requires-clause-apart
find-requires-clause-apart g c =
    let next = read_from 2 c.args.problem.system.now.state_bits c.index-owed-owed.result in
    let assumed : c.as_slice-3.result.now ≡ literals_from 2 (c.args.state.now ++ read_from 2 c.args.problem.system.now.state_bits c.index-owed-owed.result) = grind (arith, common_steps) in
    subst HasNoOpposites (sym assumed) (literals_apart 2 (c.args.state.now ++ next))

pub returns-in-Some-clause-leads : goal.returns-in-Some-clause-leads
returns-in-Some-clause-leads g c =
    let next = read_from 2 c.args.problem.system.now.state_bits c.index-owed-owed.result in
    let assumed : c.as_slice-3.result.now ≡ literals_from 2 (c.args.state.now ++ read_from 2 c.args.problem.system.now.state_bits c.index-owed-owed.result) = grind (arith, common_steps) in
    let top : c.index-owed-owed.result ≡ slice_index_or c.args.owed.now (length c.args.owed.now - 1) [] = grind (arith, common_steps) in
    let found = some_of c.in_ok-values.field-0 c.in-Some.values (Finds c.args.kept.now Step c.as_slice-3.result.now) c.in-Some.is c.in_ok-values.ensures.found in
    subst (λ t. Leads c.args.problem.system.now c.in_ok-step_moment-in-Some.field-0 (state_in c.args.problem.system.now t)) top
    (stepped_back c.args.problem.system.now c.args.problem.bad.now c.args.state.now next c.in-Some.values c.in_ok-step_moment-in-Some.field-0 c.requires.state (length_read 2 c.args.problem.system.now.state_bits c.index-owed-owed.result)
    (found_alone c.args.problem.system.now c.args.problem.bad.now (frames_of c.args.frames.now) Step c.as_slice-3.result.now (literals_from 2 (c.args.state.now ++ next)) c.in-Some.values assumed
    (found (apart_system c.args.problem.system.now) (apart_list (places_of c.args.problem.system.now) c.args.problem.bad.now) (frames_of c.args.frames.now) c.requires.kept)) c.in_ok-step_moment-in-Some.ensures)
