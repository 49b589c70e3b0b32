use Rattle.std.proofs.Common.{◌≡◌, ◌≤◌, ◌<◌, ◌+◌, ◌-◌, ◌*◌, ℕ, not, List, Some, None, All, sym, subst, arith, length, map, slice_index_or}
use Rattle.std.proofs.lemmas.Grind.{common_steps}
use Rattle.std.specs.Prelude.{Contains}
use Rattle.std.proofs.lemmas.List.Elements.{All-contains}
use Rattle.sat_clauses.specs.Literal.{Literal, opposite}
use Rattle.sat_clauses.specs.Derivation.{IsUpTo}
use Rattle.sat_clauses.specs.Hints.{HasNoOpposites}
use Rattle.cut_frames.specs.Bits.{literals_from}
use Rattle.cut_frames.specs.GuardedSearch.{places_of}
use Rattle.cut_frames.specs.OwnVariables.{apart_system, apart_list}
use Rattle.cut_frames.specs.Parts.{IsPart, IsOfFirst}
use Rattle.cut_frames.specs.declared.guarded.Beside.TheVariants.{Nothing}
use Rattle.cut_frames.proofs.ApartLaws.{sat_told, unsat_told}
use Rattle.cut_frames.proofs.LookLemmas.{before_first, first_makes}
use Rattle.cut_frames.proofs.QueryLemmas.{literals_up_to, literals_apart}
use Rattle.cut_frames.proofs.PartLemmas.{some_of, agreed_one, one_part, broken_part, broken_over}
use Rattle.cut_frames.proofs.outline.Outline.core_against.Goals as goal

room_now : (b n u v : ℕ) → n ≡ b → v ≡ 2 * b + u + 1 → 2 + n ≤ v + 1
room_now b n u v e p = omega (arith, e, p)

pub agreed_in-requires : goal.agreed_in-requires
agreed_in-requires g c = let broken : c.lits.result.now ≡ map opposite (literals_from 2 c.args.state.now) = grind (arith, common_steps) in subst (All (λ l. 2 ≤ l.var)) (sym broken) (λ k d lt. (broken_over c.args.system.now.state_bits c.args.state.now c.requires.state k d lt).0)

pub returns-in-Some-clause-core : goal.returns-in-Some-clause-core
returns-in-Some-clause-core g c =
    let broken : c.lits.result.now ≡ map opposite (literals_from 2 c.args.state.now) = grind (arith, common_steps) in
    let w = some_of c.agreed_in.result c.in-Some.lit (λ (l : Literal). Contains c.lits.result.now l × (slice_index_or c.args.self.now.agreed.items (l.var - 2) None ≡ Some (not l.negated))) c.in-Some.is c.agreed_in.ensures in
    let member : Contains (map opposite (literals_from 2 c.args.state.now)) c.in-Some.lit = subst (λ (ls : List Literal). Contains ls c.in-Some.lit) broken w.0 in
    let low = (All-contains (λ l. (2 ≤ l.var) × (l.var < c.args.system.now.state_bits + 2)) (map opposite (literals_from 2 c.args.state.now)) c.in-Some.lit (broken_over c.args.system.now.state_bits c.args.state.now c.requires.state) member).0 in
    subst (λ (o : List Literal). IsPart o (map opposite (literals_from 2 c.args.state.now)) × IsOfFirst c.args.system.now o) (sym c.in_ok-one.ensures)
    (one_part (map opposite (literals_from 2 c.args.state.now)) c.in-Some.lit member, agreed_one c.args.system.now c.args.self.now.agreed.items c.in-Some.lit c.requires.agreed low w.1)

pub returns-in-Some-clause-asked : goal.returns-in-Some-clause-asked
returns-in-Some-clause-asked g c = λ system list frames h. h

pub ask-requires-clause-well : goal.ask-requires-clause-well
ask-requires-clause-well g c = c.requires.kept.holds.kept.well

pub ask-requires-clause-frame : goal.ask-requires-clause-frame
ask-requires-clause-frame g c = c.requires.kept.holds.kept.well.some

pub ask-requires-clause-up_to : goal.ask-requires-clause-up_to
ask-requires-clause-up_to g c =
    let assumed : c.as_slice-3.result.now ≡ literals_from 2 c.args.state.now = grind (arith, common_steps) in
    subst (All (IsUpTo c.args.kept.now.places)) (sym assumed)
    (literals_up_to 2 c.args.kept.now.places c.args.state.now (room_now c.args.system.now.state_bits (length c.args.state.now) c.args.system.now.input_bits c.args.kept.now.places c.requires.state c.requires.kept.holds.kept.places))

pub ask-requires-clause-apart : goal.ask-requires-clause-apart
ask-requires-clause-apart g c = let assumed : c.as_slice-3.result.now ≡ literals_from 2 c.args.state.now = grind (arith, common_steps) in subst HasNoOpposites (sym assumed) (literals_apart 2 c.args.state.now)

pub returns-in-Sat-clause-first : goal.returns-in-Sat-clause-first
returns-in-Sat-clause-first g c = λ e.
    let assumed : c.as_slice-3.result.now ≡ literals_from 2 c.args.state.now = grind (arith, common_steps) in
    before_first c.args.system.now c.requires.kept.frames c.requires.kept.holds.bad c.args.state.now c.in-Sat._values c.requires.state
    (sat_told c.args.system.now c.requires.kept.holds.bad c.requires.kept.frames Nothing 0 c.as_slice-3.result.now (literals_from 2 c.args.state.now) c.in_ok-_values.field-0 c.in-Sat._values assumed c.in-Sat.is
    (c.in_ok-_values.ensures.verdict (apart_system c.args.system.now) (apart_list (places_of c.args.system.now) c.requires.kept.holds.bad) c.requires.kept.frames c.requires.kept.holds.kept))

pub returns-in-Sat-clause-asked : goal.returns-in-Sat-clause-asked
returns-in-Sat-clause-asked g c = c.in_ok-_values.ensures.asked

pub returns-clause-core : goal.returns-clause-core
returns-clause-core g c =
    let assumed : c.as_slice-3.result.now ≡ literals_from 2 c.args.state.now = grind (arith, common_steps) in
    let told = unsat_told c.args.system.now c.requires.kept.holds.bad c.requires.kept.frames Nothing 0 c.as_slice-3.result.now (literals_from 2 c.args.state.now) c.in_ok-_values.field-0 c.in-Unsat.core assumed c.in-Unsat.is
    (c.in_ok-_values.ensures.verdict (apart_system c.args.system.now) (apart_list (places_of c.args.system.now) c.requires.kept.holds.bad) c.requires.kept.frames c.requires.kept.holds.kept) in
    (broken_part 2 c.args.state.now c.in-Unsat.core told.negated, first_makes c.args.system.now c.requires.kept.frames c.requires.kept.holds.bad c.args.state.now c.in-Unsat.core c.requires.state told)

pub returns-clause-asked : goal.returns-clause-asked
returns-clause-asked g c = c.in_ok-_values.ensures.asked
