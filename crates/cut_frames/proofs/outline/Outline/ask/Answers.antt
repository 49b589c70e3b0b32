use Rattle.std.proofs.Common.{◌≡◌, ◌≤◌, ◌<◌, ◌+◌, ◌*◌, ℕ, All, sym, subst, arith, map}
use Rattle.std.proofs.lemmas.Grind.{common_steps}
use Rattle.sat_clauses.specs.Literal.{opposite}
use Rattle.sat_clauses.specs.Derivation.{IsUpTo}
use Rattle.sat_clauses.specs.Hints.{HasNoOpposites}
use Rattle.cut_frames.specs.GuardedSearch.{places_of}
use Rattle.cut_frames.specs.OwnVariables.{apart_system, apart_list}
use Rattle.cut_frames.specs.declared.guarded.Beside.TheVariants.{Nothing}
use Rattle.cut_frames.proofs.ApartLaws.{unsat_told}
use Rattle.cut_frames.proofs.PartLemmas.{part_all, turned_part, first_core, turned_up_to, turned_apart}
use Rattle.cut_frames.proofs.outline.Outline.ask.Goals as goal

room : (b u v : ℕ) → v ≡ 2 * b + u + 1 → b + 1 ≤ v
room b u v e = omega (arith, e)

pub ask-requires-clause-well : goal.ask-requires-clause-well
ask-requires-clause-well g c = c.requires.kept.holds.kept.well

pub ask-requires-clause-frame : goal.ask-requires-clause-frame
ask-requires-clause-frame g c = c.requires.kept.holds.kept.well.some

pub ask-requires-clause-up_to : goal.ask-requires-clause-up_to
ask-requires-clause-up_to g c =
    let assumed : c.as_slice.result.now ≡ map opposite c.args.clause.now = grind (arith, common_steps) in
    subst (All (IsUpTo c.args.kept.now.places)) (sym assumed)
    (turned_up_to c.args.system.now.state_bits c.args.kept.now.places c.args.clause.now (room c.args.system.now.state_bits c.args.system.now.input_bits c.args.kept.now.places c.requires.kept.holds.kept.places) c.requires.over)

pub ask-requires-clause-apart : goal.ask-requires-clause-apart
ask-requires-clause-apart g c =
    let assumed : c.as_slice.result.now ≡ map opposite c.args.clause.now = grind (arith, common_steps) in
    subst HasNoOpposites (sym assumed) (turned_apart c.args.clause.now c.requires.apart)

pub returns-in-Sat-clause-asked : goal.returns-in-Sat-clause-asked
returns-in-Sat-clause-asked g c = c.in_ok-values.ensures.asked

pub returns-clause-core : goal.returns-clause-core
returns-clause-core g c =
    let assumed : c.as_slice.result.now ≡ map opposite c.args.clause.now = grind (arith, common_steps) in
    let told = unsat_told c.args.system.now c.requires.kept.holds.bad c.requires.kept.frames Nothing 0 c.as_slice.result.now (map opposite c.args.clause.now) c.in_ok-values.field-0 c.in-Unsat.core assumed c.in-Unsat.is
    (c.in_ok-values.ensures.verdict (apart_system c.args.system.now) (apart_list (places_of c.args.system.now) c.requires.kept.holds.bad) c.requires.kept.frames c.requires.kept.holds.kept) in
    let part = turned_part c.args.clause.now c.in-Unsat.core told.negated in
    (part, first_core c.args.system.now c.requires.kept.frames c.requires.kept.holds.bad (map opposite c.args.clause.now) c.in-Unsat.core (part_all (λ l. (2 ≤ l.var) × (l.var < c.args.system.now.state_bits + 2)) c.in-Unsat.core c.args.clause.now part c.requires.over) told)

pub returns-clause-asked : goal.returns-clause-asked
returns-clause-asked g c = c.in_ok-values.ensures.asked
