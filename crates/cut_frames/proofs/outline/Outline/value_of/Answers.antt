use Rattle.std.proofs.Common.{◌≡◌, ◌≤◌, ◌<◌, ◌+◌, ◌*◌, ◌∷◌, [], ℕ, sym, ap, subst, arith}
use Rattle.sat_clauses.specs.Literal.{Literal}
use Rattle.sat_clauses.specs.Derivation.{IsUpTo}
use Rattle.cut_frames.specs.GuardedSearch.{places_of}
use Rattle.cut_frames.specs.OwnVariables.{apart_system, apart_list}
use Rattle.cut_frames.specs.declared.guarded.Beside.TheVariants.{Nothing}
use Rattle.cut_frames.proofs.ApartLaws.{unsat_told}
use Rattle.cut_frames.proofs.PartLemmas.{agreed_bit, one_all, one_apart}
use Rattle.cut_frames.proofs.outline.Outline.value_of.Goals as goal

room : (x b u v : ℕ) → x < b → v ≡ 2 * b + u + 1 → x + 2 ≤ v
room x b u v lt e = omega (arith, lt, e)

pub returns-in_default-clause-asked : goal.returns-in_default-clause-asked
returns-in_default-clause-asked g c = λ system list frames h. h

pub ask-requires-clause-well : goal.ask-requires-clause-well
ask-requires-clause-well g c = c.requires.kept.holds.kept.well

pub ask-requires-clause-frame : goal.ask-requires-clause-frame
ask-requires-clause-frame g c = c.requires.kept.holds.kept.well.some

pub ask-requires-clause-up_to : goal.ask-requires-clause-up_to
ask-requires-clause-up_to g c = one_all (IsUpTo c.args.kept.now.places) c.new-other.result (subst (λ (l : Literal). l.var ≤ c.args.kept.now.places) (sym c.new-other.ensures) (room c.args.x c.args.system.now.state_bits c.args.system.now.input_bits c.args.kept.now.places c.requires.bit c.requires.kept.holds.kept.places))

pub ask-requires-clause-apart : goal.ask-requires-clause-apart
ask-requires-clause-apart g c = one_apart c.new-other.result

pub returns-in_ok-note-in-Sat-clause-asked : goal.returns-in_ok-note-in-Sat-clause-asked
returns-in_ok-note-in-Sat-clause-asked g c = c.in_ok-values.ensures.asked

pub returns-in-Unsat-clause-agreed : goal.returns-in-Unsat-clause-agreed
returns-in-Unsat-clause-agreed g c =
    let assumed : c.new-other.result ∷ [] ≡ record { var = c.args.x + 2; negated = c.in-Some.value } ∷ [] = ap (λ (l : Literal). l ∷ []) c.new-other.ensures in
    agreed_bit c.args.system.now c.requires.kept.frames c.requires.kept.holds.bad c.args.x c.in-Some.value c.in-Unsat._core c.requires.fit c.requires.bit
    (unsat_told c.args.system.now c.requires.kept.holds.bad c.requires.kept.frames Nothing 0 (c.new-other.result ∷ []) (record { var = c.args.x + 2; negated = c.in-Some.value } ∷ []) c.in_ok-values.field-0 c.in-Unsat._core assumed c.in-Unsat.is
    (c.in_ok-values.ensures.verdict (apart_system c.args.system.now) (apart_list (places_of c.args.system.now) c.requires.kept.holds.bad) c.requires.kept.frames c.requires.kept.holds.kept))

pub returns-in-Unsat-clause-asked : goal.returns-in-Unsat-clause-asked
returns-in-Unsat-clause-asked g c = c.in_ok-values.ensures.asked
