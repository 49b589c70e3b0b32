use Rattle.std.proofs.Common.{◌≡◌, ◌≤◌, ◌<◌, ◌+◌, ◌*◌, ◌^◌, ℕ, suc, true, List, refl, sym, subst, arith, length, map, slice_index_or}
use Rattle.sat_clauses.specs.Literal.{Literal, opposite}
use Rattle.sat_clauses.specs.Derivation.{IsUpTo}
use Rattle.cut_frames.specs.Levels.{frames_of}
use Rattle.cut_frames.specs.GuardedSearch.{places_of}
use Rattle.cut_frames.specs.OwnVariables.{apart_system, apart_list}
use Rattle.cut_frames.specs.Parts.{IsPart}
use Rattle.cut_frames.specs.declared.guarded.Beside.TheVariants.{Bad}
use Rattle.cut_frames.proofs.ApartLaws.{sat_told}
use Rattle.cut_frames.proofs.LevelLaws.{length_frames}
use Rattle.cut_frames.proofs.ShrinkLemmas.{negated_apart, found_alone}
use Rattle.cut_frames.proofs.PartLemmas.{part_all}
use Rattle.cut_frames.proofs.QueryLemmas.{bits_up_to}
use Rattle.cut_frames.proofs.ShrinkLemmas.{turned_all, turned_plain}
use Rattle.cut_frames.proofs.shrink.without_first.Goals as goal

inside : (l m n : ℕ) → m ≡ suc l → n ≡ m → l < n
inside l m n e f = omega (arith, e, f)

low_var : (x b u : ℕ) → 2 ≤ x → x < b + 2 → 2 * b + u + 1 < 2 ^ 31 → (1 ≤ x) × (x < 2 ^ 62)
low_var x b u le lt fit = (omega (arith, le), omega (arith, lt, fit))

pub assumed_first-requires : goal.assumed_first-requires
assumed_first-requires g c = λ k d lt. low_var (slice_index_or c.args.problem.history.now k d).var c.args.problem.system.now.state_bits c.args.problem.system.now.input_bits (c.requires.problem.history k d lt).0 (c.requires.problem.history k d lt).1 c.requires.problem.fit.bits

pub ask-requires-clause-well : goal.ask-requires-clause-well
ask-requires-clause-well g c = c.requires.kept.well

pub ask-requires-clause-frame : goal.ask-requires-clause-frame
ask-requires-clause-frame g c = inside c.args.frames.now.last (length (frames_of c.args.frames.now)) (length c.args.kept.now.frames.items) (length_frames c.args.frames.now) c.requires.kept.count

pub ask-requires-clause-up_to : goal.ask-requires-clause-up_to
ask-requires-clause-up_to g c =
    let part : IsPart c.as_slice.result.now (map opposite c.args.problem.history.now) = subst (λ (ls : List Literal). IsPart ls (map opposite c.args.problem.history.now)) (sym c.as_slice.ensures.value) c.in_ok-all.ensures in
    part_all (IsUpTo c.args.kept.now.places) c.as_slice.result.now (map opposite c.args.problem.history.now) part (turned_all (IsUpTo c.args.kept.now.places) c.args.problem.history.now (bits_up_to c.args.problem.system.now c.args.kept.now.places c.args.problem.history.now c.requires.kept.places c.requires.problem.history))

pub ask-requires-clause-apart : goal.ask-requires-clause-apart
ask-requires-clause-apart g c =
    let part : IsPart c.as_slice.result.now (map opposite c.args.problem.history.now) = subst (λ (ls : List Literal). IsPart ls (map opposite c.args.problem.history.now)) (sym c.as_slice.ensures.value) c.in_ok-all.ensures in
    negated_apart c.as_slice.result.now (part_all (λ (l : Literal). l.negated ≡ true) c.as_slice.result.now (map opposite c.args.problem.history.now) part (turned_plain c.args.problem.history.now c.requires.problem.positive))

pub returns-in-Sat-clause-values : goal.returns-in-Sat-clause-values
returns-in-Sat-clause-values g c = found_alone c.args.problem.system.now c.args.problem.bad.now (frames_of c.args.frames.now) c.args.problem.history.now c.args.frames.now.last c.as_slice.result.now c.in-Sat.found (sat_told c.args.problem.system.now c.args.problem.bad.now (frames_of c.args.frames.now) Bad c.args.frames.now.last c.as_slice.result.now c.as_slice.result.now c.in_ok-found.field-0 c.in-Sat.found refl c.in-Sat.is (c.in_ok-found.ensures.verdict (apart_system c.args.problem.system.now) (apart_list (places_of c.args.problem.system.now) c.args.problem.bad.now) (frames_of c.args.frames.now) c.requires.kept))

pub returns-in-Sat-clause-kept : goal.returns-in-Sat-clause-kept
returns-in-Sat-clause-kept g c = (c.in_ok-found.ensures.asked (apart_system c.args.problem.system.now) (apart_list (places_of c.args.problem.system.now) c.args.problem.bad.now) (frames_of c.args.frames.now) c.requires.kept)

pub returns-clause-kept : goal.returns-clause-kept
returns-clause-kept g c = (c.in_ok-found.ensures.asked (apart_system c.args.problem.system.now) (apart_list (places_of c.args.problem.system.now) c.args.problem.bad.now) (frames_of c.args.frames.now) c.requires.kept)
