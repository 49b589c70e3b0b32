use Rattle.std.proofs.Common.{◌≡◌, ◌≤◌, ◌<◌, ◌+◌, ◌*◌, ◌^◌, ℕ, suc, All, sym, ◌∙◌, subst, arith, length, slice_index_or}
use Rattle.std.proofs.lemmas.Grind.{common_steps}
use Rattle.std.proofs.lemmas.List.Elements.{All-contains}
use Rattle.sat_clauses.specs.Derivation.{IsUpTo}
use Rattle.sat_clauses.specs.Hints.{HasNoOpposites}
use Rattle.cut_frames.specs.Levels.{frames_of}
use Rattle.cut_frames.specs.GuardedSearch.{places_of}
use Rattle.cut_frames.specs.OwnVariables.{apart_system, apart_list}
use Rattle.cut_frames.specs.Minimal.{IsPlain}
use Rattle.cut_frames.specs.declared.guarded.Beside.TheVariants.{Bad}
use Rattle.cut_frames.proofs.ApartLaws.{sat_told, unsat_told}
use Rattle.cut_frames.proofs.LevelLaws.{length_frames}
use Rattle.cut_frames.proofs.ShrinkLemmas.{all_assumed, assumed_negated, negated_apart, assumed_all, within_itself, found_within, found_alone, found_without, not_true, is_needed}
use Rattle.cut_frames.proofs.QueryLemmas.{bits_up_to}
use Rattle.cut_frames.proofs.shrink.without_one.Goals as goal
use Rattle.sat_clauses.specs.Models.{values_of}

inside : (l m n : ℕ) → m ≡ suc l → n ≡ m → l < n
inside l m n e f = omega (arith, e, f)

low_var : (x b u : ℕ) → 2 ≤ x → x < b + 2 → 2 * b + u + 1 < 2 ^ 31 → (1 ≤ x) × (x < 2 ^ 62)
low_var x b u le lt fit = (omega (arith, le), omega (arith, lt, fit))

pub is_true-requires-clause-positive : goal.is_true-requires-clause-positive
is_true-requires-clause-positive g c = let o = All-contains (λ l. (2 ≤ l.var) × (l.var < c.args.problem.system.now.state_bits + 2)) c.args.problem.history.now c.args.lit c.requires.problem.history c.requires.one in (low_var c.args.lit.var c.args.problem.system.now.state_bits c.args.problem.system.now.input_bits o.0 o.1 c.requires.problem.fit.bits).0

pub is_true-requires-clause-small : goal.is_true-requires-clause-small
is_true-requires-clause-small g c = let o = All-contains (λ l. (2 ≤ l.var) × (l.var < c.args.problem.system.now.state_bits + 2)) c.args.problem.history.now c.args.lit c.requires.problem.history c.requires.one in (low_var c.args.lit.var c.args.problem.system.now.state_bits c.args.problem.system.now.input_bits o.0 o.1 c.requires.problem.fit.bits).1

pub returns-then-not-is_true-clause-less : goal.returns-then-not-is_true-clause-less
returns-then-not-is_true-clause-less g c = record {
  values = c.requires.values;
  within = within_itself c.args.problem.history.now (values_of c.args.values);
  needed = not_true c.args.problem.system.now c.args.problem.bad.now (frames_of c.args.frames.now) c.args.problem.history.now c.args.frames.now.last (values_of c.args.values) c.args.lit (sym c.is_true.ensures ∙ c.if-not-is_true.true);
}

pub assumed-requires : goal.assumed-requires
assumed-requires g c = λ k d lt. low_var (slice_index_or c.args.problem.history.now k d).var c.args.problem.system.now.state_bits c.args.problem.system.now.input_bits (c.requires.problem.history k d lt).0 (c.requires.problem.history k d lt).1 c.requires.problem.fit.bits

pub ask-requires-clause-well : goal.ask-requires-clause-well
ask-requires-clause-well g c = c.requires.kept.well

pub ask-requires-clause-frame : goal.ask-requires-clause-frame
ask-requires-clause-frame g c = inside c.args.frames.now.last (length (frames_of c.args.frames.now)) (length c.args.kept.now.frames.items) (length_frames c.args.frames.now) c.requires.kept.count

pub ask-requires-clause-up_to : goal.ask-requires-clause-up_to
ask-requires-clause-up_to g c =
    let assumed : c.as_slice.result.now ≡ (all_assumed (values_of c.args.values) c.args.problem.history.now c.args.lit) = grind (arith, common_steps) in
    let all = bits_up_to c.args.problem.system.now c.args.kept.now.places c.args.problem.history.now c.requires.kept.places c.requires.problem.history in
    subst (All (IsUpTo c.args.kept.now.places)) (sym assumed) (assumed_all (λ (x : ℕ). x ≤ c.args.kept.now.places) (values_of c.args.values) c.args.problem.history.now c.args.lit all (All-contains (IsUpTo c.args.kept.now.places) c.args.problem.history.now c.args.lit all c.requires.one))

pub ask-requires-clause-apart : goal.ask-requires-clause-apart
ask-requires-clause-apart g c =
    let assumed : c.as_slice.result.now ≡ (all_assumed (values_of c.args.values) c.args.problem.history.now c.args.lit) = grind (arith, common_steps) in
    subst HasNoOpposites (sym assumed) (negated_apart (all_assumed (values_of c.args.values) c.args.problem.history.now c.args.lit) (assumed_negated (values_of c.args.values) c.args.problem.history.now c.args.lit c.requires.problem.positive (All-contains IsPlain c.args.problem.history.now c.args.lit c.requires.problem.positive c.requires.one)))

pub returns-in-Sat-clause-less : goal.returns-in-Sat-clause-less
returns-in-Sat-clause-less g c =
    let assumed : c.as_slice.result.now ≡ (all_assumed (values_of c.args.values) c.args.problem.history.now c.args.lit) = grind (arith, common_steps) in
    record {
      values = found_alone c.args.problem.system.now c.args.problem.bad.now (frames_of c.args.frames.now) c.args.problem.history.now c.args.frames.now.last (all_assumed (values_of c.args.values) c.args.problem.history.now c.args.lit) c.in-Sat.found (sat_told c.args.problem.system.now c.args.problem.bad.now (frames_of c.args.frames.now) Bad c.args.frames.now.last c.as_slice.result.now (all_assumed (values_of c.args.values) c.args.problem.history.now c.args.lit) c.in_ok-found.field-0 c.in-Sat.found assumed c.in-Sat.is (c.in_ok-found.ensures.verdict (apart_system c.args.problem.system.now) (apart_list (places_of c.args.problem.system.now) c.args.problem.bad.now) (frames_of c.args.frames.now) c.requires.kept));
      within = found_within c.args.problem.system.now c.args.problem.bad.now (frames_of c.args.frames.now) c.args.problem.history.now c.args.frames.now.last (values_of c.args.values) c.args.lit c.in-Sat.found (sat_told c.args.problem.system.now c.args.problem.bad.now (frames_of c.args.frames.now) Bad c.args.frames.now.last c.as_slice.result.now (all_assumed (values_of c.args.values) c.args.problem.history.now c.args.lit) c.in_ok-found.field-0 c.in-Sat.found assumed c.in-Sat.is (c.in_ok-found.ensures.verdict (apart_system c.args.problem.system.now) (apart_list (places_of c.args.problem.system.now) c.args.problem.bad.now) (frames_of c.args.frames.now) c.requires.kept));
      needed = found_without c.args.problem.system.now c.args.problem.bad.now (frames_of c.args.frames.now) c.args.problem.history.now c.args.frames.now.last (values_of c.args.values) c.args.lit c.in-Sat.found (sat_told c.args.problem.system.now c.args.problem.bad.now (frames_of c.args.frames.now) Bad c.args.frames.now.last c.as_slice.result.now (all_assumed (values_of c.args.values) c.args.problem.history.now c.args.lit) c.in_ok-found.field-0 c.in-Sat.found assumed c.in-Sat.is (c.in_ok-found.ensures.verdict (apart_system c.args.problem.system.now) (apart_list (places_of c.args.problem.system.now) c.args.problem.bad.now) (frames_of c.args.frames.now) c.requires.kept));
    }

pub returns-in-Sat-clause-kept : goal.returns-in-Sat-clause-kept
returns-in-Sat-clause-kept g c = (c.in_ok-found.ensures.asked (apart_system c.args.problem.system.now) (apart_list (places_of c.args.problem.system.now) c.args.problem.bad.now) (frames_of c.args.frames.now) c.requires.kept)

pub returns-in-Unsat-clause-less : goal.returns-in-Unsat-clause-less
returns-in-Unsat-clause-less g c =
    let assumed : c.as_slice.result.now ≡ (all_assumed (values_of c.args.values) c.args.problem.history.now c.args.lit) = grind (arith, common_steps) in
    record {
      values = c.requires.values;
      within = within_itself c.args.problem.history.now (values_of c.args.values);
      needed = is_needed c.args.problem.system.now c.args.problem.bad.now (frames_of c.args.frames.now) c.args.problem.history.now c.args.frames.now.last (values_of c.args.values) c.args.lit c.in-Unsat._core c.requires.problem.fit c.requires.framed.framed c.requires.problem.history c.requires.one (unsat_told c.args.problem.system.now c.args.problem.bad.now (frames_of c.args.frames.now) Bad c.args.frames.now.last c.as_slice.result.now (all_assumed (values_of c.args.values) c.args.problem.history.now c.args.lit) c.in_ok-found.field-0 c.in-Unsat._core assumed c.in-Unsat.is (c.in_ok-found.ensures.verdict (apart_system c.args.problem.system.now) (apart_list (places_of c.args.problem.system.now) c.args.problem.bad.now) (frames_of c.args.frames.now) c.requires.kept));
    }

pub returns-in-Unsat-clause-kept : goal.returns-in-Unsat-clause-kept
returns-in-Unsat-clause-kept g c = (c.in_ok-found.ensures.asked (apart_system c.args.problem.system.now) (apart_list (places_of c.args.problem.system.now) c.args.problem.bad.now) (frames_of c.args.frames.now) c.requires.kept)
