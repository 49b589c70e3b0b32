-- A step at the end of packed ones leaves the others as they were.
use Rattle.std.proofs.Common.{◌≡◌, ◌+◌, ◌-◌, ◌≤◌, ℕ, List, [], ◌∷◌, ◌++◌, All, length, map, drop, take, refl, ap, ◌∙◌, arith, length-drop}
use Rattle.std.specs.Prelude.{slice_range}
use Rattle.std.proofs.lemmas.List.{drop-append-le, take-append-le, drop_at, take_all, map_push}
use Rattle.std.proofs.lemmas.List.Elements.{All-head, All-tail}
use Rattle.sat_clauses.specs.Literal.{Literal}
use Rattle.sat_clauses.specs.declared.step.Step.{Step}
use Rattle.cert_text.specs.declared.packed.StepSpan.{StepSpan}
use Rattle.cert_text.specs.PackedSteps.{spanned_step, LieIn}

-- what lies between two places of a list lies there in a longer one
range_append : {T : Type 0} (xs new : List T) (a b : ℕ) → a ≤ b → b ≤ length xs → slice_range (xs ++ new) a b ≡ slice_range xs a b
range_append xs new a b rise within =
    let starts : a ≤ length xs = omega arith in
    let fits : b - a ≤ length (drop a xs) = omega (arith, length-drop a xs) in
    rw (drop-append-le, take-append-le)

-- what is new lies after the list
range_new : {T : Type 0} (xs new : List T) (a b : ℕ) → a ≡ length xs → b ≡ length xs + length new → slice_range (xs ++ new) a b ≡ new
range_new xs new a b starts ends =
    ap (take (b - a)) (drop_at xs new a (omega arith)) ∙ take_all (b - a) new (omega arith)

same_step : (lits more : List Literal) (hints others : List ℕ) (span : StepSpan) → LieIn lits hints span → spanned_step (lits ++ more) (hints ++ others) span ≡ spanned_step lits hints span
same_step lits more hints others span lies =
    rw (range_append lits more span.lits_start span.lits_end lies.lits_rise lies.lits_within, range_append hints others span.hints_start span.hints_end lies.hints_rise lies.hints_within)

same_steps : (lits more : List Literal) (hints others : List ℕ) (spans : List StepSpan) → All (LieIn lits hints) spans → map (spanned_step (lits ++ more) (hints ++ others)) spans ≡ map (spanned_step lits hints) spans
same_steps lits more hints others [] lie = refl
same_steps lits more hints others (span ∷ spans) lie =
    let here = same_step lits more hints others span (All-head (LieIn lits hints) span spans lie) in
    let rest = same_steps lits more hints others spans (All-tail (LieIn lits hints) span spans lie) in
    rw (here, rest)

-- a step whose literals and hints come after the others is the last one
pub packed_push : (lits more all : List Literal) (hints others every : List ℕ) (spans : List StepSpan) (span : StepSpan) → All (LieIn lits hints) spans → all ≡ lits ++ more → every ≡ hints ++ others →
    span.lits_start ≡ length lits → span.lits_end ≡ length lits + length more → span.hints_start ≡ length hints → span.hints_end ≡ length hints + length others →
    map (spanned_step all every) (spans ++ span ∷ []) ≡ map (spanned_step lits hints) spans ++ (record { clause = more; hints = others }) ∷ []
packed_push lits more all hints others every spans span lie is_all is_every a b c d =
    rw (is_all, is_every) (map_push (spanned_step (lits ++ more) (hints ++ others)) spans span
    ∙ rw (same_steps lits more hints others spans lie, range_new lits more span.lits_start span.lits_end a b, range_new hints others span.hints_start span.hints_end c d))
