-- How the steps of a derivation lie in two lists.
use Rattle.std.specs.Prelude.{◌≡◌, ◌≤◌, ℕ, List, [], ◌∷◌, All, length, map, slice_range, refl}
use Rattle.sat_clauses.specs.Literal.{Literal}
use Rattle.sat_clauses.specs.declared.step.Step.{Step}
use Rattle.cert_text.specs.declared.packed.StepSpan.{StepSpan}
use Rattle.cert_text.specs.declared.packed.PackedSteps.TheInside.{Inside}

-- the step whose literals and hints lie between the ends of a span
abbrev pub spanned_step : List Literal → List ℕ → StepSpan → Step
spanned_step lits hints span = record {
  clause = slice_range lits span.lits_start span.lits_end;
  hints = slice_range hints span.hints_start span.hints_end;
}

-- both spans begin no later than they end, within their lists
pub record LieIn (lits : List Literal) (hints : List ℕ) (span : StepSpan) : Type 0 where
  pub lits_rise : span.lits_start ≤ span.lits_end
  pub lits_within : span.lits_end ≤ length lits
  pub hints_rise : span.hints_start ≤ span.hints_end
  pub hints_within : span.hints_end ≤ length hints

-- the steps are what the spans cut out of the two lists
abbrev pub steps_of : Inside → List Step
steps_of p = map (spanned_step p.lits.items p.hints.items) p.spans.items

-- each span lies in the lists
abbrev pub IsPacked : Inside → Type 0
IsPacked p = All (LieIn p.lits.items p.hints.items) p.spans.items
