-- Moments that the text of a trace gives can be replayed.
use Rattle.std.proofs.Common.{arith, ◌≡◌, ◌≤◌, ◌<◌, ◌^◌, ℕ, List, [], ◌∷◌, ◌++◌, length, ap}
use Rattle.std.proofs.lemmas.List.{length-append}
use Rattle.base_values.specs.declared.value.Value.{Value}
use Rattle.base_values.specs.declared.limits.TheConstants.{MOST_TRACE_BYTES}
use Rattle.smv_language.specs.Language.{FlatModel, told_trace}
use Rattle.cut_text_laws.specs.Lines.{Line, fed}
use Rattle.cut_text_laws.specs.TraceOfText.{IsPrintable, BytesGive}
use Rattle.cert_check.proofs.TraceLaws.{all_lawful, few_moments, some_moments}
use Rattle.smv_evaluation.specs.EvaluableModels.{CanBeReplayed}

module _ (m : FlatModel) (printable : IsPrintable m) where
  -- there are no more lines than bytes
  few_lines : (lines : List Line) → length lines ≤ length (fed lines)
  few_lines [] = omega arith
  few_lines (line ∷ lines) =
      let more = few_lines lines in
      let one = length-append line (10 ∷ []) in
      let joined = length-append (line ++ 10 ∷ []) (fed lines) in
      omega (arith, more, one, joined)

  pub fit_trace : (bytes : List ℕ) (trace : List (List Value)) → length bytes ≤ MOST_TRACE_BYTES → BytesGive m bytes (told_trace m.symbols trace) → CanBeReplayed m trace
  fit_trace bytes trace short (lines, is, are, gives) =
      let moments = few_moments m printable 0 gives.rest trace gives.moments in
      let rest : length lines ≡ length (gives.blank ++ gives.rest) = ap length gives.lie in
      let joined = length-append gives.blank gives.rest in
      let fed_lines = few_lines lines in
      let all : length bytes ≡ length (fed lines) = ap length is in
      let limit : MOST_TRACE_BYTES < 2 ^ 32 = omega arith in
      record { some = some_moments m printable trace gives.some; few = omega (arith, moments, rest, joined, fed_lines, all, short, limit); lawful = all_lawful m printable 0 gives.rest trace gives.moments }
