-- The lines of a printed trace are those of its text.
use Rattle.std.proofs.Common.{◌≡◌, ◌<◌, ◌^◌, ℕ, List, length, sym, subst}
use Rattle.std.specs.List.{AllByRecursion}
use Rattle.base_values.specs.declared.value.Value.{Value}
use Rattle.smv_language.specs.declared.model.FlatModel.{FlatModel}
use Rattle.smv_language.specs.Language.{model_tree, told_trace}
use Rattle.cut_text_laws.specs.Lines.{Line, IsLine}
use Rattle.cut_text_laws.specs.TraceText.{trace_text}
use Rattle.cut_text_laws.proofs.Printed.{printed_lines}
use Rattle.cert_laws.specs.CertificateText.{IsWritableText}
use Rattle.cut_model_search.specs.Texts.{AreLinesIn, text_lines, CanBePrinted}
use Rattle.cut_model_search.proofs.TextLemmas.{lines_are}

module _ (m : FlatModel) (trace : List (List Value)) (can : CanBePrinted m trace) where
  printed : AllByRecursion IsLine (text_lines m trace)
  printed = printed_lines (model_tree m) can.printable 0 (told_trace m.symbols trace) can.within

  pub cut_text : (text : List ℕ) (lines : List Line) → text ≡ trace_text (model_tree m) (told_trace m.symbols trace) → AreLinesIn text lines → lines ≡ text_lines m trace
  cut_text text lines is cut = lines_are text (text_lines m trace) lines printed is cut

  pub text_writable : (text : List ℕ) (lines : List Line) → text ≡ trace_text (model_tree m) (told_trace m.symbols trace) → AreLinesIn text lines → length lines < 2 ^ 63 → IsWritableText lines
  text_writable text lines is cut few = record { count = few; each = subst (AllByRecursion IsLine) (sym (cut_text text lines is cut)) printed }
