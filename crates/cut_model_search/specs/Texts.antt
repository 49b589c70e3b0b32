-- The texts of traces, as lines.
use Rattle.std.specs.Prelude.{◌≡◌, ℕ, List, ◌++◌}
use Rattle.std.specs.List.{AllByRecursion}
use Rattle.smv_language.specs.Language.{Each, model_tree, told_trace}
use Rattle.smv_flat_laws.specs.FlatTrace.{AreInDomains}
use Rattle.base_values.specs.declared.value.Value.{Value}
use Rattle.smv_language.specs.declared.model.FlatModel.{FlatModel}
use Rattle.cut_text_laws.specs.Lines.{Line, fed, IsLine}
use Rattle.cut_text_laws.specs.TraceOfText.{IsPrintable}
use Rattle.cut_text_laws.specs.TraceText.{trace_lines}

-- the bytes are these lines, each with its line feed, and then some without
pub record AreLinesIn (bytes : List ℕ) (lines : List Line) : Type 0 where
  pub rest : List ℕ
  pub lie : bytes ≡ fed lines ++ rest
  pub are_lines : AllByRecursion IsLine lines
  pub is_line : IsLine rest

module _ (m : FlatModel) where
  -- the lines of a trace's text
  abbrev pub text_lines : List (List Value) → List Line
  text_lines trace = trace_lines (model_tree m) 0 (told_trace m.symbols trace)

  -- the variables are printed as different words, and each moment has values of their types
  pub record CanBePrinted (trace : List (List Value)) : Type 0 where
    pub printable : IsPrintable (model_tree m)
    pub within : Each (AreInDomains (model_tree m).variables) (told_trace m.symbols trace)
