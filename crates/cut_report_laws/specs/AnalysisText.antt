-- The report of an analysis, whose text stands below what says when an analysis is right.
pub use Rattle.cut_text_laws.specs.AnalysisText.{numbers_text, set_lines, trace_parts, first_line, ending_text, size_line, analysis_text}
