use Rattle.std.proofs.Common.{◌≡◌, drop}
use Rattle.std.specs.Prelude.{map}
use Rattle.smv_language.specs.Texts.{first_with}
use Rattle.smv_expression_reader.specs.Words.{row_view}
use Rattle.smv_expression_reader.proofs.words.use_in.Given as goal

abbrev pub invariant-loop-row : goal.invariant-loop-row
invariant-loop-row l = first_with (map row_view (drop l.row-index l.rows)) l.text ≡ first_with (map row_view l.rows) l.text
