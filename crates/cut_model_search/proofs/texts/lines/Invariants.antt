use Rattle.std.proofs.Common.{◌≡◌, ◌++◌, length}
use Rattle.std.specs.List.{AllByRecursion}
use Rattle.cut_text_laws.specs.Lines.{fed, IsLine}
use Rattle.cut_model_search.proofs.texts.lines.Given as goal

-- the bytes are the lines, each with its line feed, and the rest
abbrev pub invariant-loop-line : goal.invariant-loop-line
invariant-loop-line l = record {
  lie : l.bytes ≡ fed l.lines ++ l.rest;
  are_lines : AllByRecursion IsLine l.lines;
}

abbrev pub decreases-loop-line : goal.decreases-loop-line
decreases-loop-line l = length l.rest
