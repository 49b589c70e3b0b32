use Rattle.std.proofs.Common.{◌≡◌, map, drop}
use Rattle.cut_text_laws.specs.Analysis.{told_ending}
use Rattle.verb_run.specs.Tables.{ended_with_all}
use Rattle.verb_run.proofs.tops.status_of_all.Given as goal

abbrev pub invariant-loop-column : goal.invariant-loop-column
invariant-loop-column l = ended_with_all (map (λ column. told_ending column.ending) (drop l.column-index l.columns)) ≡ ended_with_all (map (λ column. told_ending column.ending) l.columns)
