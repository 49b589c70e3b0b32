use Rattle.std.proofs.Common.{◌≡◌, ◌+◌, ◌≤◌, length}
use Rattle.smv_model_reader.specs.ProgramParts.{past_skipped}
use Rattle.smv_model_reader.proofs.sections.pass_over.Given as goal

abbrev pub invariant-loop-round : goal.invariant-loop-round
invariant-loop-round l = record {
  same : past_skipped l.cursor ≡ past_skipped l.fn.cursor;
  room : length l.cursor + l.round ≤ l.most;
}
