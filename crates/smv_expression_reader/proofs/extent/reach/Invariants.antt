use Rattle.std.proofs.Common.{◌≡◌, ◌+◌, drop}
use Rattle.std.specs.Prelude.{◌||◌}
use Rattle.smv_expression_reader.specs.Recogniser as machine
use Rattle.smv_expression_reader.specs.Views.{state_with}
use Rattle.smv_expression_reader.specs.Extents.{reach_of, is_deep, ends_whole}
use Rattle.smv_expression_reader.proofs.extent.reach.Given as goal

abbrev pub invariant-loop-len : goal.invariant-loop-len
invariant-loop-len l = record {
  len : reach_of machine.start l.tokens ≡ l.len + reach_of (state_with l.mode l.frames) (drop l.len l.tokens);
  deep : is_deep machine.start l.tokens ≡ (l.deep || is_deep (state_with l.mode l.frames) (drop l.len l.tokens));
  whole : ends_whole machine.start l.tokens ≡ ends_whole (state_with l.mode l.frames) (drop l.len l.tokens);
}
