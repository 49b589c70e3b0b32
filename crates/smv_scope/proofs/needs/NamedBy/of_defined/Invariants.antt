-- What is named so far, with what is left, is all.
use Rattle.std.proofs.Common.{◌≡◌, ◌||◌, ◌++◌, drop}
use Rattle.smv_language.specs.Trace.{Each}
use Rattle.smv_scope.specs.DefinitionNeeds.{needs_in, reads_in, IsFoundAt, first_names}
use Rattle.smv_scope.proofs.needs.NamedBy.of_defined.Given as goal

abbrev pub invariant-loop-each : goal.invariant-loop-each
invariant-loop-each l = record {
  needs : l.named.needs.items ++ needs_in l.scene l.defined.spot (first_names (drop l.each-index l.each-items)) ≡ needs_in l.scene l.defined.spot (first_names l.each-items);
  input : (l.named.input || reads_in l.scene l.defined.spot (first_names (drop l.each-index l.each-items))) ≡ reads_in l.scene l.defined.spot (first_names l.each-items);
  found : Each (IsFoundAt l.scene l.defined.spot) (first_names (drop l.each-index l.each-items)) → Each (IsFoundAt l.scene l.defined.spot) (first_names l.each-items);
}
