-- What is named so far, with what the definitions that are left name, is all.
use Rattle.std.proofs.Common.{◌≡◌, ◌++◌, map, drop}
use Rattle.smv_language.specs.Trace.{Each}
use Rattle.smv_scope.specs.Links.{rows}
use Rattle.smv_scope.specs.DefinitionNeeds.{needs_of, inputs_from, AreFoundIn}
use Rattle.smv_scope.proofs.needs.Named.of_scene.Given as goal

abbrev pub invariant-loop-definition : goal.invariant-loop-definition
invariant-loop-definition l = record {
  links : rows l.links ++ map (needs_of l.scene) (drop l.definition l.scene.definitions.items) ≡ map (needs_of l.scene) l.scene.definitions.items;
  inputs : l.inputs.items ++ inputs_from l.scene l.definition (drop l.definition l.scene.definitions.items) ≡ inputs_from l.scene 0 l.scene.definitions.items;
  found : Each (AreFoundIn l.scene) (drop l.definition l.scene.definitions.items) → Each (AreFoundIn l.scene) l.scene.definitions.items;
}
