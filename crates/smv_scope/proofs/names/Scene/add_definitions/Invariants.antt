-- The instances so far have their numbers.
use Rattle.std.proofs.Common.{◌≡◌, length}
use Rattle.smv_scope.specs.NumberedScenes.{IsNamedTo}
use Rattle.smv_scope.proofs.names.Scene.add_definitions.Given as goal

abbrev pub invariant-loop-spot : goal.invariant-loop-spot
invariant-loop-spot l = record {
  modules : l.self.modules ≡ l.initial.self.modules;
  symbols : l.self.symbols ≡ l.initial.self.symbols;
  many : length l.self.spots.items ≡ length l.initial.self.spots.items;
  named : IsNamedTo l.self l.spot;
}
