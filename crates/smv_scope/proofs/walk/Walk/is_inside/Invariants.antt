-- What is left of the path has the name where all of it has.
use Rattle.std.proofs.Common.{◌≡◌, drop}
use Rattle.smv_language.specs.Language.{is_among, texts}
use Rattle.smv_scope.proofs.walk.Walk.is_inside.Given as goal

abbrev pub invariant-loop-outer : goal.invariant-loop-outer
invariant-loop-outer l = is_among (texts (drop l.outer-index l.self.inside.items)) l.name ≡ is_among (texts l.self.inside.items) l.name
