-- One instance more.
use Rattle.std.proofs.Common.{◌+◌, ◌<◌, length, rules, ◌∙◌}
use Rattle.smv_scope.specs.NumberedScenes.{IsNamedTo}
use Rattle.smv_scope.proofs.NamingItems.{one_named, same_many}
use Rattle.smv_scope.proofs.names.Scene.add_definitions.Goals as goal

pub loop-spot-preserved : goal.loop-spot-preserved
loop-spot-preserved c =
    let old = c.loop-spot.self in
    let mid = c.define_items.new.self in
    let new = c.set_own.new.self in
    let within : c.loop-spot.spot < length old.spots.items = search rules in
    let named : IsNamedTo new (c.loop-spot.spot + 1) =
    one_named old mid new c.loop-spot.spot c.in_ok-own.own c.loop-spot.invariant.named within c.in_ok-own.ensures.same c.in_ok-own.ensures.named
    c.set_own.ensures.modules c.set_own.ensures.definitions c.set_own.ensures.formals c.set_own.ensures.own in
    record {
      modules = c.set_own.ensures.modules ∙ c.in_ok-own.ensures.same.modules ∙ c.loop-spot.invariant.modules;
      symbols = c.set_own.ensures.symbols ∙ c.in_ok-own.ensures.same.symbols ∙ c.loop-spot.invariant.symbols;
      many =
          same_many old new c.loop-spot.spot (c.loop-spot.spot + 1) (c.set_own.ensures.modules ∙ c.in_ok-own.ensures.same.modules) c.loop-spot.invariant.named named
          ∙ c.loop-spot.invariant.many;
      named = named;
    }
