-- One item more.
use Rattle.std.proofs.Common.{◌≡◌, ◌+◌, ◌<◌, ◌≤◌, [], ◌∷◌, ◌++◌, rules, subst, sym}
use Rattle.std.specs.Prelude.{slice_get}
use Rattle.smv_scope.specs.Steps.{count_in}
use Rattle.smv_scope.proofs.Naming.{same_then}
use Rattle.smv_scope.proofs.NamingItems.{NamedItems, one_item, all_items}
use Rattle.smv_scope.proofs.names.Scene.define_items.Goals as goal

pub loop-place-preserved : goal.loop-place-preserved
loop-place-preserved c =
    let old = c.args.self.now in
    let mid = c.loop-place.self in
    let within : c.loop-place.place < count_in (slice_get old.spots.items c.args.spot) = subst (λ n. c.loop-place.place < n) c.own_count-place-end.ensures c.loop-place-test.true in
    let pushed : c.push.new.self.items ≡ c.loop-place.own.items ++ c.in_ok-meaning.meaning ∷ [] = search rules in
    record {
      same = same_then old mid c.define_item.new.self c.loop-place.invariant.same c.in_ok-meaning.ensures.same;
      named =
          subst (NamedItems old c.define_item.new.self c.args.spot (c.loop-place.place + 1)) (sym pushed)
          (one_item old mid c.define_item.new.self c.args.spot c.loop-place.place c.loop-place.own.items c.own-walked.result c.in_ok-meaning.meaning c.loop-place.invariant.same
          c.own-walked.ensures.own within c.loop-place.invariant.named c.in_ok-meaning.ensures.named);
    }

pub returns-clause-named : goal.returns-clause-named
returns-clause-named c =
    let past : c.own_count-place-end.result ≤ c.loop-place.place = search rules in
    all_items c.args.self.now c.loop-place.self c.args.spot c.loop-place.place c.loop-place.own.items
    (subst (λ n. n ≤ c.loop-place.place) c.own_count-place-end.ensures past) c.loop-place.invariant.named
