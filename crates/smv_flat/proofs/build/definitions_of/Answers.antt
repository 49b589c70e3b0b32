-- The definition at a place of the order is ready there.
use Rattle.std.proofs.Common.{rules, ◌≡◌, ℕ, ◌<◌, List, length, slice_index_or, subst, sym, ap, ◌∙◌}
use Rattle.std.specs.Prelude.{slice_get}
use Rattle.smv_flat.specs.FormulaLists.{IsReady}
use Rattle.smv_flat.proofs.BuildLoops.{index_get}
use Rattle.smv_flat.proofs.build.definitions_of.Goals as goal

pub add_definition-requires-clause-ready : goal.add_definition-requires-clause-ready
add_definition-requires-clause-ready c =
    let xs : List ℕ = c.as_slice-place-items.result.now in
    let items : xs ≡ c.args.scope.now.needs.order.items = search rules in
    let within : c.loop-place.place-index < length xs = search rules in
    let same : c.loop-place.place-index ≡ c.len.result = search rules in
    subst (λ d. IsReady c.args.scope.now.scene c.args.scope.now.needs (record { variables = c.args.variables; symbols = c.args.symbols; definitions = d }) (slice_index_or xs c.loop-place.place-index 0)) same
    (c.requires.ready c.loop-place.place-index (slice_index_or xs c.loop-place.place-index 0)
    (ap (λ ys. slice_get ys c.loop-place.place-index) (sym items) ∙ index_get xs c.loop-place.place-index within))
