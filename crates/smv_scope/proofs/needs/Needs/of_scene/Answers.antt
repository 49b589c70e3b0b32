-- What is found by numbers is what the program asks for by keys.
use Rattle.std.proofs.Common.{rules, ◌≡◌, ℕ, List, length, replicate, ap, ◌∙◌, subst}
use Rattle.smv_scope.specs.Links.{graph_of, AreReached}
use Rattle.smv_scope.specs.DefinitionOrder.{placed_from}
use Rattle.smv_scope.proofs.SceneNeeds.{links_into, are_needs}
use Rattle.smv_scope.proofs.needs.Needs.of_scene.Goals as goal

pub order_of-requires : goal.order_of-requires
order_of-requires c = links_into c.args.scene.now c.requires c.in_ok-named.named c.in_ok-named.ensures.named

pub returns : goal.returns
returns c =
    let count : c.len-count.result ≡ length c.args.scene.now.definitions.items = search rules in
    let order : c.as_slice.result.now ≡ c.in_ok-laid.laid.order.items = search rules in
    let inputs : c.as_slice-3.result.now ≡ c.in_ok-named.named.inputs.items = search rules in
    record {
      needs = are_needs c.args.scene.now c.requires c.in_ok-named.named c.in_ok-named.ensures.named c.in_ok-back.back c.in_ok-back.ensures.turned c.in_ok-laid.laid.circle
          (record { order = c.in_ok-laid.laid.order; places = c.in_ok-places.places; on_circle = c.in_ok-on_circle.on_circle; reads_input = c.in_ok-reads_input.reads_input }) c.in_ok-laid.ensures.laid
          (c.in_ok-places.ensures ∙ ap (λ (n : ℕ). placed_from (replicate n 0) 0 c.as_slice.result.now) count
          ∙ ap (λ (ks : List ℕ). placed_from (replicate (length c.args.scene.now.definitions.items) 0) 0 ks) order)
          c.in_ok-on_circle.ensures.circles
          (subst (λ (starts : List ℕ). AreReached (graph_of c.in_ok-back.back) starts (length c.in_ok-back.back.of.items) c.in_ok-reads_input.reads_input.items) inputs c.in_ok-reads_input.ensures.reached);
    }
