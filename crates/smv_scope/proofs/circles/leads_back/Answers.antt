-- What is linked to one of its own component leads back to itself.
use Rattle.std.proofs.Common.{true, length, sym, subst}
use Rattle.smv_scope.specs.Links.{graph_of, IsCircle}
use Rattle.smv_scope.proofs.ReachLaws.{graph_within}
use Rattle.smv_scope.proofs.ComponentLaws.{back_is}
use Rattle.smv_scope.proofs.circles.leads_back.Goals as goal

pub returns : goal.returns
returns c =
    subst (IsCircle (graph_of c.args.links.now) true c.args.definition) (sym c.is_linked_inside.ensures)
    (back_is (graph_of c.args.links.now) (length c.args.links.now.of.items) (graph_within c.args.links.now) c.args.components.now c.requires.components c.args.definition c.requires.within)
