use Rattle.std.proofs.Common.{◌∙◌, ap, rules}
use Rattle.std.proofs.lemmas.Fn.{filter_same}
use Rattle.sat_simplify.specs.Slots.{has_clause, standing}
use Rattle.sat_simplify.proofs.SlotSteps.{closed_up}
use Rattle.sat_simplify.proofs.lists.close_up.Goals as goal

pub returns : goal.returns
returns c =
    ap standing (c.shrink_to_fit.ensures.items ∙ filter_same _ has_clause _ (λ x b f' k. search rules) _ _ c.retain.ensures.filtered)
    ∙ closed_up c.args.slots.now.items
