use Rattle.std.proofs.Common.{◌≡◌, ◌+◌, ◌<◌, min, length, map, All, sym, ◌∙◌, ap, subst}
use Rattle.base_values.specs.declared.limits.TheConstants.{MOST_COST}
use Rattle.smv_language.specs.ProgramTree.{program_tree}
use Rattle.smv_flat_laws.specs.Items.{instances_of}
use Rattle.smv_scope.specs.declared.walk.Spot.{Spot}
use Rattle.smv_model.specs.ModuleCosts.{module_cost, spots_cost}
use Rattle.smv_model.proofs.CountLaws.{all_within, all_cost}
use Rattle.smv_model.proofs.count.least_cost.Goals as goal

pub instances_cost-requires : goal.instances_cost-requires
instances_cost-requires c =
    let costs : c.as_slice-2.result.now ≡ map module_cost c.args.modules.now.list.items = c.as_slice-2.ensures.value ∙ c.in_ok-costs.ensures ∙ ap (map module_cost) c.as_slice.ensures.value in
    subst (λ xs. All (λ (spot : Spot). spot.«module» < length xs) c.args.spots.now) (sym costs)
    (all_within c.args.modules.now c.requires.modules (instances_of (program_tree c.args.modules.now.program.now)) c.args.spots.now c.requires.spots)

pub returns : goal.returns
returns c =
    let costs : c.as_slice-2.result.now ≡ map module_cost c.args.modules.now.list.items = c.as_slice-2.ensures.value ∙ c.in_ok-costs.ensures ∙ ap (map module_cost) c.as_slice.ensures.value in
    c.instances_cost.ensures ∙ ap (λ xs. min (spots_cost xs c.args.spots.now) (MOST_COST + 1)) costs
    ∙ all_cost c.args.modules.now c.requires.modules (instances_of (program_tree c.args.modules.now.program.now)) c.args.spots.now c.requires.spots
