use Rattle.std.proofs.Common.{ap, ◌∙◌}
use Rattle.smv_language.specs.ModelTree.{model_tree, flat_tree}
use Rattle.cut_model_search.specs.FaultyModels.{faulty_of}
use Rattle.verb_orders.proofs.StagedCases.{alone, searchable_alone}
use Rattle.verb_orders.proofs.searched.model_of.Goals as goal

pub new-requires : goal.new-requires
new-requires c =
    let s = c.args.staged.now in
    record {
      whole = alone (model_tree s.typed.model) s.none c.requires.none;
      searchable = searchable_alone (model_tree s.typed.model) (flat_tree c.args.top.now) s.none c.requires.none c.requires.searchable;
    }

pub returns : goal.returns
returns c = c.in_ok-model.ensures ∙ ap (λ none. faulty_of c.args.staged.now.typed.model none c.args.top.now) c.requires.none
