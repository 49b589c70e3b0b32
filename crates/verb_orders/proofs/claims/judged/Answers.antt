use Rattle.smv_language.specs.ModelTree.{model_tree, flat_tree}
use Rattle.verb_orders.proofs.StagedCases.{alone, provable_alone}
use Rattle.verb_orders.proofs.ClaimLaws.{judged_alone}
use Rattle.verb_orders.proofs.claims.judged.Goals as goal

pub check_unlisted-requires-clause-history : goal.check_unlisted-requires-clause-history
check_unlisted-requires-clause-history c = alone (model_tree c.args.staged.now.typed.model) c.args.staged.now.none c.requires.none

pub check_unlisted-requires-clause-fit : goal.check_unlisted-requires-clause-fit
check_unlisted-requires-clause-fit c = provable_alone (model_tree c.args.staged.now.typed.model) (flat_tree c.args.top.now) c.args.staged.now.none c.requires.none c.requires.searchable

pub returns : goal.returns
returns c =
    judged_alone c.args.staged.now.typed.model c.args.top.now c.args.certificate.now c.args.staged.now.none c.requires.none c.check_unlisted.result c.check_unlisted.ensures
