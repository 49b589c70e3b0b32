use Rattle.smv_language.specs.ModelTree.{leaf_of}
use Rattle.smv_type_laws.specs.Models.{kind_of_leaf}
use Rattle.smv_types.specs.Answers.{told_sort}
use Rattle.sat_expressions.specs.ModelNames.{model_of, names_in}
use Rattle.sat_expressions.specs.Parts.{asked_of}
use Rattle.sat_expressions.proofs.Nodes.{result_at}
use Rattle.sat_expressions.proofs.part.leaf_part.Goals as goal

pub returns : goal.returns
returns c =
    result_at _ (asked_of c.args.asked) c.args.g.now _ ((names_in c.args.names.now).now (leaf_of c.args.name)) _ (told_sort (kind_of_leaf (model_of c.args.names.now) (leaf_of c.args.name))) _
    c.in_ok-part.ensures.signal c.in_ok-part.ensures.sort c.answer.ensures
