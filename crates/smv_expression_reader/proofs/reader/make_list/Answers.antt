use Rattle.std.proofs.Common.{sym, ap, ◌∙◌, subst, map}
use Rattle.std.specs.Prelude.{Err}
use Rattle.smv_language.specs.ExpressionTree.{tree_of}
use Rattle.smv_expression_reader.specs.Lists.{IsExpressions}
use Rattle.smv_expression_reader.specs.SecondPass.{exprs_at}
use Rattle.smv_expression_reader.proofs.ListReads.{list_spelled_by, list_only, list_depths, list_deep, list_made}
use Rattle.smv_expression_reader.proofs.reader.make_list.Goals as goal

pub unreachable-requires : goal.unreachable-requires
unreachable-requires c =
    list_made c.args.texts.now c.requires.spelled (ap exprs_at (sym c.new-cursor.ensures) ∙ c.list_trees.ensures.none (c.in-Err-NoTree.is ∙ ap Err c.in-Err-NoTree.field-0-is))

pub returns-in-Ok-clause-spelled : goal.returns-in-Ok-clause-spelled
returns-in-Ok-clause-spelled c =
    list_spelled_by c.args.bytes.now c.args.tokens.now (map tree_of c.in-Ok.trees) c.list_trees.new.cursor c.requires.split (subst IsExpressions c.requires.same c.requires.spelled)
    (ap exprs_at (sym (c.new-cursor.ensures ∙ c.requires.same)) ∙ c.in-Ok.ensures.ok)

pub returns-in-Ok-clause-depths : goal.returns-in-Ok-clause-depths
returns-in-Ok-clause-depths c =
    list_depths c.args.bytes.now c.args.tokens.now (map tree_of c.in-Ok.trees) c.list_trees.new.cursor c.requires.only
    (ap exprs_at (sym (c.new-cursor.ensures ∙ c.requires.same)) ∙ c.in-Ok.ensures.ok)

pub returns-in-Ok-clause-only : goal.returns-in-Ok-clause-only
returns-in-Ok-clause-only c =
    list_only c.args.bytes.now c.args.tokens.now (map tree_of c.in-Ok.trees) c.list_trees.new.cursor c.requires.only
    (ap exprs_at (sym (c.new-cursor.ensures ∙ c.requires.same)) ∙ c.in-Ok.ensures.ok)

pub returns-in-Err-TooDeep-clause-fault : goal.returns-in-Err-TooDeep-clause-fault
returns-in-Err-TooDeep-clause-fault c =
    list_deep c.args.bytes.now c.args.tokens.now c.requires.split (subst IsExpressions c.requires.same c.requires.spelled)
    (ap exprs_at (sym (c.new-cursor.ensures ∙ c.requires.same)) ∙ c.list_trees.ensures.deep (c.in-Err-TooDeep.is ∙ ap Err c.in-Err-TooDeep.field-0-is))
