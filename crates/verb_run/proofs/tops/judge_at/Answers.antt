use Rattle.smv_language.specs.Language.{program_tree, tree_of}
use Rattle.verb_run.proofs.TableLemmas.{refused_at}
use Rattle.verb_run.proofs.tops.judge_at.Goals as goal

pub returns-in-Err-clause-wrong : goal.returns-in-Err-clause-wrong
returns-in-Err-clause-wrong c = rw c.at_place.ensures (refused_at (program_tree c.args.model.now.program) (tree_of c.args.top.now) c.args.place c.in-Err.wrong c.in-Err.ensures.wrong)
