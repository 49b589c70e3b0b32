use Rattle.std.proofs.Common.{map}
use Rattle.smv_language.specs.Language.{program_tree, tree_of}
use Rattle.verb_loading.specs.Cases.{IsTop}
use Rattle.verb_run.proofs.TableLemmas.{AreBefore}
use Rattle.verb_run.proofs.tops.judge_tops.Given as goal

abbrev pub invariant-loop-i : goal.invariant-loop-i
invariant-loop-i l = AreBefore (IsTop (program_tree l.model.program)) (map tree_of l.tops) l.i
