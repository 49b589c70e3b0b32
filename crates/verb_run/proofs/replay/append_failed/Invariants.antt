use Rattle.std.proofs.Common.{◌≡◌, ◌++◌}
use Rattle.smv_language.specs.Language.{model_tree, told_trace}
use Rattle.smv_flat_laws.specs.FlatTrace.{stands_in_some}
use Rattle.verb_run.proofs.NamingLaws.{named_from}
use Rattle.verb_run.proofs.replay.append_failed.Given as goal

abbrev pub invariant-loop-i : goal.invariant-loop-i
invariant-loop-i l =
    l.text ++ named_from (λ f. stands_in_some (model_tree l.typed.model) f (told_trace l.typed.model.symbols l.trace)) l.woven l.faults l.i
    ≡ l.initial.text ++ named_from (λ f. stands_in_some (model_tree l.typed.model) f (told_trace l.typed.model.symbols l.trace)) l.woven l.faults 0
