use Rattle.std.proofs.Common.{◌≡◌, drop}
use Rattle.std.specs.List.{list_any}
use Rattle.smv_language.specs.Texts.{same_text}
use Rattle.fault_weave.proofs.lookup.is_formal.Given as goal

abbrev pub invariant-loop-formal : goal.invariant-loop-formal
invariant-loop-formal l = list_any (λ f. same_text f l.x) (drop l.formal-index l.formals) ≡ list_any (λ f. same_text f l.x) l.formals
