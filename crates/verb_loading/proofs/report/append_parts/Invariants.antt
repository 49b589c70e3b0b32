use Rattle.std.proofs.Common.{◌≡◌, ◌++◌, drop}
use Rattle.verb_loading.specs.Reports.{parts_text}
use Rattle.verb_loading.proofs.report.append_parts.Given as goal

abbrev pub invariant-loop-part : goal.invariant-loop-part
invariant-loop-part l = l.text ++ parts_text (drop l.part-index l.parts) ≡ l.initial.text ++ parts_text l.parts
