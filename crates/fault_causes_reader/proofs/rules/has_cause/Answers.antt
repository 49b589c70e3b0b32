use Rattle.std.proofs.Common.{sym, ◌∙◌}
use Rattle.smv_language.specs.Texts.{same_text}
use Rattle.fault_cause_laws.specs.CausesText.{WrittenCause}
use Rattle.fault_causes_reader.specs.StageView.{written_tree}
use Rattle.fault_causes_reader.proofs.PathLaws.{any_map}
use Rattle.fault_causes_reader.proofs.rules.has_cause.Goals as goal

pub returns : goal.returns
returns c = c.has_name.ensures ∙ sym (any_map (λ (b : WrittenCause). same_text b.name c.args.name.now) written_tree c.args.causes.now)
