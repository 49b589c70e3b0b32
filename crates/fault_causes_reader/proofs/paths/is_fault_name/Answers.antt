use Rattle.std.proofs.Common.{sym, ◌∙◌}
use Rattle.fault_cause_laws.specs.CauseRules.{same_path}
use Rattle.fault_causes_reader.proofs.PathLaws.{any_map}
use Rattle.fault_causes_reader.proofs.paths.is_fault_name.Goals as goal
use Rattle.smv_language.specs.ModelTree.{name_of_fault}

pub returns : goal.returns
returns c = c.has_path.ensures ∙ sym (any_map (λ q. same_path q c.args.path.now) name_of_fault c.args.faults.now)
