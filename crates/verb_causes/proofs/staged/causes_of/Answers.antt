use Rattle.std.proofs.Common.{sym, map, ◌∙◌}
use Rattle.fault_extend.specs.WovenFaults.{fault_tree}
use Rattle.verb_causes.specs.Causes.{flat_in, modes_in, faults_in, extension_in}
use Rattle.verb_causes.proofs.StagedLaws.{faults_named}
use Rattle.verb_causes.proofs.CausesLaws.{no_desk_of_causes, refuses_bytes}
use Rattle.verb_causes.proofs.staged.causes_of.Goals as goal
use Rattle.base_values.proofs.ResultLaws.{same_fault}

pub returns-in-Ok-clause-read : goal.returns-in-Ok-clause-read
returns-in-Ok-clause-read c = c.in-Ok.ensures.read.of_each (map fault_tree c.args.case.now.limited.woven.faults) (faults_named c.requires.case.0 c.args.case.now c.requires.case.1)

pub returns-in-Err-clause-refused : goal.returns-in-Err-clause-refused
returns-in-Err-clause-refused c r e =
    let case = c.args.case.now in
    refuses_bytes (faults_in case) (extension_in case) (flat_in case) (modes_in case) c.args.bytes.now c.in-Err.fault r (sym (same_fault e) ∙ c.fault_stop.ensures)
    (c.in-Err.ensures.fault.of_each (faults_in case) (faults_named c.requires.case.0 case c.requires.case.1))

pub returns-in-Err-clause-desk : goal.returns-in-Err-clause-desk
returns-in-Err-clause-desk c e = no_desk_of_causes _ (sym (same_fault e) ∙ c.fault_stop.ensures)
