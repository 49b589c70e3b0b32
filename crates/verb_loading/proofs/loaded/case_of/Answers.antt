use Rattle.std.proofs.Common.{map, sym, subst, ◌∙◌}
use Rattle.std.proofs.lemmas.Result.{err_from_is_err_and}
use Rattle.fault_instructions.specs.Instructions.{instruction_tree}
use Rattle.smv_language.specs.Language.{program_tree, model_tree}
use Rattle.fault_extend.specs.FirstRefusal.{KeepsRules, IsTold}
use Rattle.fault_extend.specs.WovenFaults.{fault_tree}
use Rattle.fault_extend.proofs.InstanceLaws.{instances_listed}
use Rattle.verb_loading.specs.Wholes.{HasItsModes}
use Rattle.verb_loading.specs.LoadedCases.{IsWrongLimited}
use Rattle.verb_loading.proofs.FlatLimits.{whole_wrong}
use Rattle.verb_loading.proofs.CaseLemmas.{is_loaded}
use Rattle.verb_loading.specs.Inputs.{IsInstructionText, AreTaken, IsWrongFaults, not_spelled, not_woven, past_limit}
use Rattle.verb_loading.proofs.Told.{if_refused, refused_weaker}
use Rattle.verb_loading.proofs.InputLemmas.{modules_are, all_uses}
use Rattle.verb_loading.proofs.FaultModes.{has_its_modes}
use Rattle.verb_loading.proofs.LimitLaws.{passes_limit}
use Rattle.verb_loading.proofs.loaded.case_of.Goals as goal

pub within_limits-requires : goal.within_limits-requires
within_limits-requires c =
    let p = program_tree c.args.model.now.program in
    let m = c.args.model.now.typed.model in
    let i = instruction_tree c.in_ok-instructions.instructions in
    let faults = map fault_tree c.in_ok-woven.woven.faults in
    let lawful = c.requires.lawful in
    let are = c.in_ok-woven.ensures.faults (instances_listed p m.instances lawful.accepted c.requires.in_var lawful.model.is.instances) in
    record { modes = subst (λ q. HasItsModes q faults) (sym c.in_ok-woven.ensures.program) (has_its_modes p i faults (c.in_ok-woven.ensures.weavable lawful.accepted lawful.model.is lawful.meant) are) }

pub returns-in_err-instructions-clause-wrong : goal.returns-in_err-instructions-clause-wrong
returns-in_err-instructions-clause-wrong c =
    let exit = err_from_is_err_and c.from_residual.result c.from_residual.ensures.1 in
    rw exit.1 (if_refused (IsWrongFaults (program_tree c.args.model.now.program) c.args.bytes.now) _ (λ fault e. not_spelled c.in_err-instructions.field-0.0 c.in_err-instructions.ensures.fault (e ∙ exit.2)))

pub returns-in_err-woven-clause-wrong : goal.returns-in_err-woven-clause-wrong
returns-in_err-woven-clause-wrong c =
    let exit = err_from_is_err_and c.from_residual-in_err-woven.result c.from_residual-in_err-woven.ensures.1 in
    let p = program_tree c.args.model.now.program in
    let i = instruction_tree c.in_ok-instructions.instructions in
    let m = model_tree c.args.model.now.typed.model in
    let told = subst (λ names. IsTold p m i names c.in_err-woven.field-0.0) (modules_are p c.args.model.now.typed.model c.requires.lawful.model.is) c.in_err-woven.ensures.told in
    let text : IsInstructionText c.args.bytes.now i = record { spelled = c.in_ok-instructions.ensures.spelled; only = c.in_ok-instructions.ensures.only; depths = c.in_ok-instructions.ensures.depths } in
    rw exit.1 (if_refused (IsWrongFaults p c.args.bytes.now) _ (λ fault e. not_woven i m c.in_err-woven.field-0.0 text c.requires.lawful.model.is told (e ∙ exit.2)))

pub returns-in_err-limited-clause-wrong : goal.returns-in_err-limited-clause-wrong
returns-in_err-limited-clause-wrong c =
    let exit = err_from_is_err_and c.from_residual-in_err-limited.result c.from_residual-in_err-limited.ensures.1 in
    let p = program_tree c.args.model.now.program in
    let m = c.args.model.now.typed.model in
    let i = instruction_tree c.in_ok-instructions.instructions in
    let faults = map fault_tree c.in_ok-woven.woven.faults in
    let lawful = c.requires.lawful in
    let text : IsInstructionText c.args.bytes.now i = record { spelled = c.in_ok-instructions.ensures.spelled; only = c.in_ok-instructions.ensures.only; depths = c.in_ok-instructions.ensures.depths } in
    let taken : AreTaken p i = record { weavable = c.in_ok-woven.ensures.weavable lawful.accepted lawful.model.is lawful.meant; kept = subst (KeepsRules p i) (modules_are p m lawful.model.is) c.in_ok-woven.ensures.kept; uses = all_uses p (model_tree m) i lawful (c.in_ok-woven.ensures.uses lawful.accepted lawful.model.is) } in
    let are = c.in_ok-woven.ensures.faults (instances_listed p m.instances lawful.accepted c.requires.in_var lawful.model.is.instances) in
    rw (exit.1, exit.2) (refused_weaker (IsWrongLimited (program_tree c.in_ok-woven.woven.program) faults) (IsWrongFaults p c.args.bytes.now)
    (λ told bad. past_limit i faults text taken are (passes_limit p (model_tree m) i faults lawful taken are told (whole_wrong p (model_tree m) i faults lawful taken are told (subst (λ q. IsWrongLimited q faults told) c.in_ok-woven.ensures.program bad)))) _ c.in_err-limited.ensures.wrong)

pub returns-clause-ok : goal.returns-clause-ok
returns-clause-ok c = record { spelled = c.in_ok-instructions.ensures.spelled; only = c.in_ok-instructions.ensures.only; depths = c.in_ok-instructions.ensures.depths }

pub returns-clause-loaded : goal.returns-clause-loaded
returns-clause-loaded c =
    let p = program_tree c.args.model.now.program in
    let m = c.args.model.now.typed.model in
    let i = instruction_tree c.in_ok-instructions.instructions in
    let lawful = c.requires.lawful in
    let text : IsInstructionText c.args.bytes.now i = record { spelled = c.in_ok-instructions.ensures.spelled; only = c.in_ok-instructions.ensures.only; depths = c.in_ok-instructions.ensures.depths } in
    let taken : AreTaken p i = record { weavable = c.in_ok-woven.ensures.weavable lawful.accepted lawful.model.is lawful.meant; kept = subst (KeepsRules p i) (modules_are p m lawful.model.is) c.in_ok-woven.ensures.kept; uses = all_uses p (model_tree m) i lawful (c.in_ok-woven.ensures.uses lawful.accepted lawful.model.is) } in
    let are = c.in_ok-woven.ensures.faults (instances_listed p m.instances lawful.accepted c.requires.in_var lawful.model.is.instances) in
    is_loaded p c.args.bytes.now c.in_ok-instructions.instructions c.in_ok-woven.woven c.in_ok-limited.limited c.requires.spelled text taken are c.in_ok-woven.ensures.program c.in_ok-limited.ensures.ok
