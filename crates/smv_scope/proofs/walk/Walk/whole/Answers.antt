-- The walk from `main` on.
use Rattle.smv_scope.specs.Faults.{IsFaultOf}
use Rattle.smv_scope.specs.InstanceWalk.{program_in}
use Rattle.smv_scope.proofs.PassedOn.{passed_on}
use Rattle.smv_scope.proofs.WholeLaws.{main_enters, whole_fault, whole_met}
use Rattle.smv_scope.proofs.walk.Walk.whole.Goals as goal

pub enter-requires-clause-entry : goal.enter-requires-clause-entry
enter-requires-clause-entry c =
    main_enters c.args.modules.now c.requires (record { spots = c.new.result; variables = c.new-2.result; inside = c.new-3.result }) c.new.ensures.items c.new-2.ensures c.new-3.ensures.items
    c.of_main-main.result c.of_main-main.ensures.place c.of_main-main.ensures.path c.of_main-main.ensures.actuals

pub returns-in_err-enter-clause-fault : goal.returns-in_err-enter-clause-fault
returns-in_err-enter-clause-fault c =
    passed_on (IsFaultOf (program_in c.args.modules.now)) c.from_residual.result c.in_err-enter.field-0.0 c.from_residual.ensures.1
    (whole_fault c.args.modules.now c.requires (record { spots = c.new.result; variables = c.new-2.result; inside = c.new-3.result }) c.new.ensures.items c.new-2.ensures c.new-3.ensures.items
    c.of_main-main.result c.of_main-main.ensures.place c.of_main-main.ensures.path c.of_main-main.ensures.actuals
    c.in_err-enter.field-0.0 c.in_err-enter.ensures.fault)

pub returns-clause-whole : goal.returns-clause-whole
returns-clause-whole c =
    whole_met c.args.modules.now c.requires (record { spots = c.new.result; variables = c.new-2.result; inside = c.new-3.result }) c.new.ensures.items c.new-2.ensures c.new-3.ensures.items
    c.of_main-main.result c.of_main-main.ensures.place c.of_main-main.ensures.path c.of_main-main.ensures.actuals
    c.in_ok-enter.ensures.kept c.enter.new.self c.in_ok-enter.field-0 c.in_ok-enter.ensures.entered
