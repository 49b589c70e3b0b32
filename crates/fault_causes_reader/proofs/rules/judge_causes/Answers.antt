use Rattle.std.proofs.Common.{sym, ap, ◌∙◌, []}
use Rattle.std.specs.Prelude.{option_map}
use Rattle.fault_rules.specs.KeyedLists.{with_texts}
use Rattle.fault_causes_reader.specs.FaultPaths.{paths_of}
use Rattle.fault_causes_reader.specs.StageView.{written_tree, written_trees}
use Rattle.fault_causes_reader.specs.BrokenRules.{rule_of, first_broken}
use Rattle.fault_causes_reader.proofs.RuleSteps.{broken_here, broken_later, names_later, none_left}
use Rattle.fault_causes_reader.proofs.rules.judge_causes.Goals as goal

pub returns-in-Some-clause-told : goal.returns-in-Some-clause-told
returns-in-Some-clause-told c =
    broken_here (paths_of c.args.faults.now) written_tree c.args.written.now c.loop-i.i c.index-written-i.result c.loop-i-test.true c.index-written-i.is c.loop-i.names (rule_of c.in-Some.rule) c.in_ok-number_of.field-0
    (first_broken (paths_of c.args.faults.now) c.args.names.now [] (written_trees c.args.written.now)) (sym c.in_ok-rule.ensures ∙ ap (option_map rule_of) c.in-Some.is) c.in_ok-number_of.ensures.same c.loop-i.invariant.rest

pub loop-i-preserved : goal.loop-i-preserved
loop-i-preserved c =
    let paths = paths_of c.args.faults.now in
    let x = c.index-written-i.result in
    let more = c.in_ok-add_names.ensures ∙ ap (with_texts c.loop-i.names) c.in_ok-cause_names.ensures in
    let none = sym c.in_ok-rule.ensures ∙ ap (option_map rule_of) (none_left c.in_ok-rule.field-0 c.in_default.not-Some) in
    record {
      rest = broken_later paths written_tree c.args.written.now c.loop-i.i x c.loop-i-test.true c.index-written-i.is c.loop-i.names c.add_names-in-loop-i.new.taken
          (first_broken paths c.args.names.now [] (written_trees c.args.written.now)) none more c.loop-i.invariant.rest;
      names = names_later paths written_tree c.args.written.now c.loop-i.i x c.loop-i-test.true c.index-written-i.is c.args.names.now c.loop-i.names c.add_names-in-loop-i.new.taken more c.loop-i.invariant.names;
    }
