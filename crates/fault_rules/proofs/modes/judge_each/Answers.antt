use Rattle.std.proofs.Common.{arith, ◌<◌, ◌≤◌, ◌∙◌, map, sym, length}
use Rattle.std.proofs.lemmas.List.{at_drop_all}
use Rattle.std.proofs.lemmas.Result.{err_from_is_err_and}
use Rattle.fault_instructions.specs.Instructions.{mode_tree}
use Rattle.fault_rules.specs.Symbols.{faults_among}
use Rattle.fault_rules.proofs.SymbolLaws.{among_next, among_stops, among_last, faults_from_none}
use Rattle.fault_rules.proofs.modes.judge_each.Goals as goal

pub returns-in_err-last-clause-told : goal.returns-in_err-last-clause-told
returns-in_err-last-clause-told c =
    let below : c.loop-mode.mode-index < length c.args.modes.now = omega arith in
    let exit = err_from_is_err_and c.from_residual.result c.from_residual.ensures.1 in
    rw (exit.1, exit.2) (λ h.
    sym (faults_from_none c.args.judged.now c.args.states.now c.symbols_of-symbols.result c.requires c.symbols_of-symbols.ensures c.args.item (map mode_tree c.args.modes.now))
    ∙ sym c.loop-mode.invariant.faults
    ∙ among_stops c.args.judged.now c.symbols_of-symbols.result c.loop-mode.names c.loop-mode.last c.args.modes.now c.loop-mode.mode-index c.mode-item.result below c.mode-item.is c.in_err-last.field-0.0
    (c.in_err-last.ensures.told h) (c.in_err-last.ensures.told_item h))

pub loop-mode-preserved : goal.loop-mode-preserved
loop-mode-preserved c =
    let below : c.loop-mode.mode-index < length c.args.modes.now = omega arith in
    record {
      faults = among_next c.args.judged.now c.symbols_of-symbols.result c.loop-mode.names c.loop-mode.last c.args.modes.now c.loop-mode.mode-index c.mode-item.result below c.mode-item.is c.judge_mode.new.names
          c.in_ok-last.last c.in_ok-last.ensures.kept c.in_ok-last.ensures.names c.in_ok-last.ensures.item
          ∙ c.loop-mode.invariant.faults;
      last = among_last c.args.judged.now c.symbols_of-symbols.result c.loop-mode.names c.loop-mode.last c.args.modes.now c.loop-mode.mode-index c.mode-item.result below c.mode-item.is c.in_ok-last.last c.in_ok-last.ensures.item
          ∙ c.loop-mode.invariant.last;
    }

pub returns-clause-kept : goal.returns-clause-kept
returns-clause-kept c =
    let past : length c.args.modes.now ≤ c.loop-mode.mode-index = omega arith in
    sym (faults_from_none c.args.judged.now c.args.states.now c.symbols_of-symbols.result c.requires c.symbols_of-symbols.ensures c.args.item (map mode_tree c.args.modes.now))
    ∙ sym c.loop-mode.invariant.faults
    ∙ at_drop_all (λ modes. faults_among c.args.judged.now c.symbols_of-symbols.result c.loop-mode.names c.loop-mode.last (map mode_tree modes)) c.args.modes.now c.loop-mode.mode-index past
