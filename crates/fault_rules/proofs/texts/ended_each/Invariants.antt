use Rattle.std.proofs.Common.{◌≡◌, map, drop}
use Rattle.fault_instructions.specs.Instructions.{mode_tree}
use Rattle.fault_rules.specs.KeyedLists.{with_texts}
use Rattle.fault_rules.specs.Steps.{IsTree, IsBeginning, text_at, texts_in, texts_after}
use Rattle.fault_rules.proofs.texts.ended_each.Given as goal

abbrev pub invariant-loop-mode : goal.invariant-loop-mode
invariant-loop-mode l = record {
  tree : IsTree l.steps.keys l.ends.keys;
  begins : IsBeginning l.initial.steps.keys l.steps.keys;
  texts : with_texts (texts_in l.steps.keys l.ends.keys) (texts_after (text_at l.initial.steps.keys l.from) (map mode_tree (drop l.mode-index l.modes)))
      ≡ with_texts (texts_in l.initial.steps.keys l.initial.ends.keys) (texts_after (text_at l.initial.steps.keys l.from) (map mode_tree l.modes));
}
