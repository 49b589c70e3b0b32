use Rattle.std.proofs.Common.{◌≡◌, length}
use Rattle.cut_model_search.proofs.lists.blank.Given as goal

abbrev pub invariant-loop-variable : goal.invariant-loop-variable
invariant-loop-variable l = length l.blank ≡ l._variable-index
