use Rattle.std.proofs.Common.{◌≡◌, take}
use Rattle.smv_language.specs.Language.{Formula, flat_tree, EachBoth}
use Rattle.verb_run.specs.Tables.{IsEventOf, IsColumn, tabulated_case}
use Rattle.verb_run.proofs.tops.columns_in.Given as goal

abbrev pub invariant-loop-top : goal.invariant-loop-top
invariant-loop-top g l = record {
  system : l.frames.system ≡ l.initial.frames.system;
  columns : EachBoth (λ tree column. (e : Formula) → IsEventOf (tabulated_case l.asked) e (flat_tree tree) → IsColumn (tabulated_case l.asked) l.asked.depth e column) (take l.top-index l.top-items) l.columns;
}
